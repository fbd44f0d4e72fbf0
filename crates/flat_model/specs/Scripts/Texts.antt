-- The text of each reply (this project's own).
use Rattle.std.specs.Prelude.{ℕ, ◌==◌, List, [], ◌++◌, flat_map, map, length, codes, decimal, if◌then◌else◌, Option, Some, None}
use Rattle.hex.specs.Hex.{encode_lower}
use Rattle.flat_model.specs.declared.errno.Errno.{Errno}
use Rattle.flat_model.specs.declared.errno.Errno.TheVariants.{NoBufs}
use Rattle.flat_model.specs.declared.counters.Counters.{Counters}
use Rattle.flat_model.specs.declared.usage.Mbstat.{Mbstat}
use Rattle.flat_model.specs.Machine.Count.{value_of, counter_name, all_counters}
use Rattle.flat_model.specs.Scripts.Errnos.{errno_number, name_of, lack_name}
use Rattle.flat_model.specs.Machine.Event.{Reply, Done, Opened, Sent, Received, Given, Counted, Shown, Refused}
use Rattle.flat_model.specs.Scripts.Grammar.{address_text}

-- two lower-case digits for each byte, or a dash for no bytes
abbrev pub hex_text : List ℕ → List ℕ
hex_text bytes = if length bytes == 0 then codes "-" else encode_lower bytes

-- ---- errors

-- ENOBUFS says what was lacking
abbrev pub lack_text : Errno → List ℕ
lack_text (NoBufs lack) = codes " " ++ lack_name lack
lack_text errno = []

abbrev pub refusal_text : Errno → List ℕ
refusal_text errno = codes "error " ++ decimal (errno_number errno) ++ codes " " ++ name_of errno ++ lack_text errno

-- ---- counters

-- a counter's name and value
pub record Count : Type 0 where
  pub name : List ℕ
  pub value : ℕ

abbrev pub count : List ℕ → ℕ → Count
count name value = record { name = name; value = value }

-- in the order of printing
abbrev pub counts : Counters → List Count
counts c = map (λ counter. count (counter_name counter) (value_of counter c)) all_counters

-- a counter at 0 isn't printed
abbrev pub count_text : Count → List ℕ
count_text c = if c.value == 0 then [] else codes " " ++ c.name ++ codes "=" ++ decimal c.value

abbrev pub counters_text : Counters → List ℕ
counters_text c = codes "stat" ++ flat_map count_text (counts c)

-- ---- the pool

-- free, of all
abbrev pub share_text : ℕ → ℕ → List ℕ
share_text free all = decimal free ++ codes "/" ++ decimal all

abbrev pub usage_text : Mbstat → List ℕ
usage_text u =
    codes "mbufs " ++ share_text u.free_mbufs u.mbufs
    ++ codes " clusters " ++ share_text u.free_clusters u.clusters
    ++ codes " refs " ++ decimal u.refs
    ++ codes " most " ++ decimal u.most

-- ---- replies

abbrev pub reply_text : Reply → List ℕ
reply_text Done = codes "ok"
reply_text (Opened fd) = codes "ok " ++ decimal fd
reply_text (Sent n) = codes "ok " ++ decimal n
reply_text (Received sender bytes) =
    codes "from " ++ address_text sender.ip ++ codes " " ++ decimal sender.port ++ codes " " ++ hex_text bytes
reply_text (Given (Some packet)) = codes "packet " ++ hex_text packet
reply_text (Given None) = codes "none"
reply_text (Counted counters) = counters_text counters
reply_text (Shown usage) = usage_text usage
reply_text (Refused errno) = refusal_text errno

-- the output for a line: its reply, or a question mark if it requests nothing
abbrev pub answer_text : Option Reply → List ℕ
answer_text (Some reply) = reply_text reply ++ codes "\n"
answer_text None = codes "? line\n"
