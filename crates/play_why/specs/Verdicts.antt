-- For which causes packets were dropped, and who is to blame; and the fragments that were kept and dropped later
-- (this project's own). `a` and `b` are the counters before and after the packet of a record.
use Rattle.std.specs.Prelude.{ℕ, ◌&&◌, Bool, true, false, List, [], ◌∷◌, if◌then◌else◌, map}
use Rattle.flat_model.specs.Machine.Count.{counter_of}
use Rattle.flat_model.specs.declared.counters.Counters.{Counters}
use Rattle.flat_model.specs.declared.counters.Why.{Why}
use Rattle.play_text.specs.Tables.{never, no_drops, once_more}
use Rattle.play_text.specs.Words.{all_causes, rose}
use Rattle.play_text.specs.declared.count.Count.{Count}
use Rattle.play_text.specs.declared.table.Row.{Row}
use Rattle.play_text.specs.declared.table.Table.{Table}
use Rattle.play_why.specs.Findings.{blame_of}
use Rattle.play_why.specs.declared.blame.Blame.{Blame}
use Rattle.play_why.specs.declared.blame.Blame.TheVariants.{Packet, Stack, Copy, Capture, Card, Host}
use Rattle.play_why.specs.declared.parts.Loss.{Loss}
use Rattle.play_why.specs.declared.parts.Loss.TheVariants.{Expired, Reclaimed}
use Rattle.play_why.specs.declared.seen.Seen.{Seen}
use Rattle.play_why.specs.declared.table.Losses.{Losses}
use Rattle.play_why.specs.declared.table.Verdicts.{Verdicts}

abbrev pub same_blame : Blame → Blame → Bool
same_blame Packet Packet = true
same_blame Stack Stack = true
same_blame Copy Copy = true
same_blame Capture Capture = true
same_blame Card Card = true
same_blame Host Host = true
same_blame _ _ = false

-- the packet was dropped for this cause, with this to blame
abbrev pub is_blamed : Blame → Seen → Counters → Counters → Why → Bool
is_blamed blame r a b why = rose (counter_of why) a b && same_blame blame (blame_of r why)

-- the count, with one added for each of these causes for which this is to blame
abbrev pub blamed_by : Blame → Seen → Counters → Counters → List Why → Count → Count
blamed_by blame r a b [] c = c
blamed_by blame r a b (why ∷ whys) c =
    blamed_by blame r a b whys (if is_blamed blame r a b why then once_more r.number c else c)

unfoldable pub blamed_on : Blame → Seen → Counters → Counters → Count → Count
blamed_on blame r a b c = blamed_by blame r a b all_causes c

-- a drop counts in the table if the packet, this stack or nobody is to blame
abbrev pub is_in_table : Blame → Bool
is_in_table Packet = true
is_in_table Stack = true
is_in_table Copy = true
is_in_table _ = false

abbrev pub row_judged : Seen → Counters → Counters → Row → Row
row_judged r a b row =
    if rose (counter_of row.why) a b && is_in_table (blame_of r row.why)
    then record row { count = once_more r.number row.count }
    else row

unfoldable pub causes_judged : Seen → Counters → Counters → Table → Table
causes_judged r a b t = record { rows = map (row_judged r a b) t.rows }

-- ---- all of it

-- no packet was dropped
abbrev pub none_dropped : Verdicts
none_dropped = record { causes = no_drops; cut = never; card = never; filled = never; refused = never }

-- after a record
abbrev pub judged : Seen → Counters → Counters → Verdicts → Verdicts
judged r a b v = record {
  causes = causes_judged r a b v.causes;
  cut = blamed_on Capture r a b v.cut;
  card = blamed_on Card r a b v.card;
  filled = if r.filled then once_more r.number v.filled else v.filled;
  refused = blamed_on Host r a b v.refused;
}

-- ---- fragments that were kept, and dropped later

-- the count, with one added for each of these records
abbrev pub once_each : List ℕ → Count → Count
once_each [] c = c
once_each (number ∷ numbers) c = once_each numbers (once_more number c)

-- no fragment was dropped
abbrev pub none_lost : Losses
none_lost = record { expired = never; reclaimed = never }

-- after the fragments in these records were dropped for this reason
abbrev pub lost_after : Loss → List ℕ → Losses → Losses
lost_after Expired numbers losses = record losses { expired = once_each numbers losses.expired }
lost_after Reclaimed numbers losses = record losses { reclaimed = once_each numbers losses.reclaimed }
