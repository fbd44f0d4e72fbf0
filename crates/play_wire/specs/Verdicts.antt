-- The effect of a packet on a host and its link (this project's own).
use Rattle.std.specs.Prelude.{ℕ, Bool, List, codes, if◌then◌else◌, map, nat_lt}
use Rattle.flat_ether.specs.declared.tallies.Tallies.{Tallies}
use Rattle.play_text.specs.Fates.{is_some_true}
use Rattle.play_text.specs.declared.fate.Fate.{Fate}
use Rattle.play_text.specs.declared.fate.Fate.TheVariants as fate
use Rattle.play_show.specs.declared.changes.Effect.{Effect}
use Rattle.play_wire.specs.LinkTexts.{all_link_counts, link_count}
use Rattle.play_wire.specs.declared.link_count.LinkCount.{LinkCount}

-- this count went up
abbrev pub is_counted : Tallies → Tallies → LinkCount → Bool
is_counted before after which = nat_lt (link_count which before) (link_count which after)

-- which of the counts went up, in the order in which they're printed
abbrev pub counted_between : Tallies → Tallies → List Bool
counted_between before after = map (is_counted before after) all_link_counts

-- the name of what happened to a packet in a JSON object
abbrev pub kept_word : Fate → List ℕ
kept_word fate.Kept = codes "kept"
kept_word fate.Whole = codes "received"
kept_word fate.Other = codes "received"

abbrev pub word_of : Effect → List ℕ
word_of x =
    if is_some_true x.delivered then codes "delivered" else
    if is_some_true x.drops then codes "dropped" else kept_word x.fate
