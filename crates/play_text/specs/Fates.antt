-- What happened to a packet, by what a machine counted before it (a) and after it (b) (this project's own).
use Rattle.std.specs.Prelude.{◌&&◌, not, Bool, List, map, if◌then◌else◌}
use Rattle.std.specs.List.{list_any}
use Rattle.flat_model.specs.Machine.Count.{counter_of}
use Rattle.flat_model.specs.declared.counter.Counter.TheVariants.{IpFragments, IpReassembled}
use Rattle.flat_model.specs.declared.counters.Counters.{Counters}
use Rattle.flat_model.specs.declared.counters.Why.{Why}
use Rattle.play_text.specs.Words.{all_causes, rose}
use Rattle.play_text.specs.declared.fate.Fate.{Fate}
use Rattle.play_text.specs.declared.fate.Fate.TheVariants as fate

-- it was dropped for this cause
abbrev pub is_dropped_for : Counters → Counters → Why → Bool
is_dropped_for a b why = rose (counter_of why) a b

-- for which causes packets were dropped, in the order of the tests
abbrev pub drops_of : Counters → Counters → List Bool
drops_of a b = map (is_dropped_for a b) all_causes

-- one of these is true
abbrev pub is_some_true : List Bool → Bool
is_some_true = list_any (λ one. one)

-- a fragment passed its test, and neither completed its datagram nor was dropped
abbrev pub is_kept : Counters → Counters → Bool
is_kept a b =
    rose IpFragments a b && (not (rose IpReassembled a b) && not (is_some_true (drops_of a b)))

-- what happened to a packet's fragment
abbrev pub fate_of : Counters → Counters → Fate
fate_of a b =
    if rose IpReassembled a b then fate.Whole else
    if is_kept a b then fate.Kept else fate.Other
