-- A snapshot has the counters and the usage of its state.
use Rattle.std.proofs.Common.{◌≡◌, ◌∙◌}
use Rattle.flat_model.specs.Machine.Event.{Ask_usage, Counted, Shown}
use Rattle.flat_model.specs.Machine.State.{State}
use Rattle.flat_model.specs.Machine.Step.{Step}
use Rattle.flat_model.specs.declared.counters.Counters.{Counters}
use Rattle.flat_model.specs.declared.usage.Mbstat.{Mbstat}
use Rattle.flat_model.specs.Machine.Ledger.{usage_of}
use Rattle.play_show.specs.Changes.{IsSnapshot}
use Rattle.play_show.specs.declared.snapshot.Snapshot.{Snapshot}

same_counters : (c d : Counters) → Counted c ≡ Counted d → c ≡ d
same_counters c d e = cc

same_usage : (u v : Mbstat) → Shown u ≡ Shown v → u ≡ v
same_usage u v e = cc

looked : (s : State) (x : Snapshot) → Step s Ask_usage (Shown x.usage) s → x.usage ≡ usage_of s
looked s x (shown, is, reply, same) = same_usage x.usage shown reply ∙ is

pub Snapshot-stack : (s : State) (x : Snapshot) → IsSnapshot Step s x
    → (x.counters ≡ s.counters) × (x.usage ≡ usage_of s)
Snapshot-stack s x h = (same_counters x.counters s.counters (h.counters).0, looked s x h.usage)
