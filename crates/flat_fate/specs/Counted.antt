-- What two states count for the causes of drops (this project's own).
use Rattle.std.specs.Prelude.{◌≡◌, ◌≢◌, ℕ}
use Rattle.flat_model.specs.Machine.Count.{counter_of, more_by, value_of}
use Rattle.flat_model.specs.Machine.State.{State}
use Rattle.flat_model.specs.declared.counters.Why.{Why}
use Rattle.flat_model.specs.declared.counters.Why.TheVariants.{NoBufs, UdpFullSocket}

-- how many packets, or copies of receivers, a state has counted for a cause
abbrev pub count_for : Why → State → ℕ
count_for why s = value_of (counter_of why) s.counters

-- one more was counted for this cause, and none for another
pub record CountsFor (why : Why) (old new : State) : Type 0 where
  pub one : count_for why new ≡ more_by 1 (count_for why old)
  pub others : (other : Why) → other ≢ why → count_for other new ≡ count_for other old

-- none was counted
abbrev pub CountsNone : State → State → Type 0
CountsNone old new = (why : Why) → count_for why new ≡ count_for why old

-- none was counted except for the two causes for which a socket loses its copy
abbrev pub CountsLosses : State → State → Type 0
CountsLosses old new = (why : Why) → why ≢ UdpFullSocket → why ≢ NoBufs → count_for why new ≡ count_for why old
