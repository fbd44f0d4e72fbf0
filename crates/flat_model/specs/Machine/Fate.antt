-- What became of a packet from the wire (this project's own). The rules of `Arrival` and `Step` lead to one end for the
-- packet, or to one for each socket that matches its datagram. The fate is what agrees with all of them.
use Rattle.std.specs.Prelude.{◌≡◌, ℕ, ◌-◌, ◌^◌, List, fold, Option, Some, None, Result, Ok, Err, bit_or, ⊤}
use Rattle.params.specs.declared.TheConstants.{FIRST_DESCRIPTOR}
use Rattle.flat_model.specs.declared.counters.Why.{Why}
use Rattle.flat_model.specs.declared.fate.Fate.{Fate}
use Rattle.flat_model.specs.declared.fate.Fate.TheVariants.{Delivered, Kept, Completed, Dropped}
use Rattle.flat_model.specs.declared.fate.Reached.{Reached}
use Rattle.flat_model.specs.Machine.State.{State}
use Rattle.flat_model.specs.Machine.Ledger.{exact_ledger}
use Rattle.flat_model.specs.Machine.Arrival.{End, Ended, Offered, Stored, Reassembled, Saying}
use Rattle.flat_model.specs.Machine.Step.{ComesInAs}

-- ---- sets of sockets

abbrev pub nobody : Reached
nobody = record { got = 0; lost = 0 }

-- one more socket, in the one set or in the other
abbrev pub mark : Option Why → ℕ → Reached → Reached
mark None fd r = record { got = bit_or r.got (2 ^ (fd - FIRST_DESCRIPTOR)); lost = r.lost }
mark (Some why) fd r = record { got = r.got; lost = bit_or r.lost (2 ^ (fd - FIRST_DESCRIPTOR)) }

-- the sets of these sockets, each of which lost the datagram for a cause or got it
abbrev pub reached_by : (ℕ → Option Why) → List ℕ → Reached
reached_by lacks fds = fold (λ r fd. mark (lacks fd) fd r) nobody fds

-- ---- fates

-- what became of a whole datagram, which ended here: the sets are those of all sockets that match
abbrev pub TellsWhole : Result Reached Why → End → Type 0
TellsWhole (Ok reached) (Offered receivers fd lack) =
    (lacks : ℕ → Option Why) × (reached ≡ reached_by lacks receivers) × (lacks fd ≡ lack)
TellsWhole (Err why) (Ended cause) = why ≡ cause
TellsWhole _ _ = ⊥

-- what became of a packet that ended here
abbrev pub Tells : Fate → End → Type 0
Tells (Delivered reached) end = TellsWhole (Ok reached) end
Tells (Dropped why) end = TellsWhole (Err why) end
Tells Kept Stored = ⊤
Tells (Completed whole) (Reassembled end) = TellsWhole whole end
Tells _ _ = ⊥

-- what is told agrees with the end, and the state is that of the rules: for a packet, for a whole datagram, and for one
-- of the sockets that match
abbrev pub told : Fate → Saying
told fate = λ end new is. Tells fate end × (new ≡ is)

abbrev pub told_whole : Result Reached Why → Saying
told_whole whole = λ end new is. TellsWhole whole end × (new ≡ is)

abbrev pub told_one : Option Why → Option Why → State → State → Type 0
told_one lack = λ cause new is. (lack ≡ cause) × (new ≡ is)

-- The packet comes from the wire in the first state, this becomes of it, and it leads to the second state: the step
-- for `Comes`, with the fate.
abbrev pub Fated : State → List ℕ → Fate → State → Type 0
Fated old packet fate new = ComesInAs exact_ledger (told fate) packet old new
