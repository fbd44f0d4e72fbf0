-- This crate's own definitions for the walks over the fragments of a datagram (this project's own).
use Rattle.std.specs.Prelude.{ℕ, ◌+◌, ◌-◌, ◌<◌, ◌≤◌, Bool, true, false, nat_le, if◌then◌else◌, List, [], ◌∷◌, ◌++◌, length, slice_index_or, drop, Option, None, Some}
use Rattle.std.specs.List.{AllByRecursion}
use Rattle.chain_ops.specs.Weights.{AreFit}
use Rattle.flat_model.specs.Amounts.Weight.{nothing}
use Rattle.flat_model.specs.Fragments.Overlay.{Fragment, Map}
use Rattle.flat_model.specs.Fragments.Whole.{IsWhole}
use Rattle.mbuf_chain.specs.Chain.{PoolView, chain_of}
use Rattle.mbuf_chain.specs.Train.{TrainView, IsQueuedPlace}
use Rattle.mbuf_chain.specs.declared.queued_place.QueuedPlace.{QueuedPlace}
use Rattle.ip_reass.specs.Fragments.{QueuedFragment, end_of_fragment}
use Rattle.ip_reass.specs.declared.queue.Insertion.{Insertion}
use Rattle.ip_reass.specs.declared.queue.Insertion.TheVariants.{Covered, Waits, Whole}

-- a chain as a fragment that begins at the offset
abbrev pub arrived : PoolView → ℕ → ℕ → Bool → QueuedFragment
arrived p c offset more = record { offset = offset; more = more; entries = (chain_of p c).entries }

-- a place among the fragments of a train, given by the fragment before it, if there is one
abbrev pub IsFront : PoolView → TrainView → Option QueuedPlace → Type 0
IsFront p t None = Unit {0}
IsFront p t (Some at) = IsQueuedPlace p t at

-- how many fragments precede it
abbrev pub after : Option QueuedPlace → ℕ
after None = 0
after (Some at) = at.index + 1

-- the end of the last one
abbrev pub reach : ℕ → List Fragment → ℕ
reach low [] = low
reach low (f ∷ fs) = reach (end_of_fragment f) fs

-- all begin at most at a;  all begin above a
abbrev pub AllUpto : ℕ → List Fragment → Type 0
AllUpto a [] = Unit {0}
AllUpto a (f ∷ fs) = (f.offset ≤ a) × AllUpto a fs

abbrev pub AllAbove : ℕ → List Fragment → Type 0
AllAbove a [] = Unit {0}
AllAbove a (f ∷ fs) = (a < f.offset) × AllAbove a fs

-- a fragment without its first n bytes
abbrev pub trimmed : ℕ → Fragment → Fragment
trimmed n f = record { offset = f.offset + n; bytes = drop n f.bytes; more = f.more; weight = f.weight }

-- the rest of the fragments from offset e on
abbrev pub left_from : ℕ → List Fragment → List Fragment
left_from e [] = []
left_from e (f ∷ fs) = if nat_le e f.offset then f ∷ fs else if nat_le (end_of_fragment f) e then left_from e fs
    else trimmed (e - f.offset) f ∷ fs

abbrev pub no_fragment : Fragment
no_fragment = record { offset = 0; bytes = []; more = true; weight = nothing }

abbrev pub fragment_at : List Fragment → ℕ → Fragment
fragment_at fs i = slice_index_or fs i no_fragment

abbrev pub no_queued : QueuedFragment
no_queued = record { offset = 0; more = true; entries = [] }

abbrev pub queued_at : List QueuedFragment → ℕ → QueuedFragment
queued_at qs i = slice_index_or qs i no_queued

-- whether something was left of a fragment that was put in, and whether the datagram with this map is then whole
abbrev pub is_left : Insertion → Bool
is_left Covered = false
is_left Waits = true
is_left (Whole n) = true

abbrev pub ReportsWhole : Map → Insertion → Type 0
ReportsWhole m Covered = Unit {0}
ReportsWhole m Waits = (n : ℕ) → ¬ IsWhole m n
ReportsWhole m (Whole n) = IsWhole m n

-- the bytes of the fragments, one after another
abbrev pub bytes_of : List Fragment → List ℕ
bytes_of [] = []
bytes_of (f ∷ fs) = f.bytes ++ bytes_of fs

-- the bytes of each are within its mbufs;  each has an mbuf
abbrev pub AllFit : List QueuedFragment → Type 0
AllFit qs = AllByRecursion (λ (q : QueuedFragment). AreFit q.entries) qs

abbrev pub AllSome : List QueuedFragment → Type 0
AllSome qs = AllByRecursion (λ (q : QueuedFragment). 0 < length q.entries) qs
