-- The law of overlays (RFC 791, section 3.2): the order in which the fragments of a datagram arrive, and how often,
-- makes no difference.
use Rattle.std.specs.Prelude.{◌≡◌, ◌↔◌, ℕ, ◌+◌, ◌<◌, ◌≤◌, List, [], ◌∷◌, length, slice_index, Contains, Any, Some, IsSome, option_map}
use Rattle.flat_model.specs.Fragments.Cuts.{Part, cuts}
use Rattle.flat_model.specs.Fragments.Overlay.{Map, Fragment, empty, overlay}
use Rattle.flat_model.specs.Fragments.Whole.{IsWhole}
use Rattle.flat_model.specs.Runs.Laws.{bytes_of_part}

-- the fragment is a part of the cut string
pub record IsFragmentOf (s : List ℕ) (mtu : ℕ) (f : Fragment) : Type 0 where
  pub part : Part
  pub is_part : Contains (cuts (length s) mtu) part
  pub offset : f.offset ≡ part.offset
  pub bytes : f.bytes ≡ bytes_of_part s part
  pub more : f.more ≡ part.more

-- these fragments, inserted into an empty map, the last of the list first
abbrev pub inserted : List Fragment → Map
inserted [] = empty
inserted (f ∷ fragments) = overlay (inserted fragments) f

-- the part is among the fragments
abbrev pub IsPartInserted : List Fragment → Part → Type 0
IsPartInserted fragments p = Any (λ f. f.offset ≡ p.offset) fragments

-- In any order and with repeats: at each offset of a part that is among the fragments, the map has the string's byte,
-- and it has no other byte. It is complete exactly if every part is among them.
pub record OverlayOrder (s : List ℕ) (mtu : ℕ) (fragments : List Fragment) : Type 0 where
  pub bytes : (p : Part) (offset : ℕ) → Contains (cuts (length s) mtu) p → IsPartInserted fragments p → p.offset ≤
      offset
      → offset < p.offset + p.size →
      option_map (λ held. held.byte) (inserted fragments offset) ≡ Some (slice_index s offset)
  pub elsewhere : (offset : ℕ) → IsSome (inserted fragments offset) →
      (p : Part) × Contains (cuts (length s) mtu) p × IsPartInserted fragments p × (p.offset ≤ offset)
      × (offset < p.offset + p.size)
  pub whole : IsWhole (inserted fragments) (length s)
      ↔ ((p : Part) → Contains (cuts (length s) mtu) p → IsPartInserted fragments p)
  pub length : (n : ℕ) → IsWhole (inserted fragments) n → n ≡ length s
