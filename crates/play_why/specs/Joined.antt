-- The bytes of a datagram, reassembled from its fragments. Each is inserted into the bytes of those before it, as in
-- the stack (`overlay` of flat_model; volume 2, chapter 10).
use Rattle.std.specs.Prelude.{◌≡◌, ℕ, ◌+◌, ◌≤◌, ◌&&◌, Bool, false, cond, nat_le, nat_lt, List, [], ◌∷◌, ◌++◌, length, slice_index_or, flat_map, max, if◌then◌else◌, Option, Some, None, IfSome}
use Rattle.flat_model.specs.Amounts.Weight.{nothing}
use Rattle.flat_model.specs.Fragments.Overlay.{Held, Map, Fragment, empty, fragment_end, overlay, stays}
use Rattle.flat_model.specs.Fragments.Whole.{bytes_below}
use Rattle.flat_model.specs.declared.fragment_key.FragmentKey.{FragmentKey}
use Rattle.play_why.specs.Keys.{offset_of, same_key}
use Rattle.play_why.specs.Values.{carried_of}
use Rattle.play_why.specs.declared.joined.Spot.{Spot}
use Rattle.play_why.specs.declared.joined.TheConstants.{DATAGRAM}
use Rattle.play_why.specs.declared.parts.Part.{Part}

-- ---- the fragments

-- A fragment by its offset and its bytes. Which bytes stay depends neither on its flag nor on its weight.
abbrev pub as_fragment : ℕ → List ℕ → Fragment
as_fragment offset bytes = record { offset = offset; bytes = bytes; more = false; weight = nothing }

-- a fragment that ends within the longest datagram
abbrev pub fitting : ℕ → List ℕ → List Fragment
fitting offset bytes = if nat_le (offset + length bytes) DATAGRAM then as_fragment offset bytes ∷ [] else []

abbrev pub fragment_if : FragmentKey → Part → List Fragment
fragment_if key part = if same_key part.key key then fitting part.offset part.bytes.items else []

-- the fragments of a datagram that are kept, in the order in which they arrived
abbrev pub fragments_of : FragmentKey → List Part → List Fragment
fragments_of key = flat_map (fragment_if key)

-- ---- the reassembled bytes

-- each fragment, inserted into the bytes of those before it
abbrev pub inserted_over : Map → List Fragment → Map
inserted_over bytes [] = bytes
inserted_over bytes (f ∷ fs) = inserted_over (overlay bytes f) fs

-- the end of the fragment that reaches furthest
abbrev pub reach_from : ℕ → List Fragment → ℕ
reach_from n [] = n
reach_from n (f ∷ fs) = reach_from (max n (fragment_end f)) fs

-- the bytes of the datagram that a packet completes
unfoldable pub datagram_bytes : List Fragment → List ℕ
datagram_bytes fs = bytes_below (inserted_over empty fs) (reach_from 0 fs)

abbrev pub joined_of : FragmentKey → List ℕ → List Part → List ℕ
joined_of key p parts = datagram_bytes (fragments_of key parts ++ fitting (offset_of p) (carried_of p))

-- ---- a table of bytes

abbrev pub one_more : Bool → ℕ → ℕ
one_more b n = cond b (n + 1) n

abbrev pub spot_held : Option Spot → Option Held
spot_held None = None
spot_held (Some spot) =
    Some (record { byte = spot.byte; piece = record { first = spot.first; more = false; weight = nothing } })

-- a table as a map; there is no byte after its end
abbrev pub spots_map : List (Option Spot) → Map
spots_map spots offset = spot_held (slice_index_or spots offset None)

-- what is at an offset of a fragment after it was inserted, and at another one
abbrev pub inside : Option Held → ℕ → ℕ → ℕ → Option Held
inside old offset byte first =
    if stays offset old then old
    else Some (record { byte = byte; piece = record { first = first; more = false; weight = nothing } })

abbrev pub outside : Option Held → ℕ → ℕ → Option Held
outside None offset end = None
outside (Some held) offset end =
    Some (if nat_lt offset held.piece.first && nat_lt held.piece.first end
    then record held { piece = record (held.piece) { first = end } }
    else held)

-- a table for one datagram: no byte is at n or after it, and no piece begins after n
pub record IsWithin (spots : List (Option Spot)) (n : ℕ) : Type 0 where
  pub len : length spots ≡ DATAGRAM
  pub most : n ≤ DATAGRAM
  pub past : (k : ℕ) → n ≤ k → spots_map spots k ≡ None
  pub firsts : (k : ℕ) → IfSome (spots_map spots k) (λ held. held.piece.first ≤ n)

-- a table has the bytes of these fragments, inserted one after another
pub record IsReassembled (spots : List (Option Spot)) (reach : ℕ) (fs : List Fragment) : Type 0 where
  pub map : (k : ℕ) → spots_map spots k ≡ inserted_over empty fs k
  pub reach_is : reach ≡ reach_from 0 fs
