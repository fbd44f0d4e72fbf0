-- The law of cuts (RFC 791, section 3.2).
use Rattle.std.specs.Prelude.{◌≡◌, ℕ, ◌+◌, ◌%◌, ◌<◌, ◌≤◌, List, length, take, drop, slice_index_or, All, flat_map}
use Rattle.params.specs.declared.TheConstants.{FRAGMENT_UNIT, IP_HEADER}
use Rattle.flat_model.specs.Fragments.Cuts.{Part, cuts}

-- the bytes of a part
abbrev pub bytes_of_part : List ℕ → Part → List ℕ
bytes_of_part s p = take p.size (drop p.offset s)

-- The parts of a string, joined, are the string; all but the last are a multiple of 8 long; and each fits after its
-- header.
pub record CutsJoin (s : List ℕ) (mtu : ℕ) : Type 0 where
  pub joined : flat_map (bytes_of_part s) (cuts (length s) mtu) ≡ s
  pub multiples : (k : ℕ) (d : Part) → k + 1 < length (cuts (length s) mtu)
      → (slice_index_or (cuts (length s) mtu) k d).size % FRAGMENT_UNIT ≡ 0
  pub within : All (λ p. IP_HEADER + p.size ≤ mtu) (cuts (length s) mtu)
