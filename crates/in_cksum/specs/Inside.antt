-- Sums of words in memory order, low half first (this project's own; RFC 1071 section 2 gives the reason why they can
-- be used: if the bytes of each word are swapped, the bytes of the folded sum are swapped).
use Rattle.std.specs.Prelude.{◌≡◌, ℕ, ◌+◌, ◌-◌, ◌*◌, ◌%◌, ◌^◌, ◌<◌, ◌≤◌, ◌⊎◌, List, [], ◌∷◌, ◌++◌, length, take, drop}
use Rattle.std.specs.Simd.Lanes.{zip2, sum_l}
use Rattle.flat_model.specs.Packets.Checksum.{checksum, fold16}
use Rattle.mbuf_chain.specs.Chain.{PoolView, IsLive, chain_of, string}
use Rattle.in_cksum.specs.Partial.{Partial, sum_of}

-- the sum of the little-endian words of 16 bits; an odd last byte is the low half of a word
abbrev pub swapped_sum : List ℕ → ℕ
swapped_sum [] = 0
swapped_sum (low ∷ []) = low
swapped_sum (low ∷ high ∷ bytes) = low + 256 * high + swapped_sum bytes

-- The sum of the low halves in a lane of 32 bits. `all` is the wrapped sum of the lane's whole words, and `high` the
-- sum of their high halves.
abbrev pub low_of : ℕ → ℕ → ℕ
low_of all high = (all + (4294967296 - high * 65536 % 4294967296)) % 4294967296

-- the sum of both halves of all lanes
abbrev pub lanes_total : List ℕ → List ℕ → ℕ
lanes_total all high = sum_l (zip2 low_of all high) + sum_l high

-- A value that has the same fold as the total: some of it counts 65,536 times.
pub record CountsAs (value total : ℕ) : Type 0 where
  pub once : ℕ
  pub often : ℕ
  pub value_is : value ≡ once + 65536 * often
  pub total_is : total ≡ once + often

-- a number of 64 bits, and a carry that can be added to it
pub record CanCarry (n k : ℕ) : Type 0 where
  pub carry : k ≤ 1
  pub room : n + k < 2 ^ 64

-- the words of the bytes were added to the sum, up to what the fold makes equal
pub record AddsWords (sum : ℕ) (bytes : List ℕ) (low carry : ℕ) : Type 0 where
  pub folded : fold16 (low + carry) ≡ fold16 (sum + swapped_sum bytes)
  pub fits : CanCarry low carry

-- the bytes that were removed from the list are added to the sum
pub record IsAdded (sum : ℕ) (bytes : List ℕ) (new : ℕ) (after : List ℕ) : Type 0 where
  pub once : ℕ
  pub often : ℕ
  pub new_is : new ≡ sum + (once + 65536 * often)
  pub taken : swapped_sum bytes ≡ once + often + swapped_sum after

-- this many fewer are left, or there weren't that many
abbrev pub IsLeft : ℕ → List ℕ → List ℕ → Type 0
IsLeft n bytes after = (length after < n) ⊎ (length after + n ≡ length bytes)

-- the next n bytes, if that many were left, are added to the sum
pub record TakesUpTo (n sum : ℕ) (bytes : List ℕ) (new : ℕ) (after : List ℕ) : Type 0 where
  pub added : IsAdded sum bytes new after
  pub left : IsLeft n bytes after
  pub small : new < sum + 2 ^ 33

-- the words of the next n bytes were added to the sum, up to what the fold makes equal, if that many were left
pub record AddsNext (n sum : ℕ) (bytes : List ℕ) (new : ℕ) (after : List ℕ) : Type 0 where
  pub folded : fold16 (new + swapped_sum after) ≡ fold16 (sum + swapped_sum bytes)
  pub left : IsLeft n bytes after

-- these bytes are in the chain
pub record HasBytes (p : PoolView) (c off len : ℕ) : Type 0 where
  pub live : IsLive p c
  pub within : off + len ≤ length (string (chain_of p c))

-- the checksum of the bytes that were added to the sum, and then these of the chain
abbrev pub IsChecksum : PoolView → ℕ → ℕ → ℕ → Partial → ℕ → Type 0
IsChecksum p c off len start result =
    (before : List ℕ) → start ≡ sum_of before
    → result ≡ checksum (before ++ take len (drop off (string (chain_of p c))))
