-- Bytes written over those of a chain (m_copyback; TCP/IP Illustrated, volume 2, chapter 2), and when that is allowed
-- (this project's own).
use Rattle.std.specs.Prelude.{◌≡◌, ℕ, zero, suc, ◌+◌, ◌-◌, ◌==◌, Bool, true, false, not, ◌&&◌, nat_lt, if◌then◌else◌, List, [], ◌∷◌, ◌++◌, length, take, drop, replicate, Option, None, Some}
use Rattle.params.specs.declared.TheConstants.{MBUF_HEADER, MLEN}
use Rattle.mbuf_chain.specs.Chain.{Entry, PoolView, chain_of, references, flat_bytes}
use Rattle.mbuf_chain.specs.Steps.{overwritten}

-- whether more than one mbuf refers to a cluster
abbrev pub is_shared : (ℕ → ℕ) → Option ℕ → Bool
is_shared counts None = false
is_shared counts (Some c) = nat_lt 1 (counts c)

-- whether the part of the range that is within the entries has no byte in a shared cluster
abbrev pub is_writable : (ℕ → ℕ) → List Entry → ℕ → ℕ → Bool
is_writable counts [] off len = true
is_writable counts (e ∷ es) off len =
    not (nat_lt 0 len && (nat_lt off (length e.bytes) && is_shared counts e.cluster))
    && is_writable counts es (off - length e.bytes) (len - (length e.bytes - off))

-- a range of a chain may be written to
abbrev pub IsWritable : PoolView → ℕ → ℕ → ℕ → Type 0
IsWritable p c off len = is_writable (references p) (chain_of p c).entries off len ≡ true

-- the entries with bytes written over their own from `off` on, up to the end of the entries
abbrev pub overlaid : List Entry → ℕ → List ℕ → List Entry
overlaid [] off xs = []
overlaid (e ∷ es) off xs =
    overwritten e off (take (length e.bytes - off) xs)
    ∷ overlaid es (off - length e.bytes) (drop (length e.bytes - off) xs)

-- bytes in plain mbufs without packet header, all full except the last; at most `most` mbufs
abbrev pub plain_pieces : ℕ → List ℕ → List Entry
plain_pieces zero xs = []
plain_pieces (suc most) xs =
    if length xs == 0 then [] else record { bytes = take MLEN xs; start = MBUF_HEADER; cluster = None }
    ∷ plain_pieces most (drop MLEN xs)

abbrev pub in_plain : List ℕ → List Entry
in_plain xs = plain_pieces (length xs) xs

-- what is added after the old end: zeros up to the offset, and the bytes past the end
abbrev pub tail_of : ℕ → ℕ → List ℕ → List ℕ
tail_of old off xs = replicate (off - old) 0 ++ drop (old - off) xs

-- the entries with the bytes written from `off` on; the trailing space of the last one isn't used
abbrev pub copied_back : List Entry → ℕ → List ℕ → List Entry
copied_back es off xs = overlaid es off xs ++ in_plain (tail_of (length (flat_bytes es)) off xs)

-- how many mbufs that takes
abbrev pub copyback_need : List Entry → ℕ → List ℕ → ℕ
copyback_need es off xs = length (in_plain (tail_of (length (flat_bytes es)) off xs))

-- the same for bytes
abbrev pub written_bytes : List ℕ → ℕ → List ℕ → List ℕ
written_bytes ys off xs = take off ys ++ (replicate (off - length ys) 0 ++ (xs ++ drop (off + length xs) ys))
