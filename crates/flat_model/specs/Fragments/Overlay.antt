-- The bytes of an unfinished datagram: the byte at each offset, and which piece brought it. Overlaps are resolved as
-- `ip_reass` does it (volume 2, chapter 10). The example procedure of RFC 791, section 3.2, uses the copy that arrived
-- last instead.
use Rattle.std.specs.Prelude.{ℕ, ◌+◌, ◌-◌, Bool, true, false, nat_lt, nat_le, ◌&&◌, if◌then◌else◌, List, length, slice_index, count_by, Option, Some, None}
use Rattle.std.specs.List.{range_with_len}
use Rattle.flat_model.specs.Amounts.Weight.{Weight}

-- What a fragment brought and still owns. A piece is identified by the least offset that it owns, so pieces need no
-- other names. `more` is the fragment's flag. The weight stays that of the whole fragment.
pub record Piece : Type 0 where
  pub first : ℕ
  pub more : Bool
  pub weight : Weight

-- the byte at an offset, and its piece
pub record Held : Type 0 where
  pub byte : ℕ
  pub piece : Piece

-- the bytes that have arrived, by their offset after the IP header
abbrev pub Map : Type 0
Map = ℕ → Option Held

-- no byte has arrived
abbrev pub empty : Map
empty offset = None

-- a fragment as it arrives: the bytes after its IP header, and the weight of its mbufs
pub record Fragment : Type 0 where
  pub offset : ℕ
  pub bytes : List ℕ
  pub more : Bool
  pub weight : Weight

-- the first offset after the fragment
abbrev pub fragment_end : Fragment → ℕ
fragment_end f = f.offset + length f.bytes

-- Which byte is kept: an old byte stays if its piece begins no later than the fragment, which begins at a. Otherwise
-- the fragment's byte replaces it.
abbrev pub stays : ℕ → Option Held → Bool
stays a None = false
stays a (Some held) = nat_le held.piece.first a

-- The least offset that the fragment's piece owns. Old bytes stay only at the first offsets of the fragment: a piece
-- that begins no later and reaches into the fragment has no gap in between. So it is enough to count them.
unfoldable pub first_owned : Map → Fragment → ℕ
first_owned map f =
    f.offset + count_by (λ offset. stays f.offset (map offset)) (range_with_len f.offset (length f.bytes))

-- no offset is left for the fragment
abbrev pub is_covered : Map → Fragment → Bool
is_covered map f = nat_le (fragment_end f) (first_owned map f)

-- what the fragment brings to an offset
abbrev pub brought : Map → Fragment → ℕ → Held
brought map f offset = record {
  byte = slice_index f.bytes (offset - f.offset);
  piece = record { first = first_owned map f; more = f.more; weight = f.weight };
}

-- a piece that begins inside the fragment and reaches past it loses its front, and then begins after the fragment
abbrev pub cut_back : Fragment → Held → Held
cut_back f held =
    if nat_lt f.offset held.piece.first && nat_lt held.piece.first (fragment_end f)
    then record held { piece = record (held.piece) { first = fragment_end f } }
    else held

-- the offset is one of the fragment's
abbrev pub is_within : Fragment → ℕ → Bool
is_within f offset = nat_le f.offset offset && nat_lt offset (fragment_end f)

-- what is at an offset afterwards, given whether it is one of the fragment's and what was there before
abbrev pub lies : Map → Fragment → ℕ → Bool → Option Held → Option Held
lies map f offset true old = if stays f.offset old then old else Some (brought map f offset)
lies map f offset false None = None
lies map f offset false (Some held) = Some (cut_back f held)

-- the map after the fragment is inserted
unfoldable pub overlay : Map → Fragment → Map
overlay map f offset = lies map f offset (is_within f offset) (map offset)
