-- When an unfinished datagram is complete (RFC 791, section 3.2), and its weight (this project's own).
use Rattle.std.specs.Prelude.{◌≡◌, ℕ, ◌-◌, ◌<◌, false, ◌==◌, if◌then◌else◌, List, map, Option, Some, None, IsSome, IfSome, filter_map}
use Rattle.std.specs.List.{range_with_len}
use Rattle.params.specs.declared.TheConstants.{IP_MAX_DATA}
use Rattle.flat_model.specs.Amounts.Weight.{Weight, all_of}
use Rattle.flat_model.specs.Fragments.Overlay.{Held, Piece, Map}

-- There is a byte at each offset below n and at no other, and no more fragments follow the piece at the end.
pub record IsWhole (bytes : Map) (n : ℕ) : Type 0 where
  pub some : 0 < n
  pub filled : (offset : ℕ) → offset < n → IsSome (bytes offset)
  pub ended : (offset : ℕ) → IsSome (bytes offset) → offset < n
  pub last : IfSome (bytes (n - 1)) (λ held. held.piece.more ≡ false)

-- the byte at an offset
abbrev pub byte_of : Option Held → ℕ
byte_of None = 0
byte_of (Some held) = held.byte

-- the bytes of a map that is complete at n, in order
abbrev pub bytes_below : Map → ℕ → List ℕ
bytes_below bytes n = map (λ offset. byte_of (bytes offset)) (range_with_len 0 n)

-- the piece that begins at the offset
abbrev pub piece_at : ℕ → Option Held → Option Piece
piece_at offset None = None
piece_at offset (Some held) = if held.piece.first == offset then Some held.piece else None

-- the pieces that still own an offset below `most`, in order
unfoldable pub pieces_below : ℕ → Map → List Piece
pieces_below most bytes = filter_map (λ offset. piece_at offset (bytes offset)) (range_with_len 0 most)

-- all pieces, because no fragment reaches past 65,515 bytes
abbrev pub pieces : Map → List Piece
pieces bytes = pieces_below IP_MAX_DATA bytes

-- their weight; a piece that lost its last offset weighs nothing
abbrev pub weight_of_pieces : Map → Weight
weight_of_pieces bytes = all_of (λ piece. piece.weight) (pieces bytes)
