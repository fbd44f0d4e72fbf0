-- What a query about the unfinished datagrams returns, as a function of the flat machine's (this project's own; they
-- are in the list of volume 2, chapter 10).
use Rattle.std.specs.Prelude.{ℕ, ◌==◌, Bool, false, List, [], length, map, count_by, sum_by, slice_get, Option, None, Some, option_map}
use Rattle.std.specs.List.{range_with_len}
use Rattle.params.specs.declared.TheConstants.{IP_MAX_DATA}
use Rattle.flat_model.specs.Fragments.Overlay.{Held, Piece, Map}
use Rattle.flat_model.specs.Fragments.Whole.{pieces}
use Rattle.flat_model.specs.Machine.State.{Unfinished}
use Rattle.mbuf_chain.specs.Chain.{PoolView}
use Rattle.ip_reass.specs.Table.{held}
use Rattle.ip_reass.specs.declared.datagram.Datagram.{Datagram}
use Rattle.ip_reass.specs.declared.questions.HeldRange.{HeldRange}
use Rattle.ip_reass.specs.declared.questions.UnfinishedDatagram.{UnfinishedDatagram}

-- what is at an offset belongs to the piece that begins at `first`
abbrev pub is_of : ℕ → Option Held → Bool
is_of first None = false
is_of first (Some held) = held.piece.first == first

-- how many of the offsets below `most` are of that piece
unfoldable pub owned_below : ℕ → Map → ℕ → ℕ
owned_below most bytes first = count_by (λ offset. is_of first (bytes offset)) (range_with_len 0 most)

-- the rest of a piece, with one byte for each offset that it owns
abbrev pub range_of : Map → Piece → HeldRange
range_of bytes piece = record {
  offset = piece.first;
  len = owned_below IP_MAX_DATA bytes piece.first;
  more = piece.more;
}

-- the rest of all pieces, in order of offset
abbrev pub ranges : Map → List HeldRange
ranges bytes = map (range_of bytes) (pieces bytes)

abbrev pub nth_of : Map → ℕ → Option HeldRange
nth_of bytes k = slice_get (ranges bytes) k

-- a datagram: how many bytes have arrived, and in how many ranges
abbrev pub summary_of : Unfinished → UnfinishedDatagram
summary_of u = record {
  key = u.key;
  ticks = u.ticks;
  bytes = sum_by (λ (range : HeldRange). range.len) (ranges u.bytes);
  ranges = length (ranges u.bytes);
}

-- the datagram at a place, if there is one
abbrev pub nth_unfinished : ℕ → List Unfinished → Option UnfinishedDatagram
nth_unfinished i us = option_map summary_of (slice_get us i)

-- a range of the datagram at a place, if there is one
abbrev pub range_in : ℕ → Option Unfinished → Option HeldRange
range_in k None = None
range_in k (Some u) = nth_of u.bytes k

abbrev pub nth_range : ℕ → ℕ → List Unfinished → Option HeldRange
nth_range i k us = range_in k (slice_get us i)

-- ---- the chains

abbrev pub held_by : PoolView → Option Datagram → List ℕ
held_by p None = []
held_by p (Some d) = held p d

-- the chains of the datagram at a place: the mbuf of its key, then its fragments; none if there is no such datagram
abbrev pub nth_held : PoolView → List Datagram → ℕ → List ℕ
nth_held p ds i = held_by p (slice_get ds i)
