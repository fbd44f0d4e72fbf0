-- The definitions at worked values.
use Rattle.std.specs.Prelude.{◌≡◌, refl, ℕ, Bool, true, false, List, [], ◌∷◌, ◌++◌, map, Option, Some, None}
use Rattle.flat_model.specs.declared.lookup_key.LookupKey.{LookupKey}
use Rattle.flat_model.specs.Amounts.Weight.{Item, mbuf, times, all_of}
use Rattle.flat_model.specs.Machine.Sending.{items}
use Rattle.flat_model.specs.Fragments.Cuts.{cuts}
use Rattle.flat_model.specs.Amounts.Layout.{entries_on, Plain, Cluster, filled, user, sent, meets_from, need}
use Rattle.flat_model.specs.Packets.Checksum.{folded_sum}
use Rattle.flat_model.specs.Packets.Header.{packet, udp, head_of, head_fault, udp_fault, udp_bytes}
use Rattle.flat_model.specs.Fragments.Overlay.{Map, Fragment, Held, empty, overlay, first_owned, is_covered}
use Rattle.flat_model.specs.Fragments.Whole.{bytes_below}
use Rattle.flat_model.specs.Sockets.Lookup.{best, receivers}
use Rattle.flat_model.specs.Machine.State.{Socket}
use Rattle.flat_model.specs.Machine.Calls.{new_socket}
use Rattle.flat_model.specs.declared.address.Addr.{Addr}

user_208 : user 208 ≡ Cluster 208 ∷ []
unfolding filled
user_208 = refl

sent_207 : sent 207 ≡ Plain 28 ∷ Plain 100 ∷ Plain 107 ∷ []
unfolding filled
sent_207 = refl

sent_9216 : sent 9216 ≡ Plain 28 ∷ Cluster 1992 ∷ Cluster 2048 ∷ Cluster 2048 ∷ Cluster 2048 ∷ Cluster 1080 ∷ []
unfolding filled
sent_9216 = refl

need_0 : need 0 1500 ≡ record { mbufs = 1; clusters = 0 }
unfolding filled cuts meets_from
need_0 = refl

need_3000 : need 3000 1536 ≡ record { mbufs = 6; clusters = 2 }
unfolding filled cuts meets_from
need_3000 = refl

need_9216 : need 9216 1500 ≡ record { mbufs = 22; clusters = 5 }
unfolding filled cuts meets_from
need_9216 = refl

need_9216_short : need 9216 68 ≡ record { mbufs = 393; clusters = 5 }
unfolding filled cuts meets_from
need_9216_short = refl

fold_rfc : folded_sum (0 ∷ 1 ∷ 242 ∷ 3 ∷ 244 ∷ 245 ∷ 246 ∷ 247 ∷ []) ≡ 56818  -- 0xddf2
fold_rfc = refl

-- 10.0.0.1 port 1024 sends "hi" to 10.0.0.2 port 7
hi : List ℕ
hi = udp 167772161 167772162 1024 7 (104 ∷ 105 ∷ [])

sent_packet : packet (record {
  id = 1;
  more = false;
  offset = 0;
  protocol = 17;
  source = 167772161;
  destination = 167772162;
}) hi
    ≡ 69 ∷ 0 ∷ 0 ∷ 30 ∷ 0 ∷ 1 ∷ 0 ∷ 0 ∷ 64 ∷ 17 ∷ 102 ∷ 204 ∷ 10 ∷ 0 ∷ 0 ∷ 1 ∷ 10 ∷ 0 ∷ 0 ∷ 2 ∷ 4 ∷ 0 ∷ 0 ∷ 7 ∷ 0 ∷ 10
    ∷ 127 ∷ 103 ∷ 104 ∷ 105 ∷ []
unfolding packet hi udp
sent_packet = refl

-- its header is read back, and has no fault
sent_packet_read : head_of (packet
    (record { id = 1; more = false; offset = 0; protocol = 17; source = 167772161; destination = 167772162 }) hi)
    ≡ record { id = 1; more = false; offset = 0; protocol = 17; source = 167772161; destination = 167772162 }
unfolding packet hi udp
sent_packet_read = refl

sent_packet_fault : head_fault
    (packet (record { id = 1; more = false; offset = 0; protocol = 17; source = 167772161; destination = 167772162 })
    hi) ≡ None
unfolding packet hi udp
sent_packet_fault = refl

sent_packet_udp : udp_fault 167772161 167772162 hi ≡ None
unfolding hi udp
sent_packet_udp = refl

sent_packet_bytes : udp_bytes hi ≡ 104 ∷ 105 ∷ []
unfolding hi udp
sent_packet_bytes = refl

-- ---- overlays

of_bytes : ℕ → Bool → List ℕ → Fragment
of_bytes offset more bytes = record { offset = offset; bytes = bytes; more = more; weight = mbuf }

eight : ℕ → List ℕ
eight b = b ∷ b ∷ b ∷ b ∷ b ∷ b ∷ b ∷ b ∷ []

piece_at : Option Held → ℕ
piece_at None = 99
piece_at (Some held) = held.piece.first

-- c at 16, d at 8, e at 0, each 16 bytes long
three_pieces : Map
three_pieces =
    overlay (overlay (overlay empty (of_bytes 16 false (eight 99 ++ eight 99)))
    (of_bytes 8 true (eight 100 ++ eight 100))) (of_bytes 0 true (eight 1 ++ eight 101))

three_pieces_bytes : bytes_below three_pieces 32 ≡ eight 1 ++ eight 101 ++ eight 100 ++ eight 99
unfolding three_pieces of_bytes eight overlay first_owned
three_pieces_bytes = refl

three_pieces_first : map (λ offset. piece_at (three_pieces offset)) (0 ∷ 15 ∷ 16 ∷ 23 ∷ 24 ∷ 31 ∷ 32 ∷ [])
    ≡ 0 ∷ 0 ∷ 16 ∷ 16 ∷ 24 ∷ 24 ∷ 99 ∷ []
unfolding three_pieces of_bytes eight overlay first_owned piece_at
three_pieces_first = refl

-- 16 bytes at 0, then 8 at 8 are held already, then 8 at 16
front_piece : Map
front_piece = overlay empty (of_bytes 0 true (eight 1 ++ eight 97))

front_piece_covers : is_covered front_piece (of_bytes 8 false (eight 99)) ≡ true
unfolding front_piece of_bytes eight overlay first_owned
front_piece_covers = refl

front_piece_bytes : bytes_below (overlay front_piece (of_bytes 16 false (eight 98))) 24
    ≡ eight 1 ++ eight 97 ++ eight 98
unfolding front_piece of_bytes eight overlay first_owned
front_piece_bytes = refl

-- ---- lookups

bound : ℕ → Option ℕ → Option Addr → Socket
bound fd local peer = record (new_socket fd) { local = local; port = Some 7; peer = peer }

found : Option Socket → ℕ
found None = 0
found (Some socket) = socket.fd

other : Addr
other = record { ip = 167772162; port = 5000 }

from_other : LookupKey
from_other = record { local = Some 167772161; port = Some 7; peer = Some other }

-- equal scores go to the youngest, and fewer wildcards go first
best_youngest : found (best from_other (bound 5 None None ∷ bound 4 None None ∷ [])) ≡ 5
unfolding found bound from_other other
best_youngest = refl

best_fewest : found (best from_other
    (bound 6 None None ∷ bound 5 (Some 167772161) (Some other) ∷ bound 4 (Some 167772161) None ∷ [])) ≡ 5
unfolding found bound from_other other
best_fewest = refl

best_none : found (best from_other (bound 6 (Some 5) None ∷ new_socket 3 ∷ [])) ≡ 0
unfolding found bound from_other other
best_none = refl

share : Socket → Socket
share socket = record socket { reuse_port = true }

receivers_two : map (λ socket. socket.fd)
    (receivers from_other (share (bound 6 None None) ∷ bound 5 None None ∷ bound 4 None None ∷ [])) ≡ 6 ∷ 5 ∷ []
unfolding bound from_other other share
receivers_two = refl

-- ---- the weights of the largest send: 6, 3, 3, 2, 3, 3, 2 mbufs, and the five clusters counted 2, 3, 4, 3, 3

largest : List Item
largest = items (entries_on (10 ∷ 11 ∷ 12 ∷ 13 ∷ 14 ∷ []) (sent 9216)) (λ p. []) (cuts 9224 1500)

largest_mbufs : map (λ item. item.weight.mbufs) largest ≡ 6 ∷ 3 ∷ 3 ∷ 2 ∷ 3 ∷ 3 ∷ 2 ∷ []
unfolding largest entries_on filled cuts meets_from
largest_mbufs = refl

largest_counts : map (λ c. times c (all_of (λ item. item.weight) largest).bag) (10 ∷ 11 ∷ 12 ∷ 13 ∷ 14 ∷ [])
    ≡ 2 ∷ 3 ∷ 4 ∷ 3 ∷ 3 ∷ []
unfolding largest entries_on filled cuts meets_from
largest_counts = refl
