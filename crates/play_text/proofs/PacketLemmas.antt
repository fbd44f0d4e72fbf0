-- A packet by its header.
use Rattle.std.proofs.Common.{◌≡◌, List, ℕ, ◌++◌, true}
use Rattle.flat_model.specs.Packets.Header.{Head, head_of}
use Rattle.play_text.specs.Packets.{carried_by, fragment_text, has_header, headed_text, is_fragment_packet, packet_text}

pub headed_fragment : (h : Head) (packet old new : List ℕ) → is_fragment_packet h ≡ true
    → new ≡ old ++ fragment_text h (carried_by packet)
    → new ≡ old ++ headed_text h packet
headed_fragment h packet old new is e = rw is e

pub headed_packet : (packet old new : List ℕ) → has_header packet ≡ true
    → new ≡ old ++ headed_text (head_of packet) packet
    → new ≡ old ++ packet_text packet
headed_packet packet old new is e = rw is e
