-- A packet that waits for the link: its bytes are those of its mbufs.
use Rattle.std.proofs.Common.{◌≡◌, ℕ, ◌<◌, true, List, [], Some, sym, ap, ◌∙◌, arith}
use Rattle.std.specs.Prelude.{option_map}
use Rattle.std.specs.List.{concat}
use Rattle.std.proofs.lemmas.Option.{slice_get-map, slice_get-get_or}
use Rattle.flat_model.specs.Amounts.Weight.{Item}
use Rattle.mbuf_chain.specs.Chain.{Entry, PoolView, alone}
use Rattle.mbuf_chain.specs.Pieces.{pieces_of}
use Rattle.mbuf_chain.specs.Train.{TrainView, QueuedPacket, no_queued_packet, queued_packets, queued_packet_at, IsHeld}
use Rattle.mbuf_chain.proofs.Laws.Iterators.{concat_pieces}
use Rattle.mbuf_chain.proofs.Laws.Trains.{length-queued_packets}
use Rattle.ledger.specs.Accounts.{item_of}
use Rattle.ip_out.specs.Packets.{train_packets}
use Rattle.ip_out.specs.Questions.{nth_packet}

pub nth_found : (p : PoolView) (t : TrainView) (i at : ℕ) (pieces : List (List ℕ)) → IsHeld p t → i < t.len → at ≡ i
    → pieces ≡ pieces_of (queued_packet_at p t at).entries → nth_packet i (train_packets p t) ≡ Some (concat pieces)
nth_found p t i at pieces held lt same is =
    let f : QueuedPacket → Item = λ queued_packet. item_of queued_packet.entries in
    let es : List Entry = (queued_packet_at p t i).entries in
    let whole : pieces ≡ pieces_of es = is ∙ ap (λ (k : ℕ). pieces_of (queued_packet_at p t k).entries) same in
    ap (option_map (λ (item : Item). item.bytes))
    (slice_get-map f (queued_packets p t) i
    ∙ ap (option_map f)
    (slice_get-get_or (queued_packets p t) i no_queued_packet (omega (arith, lt, length-queued_packets p t held))))
    ∙ ap Some (sym (concat_pieces (record { front = alone true; entries = es; cells = [] })))
    ∙ ap (λ (ps : List (List ℕ)). Some (concat ps)) (sym whole)
