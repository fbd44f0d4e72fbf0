use Rattle.std.proofs.Common.{◌≡◌, ℕ, ◌+◌, ◌-◌, List, ◌++◌, length, take, drop, Some, sym, ap, ◌∙◌, arith}
use Rattle.std.proofs.lemmas.List.{length-append}
use borrow.Rule.Slice.PartMut.{put_mid}
use Rattle.ip_out.specs.Headings.{head_bytes}
use Rattle.ether_host.specs.Replies.{message_in, packet_in, part_seen, share_head}
use Rattle.ether_host.specs.declared.reply.Reply.{Reply}
use Rattle.ether_host.specs.declared.share.Share.{Share}
use Rattle.ether_host.proofs.Parts.{first_left, shared}
use Rattle.ether_host.proofs.Rooms.{behind}
use Rattle.ether_host.proofs.reply.Reply.next.Goals as goal

pub returns-clause-packet : goal.returns-clause-packet
returns-clause-packet c =
    let r : Reply = c.args.self.now in
    let s : Share = c.share-share.result in
    let head : List ℕ = c.head-head.result in
    let carried : List ℕ = take (s.offset + s.size - s.offset) (drop s.offset c.bytes.result.now) in
    let part : List ℕ = take s.size (drop s.offset (message_in r)) in
    let packet : List ℕ = packet_in r (part_seen s) in
    let size : s.offset + s.size - s.offset ≡ s.size = omega arith in
    let carried_is : carried ≡ part =
    ap (λ k. take k (drop s.offset c.bytes.result.now)) size
    ∙ ap (λ (xs : List ℕ). take s.size (drop s.offset xs)) c.bytes.ensures.is in
    let carried_long : length carried ≡ s.size =
    omega (arith, c.bytes.ensures.long, c.share-share.ensures.within) in
    let part_long : length part ≡ s.size = sym (ap length carried_is) ∙ carried_long in
    let is : head ++ carried ≡ packet =
    ap (λ (xs : List ℕ). xs ++ carried) c.head-head.ensures.is
    ∙ ap (λ (xs : List ℕ). head_bytes (share_head r s) ++ xs) carried_is ∙ shared r s (omega arith) in
    let after : List ℕ = put_mid 14 (length c.args.buffer.now - 14) c.args.buffer.now c.put_both.new.buffer in
    let both : length (head ++ carried) ≡ length head + length carried = length-append head carried in
    let count : length packet ≡ length head + length carried = sym (ap length is) ∙ both in
    let long : length packet ≡ 20 + s.size = omega (arith, c.head-head.ensures.size) in
    let first : take (length packet) c.put_both.new.buffer ≡ packet =
    ap (λ k. take k c.put_both.new.buffer) count ∙ c.put_both.ensures ∙ is in
    ap (λ (xs : List ℕ). Some xs)
    (ap (λ k. take k (drop 14 after)) (sym long)
    ∙ behind 14 (length c.args.buffer.now - 14) c.args.buffer.now c.put_both.new.buffer packet
    (omega (arith, c.requires))
    first)
    ∙ sym (first_left r (part_seen s) c.if-not-self.false c.share-share.ensures.is)
