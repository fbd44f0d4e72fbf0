use Rattle.std.proofs.Common.{◌≡◌, ℕ, ◌+◌, length, take, refl, ap, ◌∙◌, arith}
use Rattle.ether_host.proofs.Rooms.{grown, written_front}
use Rattle.ether_host.proofs.reply.put_both.Goals as goal

pub returns : goal.returns
returns c =
    let n : ℕ = length c.args.front.now + length c.args.rest.now in
    let first : take (length c.args.front.now) c.put_bytes.new.buffer ≡ c.args.front.now =
    ap (take (length c.args.front.now)) c.put_bytes.ensures ∙ written_front c.args.buffer.now c.args.front.now in
    ap (take n) c.put_bytes-2.ensures
    ∙ grown c.put_bytes.new.buffer c.args.front.now c.args.rest.now (length c.args.front.now) n
    (omega arith) first refl
