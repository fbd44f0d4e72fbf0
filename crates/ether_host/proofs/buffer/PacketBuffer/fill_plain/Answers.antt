use Rattle.std.proofs.Common.{◌+◌, List, ℕ, ◌++◌, length, take, sym, ap, ◌∙◌}
use Rattle.flat_model.specs.Packets.Header.{head_of, packet}
use Rattle.ether_host.proofs.Plains.{head_and_data}
use Rattle.ether_host.proofs.buffer.PacketBuffer.fill_plain.Goals as goal

pub returns : goal.returns
returns c =
    let body : List ℕ = c.carried-data.result.now in
    ap (λ k. take (k + length body) c.put_both.new.buffer) (sym c.short_head-head.ensures.size)
    ∙ c.put_both.ensures ∙ ap (λ (xs : List ℕ). xs ++ body) c.short_head-head.ensures.is
    ∙ head_and_data c.args.came.now body ∙ ap (packet (head_of c.args.came.now)) c.carried-data.ensures
