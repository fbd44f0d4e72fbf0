use Rattle.std.proofs.Common.{◌≡◌, ◌∙◌, ap, ◌+◌, arith}
use Rattle.raw_cells.specs.Inside.Layout.{link_of, little_u32_at, head_by}
use Rattle.raw_cells.proofs.layout.read_head.Goals as goal

pub returns-clause-head : goal.returns-clause-head
unfolding head_by
returns-clause-head c =
    let bs = c.args.bytes.now in let o = c.args.at in let flags = c.read_u16-flags.result in
    let here : o ≡ o + 0 = omega arith in
    (λ t. record {
      next = (c.read_link.ensures.link ∙ ap (λ k. link_of (little_u32_at bs k)) here) t;
      next_packet = c.read_link-2.ensures.link t;
      len = c.read_u32.ensures t;
      start = c.read_u32-2.ensures t;
      kind = c.read_u16.ensures t;
      packet = c.read_packet.ensures t;
      cluster = c.read_cluster.ensures t;
    }) ∙ ap (λ f. head_by bs o f) c.read_u16-flags.ensures
