use Rattle.std.proofs.Common.{ℕ, ◌+◌, List, ◌++◌, length, min, take, ap, ◌∙◌}
use Rattle.flat_ether.specs.Icmp.{message, quote_size, reflected}
use Rattle.ether_host.proofs.Rooms.{quoted_front}
use Rattle.ether_host.proofs.answer.error_reply.Goals as goal

pub returns : goal.returns
returns c =
    let rest : List ℕ = take (4 + c.min-quoted.result) c.put_bytes.new.buffer in
    c.put.ensures
    ∙ ap (λ (front : List ℕ). reflected c.args.config.now c.args.id c.args.came.now (front ++ rest))
    c.message_head-front.ensures.is
    ∙ ap (λ (r : List ℕ). reflected c.args.config.now c.args.id c.args.came.now (message c.args.kind c.args.code r))
    (ap (take (4 + c.min-quoted.result)) c.put_bytes.ensures
    ∙ quoted_front c.args.came.now _ c.min-quoted.result (quote_size c.args.came.now)
    (c.min-quoted.ensures ∙ ap (min (length c.args.came.now)) c.quote_size.ensures.is))
