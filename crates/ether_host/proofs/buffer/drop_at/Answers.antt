use Rattle.std.proofs.Common.{◌≡◌, ◌∙◌, ◌-◌, take, arith, vec_len}
use Rattle.ether_host.proofs.Tables.{moved_down}
use Rattle.ether_host.proofs.buffer.drop_at.Goals as goal

pub returns-clause-items : goal.returns-clause-items
returns-clause-items c =
    let long : c.len.result ≡ vec_len c.args.held.now = c.len.ensures ∙ c.copy_within.ensures.len in
    c.truncate.ensures.items
    ∙ (λ k. take (long k - 1) (c.copy_within.ensures.items k))
    ∙ moved_down c.args.held.now.items c.args.at (vec_len c.args.held.now) c.requires
    (omega (arith, c.args.held.now.ok.0))
