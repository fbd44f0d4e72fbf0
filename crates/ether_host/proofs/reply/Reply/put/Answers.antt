use Rattle.std.proofs.Common.{◌≡◌, ℕ, ◌+◌, List, ◌++◌, length, take, refl, sym, ap, ◌∙◌, arith}
use Rattle.std.proofs.lemmas.List.{length-append}
use Rattle.ether_host.proofs.Parts.{same_parts, some_part}
use Rattle.ether_host.proofs.reply.Reply.put.Goals as goal

pub invariant_of-self-3-clause-left : goal.invariant_of-self-3-clause-left
invariant_of-self-3-clause-left c =
    λ w. some_part (4 + length c.args.rest.now) c.max-self.result (omega (arith, c.max-self.ensures))

pub returns : goal.returns
returns c =
    let n : ℕ = 4 + length c.args.rest.now in
    let body : List ℕ = c.args.front ++ c.args.rest.now in
    let four : length c.args.front ≡ 4 = omega arith in
    let is : take n c.put_both.new.buffer ≡ body =
    ap (λ k. take (k + length c.args.rest.now) c.put_both.new.buffer) (sym four) ∙ c.put_both.ensures in
    same_parts c.args.config.now.addr c.args.id _ c.u32_at-self.result _ c.max-self.result _ n
    (take n c.put_both.new.buffer) body refl c.u32_at-self.ensures c.max-self.ensures is
    (omega (arith, length-append c.args.front c.args.rest.now, four))
