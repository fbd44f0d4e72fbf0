use Rattle.std.proofs.Common.{◌≡◌, ◌+◌, ◌*◌, ◌<◌, sym, ap, subst, ◌∙◌, arith}
use Rattle.flat_model.specs.Fragments.Cuts.{Part, chunk, cuts, part}
use Rattle.ether_host.specs.Replies.{IsPartAt, part_seen}
use Rattle.ether_host.proofs.Parts.{few_long, few_short, inside, long_at, short_at, within}
use Rattle.ether_host.proofs.reply.Reply.share.Goals as goal
use Rattle.ether_host.proofs.reply.Reply.share.Goals.{Else-len-mtu, After-share_at}

pub returns-then-len-mtu-clause-is : goal.returns-then-len-mtu-clause-is
returns-then-len-mtu-clause-is c =
    short_at c.args.self.now.message.len c.args.self.now.mtu c.args.self.now.gone
    (omega (arith, c.if-len-mtu.true, c.from-mtu.ensures)) (c.args.self.now.left c.requires)

pub returns-then-len-mtu-clause-few : goal.returns-then-len-mtu-clause-few
returns-then-len-mtu-clause-few c =
    few_short c.args.self.now.message.len c.args.self.now.mtu c.args.self.now.gone
    (omega (arith, c.if-len-mtu.true, c.from-mtu.ensures)) (c.args.self.now.left c.requires)

-- it has several parts
long : (c : Else-len-mtu) → c.args.self.now.mtu < 20 + c.args.self.now.message.len
long c = omega (arith, c.if-len-mtu.false, c.from-mtu.ensures)

starts : (c : Else-len-mtu) → c.args.self.now.gone * chunk c.args.self.now.mtu < c.args.self.now.message.len
starts c = let r = c.args.self.now in inside r.message.len r.mtu r.gone r.least (long c) (r.left c.requires)

pub share_at-requires-clause-inside : goal.share_at-requires-clause-inside
share_at-requires-clause-inside c =
    subst (λ m. c.args.self.now.gone * chunk m < c.args.self.now.message.len) (sym c.from-mtu.ensures)
    (starts (goal.at.share_at-requires-clause-inside c).Else-len-mtu)

cut : (c : After-share_at) → part_seen c.share_at.result
    ≡ part c.args.self.now.message.len (chunk c.args.self.now.mtu) c.args.self.now.gone
cut c =
    c.share_at.ensures ∙ ap (λ m. part c.args.self.now.message.len (chunk m) c.args.self.now.gone) c.from-mtu.ensures

pub returns-clause-is : goal.returns-clause-is
returns-clause-is c =
    let r = c.args.self.now in
    let at = goal.at.returns-clause-is c in
    subst (λ (p : Part). IsPartAt (cuts r.message.len r.mtu) r.gone p) (sym (cut at.After-share_at))
    (long_at r.message.len r.mtu r.gone r.least (long at.Else-len-mtu) (r.left c.requires))

pub returns-clause-within : goal.returns-clause-within
returns-clause-within c =
    let at = goal.at.returns-clause-within c in
    within c.share_at.result c.args.self.now.message.len (chunk c.args.self.now.mtu) c.args.self.now.gone
    (cut at.After-share_at) (starts at.Else-len-mtu)

pub returns-clause-few : goal.returns-clause-few
returns-clause-few c =
    let r = c.args.self.now in
    few_long r.message.len r.mtu r.gone r.least (long (goal.at.returns-clause-few c).Else-len-mtu) r.short
    (r.left c.requires)
