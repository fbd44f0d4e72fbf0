use Rattle.std.proofs.Common.{◌≡◌, true, sym, ap, ◌∙◌}
use Rattle.flat_ether.specs.Claims.{is_claimed}
use Rattle.flat_ether.specs.Hosts.{Host, gives_drained, gives_probe}
use Rattle.flat_ether.specs.Links.{LinkState, gives_own}
use Rattle.ether_host.specs.Inside.{link_seen}
use Rattle.ether_host.specs.View.{halves}
use Rattle.ether_host.proofs.Giving.{claimed_last}
use Rattle.ether_host.proofs.layer.LinkLayer.transmit.Goals as goal

pub returns-clause-step : goal.returns-clause-step
returns-clause-step c =
    let h : Host = halves c.args.stack.now (link_seen c.args.self.now) in
    let claimed : is_claimed h.link.claim ≡ true =
    sym c.is_claimed.ensures ∙ c.if-not-is_claimed.false in
    c.give_drained.ensures.step ∙ ap (λ (l : LinkState). gives_drained h l) c.in_default.ensures.link
    ∙ claimed_last (is_claimed h.link.claim) (gives_own h.link).0
    ((gives_own h.link).0, record h { link = (gives_own h.link).1 }) (gives_drained h (gives_own h.link).1)
    (gives_probe h) claimed c.in_default.ensures.frame
