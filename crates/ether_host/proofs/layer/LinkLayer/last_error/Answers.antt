use Rattle.std.proofs.Common.{Option, sym, ap, ◌∙◌}
use Rattle.std.specs.Prelude.{Ok}
use Rattle.flat_ether.specs.Hosts.{Host}
use Rattle.flat_ether.specs.Links.{LinkState, takes_error}
use Rattle.flat_ether.specs.declared.error.NetFault.{NetFault}
use Rattle.ether_host.specs.Inside.{link_seen}
use Rattle.ether_host.specs.View.{halves}
use Rattle.ether_host.proofs.Asking.{asked_err, asked_ok}
use Rattle.ether_host.proofs.layer.LinkLayer.last_error.Goals as goal

pub returns-in-Ok : goal.returns-in-Ok
returns-in-Ok c =
    let h : Host = halves c.args.stack.now (link_seen c.args.self.now) in
    ap (λ (f : Option NetFault). (Ok f, record h { link = link_seen c.take_error.new.self })) c.take_error.ensures.fault
    ∙ ap (λ (l : LinkState). (Ok (takes_error c.in-Ok.name.port c.in-Ok.name.peer h.link).0, record h { link = l }))
    c.take_error.ensures.link
    ∙ sym (asked_ok h c.args.fd c.in-Ok.name (sym c.socket_name.ensures ∙ c.in-Ok.is))

pub returns-in-Err : goal.returns-in-Err
returns-in-Err c =
    sym (asked_err (halves c.args.stack.now (link_seen c.args.self.now)) c.args.fd c.in-Err.errno
    (sym c.socket_name.ensures ∙ c.in-Err.is))
