use Rattle.std.proofs.Common.{[], None, Some, refl}
use Rattle.play_wire.specs.Inside.{wire_asked}
use Rattle.play_wire.proofs.PlayLemmas.{names_kept}
use Rattle.play_wire.proofs.hosts.Hosts.execute_wire.Goals as goal

pub returns-in-Some : goal.returns-in-Some
returns-in-Some g c =
    let did = c.execute_ask.ensures.does in
    (did.0, did.1, (Some (wire_asked c.in-Some.ask), c.in-Some.ensures, did.2, c.execute_ask.ensures.names))

pub returns-in-None : goal.returns-in-None
returns-in-None g c = ([], refl, (None, c.in-None.ensures, (refl, refl), names_kept _ _ refl))
