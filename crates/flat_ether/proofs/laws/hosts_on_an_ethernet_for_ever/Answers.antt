-- The laws of two machines without end, of the machines of the two hosts.
use Rattle.std.proofs.Common.{List, subst}
use Rattle.flat_model.specs.Machine.Event.{Receive, Received}
use Rattle.flat_model.specs.Machine.Ledger.{exact_ledger}
use Rattle.flat_model.specs.Machine.State.{boot}
use Rattle.flat_model.specs.Runs.Run.{Turn, Leads}
use Rattle.flat_wire.specs.Ever.{AreAllSent, AreWiredWhole}
use Rattle.flat_wire.specs.Wire.{WasSent}
use Rattle.flat_ether.specs.Ever.{acts_passed}
use Rattle.flat_ether.specs.Hosts.{host_up}
use Rattle.flat_ether.proofs.Endless.{done_of, endless, turns_are, whole}
use Rattle.flat_ether.proofs.Marked.{AreMarked, seen_before}
use Rattle.flat_ether.proofs.Runs.{makes_steps, makes_turns, split, turns_done}
use Rattle.flat_ether.proofs.laws.hosts_on_an_ethernet_for_ever.Goals as goal

pub returns-clause-whole : goal.returns-clause-whole
returns-clause-whole a c d l m sent before after s t fd most sender bytes w from =
    let turn : Turn = record { event = Receive fd most; reply = Received sender bytes } in
    let first = makes_steps c l sent s w.first_acts in
    let second = split d m before after turn t w.second_acts in
    let wire =
    subst (λ (ts : List Turn). AreWiredWhole exact_ledger exact_ledger c d first.makes.turns ts s.machine t.machine)
    second.turns_are (whole c d l m sent _ s t w first second.all) in
    record {
      makes = first.makes;
      then' = second.then';
      makes_then = second.first;
      was =
          a.wire_law_of_whole.ensures.received c d first.makes.turns second.first.turns second.rest s.machine t.machine
          fd most sender bytes wire from;
    }

pub returns-clause-whole_waits : goal.returns-clause-whole_waits
returns-clause-whole_waits a c d l m sent came s t socket datagram w in_sockets in_queue from =
    let first = makes_steps c l sent s w.first_acts in
    let second = makes_turns d m came t w.second_acts in
    let law =
    a.wire_law_of_whole.ensures.waits c d first.makes.turns second.turns s.machine t.machine
    (whole c d l m sent came s t w first second) socket datagram in_sockets in_queue from in
    record { makes = first.makes; to = law.0; answered = law.1; port = law.2; here = law.3 }

pub returns-clause-received : goal.returns-clause-received
returns-clause-received a c d l m sent before after s t born fd most sender bytes w from =
    let turn : Turn = record { event = Receive fd most; reply = Received sender bytes } in
    let done = done_of (host_up c l) sent s w.first_acts in
    let first = makes_steps c l (acts_passed sent) s done in
    let second = split d m before after turn t w.second_acts in
    let steps =
    subst (λ (ts : List Turn). AreMarked exact_ledger (boot d) ts t.machine second.shown) second.turns_are
    second.steps in
    let leads =
    subst (λ (ts : List Turn). Leads exact_ledger (boot d) ts t.machine) second.turns_are second.all.leads in
    record {
      makes = first.makes;
      then' = second.then';
      makes_then = second.first;
      was = subst (λ (ts : List Turn). WasSent exact_ledger exact_ledger c d ts second.first.turns s.machine fd most
          sender bytes) (turns_are c l (acts_passed sent) s _ first)
          (a.wire_law_for_ever.ensures.received c d _ second.first.turns second.rest s.machine t.machine
          (λ k. born (seen_before steps.all k)) fd most sender bytes
          (endless c d l m sent _ s t born w first _ leads second.shown second.shown_are steps) from);
    }

pub returns-clause-waits : goal.returns-clause-waits
returns-clause-waits a c d l m sent came s t born socket datagram w in_sockets in_queue from =
    let done = done_of (host_up c l) sent s w.first_acts in
    let first = makes_steps c l (acts_passed sent) s done in
    let second = makes_steps d m came t w.second_acts in
    let law =
    subst (λ (ts : List Turn). AreAllSent exact_ledger c d ts s.machine t.machine)
    (turns_are c l (acts_passed sent) s _ first)
    (a.wire_law_for_ever.ensures.waits c d _ second.makes.turns s.machine t.machine
    (λ k. born (seen_before second.steps.all k))
    (endless c d l m sent came s t born w first second.makes.turns second.makes.leads _
    (turns_done d m (host_up d m) came t w.second_acts) second.steps)) socket datagram in_sockets in_queue from in
    record { makes = first.makes; to = law.0; answered = law.1; port = law.2; here = law.3 }
