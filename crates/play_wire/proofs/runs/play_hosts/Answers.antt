use Rattle.std.proofs.Common.{refl, subst, take}
use Rattle.script_loop.proofs.Laws.{Moves-none}
use Rattle.script_loop.specs.Serves.{Serves}
use Rattle.segment.specs.Inside.{view}
use Rattle.play_wire.specs.Inside.{play_with}
use Rattle.play_script.specs.declared.print.TheConstants.{NAME}
use Rattle.play_wire.specs.Reports.{WirePlay, Reports, wire_started}
use Rattle.play_wire.specs.declared.hosts.TheConstants.{PACKETS}
use Rattle.play_wire.proofs.RunLemmas.{played}
use Rattle.play_wire.proofs.runs.play_hosts.Goals as goal

pub returns-in_default-clause-served : goal.returns-in_default-clause-served
returns-in_default-clause-served g c =
    let begun = wire_started c.args.start.seed c.args.style.form (take NAME c.args.style.name.now) in
    rw c.unplayed.ensures (begun, (Moves-none _ _, refl), refl, refl)

pub returns-in_default-clause-lawful : goal.returns-in_default-clause-lawful
returns-in_default-clause-lawful g c new lines printed prints =
    played _ _ _ new lines printed
    (λ acts i j first second s t before after fd most sender bytes on is from.
    c.hosts_on_a_segment.ensures PACKETS i j first second s t acts new.segment before after fd most sender bytes on is
    from)
    prints

pub returns-clause-served : goal.returns-clause-served
returns-clause-served g c = (
  (let m = c.serve_script-outcome.new.machine in play_with (view m.hosts.segment) m.hosts.names.items m.printer),
  subst (λ (p : WirePlay). Serves Reports p
      ((let m = c.serve_script-outcome.new.machine in play_with (view m.hosts.segment) m.hosts.names.items m.printer))
      (g.R.Read.remaining c.args.reader.now) (g.R.Read.remaining c.serve_script-outcome.new.reader)
      (g.W.Write.contents c.args.writer.now) (g.W.Write.contents c.serve_script-outcome.new.writer)
      c.serve_script-outcome.result)
      c.in-Some.ensures c.serve_script-outcome.ensures.served,
  refl,
  refl,
)

pub returns-clause-lawful : goal.returns-clause-lawful
returns-clause-lawful g c new lines printed prints =
    played _ _ _ new lines printed
    (λ acts i j first second s t before after fd most sender bytes on is from.
    c.hosts_on_a_segment.ensures PACKETS i j first second s t acts new.segment before after fd most sender bytes on is
    from)
    prints
