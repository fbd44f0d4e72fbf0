use Rattle.std.proofs.Common.{refl}
use Rattle.flat_model.specs.Scripts.Texts.{hex_text}
use Rattle.segment.specs.Inside.{view}
use Rattle.play_script.specs.Views.{plain_line}
use Rattle.play_wire.specs.Inside.{outcome_of}
use Rattle.play_wire.proofs.PlayLemmas.{done_by_host, done_by_nobody, done_by_none, done_by_wire}
use Rattle.play_wire.proofs.WireLemmas.{packet_asks_none}
use Rattle.play_wire.proofs.player.execute_words.Goals as goal

pub returns-in-Some : goal.returns-in-Some
returns-in-Some g c play e f =
    done_by_host play c.args.target.now.named c.args.target.now.host (plain_line c.args.line.now)
    (plain_line c.args.line.now)
    (outcome_of c.execute_host.result c.execute_host.new.report.reply_line c.execute_host.new.report.below)
    (view c.args.hosts.now.segment)
    (view c.execute_host.new.segment) c.args.hosts.now.names.items c.in-Some.place
    e f c.if-target.true c.in-Some.ensures
    refl c.execute_host.ensures

pub returns-in-None : goal.returns-in-None
returns-in-None g c play e f =
    done_by_none play c.args.target.now.named c.args.target.now.host (plain_line c.args.line.now)
    (view c.args.hosts.now.segment)
    c.args.hosts.now.names.items e f c.if-target.true

pub returns-then-line : goal.returns-then-line
returns-then-line g c play e f =
    done_by_nobody play c.args.target.now.named c.args.target.now.host (plain_line c.args.line.now)
    (view c.args.hosts.now.segment) c.args.hosts.now.names.items e f c.if-target.false
    (packet_asks_none c.args.line.now.named (hex_text c.args.line.now.packet) c.args.line.now.words c.if-line.true)

pub returns-else-line : goal.returns-else-line
returns-else-line g c play e f = rw c.if-line.false
    (done_by_wire play c.args.target.now.named c.args.target.now.host c.bytes_of.result.now c.args.line.now.words
    (outcome_of c.execute_wire.result c.execute_wire.new.report.reply_line c.execute_wire.new.report.below)
    (view c.args.hosts.now.segment)
    (view c.execute_wire.new.self.segment) c.args.hosts.now.names.items c.execute_wire.new.self.names.items e f
    c.if-target.false c.bytes_of.ensures.is c.execute_wire.ensures)
