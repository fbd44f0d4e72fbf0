use Rattle.page.proofs.Entries as entries
use Rattle.page.proofs.records.put_records.Goals as goal

pub loop-count-init : goal.loop-count-init
loop-count-init c = entries.none _ _

pub loop-count-preserved : goal.loop-count-preserved
loop-count-preserved c =
    entries.more_of c.args.records.now c.args.text.now.items c.loop-count.records c.next_record.new.self
    c.loop-count.text.items c.put_record.new.text.items c.bytes.result.now c.loop-count.count c.in-Ok-Some.record
    c.loop-count.invariant (rw c.in-Ok-Some.field-0-is at c.in-Ok-Some.ensures) c.bytes.ensures
    c.in_ok-put_record-in-Ok-Some.ensures
