use Rattle.std.proofs.Common.{◌++◌}
use Rattle.net_stack.specs.declared.questions.Holder.TheVariants.{Unfinished}
use Rattle.page.specs.States.{held_objects, holder_field, key_fields}
use Rattle.page.proofs.Lines.{put_then}
use Rattle.page.proofs.mbufs.put_late.Goals as goal

pub returns : goal.returns
returns c =
    let s = c.args.stack.now in
    let held = held_objects s (Unfinished c.args.place) 1 in
    let first = c.put_holder.new.text.items in
    let second = c.put_key.new.text.items in
    let end = c.put_held.new.text.items in
    put_then c.args.text.now.items first end (holder_field s c.args.place) (key_fields c.args.datagram ++ held)
    c.in_ok-put_holder.ensures
    (put_then first second end (key_fields c.args.datagram) held c.in_ok-put_key.ensures c.in_ok-put_held.ensures)
