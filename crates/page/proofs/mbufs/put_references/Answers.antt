use Rattle.std.proofs.Common.{◌++◌}
use Rattle.std.specs.Prelude.{codes, decimal}
use Rattle.page.proofs.Lines.{put_then}
use Rattle.page.proofs.mbufs.put_references.Goals as goal

pub returns : goal.returns
returns c =
    let first = c.put_field.new.text.items in
    let second = c.put_field-2.new.text.items in
    let end = c.extend_from_slice.new.self.items in
    let count = codes ",\"references\":" ++ decimal c.args.count in
    put_then c.args.text.now.items first end (codes "{\"cluster\":" ++ decimal c.args.cluster) (count ++ codes "}\n")
    c.in_ok-put_field.ensures
    (put_then first second end count (codes "}\n") c.in_ok-put_field-2.ensures c.in_ok-extend_from_slice.ensures.items)
