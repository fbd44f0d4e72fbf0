use Rattle.std.proofs.Common.{◌++◌, length}
use Rattle.net_stack.specs.Stack.{state_of}
use Rattle.page.specs.States.{all_sockets, below, cluster_object, output_objects, unfinished_objects}
use Rattle.page.proofs.Lines.{put_then}
use Rattle.page.proofs.mbufs.put_state.Goals as goal

pub returns : goal.returns
returns c =
    let s = c.args.stack.now in
    let late = below (unfinished_objects s) (length (state_of s).unfinished) in
    let counts = below (cluster_object s) s.pool.clusters in
    let first = c.put_sockets.new.text.items in
    let second = c.put_output.new.text.items in
    let third = c.put_all_unfinished.new.text.items in
    let end = c.put_clusters.new.text.items in
    put_then c.args.text.now.items first end (all_sockets s) (output_objects s ++ (late ++ counts))
    c.in_ok-put_sockets.ensures
    (put_then first second end (output_objects s) (late ++ counts) c.in_ok-put_output.ensures
    (put_then second third end late counts c.in_ok-put_all_unfinished.ensures c.in_ok-put_clusters.ensures))
