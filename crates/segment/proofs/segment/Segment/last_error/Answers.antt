use Rattle.std.proofs.Common.{◌≡◌, ◌∙◌, List, Some, ap, arith, sym}
use Rattle.std.specs.Prelude.{slice_get, slice_set}
use Rattle.flat_ether.specs.Links.{LinkState}
use Rattle.ether_host.specs.Inside.{link_seen}
use Rattle.net_stack.specs.Stack.{StackView}
use Rattle.segment.specs.Inside.{view}
use Rattle.segment.proofs.Framing.{set_back}
use Rattle.segment.proofs.Frames.{map_get, map_set}
use Rattle.segment.proofs.Walking.{get_at}
use Rattle.segment.proofs.segment.Segment.last_error.Goals as goal

pub returns-clause-asked : goal.returns-clause-asked
returns-clause-asked c =
    let v = view c.args.self.now in
    let stack = c.index.result.now in
    let link = c.index_mut.result.now in
    let here : slice_get v.stacks c.args.place ≡ Some stack =
    get_at v.stacks c.args.place stack stack (omega (arith, c.len.ensures, c.if-place-len.false)) c.index.ensures in
    record {
      stack = stack;
      link = link_seen link;
      stack' = stack;
      link' = link_seen c.last_error.new.self;
      stack_is = here;
      link_is =
          map_get link_seen c.args.self.now.links.items c.args.place link
          (omega (arith, c.len-else-place-len.ensures, c.if-place-len-2.false)) c.index_mut.ensures.value;
      goes = c.last_error.ensures;
      is =
          ap (λ (links : List LinkState). record v { links = links })
          (map_set link_seen c.args.self.now.links.items c.args.place c.last_error.new.self)
          ∙ ap (λ (stacks : List StackView). record v {
            stacks = stacks;
            links = slice_set v.links c.args.place (link_seen c.last_error.new.self);
          })
          (sym (set_back v.stacks c.args.place stack here));
    }
