use Rattle.std.proofs.Common.{◌≡◌, List, true, false, ap, arith}
use Rattle.std.specs.Prelude.{slice_set}
use Rattle.flat_ether.specs.Links.{LinkState}
use Rattle.ether_host.specs.Inside.{link_seen}
use Rattle.segment.specs.Inside.{view}
use Rattle.segment.proofs.Frames.{map_get, map_set}
use Rattle.segment.proofs.Walking.{get_at}
use Rattle.segment.proofs.segment.Segment.tick_host.Goals as goal

never : true ≡ false → ⊥
never e = cc

pub returns-clause-ticked : goal.returns-clause-ticked
returns-clause-ticked c =
    let v = view c.args.self.now in
    let stack = c.index_mut-2.result.now in
    let link = c.index_mut.result.now in
    record {
      yes = λ _. record {
        stack = stack;
        link = link_seen link;
        stack' = c.tick.new.stack;
        link' = link_seen c.tick.new.self;
        stack_is =
            get_at v.stacks c.args.place stack stack (omega (arith, c.len.ensures, c.if-place-len.false))
            c.index_mut-2.ensures.value;
        link_is =
            map_get link_seen c.args.self.now.links.items c.args.place link
            (omega (arith, c.len-else-place-len.ensures, c.if-place-len-2.false)) c.index_mut.ensures.value;
        goes = c.tick.ensures;
        is =
            ap (λ (links : List LinkState). record v {
              stacks = slice_set v.stacks c.args.place c.tick.new.stack;
              links = links;
            })
            (map_set link_seen c.args.self.now.links.items c.args.place c.tick.new.self);
      };
      no = λ e. absurd (never e);
    }
