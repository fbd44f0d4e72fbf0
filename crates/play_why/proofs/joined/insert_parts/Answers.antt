use Rattle.std.proofs.Common.{◌≤◌, List, Option, refl, sym, subst, take, arith}
use Rattle.std.specs.Prelude.{IfSome}
use Rattle.flat_model.specs.Fragments.Overlay.{Fragment, Held}
use Rattle.play_why.specs.Joined.{IsReassembled, fragments_of}
use Rattle.play_why.proofs.JoinLemmas.{parts_more}
use Rattle.play_why.proofs.joined.insert_parts.Goals as goal

pub loop-part-init : goal.loop-part-init
loop-part-init c = record {
  table = record { map = c.requires.empty; reach_is = refl };
  within = record {
    len = c.requires.len;
    most = omega arith;
    past = λ k h. c.requires.empty k;
    firsts = λ k. subst (λ (held : Option Held). IfSome held (λ it. it.piece.first ≤ 0)) (sym (c.requires.empty k)) tt;
  };
}

pub loop-part-preserved : goal.loop-part-preserved
loop-part-preserved c = record {
  table =
      subst (λ (fs : List Fragment). IsReassembled c.insert_part-reach.new.spots c.insert_part-reach.result fs)
      (parts_more c.args.key c.args.parts.now c.loop-part.part-index c.part-item.result (omega arith) c.part-item.is)
      (c.insert_part-reach.ensures.table (fragments_of c.args.key (take c.loop-part.part-index c.args.parts.now))
      c.loop-part.invariant.table);
  within = c.insert_part-reach.ensures.within;
}
