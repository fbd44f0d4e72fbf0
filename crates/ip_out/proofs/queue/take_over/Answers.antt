use Rattle.std.proofs.Common.{ℕ, List, ◌++◌, length, take, sym, ap, subst, ◌∙◌, arith}
use Rattle.std.proofs.lemmas.Bool.{le-ltb}
use Rattle.std.proofs.lemmas.List.{take_all}
use Rattle.params.specs.declared.TheConstants.{OUTPUT_QUEUE_PACKETS}
use Rattle.flat_model.specs.Amounts.Weight.{Item}
use Rattle.mbuf_chain.specs.Owners.{Moves}
use Rattle.mbuf_chain.specs.Train.{TrainView, numbers}
use Rattle.mbuf_chain.proofs.Laws.Owners.{moves_none}
use Rattle.mbuf_chain.proofs.Laws.Trains.{none_left}
use Rattle.ip_out.specs.Packets.{BeginPlain, train_packets}
use Rattle.ip_out.specs.Queues.{IsOutputQueue}
use Rattle.ip_out.proofs.Queues.{none_wait, packets_len}
use Rattle.ip_out.proofs.queue.take_over.Goals as goal

pub returns : goal.returns
returns c =
    let p = c.args.pool.now in
    let ys : List Item = train_packets p c.args.more in
    let after = c.replace.ensures.after in
    let none = none_wait p c.args.train.now c.requires.none in
    let few = packets_len p c.args.more c.requires.more in
    record {
      packets =
          ap (train_packets p) after
          ∙ sym (ap (λ (xs : List Item). take OUTPUT_QUEUE_PACKETS (xs ++ ys)) none
          ∙ take_all OUTPUT_QUEUE_PACKETS ys (omega (arith, few, c.requires.few)));
      is_lost = sym (le-ltb _ _ (omega (arith, ap (λ (xs : List Item). length (xs ++ ys)) none, few, c.requires.few)));
      plain = λ before more. subst (BeginPlain p) (sym after) more;
      queue = subst (IsOutputQueue p) (sym after) record { held = c.requires.more; room = c.requires.few };
      moves =
          subst (λ (t : TrainView). Moves p (numbers p c.args.train.now ++ numbers p c.args.more) p (numbers p t))
          (sym after)
          (subst (λ (xs : List ℕ). Moves p (xs ++ numbers p c.args.more) p (numbers p c.args.more))
          (sym (none_left p c.args.train.now c.requires.none)) (moves_none _ _));
    }
