use Rattle.std.proofs.Common.{rules, ap₂, subst, ◌∙◌}
use Rattle.flat_model.specs.declared.counters.Counters.{Counters}
use Rattle.net_stack.specs.Stack.{state_of}
use Rattle.play_text.specs.Fates.{fate_of}
use Rattle.play_why.specs.Findings.{IsVerdict}
use Rattle.play_why.specs.Kept.{Joins, Reclaims, Remembers}
use Rattle.play_why.specs.Verdicts.{judged}
use Rattle.play_why.proofs.judge.Judge.receive.Goals as goal

pub returns : goal.returns
returns c =
    let old = c.args.self.now in
    let packet = c.args.arrival.now.packet.now in
    let ready = state_of c.prepare.new.machine in
    let here = state_of c.arrive.new.machine in
    let before = c.counters_of-before in
    let after = c.counters_of-after in
    let seen = c.seen_by-seen.result in
    let verdict = c.of-verdict.result in record {
      gathered = c.gather.new.self;
      joined = c.join.new.self;
      spared = c.reclaim.new.self;
      ready = ready;
      here = here;
      seen = seen;
      gathers = c.in_ok-gather.ensures;
      opens = c.in_ok-prepare.ensures;
      comes = c.arrive.ensures;
      joins =
          subst (λ (a : Counters). Joins packet a here.counters c.gather.new.self c.join.new.self) before.ensures
          (subst (λ (b : Counters). Joins packet before.result b c.gather.new.self c.join.new.self) after.ensures
          c.join.ensures);
      is = c.seen_by-seen.ensures;
      verdict_is =
          subst (λ (a : Counters). IsVerdict seen a here.counters here old.host.address verdict) before.ensures
          (subst (λ (b : Counters). IsVerdict seen before.result b here old.host.address verdict) after.ensures
          c.of-verdict.ensures);
      prints = c.put_record.ensures;
      counts =
          c.count_record.ensures ∙ ap₂ (λ (a b : Counters). judged seen a b old.verdicts) before.ensures after.ensures;
      totals = search rules;
      takes = search rules;
      reclaims =
          subst (λ (a : Counters). Reclaims packet a here.counters c.join.new.self c.reclaim.new.self) before.ensures
          (subst (λ (b : Counters). Reclaims packet before.result b c.join.new.self c.reclaim.new.self) after.ensures
          c.in_ok-reclaim.ensures);
      remembers =
          subst (λ (a : Counters). Remembers (fate_of a here.counters) c.args.arrival.now.number packet
          c.reclaim.new.self c.remember.new.parts) before.ensures
          (subst (λ (b : Counters). Remembers (fate_of before.result b) c.args.arrival.now.number packet
          c.reclaim.new.self c.remember.new.parts) after.ensures c.in_ok-remember.ensures);
      losses = search rules;
      ticks = search rules;
      layout = search rules;
      address = search rules;
      broadcast = search rules;
    }
