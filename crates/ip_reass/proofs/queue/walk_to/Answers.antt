use Rattle.std.proofs.Common.{◌≡◌, ◌+◌, ◌<◌, ℕ, drop, length, refl, sym, ◌∙◌, subst, arith}
use Rattle.ip_reass.specs.Fragments.{fragments, end_of_fragment}
use Rattle.ip_reass.specs.Inside.Walks.{AllAbove, fragment_at}
use Rattle.ip_reass.proofs.Steps.{begin_is, end_is}
use Rattle.ip_reass.proofs.Walks.{Found, found_none, found_more, length-fragments, end_at, above_from}
use Rattle.ip_reass.proofs.queue.walk_to.Goals.{In-Some}
use Rattle.ip_reass.proofs.queue.walk_to.Goals as goal

pub fragments-init : goal.fragments-init
fragments-init c =
    record { place = tt; found = found_none c.args.offset 0 (fragments c.args.pool.now c.args.train.now) refl }

inside : (c : In-Some) → c.in-Some.at.index < length (fragments c.args.pool.now c.args.train.now)
inside c =
    omega (
      arith,
      c.in-Some.ensures.1.within,
      length-fragments c.args.pool.now c.args.train.now c.requires.held,
    )

pub returns-then-begin-offset-clause-above : goal.returns-then-begin-offset-clause-above
returns-then-begin-offset-clause-above c =
    subst (λ (n : ℕ). AllAbove c.args.offset (drop n (fragments c.args.pool.now c.args.train.now))) c.in-Some.ensures.0
    (above_from c.args.offset 0 c.in-Some.at.index (fragments c.args.pool.now c.args.train.now) c.requires.apart
    (inside (goal.at.returns-then-begin-offset-clause-above c).In-Some)
    (omega (
      arith,
      begin_is c.args.pool.now c.args.train.now c.in-Some.at.index c.requires.held c.in-Some.ensures.1.within,
      c.begins-begin.ensures,
    )))

ended : (c : goal.After-len_at)
    → c.begins-begin.result + c.len_at.result
    ≡ end_of_fragment (fragment_at (fragments c.args.pool.now c.args.train.now) c.in-Some.at.index)
ended c =
    end_is c.args.pool.now c.args.train.now c.in-Some.at.index c.begins-begin.result c.len_at.result c.requires.held
    c.in-Some.ensures.1.within c.begins-begin.ensures c.len_at.ensures

pub overflow_add-found : goal.overflow_add-found
overflow_add-found c =
    omega (
      arith,
      ended c,
      end_at 65515 (fragments c.args.pool.now c.args.train.now) c.in-Some.at.index c.requires.small
          (inside (goal.at.overflow_add-found c).In-Some),
    )

pub fragments-preserved : goal.fragments-preserved
fragments-preserved c = record {
  place = c.in-Some.ensures.1;
  found =
      found_more c.args.offset c.in-Some.at.index (c.in-Some.at.index + 1) c.begins-begin.result c.fragments.found.end
      (c.begins-begin.result + c.len_at.result) (fragments c.args.pool.now c.args.train.now)
      (subst (λ (n : ℕ). Found c.args.offset n c.fragments.found.end (fragments c.args.pool.now c.args.train.now))
      (sym c.in-Some.ensures.0) c.fragments.invariant.found)
      (inside (goal.at.fragments-preserved c).In-Some)
      (c.begins-begin.ensures ∙ begin_is c.args.pool.now c.args.train.now c.in-Some.at.index c.requires.held
      c.in-Some.ensures.1.within)
      c.if-begin-offset.false (ended c) refl;
}
