use Rattle.std.proofs.Common.{◌≡◌, ℕ, suc, ◌+◌, List, [], ◌∷◌, ◌++◌, take, drop, length, refl, sym, ap, ◌∙◌, arith, subst, append_assoc, append-nil}
use Rattle.std.proofs.lemmas.Bool.{false≢true}
use Rattle.std.proofs.lemmas.Result.{err_from_is_err_and}
use Rattle.std.proofs.KnownBytes.{Appends-nil}
use Rattle.script_loop.specs.Inside.{Answered, BreaksLimit}
use Rattle.script_loop.proofs.StreamLemmas.{MoreBy-none, MoreBy-then}
use Rattle.script_loop.proofs.ChunkLemmas.{no_end-take, no_end-all, first-none, cut-at, cut-length, Answered-part, Breaks-part, Takes-on, Takes-stop, Takes-sent, Takes-unsent, Takes-longer, Takes-broken}
use Rattle.script_loop.proofs.serve.take_chunk.Goals as goal
use Rattle.script_loop.proofs.serve.take_chunk.Goals.{In-Some}

-- the rest of the chunk up to its first line end, and what follows it
cut : (g : _) (c : In-Some g) → c.loop-at.rest.now
    ≡ (take c.in-Some.at c.loop-at.rest.now ++ 10 ∷ []) ++ drop (suc c.in-Some.at) c.loop-at.rest.now
cut g c = cut-at c.loop-at.rest.now c.in-Some.at c.in-Some.ensures.0.high c.in-Some.ensures.1

pub loop-at-init : goal.loop-at-init
loop-at-init g c = record {
  room = rw c.requires.text (omega arith);
  within = c.requires.within;
  fewer = omega arith;
  counted = MoreBy-none _;
  taken = (
    [],
    refl,
    λ begin seen written h.
        ([], Appends-nil _, rw (append-nil seen, c.requires.text, append-nil (written ++ []), append-nil written) h),
  );
}

pub take_line-requires : goal.take_line-requires
take_line-requires g c =
    let kept = c.loop-at.invariant in
    let rest : List ℕ = c.loop-at.rest.now in (
      omega arith,
      record {
        within = kept.within;
        text = kept.room;
        part = no_end-take rest c.in-Some.at (first-none rest c.in-Some.at c.in-Some.ensures.0.before);
      },
    )

pub returns-in_err-now-clause-taken : goal.returns-in_err-now-clause-taken
returns-in_err-now-clause-taken g c = λ begin seen written h.
    let p = err_from_is_err_and c.from_residual.result c.from_residual.ensures.1 in
    let taken = c.loop-at.invariant.taken in
    let kept = taken.2 begin seen written h in
    rw (p.1, p.2)
    (Takes-stop _ _ _ _ taken.0 _ _ _ _ kept.0 _ _ _ c.take_line.new.text [] c.take_line.new.line _
    (taken.1
    ∙ ap (λ (t : List ℕ). taken.0 ++ t) (cut g (goal.at.returns-in_err-now-clause-taken g c).In-Some)) kept.1
    (c.in_err-now.ensures.taken begin _ (written ++ kept.0) kept.2))

pub loop-at-preserved : goal.loop-at-preserved
loop-at-preserved g c =
    let taken = c.loop-at.invariant.taken in
    let front : List ℕ = take c.in-Some.at c.loop-at.rest.now in
    let piece : List ℕ = front ++ 10 ∷ [] in
    let place : c.in-Some.at + 1 ≡ suc c.in-Some.at = omega arith in
    let after : c.split_at.result.1.now ≡ drop (suc c.in-Some.at) c.loop-at.rest.now =
    rw place at c.split_at.ensures.back in
    let split : c.loop-at.rest.now ≡ piece ++ c.split_at.result.1.now =
    rw after (cut g (goal.at.loop-at-preserved g c).In-Some) in
    record {
      room = c.in_ok-now.ensures.room;
      within = c.in_ok-now.ensures.within;
      fewer =
          omega (
            arith,
            c.loop-at.invariant.fewer,
            c.in_ok-now.ensures.fewer,
            cut-length c.loop-at.rest.now front c.split_at.result.1.now split,
          );
      counted = MoreBy-then 0 0 0 _ _ _ (omega arith) c.loop-at.invariant.counted c.in_ok-now.ensures.counted;
      taken = (
        taken.0 ++ piece,
        taken.1 ∙ ap (λ (t : List ℕ). taken.0 ++ t) split ∙ sym (append_assoc taken.0 piece _),
        λ begin seen written h.
            let kept = taken.2 begin seen written h in
            Takes-on _ _ _ _ taken.0 (taken.0 ++ piece) piece written kept.0 _ _ _ c.take_line.new.text _ _ refl kept.1
            (c.in_ok-now.ensures.taken begin _ (written ++ kept.0) kept.2),
      );
    }

pub returns-in_err-flush-clause-taken : goal.returns-in_err-flush-clause-taken
returns-in_err-flush-clause-taken g c = λ begin seen written h.
    let p = err_from_is_err_and c.from_residual-in_err-flush.result c.from_residual-in_err-flush.ensures.1 in
    let front = c.loop-at.invariant.taken in
    rw (p.1, p.2)
    (Takes-longer g.A.Answers.may_answer begin _ seen front.0 c.loop-at.rest.now c.args.chunk.now written _ _ [] []
    c.take_part-fits.new.line _ front.1
    (Takes-unsent g.A.Answers.may_answer begin _ seen front.0 c.loop-at.line c.loop-at.now written c.loop-at.text
    c.take_part-fits.new.line _ _ _ _
    (front.2 begin seen written h) c.in_err-flush.ensures.sent))

pub returns-then-fits-clause-taken : goal.returns-then-fits-clause-taken
returns-then-fits-clause-taken g c = λ begin seen written h.
    let taken = c.loop-at.invariant.taken in
    let kept = taken.2 begin seen written h in
    let rest : List ℕ = c.loop-at.rest.now in
    let none = no_end-all rest (first-none rest (length rest) c.in_default.ensures) in
    let part = Answered-part _ begin _ _ _ _ _ rest kept.2 none (c.if-fits.ensures.room.0 refl) in
    let whole = append_assoc seen taken.0 rest ∙ ap (λ (t : List ℕ). seen ++ t) (sym taken.1) in
    rw (c.if-fits.ensures.line refl)
    (Takes-sent g.A.Answers.may_answer begin _ seen c.args.chunk.now (c.loop-at.line ++ rest) c.loop-at.now written
    c.loop-at.text _ _ _ (
      kept.0,
      kept.1,
      subst (λ (s : List ℕ). Answered g.A.Answers.may_answer begin (g.A.Answers.state c.loop-at.machine)
          s (c.loop-at.line ++ rest) c.loop-at.now ((written ++ kept.0) ++ c.loop-at.text)) whole part,
    )
    c.in_ok-flush.ensures.sent)

pub returns-else-fits-clause-taken : goal.returns-else-fits-clause-taken
returns-else-fits-clause-taken g c = λ begin seen written h.
    let taken = c.loop-at.invariant.taken in
    let kept = taken.2 begin seen written h in
    let rest : List ℕ = c.loop-at.rest.now in
    let none = no_end-all rest (first-none rest (length rest) c.in_default.ensures) in
    let broken =
    Breaks-part _ begin _ _ _ _ _ rest [] kept.2 none c.loop-at.invariant.within.short
    (λ room. false≢true (c.if-fits.ensures.room.1 room)) in
    Takes-broken g.A.Answers.may_answer begin _ seen taken.0 rest c.args.chunk.now c.loop-at.line c.loop-at.now written
    kept.0 c.loop-at.text [] c.take_part-fits.new.line _ _ _
    taken.1 kept.2 (subst (λ (t : List ℕ). BreaksLimit (seen ++ taken.0) t) (append-nil rest) broken) kept.1
    c.in_ok-flush.ensures.sent

pub returns-in_err-now-clause-empty : goal.returns-in_err-now-clause-empty
returns-in_err-now-clause-empty g c = rw (err_from_is_err_and c.from_residual.result c.from_residual.ensures.1).1 tt

pub returns-in_err-now-clause-within : goal.returns-in_err-now-clause-within
returns-in_err-now-clause-within g c = rw (err_from_is_err_and c.from_residual.result c.from_residual.ensures.1).1 tt

pub returns-in_err-now-clause-fewer : goal.returns-in_err-now-clause-fewer
returns-in_err-now-clause-fewer g c = rw (err_from_is_err_and c.from_residual.result c.from_residual.ensures.1).1 tt

pub returns-in_err-flush-clause-empty : goal.returns-in_err-flush-clause-empty
returns-in_err-flush-clause-empty g c =
    rw (err_from_is_err_and c.from_residual-in_err-flush.result c.from_residual-in_err-flush.ensures.1).1 tt

pub returns-in_err-flush-clause-within : goal.returns-in_err-flush-clause-within
returns-in_err-flush-clause-within g c =
    rw (err_from_is_err_and c.from_residual-in_err-flush.result c.from_residual-in_err-flush.ensures.1).1 tt

pub returns-in_err-flush-clause-fewer : goal.returns-in_err-flush-clause-fewer
returns-in_err-flush-clause-fewer g c =
    rw (err_from_is_err_and c.from_residual-in_err-flush.result c.from_residual-in_err-flush.ensures.1).1 tt
