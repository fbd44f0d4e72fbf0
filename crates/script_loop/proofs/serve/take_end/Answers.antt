use Rattle.std.proofs.Common.{◌≡◌, ◌≢◌, ℕ, ◌+◌, List, [], ◌∷◌, ◌++◌, refl, arith, subst, append_assoc}
use Rattle.std.proofs.lemmas.Bool.{false≢true}
use Rattle.script_loop.specs.Inside.{Answered}
use Rattle.script_loop.proofs.ChunkLemmas.{Answered-end, Answered-part, Breaks-last, Breaks-part}
use Rattle.script_loop.proofs.serve.take_end.Goals as goal

pub returns-then-count-eq-MOST_LINES-clause-taken : goal.returns-then-count-eq-MOST_LINES-clause-taken
returns-then-count-eq-MOST_LINES-clause-taken g c = λ begin seen printed h.
    let last : c.args.count ≡ 10000000 = omega arith in
    (Breaks-last _ begin _ seen c.args.line.now c.args.count printed c.args.part.now h last, refl, h.printed)

pub returns-then-not-take_part-clause-taken : goal.returns-then-not-take_part-clause-taken
returns-then-not-take_part-clause-taken g c = λ begin seen printed h. (
  Breaks-part _ begin _ seen c.args.line.now c.args.count printed c.args.part.now (10 ∷ []) h c.requires.part
      c.requires.within.short
      (λ room. false≢true (c.if-not-take_part.ensures.room.1 room)),
  refl,
  h.printed,
)

pub returns-clause-taken : goal.returns-clause-taken
returns-clause-taken g c = λ begin seen printed h.
    let more : c.args.count ≢ 10000000 = omega arith in
    let answered = c.answer.ensures in
    let part =
    Answered-part _ begin _ seen c.args.line.now c.args.count printed c.args.part.now h c.requires.part
    (c.if-not-take_part.ensures.room.0 refl) in
    let line = c.if-not-take_part.ensures.line refl in
    rw c.clear.ensures (
      answered.0,
      answered.2,
      subst (λ (s : List ℕ). Answered g.A.Answers.may_answer begin (g.A.Answers.state c.answer.new.self) s []
          (c.args.count + 1) (printed ++ answered.0))
          (append_assoc seen c.args.part.now (10 ∷ []))
          (Answered-end _ begin _ _ _ _ _ printed answered.0 part more (rw (c.as_slice.ensures, line) at answered.1)),
    )
