-- The effect of a call on a box's stack is its effect on the stack of the handle.
use Rattle.std.proofs.Common.{◌≡◌, ◌==◌, if◌then◌else◌, true, false, Bool, ℤ, ◌∙◌, Option, None, Some, option_map, eqb-true, ap, refl, sym, subst}
use mir.Syntax.{w32}
use mir.Val.{SFits, of_z, to_z}
use Rattle.std.proofs.lemmas.Int.{to_z-of_z}
use Rattle.net_stack.specs.Stack.{StackView}
use Rattle.libbsdudp.proofs.Boxes.{has}
use Rattle.libbsdudp.specs.declared.handle.Handle.{Handle}
use Rattle.libbsdudp.specs.Calls.{Answers, AnswersQuestion, stack_in}
use Rattle.libbsdudp.specs.HandleLends.{with_value}
use Rattle.libbsdudp.specs.Held.{Boxed}

pub answered : {before after : Option StackView} (answer : ℤ) (idle : Type 0) (call : StackView → StackView → Type 0)
    (s n : StackView) → before ≡ Some s → after ≡ Some n → call s n → Answers before answer after idle call
answered {after = after} answer idle call s n is will did =
    subst (λ (b : Option StackView). Answers b answer after idle call) (sym is) (n, will, did)

pub asked : {before after : Option StackView} (answer : ℤ) (idle : Type 0) (Says : StackView → Type 0) (s : StackView)
    → before ≡ Some s → after ≡ Some s → Says s → Answers before answer after idle (AnswersQuestion Says)
asked answer idle Says s is will says =
    answered answer idle (AnswersQuestion Says) s s is will (record { same = refl; says = says })

-- the same for a result code as the machine passes it
pub answered_by : {before after : Option StackView} (answer : ℤ) (idle : Type 0)
    (Call : ℤ → StackView → StackView → Type 0)
    (s n : StackView) → SFits w32 answer → before ≡ Some s → after ≡ Some n → Call answer s n
    → Answers before (to_z w32 (of_z w32 answer)) after idle (Call (to_z w32 (of_z w32 answer)))
answered_by {before = before} {after = after} answer idle Call s n fits is will did =
    subst (λ (z : ℤ). Answers before z after idle (Call z)) (sym (to_z-of_z w32 answer fits))
    (answered answer idle (Call answer) s n is will did)

-- a handle with a mark has a stack
pub held_stack : (h : Handle) → (h.live == 1651729525) ≡ true → (s : StackView) × (stack_in h ≡ Some s)
held_stack h live =
    let kept = has h.held.kept (h.full (eqb-true h.live 1651729525 live)) in (
      kept.0.stack,
      ap (λ (b : Bool). if b then option_map (λ x. x.stack) h.held.kept else None) live
          ∙ ap (option_map (λ x. x.stack)) kept.1,
    )

-- one without it has none
pub no_stack_in : (h : Handle) → (h.live == 1651729525) ≡ false → stack_in h ≡ None
no_stack_in h dead = ap (λ (b : Bool). if b then option_map (λ x. x.stack) h.held.kept else None) dead

-- a handle with a stack has the new value of its stack after a call
pub has_new : (h : Handle) (w : Boxed) → (h.live == 1651729525) ≡ true → stack_in (with_value h w) ≡ Some w.stack
has_new h w live = ap (λ (b : Bool). if b then Some w.stack else None) live

pub called : (h : Handle) (w : Boxed) {live : Bool} (answer : ℤ) (idle : Type 0)
    (Call : ℤ → StackView → StackView → Type 0) (s : StackView) → SFits w32 answer → live ≡ true
    → live ≡ (h.live == 1651729525) → stack_in h ≡ Some s → Call answer s w.stack
    → Answers (stack_in h) (to_z w32 (of_z w32 answer)) (stack_in (with_value h w)) idle
    (Call (to_z w32 (of_z w32 answer)))
called h w answer idle Call s fits up live is did =
    answered_by answer idle Call s w.stack fits is (has_new h w (sym live ∙ up)) did

-- the same for a query, which leaves the value as it is
pub questioned : (h : Handle) (w : Boxed) {live : Bool} (answer : ℤ) (idle : Type 0) (Says : ℤ → StackView → Type 0)
    → SFits w32 answer → live ≡ true → live ≡ (h.live == 1651729525) → stack_in h ≡ Some w.stack
    → Says answer w.stack
    → Answers (stack_in h) (to_z w32 (of_z w32 answer)) (stack_in (with_value h w)) idle
    (AnswersQuestion (Says (to_z w32 (of_z w32 answer))))
questioned h w answer idle Says fits up live is says =
    called h w answer idle (λ z. AnswersQuestion (Says z)) w.stack fits up live is
    (record { same = refl; says = says })
