-- The turns and the calls of acts, and how many of them are sends that used an identification.
use Rattle.std.proofs.Common.{◌≡◌, inl, inr, ℕ, ◌+◌, ◌≤◌, List, [], ◌∷◌, ◌++◌, Bool, cond, refl, sym, ap, ◌∙◌, subst, arith}
use Rattle.std.specs.Prelude.{◌==◌, not, count_by}
use Rattle.std.proofs.lemmas.Bool.{eq-eqb}
use Rattle.std.proofs.lemmas.List.{append_assoc, append-nil, map-append}
use Rattle.flat_model.specs.Runs.Run.{Turn}
use Rattle.flat_model.proofs.Laws.{count_cons, count-append}
use Rattle.flat_wire.specs.Age.{is_tick, ticks_in}
use Rattle.flat_wire.specs.Ever.{uses_id}
use Rattle.flat_wire.specs.Trail.{PassedStep}
use Rattle.net_stack.specs.Stack.{StackView, state_of}
use Rattle.net_stack.specs.Runs.{AreCalls, AreCallsOf, IsTurnOf, PassedCall, steps_of, turns_of_calls}
use Rattle.segment.specs.Law.{Act, turns_in, turns_of}
use Rattle.segment.specs.Delay.{is_numbered, sends_of}
use Rattle.segment.proofs.Outputs.{IsDone, is_done}

-- ---- acts, one after another

pub turns_then : (k : ℕ) (past : List Act) (act : Act)
    → turns_of k (past ++ act ∷ []) ≡ turns_of k past ++ turns_in k act
turns_then k [] act = append-nil (turns_in k act)
turns_then k (one ∷ past) act =
    ap (λ ts. turns_in k one ++ ts) (turns_then k past act)
    ∙ sym (append_assoc (turns_in k one) (turns_of k past) (turns_in k act))

abbrev pub numbered : Turn → Bool
numbered turn = is_numbered turn.event turn.reply

pub sends_then : (k : ℕ) (past : List Act) (act : Act)
    → sends_of k (past ++ act ∷ []) ≡ sends_of k past + count_by numbered (turns_in k act)
sends_then k past act =
    ap (count_by numbered) (turns_then k past act) ∙ count-append numbered (turns_of k past) (turns_in k act)

pub ticks_both : (xs ys : List Turn) → ticks_in (xs ++ ys) ≡ ticks_in xs + ticks_in ys
ticks_both xs ys = count-append (λ (turn : Turn). is_tick turn.event) xs ys

pub ticks_then : (k : ℕ) (past : List Act) (act : Act)
    → ticks_in (turns_of k (past ++ act ∷ [])) ≡ ticks_in (turns_of k past) + ticks_in (turns_in k act)
ticks_then k past act = ap ticks_in (turns_then k past act) ∙ ticks_both (turns_of k past) (turns_in k act)

pub count_then : (p : Act → Bool) (past : List Act) (act : Act) (b : Bool) → p act ≡ b
    → count_by p (past ++ act ∷ []) ≡ count_by p past + cond b 1 0
count_then p past act b is =
    omega (arith, count-append p past (act ∷ []), count_cons p act [], ap {B = ℕ} (λ x. cond x 1 0) is)

-- ---- the calls on a stack

abbrev pub uses : List PassedCall → ℕ
uses calls = count_by uses_id (steps_of calls)

pub steps_both : (xs ys : List PassedCall) → steps_of (xs ++ ys) ≡ steps_of xs ++ steps_of ys
steps_both xs ys = map-append _ xs ys

pub uses_both : (xs ys : List PassedCall) → uses (xs ++ ys) ≡ uses xs + uses ys
uses_both xs ys = ap (count_by uses_id) (steps_both xs ys) ∙ count-append uses_id (steps_of xs) (steps_of ys)

pub then_calls_of : (a b c : StackView) (xs ys : List PassedCall) → AreCallsOf a xs b → AreCallsOf b ys c
    → AreCallsOf a (xs ++ ys) c
then_calls_of a b c [] ys same later = subst (λ (s : StackView). AreCallsOf s ys c) same later
then_calls_of a b c (x ∷ xs) ys (at, is, turn, rest) later =
    (at, is, turn, then_calls_of x.new b c xs ys rest later)

-- these turns, with the stacks between them
pub record HasPassed (s : StackView) (turns : List Turn) (t : StackView) : Type 0 where
  pub calls : List PassedCall
  pub are : AreCallsOf s calls t
  pub turns_are : turns_of_calls calls ≡ turns
  pub few : uses calls ≤ count_by numbered turns

one_use : (old new : StackView) (turn : Turn) → IsTurnOf old turn new
    → cond {A = ℕ} (uses_id (record { old = state_of old; turn = turn; new = state_of new })) 1 0
    ≤ cond (numbered turn) 1 0
one_use old new turn step = go (is_done (state_of old) (state_of new) turn.reply turn.event step)
  where
    none : (n m : ℕ) → n ≡ m → cond {A = ℕ} (not (n == m)) 1 0 ≡ 0
    none n m e = ap {B = ℕ} (λ b. cond (not b) 1 0) (eq-eqb n m e)

    go : IsDone (state_of old) turn.event turn.reply (state_of new)
        → cond {A = ℕ} (uses_id (record { old = state_of old; turn = turn; new = state_of new })) 1 0
        ≤ cond (numbered turn) 1 0
    go (inl sent) =
        omega (arith, ap {B = ℕ} (λ b. cond b 1 0) sent.uses, ap {B = ℕ} (λ b. cond b 1 0) sent.numbered)
    go (inr (inl same)) = omega (arith, none (state_of new).next_id (state_of old).next_id same.1)
    go (inr (inr took)) = omega (arith, none (state_of new).next_id (state_of old).next_id took.id)

pub passed : (s t : StackView) (turns : List Turn) → AreCalls s turns t → HasPassed s turns t
passed s t [] same = record { calls = []; are = same; turns_are = refl; few = omega arith }
passed s t (turn ∷ turns) (is, mid, call, later) =
    let rest = passed mid t turns later in
    let step : PassedStep = record { old = state_of s; turn = turn; new = state_of mid } in
    record {
      calls = record { old = s; turn = turn; new = mid } ∷ rest.calls;
      are = (refl, is, call, rest.are);
      turns_are = ap (λ ts. turn ∷ ts) rest.turns_are;
      few = omega (
        arith,
        rest.few,
        one_use s mid turn call,
        count_cons uses_id step (steps_of rest.calls),
        count_cons numbered turn turns,
      );
    }
