-- Steps of the judge's machine.
use Rattle.std.proofs.Common.{◌≡◌, ℕ, zero, suc, ◌-◌, ◌<◌, replicate, arith, subst}
use Rattle.flat_model.specs.Machine.Event.{Done, Tick}
use Rattle.flat_model.specs.Machine.State.{State}
use Rattle.play_why.specs.Judged.{IsTick, Led}
use Rattle.stack_call.specs.Moves.{StackSteps}

-- one tick before others
pub Led-tick : (n m : ℕ) (a b c : State) → 0 < n → m ≡ n - 1 → StackSteps a Tick Done b
    → Led IsTick (replicate m Tick) b c → Led IsTick (replicate n Tick) a c
Led-tick zero m a b c some is step rest = absurd (omega (arith, some))
Led-tick (suc n) m a b c some is step rest =
    let same : m ≡ n = omega arith in
    (tt, (Done, b, step, subst (λ (i : ℕ). Led IsTick (replicate i Tick) b c) same rest))
