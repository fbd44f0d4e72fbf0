-- Events one after another.
use Rattle.std.proofs.Common.{◌≡◌, ℕ, zero, suc, ◌-◌, ◌<◌, ◌≤◌, replicate, None, refl, arith, subst}
use Rattle.flat_model.specs.Machine.Event.{Event, Reply, Tick, Done}
use Rattle.flat_model.specs.Machine.State.{State}
use Rattle.play_script.specs.Actions.{Does, moved_in}

-- no tick is left
pub Does-no_ticks : (step : State → Event → Reply → State → Type 0) (n : ℕ) (s : State) → n ≤ 0
    → Does step s (replicate n Tick) Done s
Does-no_ticks step zero s none = refl
Does-no_ticks step (suc n) s none = absurd (omega (arith, none))

-- one tick before others
pub Does-ticks : (step : State → Event → Reply → State → Type 0) (n m : ℕ) (old mid new : State) → 0 < n → m ≡ n - 1
    → step old Tick Done mid
    → Does step mid (replicate m Tick) Done new → Does step old (replicate n Tick) Done new
Does-ticks step zero m old mid new some is first rest = absurd (omega (arith, some))
Does-ticks step (suc n) m old mid new some is first rest =
    let less : m ≡ n = omega arith in
    (mid, first, subst (λ (k : ℕ). Does step mid (replicate k Tick) Done new) less rest)

-- ticks move no packet
pub ticks_move : (n : ℕ) (reply : Reply) → moved_in (replicate n Tick) reply ≡ None
ticks_move zero reply = refl
ticks_move (suc n) reply = refl
