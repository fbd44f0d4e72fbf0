-- The options of an interface, one after the other.
use Rattle.std.proofs.Common.{◌≡◌, ℕ, zero, suc, ◌-◌, ◌^◌, ◌<◌, ◌≤◌, List, Ok, refl, ap, arith}
use Rattle.std.proofs.Math.Nat.{pow-le-pow_right}
use Rattle.std.proofs.Math.Pow.{pow_mono}
use Rattle.capture.specs.declared.pcap.header.Order.{Order}
use Rattle.capture.specs.Bodies.{following, passed, ticks_by}

pub ticks_more : (n : ℕ) (o : Order) (bytes : List ℕ) → 0 < n
    → ticks_by n o bytes ≡ following (ticks_by (n - 1) o) (passed o bytes)
unfolding ticks_by
ticks_more zero o bytes lt = absurd (omega arith)
ticks_more (suc n) o bytes lt =
    let e : n ≡ suc n - 1 = omega arith in
    ap (λ (k : ℕ). following (ticks_by k o) (passed o bytes)) e

pub ticks_none : (o : Order) (bytes : List ℕ) → ticks_by 0 o bytes ≡ Ok 1_000_000
unfolding ticks_by
ticks_none o bytes = refl

-- powers that a number of 64 bits holds
pub tens_fit : (n : ℕ) → n < 20 → 10 ^ n < 2 ^ 64
tens_fit n lt =
    let below : n ≤ 19 = omega arith in
    let more : 10 ^ n ≤ 10 ^ 19 = pow-le-pow_right (omega arith) below in
    omega (arith, more)

pub twos_fit : (n : ℕ) → n < 64 → 2 ^ n < 2 ^ 64
twos_fit n lt =
    let below : n ≤ 63 = omega arith in
    let more : 2 ^ n ≤ 2 ^ 63 = pow_mono below in
    omega (arith, more)
