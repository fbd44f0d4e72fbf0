-- How many failures a stream has reported after more calls.
use Rattle.std.proofs.Common.{◌≡◌, ℕ, zero, suc, ◌+◌, ◌<◌, Option, Some, None, arith}
use Rattle.script_loop.specs.Streams.{MoreBy, taking_failures}

pub MoreBy-none : (a : Option ℕ) → MoreBy 0 a a
MoreBy-none None = tt
MoreBy-none (Some n) = omega arith

pub MoreBy-then : (m k n : ℕ) (a b c : Option ℕ) → n ≡ m + k → MoreBy m a b → MoreBy k b c → MoreBy n a c
MoreBy-then m k n None b c e first second = tt
MoreBy-then m k n (Some x) None c e first second = absurd first
MoreBy-then m k n (Some x) (Some y) None e first second = absurd second
MoreBy-then m k n (Some x) (Some y) (Some z) e first second = omega arith

-- a write of at least one byte didn't fail
pub MoreBy-some : (n : ℕ) (a b : Option ℕ) → 0 < n → MoreBy (taking_failures n) a b → MoreBy 0 a b
MoreBy-some zero a b some h = absurd (omega arith)
MoreBy-some (suc n) a b some h = h
