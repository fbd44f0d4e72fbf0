use Rattle.std.proofs.Common.{◌≡◌, ℕ, zero, suc, max, sym, ap, ◌∙◌, arith}
use Rattle.flat_model.specs.Amounts.Layout.{need_of, wire}
use Rattle.chain_ops.proofs.Needed.{small_need}
use Rattle.chain_ops.proofs.store.wire_need.Goals as goal

-- no bytes take what one byte takes
at_least_one : (n : ℕ) → need_of (wire (max n 1)) ≡ need_of (wire n)
at_least_one zero = small_need 1 (omega arith) ∙ sym (small_need 0 (omega arith))
at_least_one (suc n) = let some : max (suc n) 1 ≡ suc n = omega arith in ap (λ (k : ℕ). need_of (wire k)) some

pub returns-then-not-tries_one_buffer : goal.returns-then-not-tries_one_buffer
returns-then-not-tries_one_buffer c =
    c.count_rooms.ensures ∙ ap (λ (k : ℕ). need_of (wire k)) c.max.ensures ∙ at_least_one c.args.n

pub returns-in-InMbuf : goal.returns-in-InMbuf
returns-in-InMbuf c = sym (ap need_of c.in-InMbuf.ensures.1)

pub returns-in-InCluster : goal.returns-in-InCluster
returns-in-InCluster c = sym (ap need_of c.in-InCluster.ensures.2)
