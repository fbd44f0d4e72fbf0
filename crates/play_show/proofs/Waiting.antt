-- No datagram waits in any socket if the set of readable sockets is empty.
use Rattle.std.proofs.Common.{◌≡◌, ◌==◌, not, ℕ, zero, suc, ◌+◌, ◌<◌, ◌^◌, Bool, true, false, cond, List, [], ◌∷◌, length, Option, None, Some, refl, sym, ◌∙◌, ap, subst, arith, below_more, true≢false}
use Rattle.std.proofs.lemmas.Nat.{pow_pos}
use Rattle.std.proofs.Math.Dec.{eqb-suc-zero}
use Rattle.params.specs.declared.TheConstants.{FIRST_DESCRIPTOR, MAX_SOCKETS}
use Rattle.flat_model.specs.Machine.State.{State, Socket, Datagram, socket_at}
use Rattle.sock_calls.specs.Questions.{next_datagram, next_in, oldest_datagram, readable, set_below, waits_in}
use Rattle.play_show.specs.Changes.{waiting_of}

one_more : (test : ℕ → Bool) (n : ℕ) → set_below test (suc n) ≡ set_below test n + cond (test n) (2 ^ n) 0
unfolding set_below
one_more test n = refl

empty_below : (test : ℕ → Bool) (n : ℕ) → set_below test n ≡ 0 → (k : ℕ) → k < n → test k ≡ false
empty_below test zero e k less = absurd (omega (arith, less))
empty_below test (suc n) e k less =
    below_more (λ k. test k ≡ false) n (empty_below test n (omega (arith, parts))) (go (test n) refl) k (omega (arith, less))
  where
    parts : set_below test n + cond (test n) (2 ^ n) 0 ≡ 0
    parts = sym (one_more test n) ∙ e

    go : (b : Bool) → test n ≡ b → test n ≡ false
    go true is =
        let all : set_below test n + 2 ^ n ≡ 0 =
        subst (λ (b : Bool). set_below test n + cond b (2 ^ n) 0 ≡ 0) is parts in
        absurd (omega (arith, all, pow_pos n))
    go false is = is

none_queued : (ds : List Datagram) → not (length ds == 0) ≡ false → waiting_of (oldest_datagram ds) ≡ 0
none_queued [] e = refl
none_queued (d ∷ ds) e = absurd (true≢false (ap not (sym (eqb-suc-zero (length ds))) ∙ e))

none_waits : (o : Option Socket) → waits_in o ≡ false → waiting_of (next_in o) ≡ 0
none_waits None e = refl
none_waits (Some me) e = none_queued me.queue e

pub nothing_waits : (s : State) → readable s ≡ 0 → (k : ℕ) → k < MAX_SOCKETS
    → waiting_of (next_datagram (FIRST_DESCRIPTOR + k) s) ≡ 0
nothing_waits s e k less =
    none_waits (socket_at (FIRST_DESCRIPTOR + k) s)
    (empty_below (λ k. waits_in (socket_at (FIRST_DESCRIPTOR + k) s)) MAX_SOCKETS e k less)
