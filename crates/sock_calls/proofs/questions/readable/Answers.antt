use Rattle.std.proofs.Common.{◌≡◌, ◌==◌, ◌+◌, ◌<◌, ◌^◌, ℕ, cond, length, true, false, sym, ap, ◌∙◌, subst, suc, arith, Bool}
use Rattle.sockbuf.specs.SockBuf.{SockBufView, IsSockBuf, datagrams}
use Rattle.sock_calls.specs.Inside.Asked.{waits_at}
use Rattle.sock_calls.proofs.Asked.{bit_kept, one_more, set_none}
use Rattle.sock_calls.proofs.questions.readable.Goals as goal
use Rattle.sock_calls.proofs.questions.readable.Goals.{then-not-is_empty, else-not-is_empty}

pub places-init : goal.places-init
places-init c = record { set = λ p each. set_none (waits_at p c.args.queues.now); small = omega arith }

grown : (c : goal.Joined-not-is_empty) → c.if-not-is_empty.set
    ≡ c.places.set + cond c.is_empty.result 0 (2 ^ c.places.place)
grown c = elim c.if-not-is_empty.branch [
  | then-not-is_empty w ↦
      w.set-is ∙ ap (λ (n : ℕ). c.places.set + n) (bit_kept c.places.place (omega (arith, c.places-test.true)))
      ∙ ap (λ (t : Bool). c.places.set + cond {A = ℕ} t 0 (2 ^ c.places.place)) (sym w.if-not-is_empty.true)
  | else-not-is_empty w ↦
      w.set-is ∙ (let e : c.places.set ≡ c.places.set + 0 = omega arith in e)
      ∙ ap (λ (t : Bool). c.places.set + cond {A = ℕ} t 0 (2 ^ c.places.place)) (sym w.if-not-is_empty.false)
]

small : (set after n : ℕ) (none : Bool) → after ≡ set + cond none 0 (2 ^ n) → set < 2 ^ n → after < 2 ^ suc n
small set after n true is lt = omega (arith, is, lt)
small set after n false is lt = omega (arith, is, lt)

pub places-preserved : goal.places-preserved
places-preserved c = record {
  set = λ p each.
      one_more p c.args.queues.now c.places.place c.places.set c.if-not-is_empty.set c.index-queues-place.result
      c.is_empty.result
      (omega (arith, c.places-test.true, c.requires))
      (subst (λ (b : SockBufView). IsSockBuf p b → c.is_empty.result ≡ (length (datagrams p b) == 0))
      c.index-queues-place.is (c.is_empty.ensures p)) each (c.places.invariant.set p each) (grown c);
  small = subst (λ (n : ℕ). c.if-not-is_empty.set < 2 ^ n)
      (let e : suc c.places.place ≡ c.places.place + 1 = omega arith in e)
      (small c.places.set c.if-not-is_empty.set c.places.place c.is_empty.result (grown c) c.places.invariant.small);
}
