use Rattle.std.proofs.Common.{◌≡◌, ◌<◌, ◌-◌, ℕ, length, ap, sym, subst, ◌∙◌, arith}
use Rattle.std.proofs.lemmas.Bool.{eqb-true, eqb-false}
use Rattle.mbuf_chain.specs.Chain.{chain_of, flat_bytes}
use Rattle.mbuf_chain.proofs.Laws.Owners.{live_first, owned_after}
use Rattle.ledger.specs.Accounts.{entries_weight}
use Rattle.flat_model.specs.Sockets.Fits.{memory_of}
use Rattle.sockbuf.specs.SockBuf.{SockBufView, IsSockBuf}
use Rattle.sockbuf.proofs.Fronts.{stripped}
use Rattle.sockbuf.proofs.Queues.{IsTakenOut, Taken, taken, oldest, address, last_one}
use Rattle.sockbuf.proofs.buffer.SockBuf.take.Goals as goal
use Rattle.sockbuf.proofs.buffer.SockBuf.take.Goals.{then-is_empty-2, else-is_empty-2}

some : (n : ℕ) → (n ≡ 0 → ⊥) → 0 < n
some n ne = omega arith

taken_out : (c : goal.After-self-2-1)
    → IsTakenOut c.args.pool.now (record {
      train = c.self.inside.train;
      cc = c.self.inside.cc;
      mbcnt =
          c.self.inside.mbcnt;
    }) c.take-whole.result.0 c.take-whole.result.1 c.take-whole.new.pool c.take-whole.new.self
taken_out c = record {
  some = some c.self.inside.train.len (eqb-false _ _ (sym c.is_empty.ensures ∙ c.if-is_empty.false));
  queued_packets = c.take-whole.ensures.queued_packets;
  taken = c.take-whole.ensures.taken;
  held = c.take-whole.ensures.held;
  moves = c.take-whole.ensures.moves;
}

-- the bytes and the memory counted for the removed chain: all that was counted, if the queue is empty now
counted : (c : goal.After-self-2-1)
    → (c.if-is_empty-2.len.0 ≡ length (flat_bytes (chain_of c.take-whole.new.pool c.take-whole.result.0).entries))
    × (c.if-is_empty-2.len.1 ≡ memory_of
    (entries_weight (chain_of c.take-whole.new.pool c.take-whole.result.0).entries))
counted c = elim c.if-is_empty-2.branch [
  | then-is_empty-2 w ↦
      let ready = subst (IsSockBuf c.args.pool.now) (sym c.self.view_is) c.requires.ready in
      let l = last_one ready (taken_out c) (eqb-true _ _ (sym c.is_empty-2.ensures ∙ w.if-is_empty-2.true)) in
      (ap (λ (x : ℕ × ℕ). x.0) w.len-is ∙ l.cc, ap (λ (x : ℕ × ℕ). x.1) w.len-is ∙ l.mbcnt)
  | else-is_empty-2 w ↦ (
    ap (λ (x : ℕ × ℕ). x.0) w.len-is ∙ w.len.ensures,
    ap (λ (x : ℕ × ℕ). x.1) w.len-is
        ∙ w.memory_of.ensures.value,
  )
]

all : (c : goal.After-self-2-1)
    → Taken c.args.pool.now c.args.self.now c.sockaddr_in-sender.result c.free_first-chain.result
    c.free_first-chain.new.self (record {
      train = c.take-whole.new.self;
      cc = c.self.inside.cc - c.if-is_empty-2.len.0;
      mbcnt = c.self.inside.mbcnt - c.if-is_empty-2.len.1;
    })
all c =
    let ready = subst (IsSockBuf c.args.pool.now) (sym c.self.view_is) c.requires.ready in
    let o = oldest ready (taken_out c) in
    let front =
    address {p = c.take-whole.new.pool} {c = c.take-whole.result.0} c.first-first.result.index o.shape
    c.first-first.ensures.index in
    let rest =
    stripped (live_first c.take-whole.new.pool c.take-whole.result.0 _
    (owned_after c.take-whole.ensures.moves ready.held.owned)) c.free_first-chain.ensures in
    subst (λ (v : SockBufView). Taken c.args.pool.now v c.sockaddr_in-sender.result c.free_first-chain.result
    c.free_first-chain.new.self
    (record {
      train = c.take-whole.new.self;
      cc = c.self.inside.cc - c.if-is_empty-2.len.0;
      mbcnt = c.self.inside.mbcnt - c.if-is_empty-2.len.1;
    })) c.self.view_is
    (taken _ _ _ ready (taken_out c) rest.entries rest.front rest.moves
    (c.sockaddr_in-sender.ensures ∙ front.sender _ c.bytes.ensures.value)
    (ap (λ (n : ℕ). c.self.inside.cc - n) (counted c).0) (ap (λ (n : ℕ). c.self.inside.mbcnt - n) (counted c).1))

pub returns-clause-takes : goal.returns-clause-takes
returns-clause-takes c = (all c).takes

pub returns-clause-ready : goal.returns-clause-ready
returns-clause-ready c = (all c).ready
