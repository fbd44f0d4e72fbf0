use Rattle.std.proofs.Common.{◌≡◌, ◌+◌, ◌-◌, ◌∷◌, ℕ, List, length, refl, sym, ap, ◌∙◌, subst, arith}
use Rattle.std.specs.Prelude.{min}
use Rattle.std.proofs.lemmas.List.{length-take}
use Rattle.std.proofs.lemmas.List.Sums.{sum_by-cons}
use Rattle.params.specs.declared.TheConstants.{SOCKADDR_BYTES}
use Rattle.flat_model.specs.Machine.State.{Datagram}
use Rattle.flat_model.specs.Sockets.Fits.{bytes_queued}
use Rattle.mbuf_chain.specs.Chain.{PoolView, chain_of, string, without}
use Rattle.mbuf_chain.specs.Owners.{IsOwned, Moves}
use Rattle.mbuf_chain.specs.Frames.{SameAt}
use Rattle.mbuf_chain.proofs.Laws.Owners.{apart_first, owned_after, same_without, then_without}
use Rattle.sockbuf.specs.SockBuf.{SockBufView, IsSockBuf, TakesOldest, datagram_from, datagrams, chains_of}
use Rattle.sockbuf.proofs.Laws.{chains_same, datagrams_same, ready_same}
use Rattle.flat_model.specs.declared.address.Addr.{Addr}
use Rattle.sock_calls.proofs.Copied.{copied, rest_kept}
use Rattle.sock_calls.proofs.receive.take_oldest.Goals as goal
use Rattle.sock_calls.proofs.receive.take_oldest.Goals.{After-cc}

-- the state after the oldest chain is removed and freed
record Left (p : PoolView) (b : SockBufView) (r : PoolView) (d : SockBufView) (first : Datagram) : Type 0 where
  datagrams : datagrams p b ≡ first ∷ datagrams r d
  ready : IsSockBuf r d
  moves : Moves p (chains_of p b) r (chains_of r d)

left : (p q r : PoolView) (b d : SockBufView) (sender : Addr) (c : ℕ) → IsSockBuf p b → IsSockBuf q d
    → TakesOldest p b sender c q d → r ≡ without q c → Left p b r d (datagram_from sender q c)
left p q r b d sender c was now takes gone =
    let owned : IsOwned q (c ∷ chains_of q d) = owned_after takes.moves was.held.owned in
    let same : SameAt q r (chains_of q d) = same_without q r c (chains_of q d) (apart_first q c (chains_of q d) owned)
    gone in
    record {
      datagrams = takes.datagrams ∙ ap (λ (ds : List Datagram). datagram_from sender q c ∷ ds)
          (sym (datagrams_same q r d same));
      ready = ready_same q r d same now;
      moves = subst (Moves p (chains_of p b) r) (sym (chains_same q r d same))
          (then_without r c (chains_of q d) takes.moves was.held.owned gone);
    }

all_left : (c : goal.After-free_chain) → Left c.args.pool.now c.args.queue.now c.free_chain.new.self c.take.new.self
    (datagram_from c.in_ok-sender.sender c.take.new.pool c.in_ok-sender.chain)
all_left c = left c.args.pool.now c.take.new.pool c.free_chain.new.self c.args.queue.now c.take.new.self
    c.in_ok-sender.sender c.in_ok-sender.chain c.requires.ready c.in_ok-sender.ensures.ready
    c.in_ok-sender.ensures.takes c.free_chain.ensures

-- its bytes: the queue counts as many fewer after it's taken, and those of its sender's address
counted : (p q : PoolView) (b d : SockBufView) (sender : Addr) (c before after : ℕ)
    → before ≡ bytes_queued (datagrams p b) → after ≡ bytes_queued (datagrams q d) → TakesOldest p b sender c q d
    → before ≡ after + SOCKADDR_BYTES + length (string (chain_of q c))
counted p q b d sender c before after was now takes =
    let sum : bytes_queued (datagrams p b)
    ≡ SOCKADDR_BYTES + length (string (chain_of q c)) + bytes_queued (datagrams q d) =
    ap bytes_queued takes.datagrams
    ∙ sum_by-cons (λ (x : Datagram). SOCKADDR_BYTES + length x.item.bytes) (datagram_from sender q c) (datagrams q d) in
    omega (arith, was, now, sum)

len_is : (c : After-cc) → c.cc-before.result
    ≡ c.cc.result + SOCKADDR_BYTES + length (string (chain_of c.take.new.pool c.in_ok-sender.chain))
len_is c = counted c.args.pool.now c.take.new.pool c.args.queue.now c.take.new.self c.in_ok-sender.sender
    c.in_ok-sender.chain c.cc-before.result c.cc.result (c.cc-before.ensures c.args.pool.now c.requires.ready)
    (c.cc.ensures c.take.new.pool c.in_ok-sender.ensures.ready) c.in_ok-sender.ensures.takes

size_is : (c : After-cc) → c.cc-before.result - c.cc.result - SOCKADDR_BYTES
    ≡ length (string (chain_of c.take.new.pool c.in_ok-sender.chain))
size_is c = omega (arith, len_is c)

pub overflow_sub-size : goal.overflow_sub-size
overflow_sub-size c = omega (arith, len_is c)

pub overflow_sub-size-2 : goal.overflow_sub-size-2
overflow_sub-size-2 c = omega (arith, len_is c)

pub returns-clause-taken : goal.returns-clause-taken
returns-clause-taken c = (
  datagram_from c.in_ok-sender.sender c.take.new.pool c.in_ok-sender.chain,
  (all_left c).datagrams,
  refl,
  copied c.min-len.result _ _ (string (chain_of c.take.new.pool c.in_ok-sender.chain)) c.m_copydata.new.to _
      c.m_copydata.ensures
      (omega (arith, length-take c.min-len.result c.args.buffer.now, c.min-len.ensures))
      (c.min-len.ensures
      ∙ ap (λ (j : ℕ). min j (length c.args.buffer.now)) (size_is (goal.at.returns-clause-taken c).After-cc)),
)

pub returns-clause-ready : goal.returns-clause-ready
returns-clause-ready c = (all_left c).ready

pub returns-clause-moves : goal.returns-clause-moves
returns-clause-moves c = (all_left c).moves

pub returns-clause-rest : goal.returns-clause-rest
returns-clause-rest c =
    rest_kept c.min-len.result _ _ (string (chain_of c.take.new.pool c.in_ok-sender.chain)) c.m_copydata.new.to
    c.args.buffer.now c.m_copydata.ensures
    (omega (arith, length-take c.min-len.result c.args.buffer.now, c.min-len.ensures))
    (c.min-len.ensures
    ∙ ap (λ (j : ℕ). min j (length c.args.buffer.now)) (size_is (goal.at.returns-clause-rest c).After-cc))
