-- A send, and the arrival of its packets that come back.
use Rattle.std.proofs.Common.{◌≡◌, ℕ, ◌+◌, List, ◌++◌, Option, refl, sym, ap, subst, arith}
use Rattle.std.specs.Prelude.{Result}
use Rattle.flat_model.specs.Machine.State.{State}
use Rattle.flat_model.specs.Machine.Ledger.{exact_ledger}
use Rattle.flat_model.specs.Machine.Arrival.{AllArrive}
use Rattle.flat_model.specs.declared.address.Addr.{Addr}
use Rattle.flat_model.specs.declared.counters.Counters.{Counters}
use Rattle.flat_model.specs.declared.errno.Errno.{Errno}
use Rattle.mbuf_chain.specs.Chain.{PoolView}
use Rattle.mbuf_chain.specs.Owners.{times_among, IsOwned}
use Rattle.mbuf_chain.specs.Frames.{SameAt}
use Rattle.mbuf_chain.specs.Train.{numbers}
use Rattle.mbuf_chain.proofs.Laws.Owners.{times-append, live_at_most, moves_beside, moves_trans, owned_after, same_beside}
use Rattle.pcb_table.specs.Table.{machine}
use Rattle.ip_out.specs.Packets.{train_packets}
use Rattle.ip_reass.specs.Table.{TableView, IsReady, held_all, unfinished}
use Rattle.sock_calls.specs.Sockets.{SocksView, queues_of, queued_chains}
use Rattle.sock_calls.specs.Outgoing.{SendView, sending}
use Rattle.net_stack.proofs.Aside.{host_view}
use Rattle.net_stack.specs.Inside.Arrivals.{HaveArrived}
use Rattle.net_stack.specs.Inside.Sending.{host_state, no_train, out_chains, AreParts, IsTried, HasSent}
use Rattle.net_stack.proofs.PartSteps.{OutputKept, output_kept}

-- the chains that an arrival may touch
abbrev pub net_chains : SendView → TableView → List ℕ
net_chains u t = held_all u.pool t.datagrams ++ queued_chains u.pool u.socks.queues

pub looped_owned : {v u : SendView} {r t : TableView} → AreParts v r u t
    → IsOwned v.pool (held_all v.pool r.datagrams ++ out_chains v)
    → IsOwned u.pool (numbers u.pool u.net.looped ++ net_chains u t)
looped_owned {v} {u} {r} {t} is owned = λ k. omega (
  arith,
  owned_after is.moves owned k,
  times-append k (numbers u.pool u.net.looped) (held_all u.pool t.datagrams ++ out_chains u),
  times-append k (held_all u.pool t.datagrams) (out_chains u),
  times-append k (numbers u.pool u.net.out) (queued_chains u.pool u.socks.queues),
  times-append k (numbers u.pool u.net.looped) (net_chains u t),
  times-append k (held_all u.pool t.datagrams) (queued_chains u.pool u.socks.queues),
)

pub has_sent : {fd : ℕ} {to : Option Addr} {bytes : List ℕ} {v u : SendView} {r t t2 : TableView}
    {result : Result ℕ Errno} {q : PoolView} {s : SocksView} {c : Counters}
    → IsOwned v.pool (held_all v.pool r.datagrams ++ out_chains v) → IsTried fd to bytes v r result u t
    → HaveArrived (host_view u.pool u.socks t u.net.counters) u.net.looped (host_view q s t2 c) → IsReady q t2
    → HasSent fd to bytes v r result (sending q s (record (u.net) { looped = no_train; counters = c })) t2
has_sent {fd} {to} {bytes} {v} {u} {r} {t} {t2} {result} {q} {s} {c} owned tried arrived ready =
    let p : PoolView = u.pool in
    let w : SendView = sending q s (record (u.net) { looped = no_train; counters = c }) in
    let ls : List ℕ = numbers p u.net.looped in
    let xs : List ℕ = held_all p t.datagrams in
    let ys : List ℕ = numbers p u.net.out in
    let zs : List ℕ = queued_chains p u.socks.queues in
    let mid : IsOwned p (ls ++ (xs ++ (ys ++ zs))) = owned_after tried.parts.moves owned in
    let split : (k : ℕ) → times_among k (ls ++ (xs ++ (ys ++ zs)))
    ≡ times_among k ls + (times_among k xs + (times_among k ys + times_among k zs)) =
    λ k. omega (arith, times-append k ls (xs ++ (ys ++ zs)), times-append k xs (ys ++ zs), times-append k ys zs) in
    let before : (k : ℕ) → times_among k (ls ++ (xs ++ zs)) ≡ times_among k ls + (times_among k xs + times_among k zs) =
    λ k. omega (arith, times-append k ls (xs ++ zs), times-append k xs zs) in
    let same : SameAt p q ys = same_beside ys arrived.parts.moves (λ k. omega (arith, mid k, split k))
    (λ k h. omega (arith, h, mid k, split k, before k, live_at_most p k)) in
    let o : OutputKept p q u.net.out = output_kept p q u.net.out same tried.parts.out in
    let rest_of : State → State = λ rest. record rest { output = train_packets p u.net.out; next_id = u.net.next_id } in
    let now : (rest : State)
    → machine (record rest {
      output = train_packets p u.net.out;
      next_id = u.net.next_id;
      unfinished = unfinished q t2.datagrams;
      counters = c;
    }) (queues_of q s.queues) s.pcbs ≡ host_state w t2 rest =
    λ rest i. machine (record rest {
      output = sym o.shows i;
      next_id = u.net.next_id;
      unfinished = unfinished q t2.datagrams;
      counters = c;
    }) (queues_of q s.queues) s.pcbs in
    record {
      step = λ rest mtu acc. tried.goes rest (host_state w t2 rest) mtu acc
          (subst (λ (new : State). AllArrive exact_ledger (train_packets p u.net.looped) (host_state u t rest) new)
          (now rest)
          (arrived.step (rest_of rest) (tried.accounts rest acc)));
      socks = arrived.parts.ready;
      out = o.queue;
      none = refl;
      reass = ready;
      mtu = tried.parts.mtu;
      moves = moves_trans tried.parts.moves (moves_beside (ls ++ (xs ++ (ys ++ zs)))
          (held_all q t2.datagrams ++ out_chains w) ys arrived.parts.moves
          (λ k. omega (arith, split k, before k))
          (λ k. omega (
            arith,
            times-append k (held_all q t2.datagrams) (out_chains w),
            times-append k (numbers q u.net.out) (queued_chains q s.queues),
            times-append k (held_all q t2.datagrams) (queued_chains q s.queues),
            ap (times_among k) o.chains,
          )));
    }
