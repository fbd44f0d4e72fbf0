-- A send, attempted once or twice.
use Rattle.std.proofs.Common.{◌≡◌, ℕ, ◌+◌, Bool, true, false, List, [], ◌∷◌, ◌++◌, length, Option, refl, sym, ap, ◌∙◌, subst, arith, inl, inr}
use Rattle.std.specs.Prelude.{◌⊎◌, Result, Ok, Err}
use Rattle.std.proofs.lemmas.Bool.{true≢false}
use Rattle.flat_model.specs.Amounts.Weight.{Weight, Item, SameWeight, nothing, all_of, mbuf, ◌⊕◌}
use Rattle.flat_model.specs.Fragments.Whole.{weight_of_pieces}
use Rattle.flat_model.specs.Machine.Count.{counts_more}
use Rattle.flat_model.specs.Machine.State.{State, Socket, Unfinished}
use Rattle.flat_model.specs.Machine.Ledger.{exact_ledger, reclaimed}
use Rattle.flat_model.specs.Machine.Event.{Reply, Refused, Done, Opened, Sent, Received, Given, Counted, Shown}
use Rattle.flat_model.specs.Machine.Replies.{sent_reply}
use Rattle.flat_model.specs.declared.address.Addr.{Addr}
use Rattle.flat_model.specs.declared.counter.Counter.TheVariants.{IpReclaimed}
use Rattle.flat_model.specs.declared.counters.Counters.{Counters}
use Rattle.flat_model.specs.declared.errno.Errno.{Errno}
use Rattle.flat_model.specs.declared.errno.Errno.TheVariants.{NoBufs}
use Rattle.flat_model.specs.declared.errno.Lack.TheVariants.{Pool, Queue}
use Rattle.flat_model.proofs.Laws.{times-both}
use Rattle.mbuf_chain.specs.Chain.{PoolView}
use Rattle.mbuf_chain.specs.Owners.{times_among, IsOwned, Moves}
use Rattle.mbuf_chain.specs.Frames.{SameAt}
use Rattle.mbuf_chain.specs.Train.{numbers}
use Rattle.mbuf_chain.proofs.Laws.Owners.{times-append, live_at_most, moves_beside, moves_trans, owned_after, same_beside, same_part}
use Rattle.mbuf_chain.proofs.Laws.Trains.{held_same, none_left}
use Rattle.ledger.specs.Accounts.{weight_owned, IsAccounted}
use Rattle.ledger.proofs.Laws.{accounted_after}
use Rattle.pcb_table.specs.Table.{machine, sockets_with}
use Rattle.ip_out.specs.Packets.{train_packets}
use Rattle.ip_reass.specs.Table.{TableView, IsReady, held_all, unfinished}
use Rattle.ip_reass.specs.Same.{length-unfinished, table_weighs}
use Rattle.sock_calls.specs.Sockets.{queues_of, queued_chains}
use Rattle.sock_calls.specs.Sends.{SendsOnce}
use Rattle.sock_calls.specs.Outgoing.{SendView, CanSend, IsSent, sending, send_state}
use Rattle.sock_calls.proofs.Laws.{Kept, kept, sends_at_once, sends_again}
use Rattle.net_stack.specs.Inside.Sending.{is_pool_lack, lacks_pool, host_state, out_chains, AreParts, IsTried}
use Rattle.net_stack.proofs.PartSteps.{ReassKept, reass_kept, OutputKept, output_kept, output_weighs}

-- ---- one test

pub record IsOnce (fd : ℕ) (to : Option Addr) (bytes : List ℕ) (v : SendView) (r : TableView) (result : Result ℕ Errno)
    (u : SendView) : Type 0 where
  pub step : (rest : State) → rest.config.mtu ≡ v.net.mtu → IsAccounted v.pool (host_state v r rest) nothing
      → SendsOnce exact_ledger fd to bytes (host_state v r rest) (sent_reply result) (train_packets u.pool u.net.looped)
      (host_state u r rest)
  pub accounts : (rest : State) → IsAccounted v.pool (host_state v r rest) nothing
      → IsAccounted u.pool (host_state u r rest) (weight_owned u.pool (numbers u.pool u.net.looped))
  pub parts : AreParts v r u r

pub once : {fd : ℕ} {to : Option Addr} {bytes : List ℕ} {v u : SendView} {r : TableView} {result : Result ℕ Errno}
    → IsSent fd to bytes v result u → IsReady v.pool r → IsOwned v.pool (held_all v.pool r.datagrams ++ out_chains v)
    → IsOnce fd to bytes v r result u
once {fd} {to} {bytes} {v} {u} {r} {result} is ready owned =
    let p : PoolView = v.pool in
    let q : PoolView = u.pool in
    let xs : List ℕ = held_all p r.datagrams in
    let same : SameAt p q xs = same_beside xs is.moves (λ k. omega (arith, owned k, times-append k xs (out_chains v)))
    (λ k h. omega (arith, h, owned k, times-append k xs (out_chains v), live_at_most p k)) in
    let rk : ReassKept p q r = reass_kept p q r same ready in
    let now : (rest : State) → send_state u
    (record rest { unfinished = unfinished p r.datagrams }) ≡ host_state u r rest =
    λ rest i. send_state u (record rest { unfinished = sym rk.shows i }) in
    record {
      step = λ rest mtu acc. subst (λ (t : State). SendsOnce exact_ledger fd to bytes (host_state v r rest)
          (sent_reply result) (train_packets q u.net.looped) t) (now rest)
          (is.step (record rest { unfinished = unfinished p r.datagrams }) mtu acc);
      accounts = λ rest acc. subst (λ (t : State). IsAccounted q t (weight_owned q (numbers q u.net.looped))) (now rest)
          (subst (λ (w : Weight). IsAccounted q (send_state u
          (record rest { unfinished = unfinished p r.datagrams })) w)
          (output_weighs q (numbers q u.net.looped))
          (is.accounts (record rest { unfinished = unfinished p r.datagrams }) acc));
      parts = record {
        socks = is.socks;
        out = is.out;
        looped = is.looped;
        plain = is.plain;
        reass = rk.table;
        mtu = is.mtu;
        moves = moves_beside (xs ++ out_chains v) (numbers q u.net.looped ++ (held_all q r.datagrams ++ out_chains u))
            xs is.moves
            (λ k. omega (arith, times-append k xs (out_chains v)))
            (λ k. omega (
              arith,
              times-append k (numbers q u.net.looped) (held_all q r.datagrams ++ out_chains u),
              times-append k (held_all q r.datagrams) (out_chains u),
              times-append k (numbers q u.net.looped) (out_chains u),
              ap (times_among k) rk.chains,
            ));
      };
    }

-- ---- whether a reply reports that the pool lacks buffers

abbrev lack_reply : Reply → Bool
lack_reply (Refused errno) = is_pool_lack errno
lack_reply Done = false
lack_reply (Opened fd) = false
lack_reply (Sent n) = false
lack_reply (Received sender bytes) = false
lack_reply (Given packet) = false
lack_reply (Counted counters) = false
lack_reply (Shown usage) = false

pub no_lack : (result : Result ℕ Errno) → lacks_pool result ≡ false → sent_reply result ≡ Refused (NoBufs Pool) → ⊥
no_lack (Ok n) h e = true≢false (sym (ap lack_reply e))
no_lack (Err errno) h e = true≢false (sym (ap lack_reply e) ∙ h)

lack_is : (errno : Errno) → is_pool_lack errno ≡ true → errno ≡ NoBufs Pool
lack_is (NoBufs Pool) h = refl
lack_is _ h = absurd (true≢false (sym h))

pub record WasLack (v : SendView) (result : Result ℕ Errno) (u : SendView) : Type 0 where
  pub reply : sent_reply result ≡ Refused (NoBufs Pool)
  pub same : u ≡ v

pub was_lack : {fd : ℕ} {to : Option Addr} {bytes : List ℕ} {v u : SendView} (result : Result ℕ Errno)
    → lacks_pool result ≡ true → IsSent fd to bytes v result u → WasLack v result u
was_lack {v = v} {u = u} (Ok n) h is = absurd (true≢false (sym h))
was_lack {v = v} {u = u} (Err errno) h is = record { reply = ap Refused (lack_is errno h); same = go is.refused }
  where
    go : (errno ≡ NoBufs Queue) ⊎ (u ≡ v) → u ≡ v
    go (inl e) = absurd (true≢false (sym h ∙ ap is_pool_lack e))
    go (inr e) = e

-- ---- the first attempt doesn't fail for lack of buffers

pub tried_at_once : {fd : ℕ} {to : Option Addr} {bytes : List ℕ} {v u : SendView} {r : TableView}
    {result : Result ℕ Errno} → lacks_pool result ≡ false → IsOnce fd to bytes v r result u
    → IsTried fd to bytes v r result u r
tried_at_once {fd} {to} {bytes} {v} {u} {r} {result} enough is = record {
  goes = λ rest new mtu acc all. sends_at_once fd to bytes (host_state v r rest) (sent_reply result)
      (train_packets u.pool u.net.looped) (host_state u r rest) new (no_lack result enough) (is.step rest mtu acc) all;
  accounts = is.accounts;
  parts = is.parts;
}

-- ---- the unfinished datagrams are dropped, and their buffers freed

pub record IsReclaimed (v : SendView) (r : TableView) (q : PoolView) (t : TableView) (c : Counters) : Type 0 where
  pub can : CanSend (sending q v.socks (record (v.net) { counters = c }))
  pub shows : (rest : State) → host_state (sending q v.socks (record (v.net) { counters = c })) t rest
      ≡ reclaimed (host_state v r rest)
  pub accounts : (rest : State) → IsAccounted v.pool (host_state v r rest) nothing
      → IsAccounted q (host_state (sending q v.socks (record (v.net) { counters = c })) t rest) nothing
  pub owned : IsOwned q (held_all q t.datagrams ++ out_chains (sending q v.socks (record (v.net) { counters = c })))
  pub moves : Moves v.pool (held_all v.pool r.datagrams ++ out_chains v) q
      (held_all q t.datagrams ++ out_chains (sending q v.socks (record (v.net) { counters = c })))

none_of : {X : Type 0} (xs : List X) → length xs ≡ 0 → xs ≡ []
none_of [] e = refl
none_of (x ∷ xs) e = absurd (omega arith)

pub gives_back : {v : SendView} {r t : TableView} {q : PoolView} {c : Counters} (k : ℕ) → CanSend v → IsReady v.pool r
    → IsOwned v.pool (held_all v.pool r.datagrams ++ out_chains v) → length t.datagrams ≡ 0 → k ≡ length r.datagrams
    → c ≡ counts_more IpReclaimed k v.net.counters → Moves v.pool (held_all v.pool r.datagrams) q []
    → IsReclaimed v r q t c
gives_back {v} {r} {t} {q} {c} k can ready owned none count is_c m =
    let p : PoolView = v.pool in
    let w : SendView = sending q v.socks (record (v.net) { counters = c }) in
    let xs : List ℕ = held_all p r.datagrams in
    let ys : List ℕ = numbers p v.net.out in
    let zs : List ℕ = queued_chains p v.socks.queues in
    let split : (j : ℕ) → times_among j (xs ++ out_chains v)
    ≡ times_among j xs + (times_among j ys + times_among j zs) =
    λ j. omega (arith, times-append j xs (ys ++ zs), times-append j ys zs) in
    let same : SameAt p q (ys ++ zs) = same_beside (ys ++ zs) m
    (λ j. omega (arith, owned j, split j, times-append j ys zs))
    (λ j h. omega (arith, h, owned j, split j, times-append j ys zs, live_at_most p j)) in
    let o : OutputKept p q v.net.out = output_kept p q v.net.out
    (same_part p q (ys ++ zs) ys same (λ j. omega (arith, times-append j ys zs))) can.out in
    let s : Kept p q v.socks = kept p q v.socks (same_part p q (ys ++ zs) zs same
    (λ j. omega (arith, times-append j ys zs))) can.socks in
    let empty : t.datagrams ≡ [] = none_of t.datagrams none in
    let counts : c ≡ counts_more IpReclaimed (length (unfinished p r.datagrams)) v.net.counters = is_c
    ∙ ap (λ (n : ℕ). counts_more IpReclaimed n v.net.counters) (count ∙ sym (length-unfinished p r.datagrams)) in
    let now : (rest : State) → host_state w t rest ≡ reclaimed (host_state v r rest) =
    λ rest i. machine (record rest {
      unfinished = unfinished q (empty i);
      output = o.shows i;
      next_id = v.net.next_id;
      counters = counts i;
    }) (λ fd. s.shows fd i) v.socks.pcbs in
    let all : Moves p (xs ++ out_chains v) q (held_all q t.datagrams ++ out_chains w) =
    moves_beside (xs ++ out_chains v) (held_all q t.datagrams ++ out_chains w) (ys ++ zs) m
    (λ j. omega (arith, split j, times-append j ys zs))
    (λ j. omega (
      arith,
      times-append j (held_all q t.datagrams) (out_chains w),
      times-append j (numbers q v.net.out) (queued_chains q v.socks.queues),
      times-append j ys zs,
      ap (times_among j) o.chains,
      ap (times_among j) s.chains,
      ap (λ ds. times_among j (held_all q ds)) empty,
    )) in
    let left : IsOwned q (held_all q t.datagrams ++ out_chains w) = owned_after all owned in
    record {
      can = record {
        socks = s.ready;
        out = o.queue;
        owned = λ j. omega (arith, left j, times-append j (held_all q t.datagrams) (out_chains w));
        looped = held_same p q v.net.looped (same_part p q (ys ++ zs) (numbers p v.net.looped) same
            (λ j. omega (arith, ap (times_among j) (none_left p v.net.looped can.none)))) can.looped;
        none = can.none;
        mtu = can.mtu;
        apart = can.apart;
        outside = can.outside;
      };
      shows = now;
      accounts = λ rest acc. subst (λ (x : State). IsAccounted q x nothing) (sym (now rest))
          (let old : State = host_state v r rest in
          let ws : Weight = all_of (λ (socket : Socket). all_of (λ d. d.item.weight) socket.queue)
          (sockets_with (queues_of p v.socks.queues) v.socks.pcbs) in
          let wu : Weight = all_of (λ (u : Unfinished). mbuf ⊕ weight_of_pieces u.bytes) (unfinished p r.datagrams) in
          let wo : Weight = all_of (λ (item : Item). item.weight) (train_packets p v.net.out) in
          let of_table : SameWeight (weight_owned p xs) wu = table_weighs p r.datagrams ready.table.each in
          accounted_after acc m (λ j. omega (arith, owned j, split j)) refl (record {
            mbufs = omega (arith, of_table.mbufs);
            bag = λ j. omega (
              arith,
              of_table.bag j,
              times-both j (ws ⊕ wu ⊕ wo) nothing,
              times-both j (ws ⊕ wu) wo,
              times-both j ws wu,
              times-both j (ws ⊕ nothing ⊕ wo) nothing,
              times-both j (ws ⊕ nothing) wo,
              times-both j ws nothing,
            );
          }));
      owned = left;
      moves = all;
    }

-- ---- the second attempt

pub tried_again : {fd : ℕ} {to : Option Addr} {bytes : List ℕ} {v u w : SendView} {r t : TableView}
    {first result : Result ℕ Errno} {q : PoolView} {c : Counters}
    → WasLack v first u → IsOnce fd to bytes v r first u → IsReclaimed v r q t c
    → IsOnce fd to bytes (sending q v.socks (record (v.net) { counters = c })) t result w
    → IsTried fd to bytes v r result w t
tried_again {fd} {to} {bytes} {v} {u} {w} {r} {t} {first} {result} {q} {c} lack one back two = record {
  goes = λ rest new mtu acc all.
      sends_again fd to bytes (host_state v r rest) (train_packets u.pool u.net.looped) (host_state u r rest)
      (sent_reply result)
      (train_packets w.pool w.net.looped) (host_state w t rest) new
      (subst (λ (reply : Reply). SendsOnce exact_ledger fd to bytes (host_state v r rest) reply
      (train_packets u.pool u.net.looped) (host_state u r rest)) lack.reply (one.step rest mtu acc))
      (subst (λ (old : State). SendsOnce exact_ledger fd to bytes old (sent_reply result)
      (train_packets w.pool w.net.looped)
      (host_state w t rest)) (back.shows rest) (two.step rest mtu (back.accounts rest acc)))
      all;
  accounts = λ rest acc. two.accounts rest (back.accounts rest acc);
  parts = record {
    socks = two.parts.socks;
    out = two.parts.out;
    looped = two.parts.looped;
    plain = two.parts.plain;
    reass = two.parts.reass;
    mtu = two.parts.mtu;
    moves = moves_trans back.moves two.parts.moves;
  };
}
