-- A delivery to one receiver: its three outcomes, and the accounts after each.
use Rattle.std.proofs.Common.{◌≡◌, ℕ, ◌+◌, Bool, true, false, List, [], ◌∷◌, ◌++◌, length, Option, Some, None, option_map, is_some, refl, sym, ap, ◌∙◌, subst, arith}
use Rattle.std.proofs.lemmas.Bool.{false≢true}
use Rattle.std.proofs.lemmas.Option.{same_Some}
use Rattle.flat_model.specs.Amounts.Weight.{Weight, Item, mbuf, nothing, ◌⊕◌, all_of, times as bag_times}
use Rattle.flat_model.specs.Fragments.Whole.{weight_of_pieces}
use Rattle.flat_model.specs.Machine.State.{State, Socket, Unfinished, ends, change_socket}
use Rattle.flat_model.specs.Machine.Count.{counted}
use Rattle.flat_model.specs.Machine.Ledger.{weight_of_state, exact_ledger, HasBuffers, need_mbufs}
use Rattle.flat_model.specs.Machine.Arrival.{AppendsAs, with_datagram}
use Rattle.flat_model.specs.Machine.Fate.{told_one}
use Rattle.flat_model.specs.Sockets.Fits.{fits, memory_of}
use Rattle.flat_model.specs.declared.address.Addr.{Addr}
use Rattle.flat_model.specs.declared.counters.Counters.{Counters}
use Rattle.flat_model.specs.declared.counters.Why.{Why}
use Rattle.flat_model.specs.declared.counters.Why.TheVariants.{NoBufs, UdpFullSocket}
use Rattle.flat_model.proofs.Laws.{times-both, all_of-append}
use Rattle.mbuf_chain.specs.Chain.{ChainView, PoolView, chain_of, flat_bytes, string, without}
use Rattle.mbuf_chain.specs.Owners.{times_among, IsOwned, Moves}
use Rattle.mbuf_chain.specs.Frames.{SameAt}
use Rattle.mbuf_chain.proofs.Laws.Owners.{times_same, times-append, live_at_most, live_first, apart_first, moves_without, moves_beside, moves_trans, same_without, same_beside, owned_after, chain_same}
use Rattle.pcb_table.specs.declared.block.Block.{Block}
use Rattle.pcb_table.specs.Table.{Table, IsOpen, block_at, machine, socket_with, sockets_with}
use Rattle.pcb_table.proofs.Laws.{same_machine, queue_changed}
use Rattle.ledger.specs.Accounts.{entries_weight, weight_at, weight_owned, item_at, IsAccounted}
use Rattle.ledger.specs.Reserve.{Reserves}
use Rattle.ledger.proofs.Laws.{accounted_after}
use Rattle.sockbuf.specs.SockBuf.{SockBufView, datagram_from}
use Rattle.sock_calls.specs.Sockets.{SocksFit, SocksView, IsSocks, StepsAt, queues_of, queued_chains, with_net, with_sockets}
use Rattle.sock_calls.specs.Delivery.{NetView, KeepsParts, net_view, IsAppended}
use Rattle.sock_calls.proofs.Weights.{queue_weight, socks_weigh}
use Rattle.sock_calls.proofs.Frames.{Kept, kept}

-- ---- accounts

-- the held weight changes from `held` to `kept` as the chains' weight changes from `before` to `after`
pub record Hand (held : Weight) (before : Weight) (kept : Weight) (after : Weight) : Type 0 where
  pub mbufs : held.mbufs + after.mbufs ≡ kept.mbufs + before.mbufs
  pub bag : (c : ℕ) → bag_times c held.bag + bag_times c after.bag ≡ bag_times c kept.bag + bag_times c before.bag

pub moved_accounts : {p q : PoolView} {held kept : Weight} (t : Table) (bs cs : List SockBufView) (rest : State)
    (ins outs : List ℕ)
    → IsSocks p (record { pcbs = t; queues = bs }) → IsSocks q (record { pcbs = t; queues = cs })
    → Moves p (ins ++ queued_chains p bs) q (outs ++ queued_chains q cs) → IsOwned p (ins ++ queued_chains p bs)
    → Hand held (weight_owned p ins) kept (weight_owned q outs)
    → IsAccounted p (with_sockets p (record { pcbs = t; queues = bs }) rest) held
    → IsAccounted q (with_sockets q (record { pcbs = t; queues = cs }) rest) kept
moved_accounts {p} {q} {held} {kept} t bs cs rest ins outs is_p is_q m o h a =
    let u : Weight = all_of (λ (x : Unfinished). mbuf ⊕ weight_of_pieces x.bytes) rest.unfinished in
    let out : Weight = all_of (λ (item : Item). item.weight) rest.output in
    let sp : Weight = all_of (λ (socket : Socket). queue_weight socket.queue) (sockets_with (queues_of p bs) t) in
    let sq : Weight = all_of (λ (socket : Socket). queue_weight socket.queue) (sockets_with (queues_of q cs) t) in
    let wp = socks_weigh p (record { pcbs = t; queues = bs }) is_p in
    let wq = socks_weigh q (record { pcbs = t; queues = cs }) is_q in
    let before = all_of-append (weight_at p) ins (queued_chains p bs) in
    let after = all_of-append (weight_at q) outs (queued_chains q cs) in
    accounted_after a m o refl (record {
      mbufs = omega (
        arith,
        h.mbufs,
        wp.mbufs,
        wq.mbufs,
        ap (λ (x : Weight). x.mbufs) before,
        ap (λ (x : Weight). x.mbufs) after,
      );
      bag = λ k. omega (
        arith,
        h.bag k,
        wp.bag k,
        wq.bag k,
        ap (λ (x : Weight). bag_times k x.bag) before,
        ap (λ (x : Weight). bag_times k x.bag) after,
        times-both k (weight_owned p ins) (weight_owned p (queued_chains p bs)),
        times-both k (weight_owned q outs) (weight_owned q (queued_chains q cs)),
        times-both k (sp ⊕ u ⊕ out) held,
        times-both k (sp ⊕ u) out,
        times-both k sp u,
        times-both k (sq ⊕ u ⊕ out) kept,
        times-both k (sq ⊕ u) out,
        times-both k sq u,
      );
    })

-- the caller gives up one chain
pub one_goes : (p q : PoolView) (c : ℕ) (held : Weight)
    → Hand (held ⊕ weight_at p c) (weight_owned p (c ∷ [])) held (weight_owned q [])
one_goes p q c held = record {
  mbufs = omega arith;
  bag = λ k. omega (arith, times-both k held (weight_at p c), times-both k (weight_at p c) nothing);
}

-- counting a dropped packet keeps the accounts
pub ends_accounted : {p : PoolView} {s : State} {held : Weight} (why : Why) → IsAccounted p s held
    → IsAccounted p (ends why s) held
ends_accounted why b = record { mbufs = b.mbufs; clusters = b.clusters; total = b.total; references = b.references }

pub freed_accounts : {p q : PoolView} {s : State} {held : Weight} (c : ℕ) (why : Why)
    → IsAccounted p s (held ⊕ weight_at p c) → IsOwned p (c ∷ []) → q ≡ without p c → IsAccounted q (ends why s) held
freed_accounts {p} {q} {s} {held} c why b o e =
    let w : Weight = weight_at p c in
    accounted_after b (moves_without p q c (live_first p c [] o) e) o refl (record {
      mbufs = omega arith;
      bag = λ k. omega (
        arith,
        times-both k (weight_of_state s) (held ⊕ w),
        times-both k held w,
        times-both k (weight_of_state s) held,
        times-both k w nothing,
      );
    })

-- ---- the machine after a step that changes no queue
pub shows_same : (p q : PoolView) (t : Table) (bs : List SockBufView) {us vs : List Unfinished} (c : Counters)
    (rest : State) → ((k : ℕ) → queues_of q bs k ≡ queues_of p bs k) → vs ≡ us
    → with_net q (record { pcbs = t; queues = bs }) vs c rest ≡ with_net p (record { pcbs = t; queues = bs }) us c rest
shows_same p q t bs {us} {vs} c rest shows same =
    same_machine (queues_of q bs) (queues_of p bs) t (record rest { unfinished = vs; counters = c }) (λ k _. shows k)
    ∙ (λ i. machine (record rest { unfinished = same i; counters = c }) (queues_of p bs) t)

pub ends_here : (p q : PoolView) (t : Table) (bs : List SockBufView) {us vs : List Unfinished} (c : Counters)
    {d : Counters} (why : Why) (rest : State) → ((k : ℕ) → queues_of q bs k ≡ queues_of p bs k) → vs ≡ us
    → d ≡ counted why c
    → with_net q (record { pcbs = t; queues = bs }) vs d rest
    ≡ ends why (with_net p (record { pcbs = t; queues = bs }) us c rest)
ends_here p q t bs {us} {vs} c {d} why rest shows same is =
    shows_same p q t bs d rest shows same ∙ (λ i. with_net p (record { pcbs = t; queues = bs }) us (is i) rest)

-- ---- the three outcomes, as in the machine
module _ (Says : Option Why → State → State → Type 0) (held : Weight) (sender : Addr) (item : Item) (to : Socket)
    (old mid new : State) where
  full_appends : fits to.limit to.queue (length item.bytes) (memory_of item.weight) ≡ false
      → Says (Some UdpFullSocket) new (ends UdpFullSocket old)
      → AppendsAs exact_ledger Says held sender item to old new
  full_appends f e = record { yes = λ t. absurd (false≢true (sym f ∙ t)); no = λ _. e }

  lacking_appends : fits to.limit to.queue (length item.bytes) (memory_of item.weight) ≡ true
      → HasBuffers exact_ledger old (held ⊕ item.weight) (need_mbufs 1) false mid → Says (Some NoBufs) new
      (ends NoBufs mid)
      → AppendsAs exact_ledger Says held sender item to old new
  lacking_appends f a e = record {
    yes = λ _. record {
      answer = false;
      mid = mid;
      has_buffers = a;
      goes_on = record { yes = λ t. absurd (false≢true t); no = λ _. e };
    };
    no = λ t. absurd (false≢true (sym t ∙ f));
  }

  fitting_appends : fits to.limit to.queue (length item.bytes) (memory_of item.weight) ≡ true
      → HasBuffers exact_ledger old (held ⊕ item.weight) (need_mbufs 1) true mid
      → Says None new (change_socket to.fd
      (with_datagram (record { sender = sender; item = record item { weight = mbuf ⊕ item.weight } })) mid)
      → AppendsAs exact_ledger Says held sender item to old new
  fitting_appends f a e = record {
    yes = λ _. record {
      answer = true;
      mid = mid;
      has_buffers = a;
      goes_on = record { yes = λ _. e; no = λ t. absurd (false≢true (sym t)) };
    };
    no = λ t. absurd (false≢true (sym t ∙ f));
  }

-- ---- the caller's chain is freed
pub record Freed (p : PoolView) (c : ℕ) (xs : List ℕ) (s : SocksView) (q : PoolView) : Type 0 where
  pub same : SameAt p q xs
  pub socks : Kept p q s
  pub moves : Moves p (c ∷ (xs ++ queued_chains p s.queues)) q (xs ++ queued_chains q s.queues)

pub freed : {p q : PoolView} {c : ℕ} {xs : List ℕ} {s : SocksView} → SocksFit p s (c ∷ xs) → q ≡ without p c
    → Freed p c xs s q
freed {p} {q} {c} {xs} {s} fit e =
    let ys : List ℕ = queued_chains p s.queues in
    let gone : times_among c (xs ++ ys) ≡ 0 = apart_first p c (xs ++ ys) fit.owned in
    let no_xs : times_among c xs ≡ 0 = omega (arith, gone, times-append c xs ys) in
    let no_ys : times_among c ys ≡ 0 = omega (arith, gone, times-append c xs ys) in
    let k : Kept p q s = kept p q s (same_without p q c ys no_ys e) fit.socks in
    let m : Moves p (c ∷ []) q [] = moves_without p q c (live_first p c (xs ++ ys) fit.owned) e in
    record {
      same = same_without p q c xs no_xs e;
      socks = k;
      moves = subst (λ (zs : List ℕ). Moves p (c ∷ (xs ++ ys)) q (xs ++ zs)) (sym k.chains)
          (moves_beside (c ∷ (xs ++ ys)) (xs ++ ys) (xs ++ ys) m (λ k. omega arith) (λ k. omega arith));
    }

-- ---- the pool was tested
pub record Tested (p : PoolView) (c : ℕ) (xs : List ℕ) (s : SocksView) (q : PoolView) (ys : List ℕ) : Type 0 where
  pub chain : chain_of q c ≡ chain_of p c
  pub shows : (fd : ℕ) → queues_of q s.queues fd ≡ queues_of p s.queues fd
  pub fit : SocksFit q s (c ∷ ys)
  pub moves : Moves p (c ∷ (xs ++ queued_chains p s.queues)) q (c ∷ (ys ++ queued_chains q s.queues))

pub tested : {p q : PoolView} {c : ℕ} {xs ys : List ℕ} {s : SocksView} → SocksFit p s (c ∷ xs) → Moves p xs q ys
    → Tested p c xs s q ys
tested {p} {q} {c} {xs} {ys} {s} fit m =
    let o = fit.owned in
    let zs : List ℕ = queued_chains p s.queues in
    let rest : SameAt p q (c ∷ zs) =
    same_beside (c ∷ zs) m (λ k. omega (arith, o k, times-append k xs zs))
    (λ k h. omega (arith, o k, h, live_at_most p k, times-append k xs zs)) in
    let k : Kept p q s =
    kept p q s (record { same = λ k h. rest.same k (omega (arith, h)); mbufs = rest.mbufs }) fit.socks in
    let all : Moves p (c ∷ (xs ++ zs)) q (c ∷ (ys ++ queued_chains q s.queues)) =
    subst (λ (l : List ℕ). Moves p (c ∷ (xs ++ zs)) q (c ∷ (ys ++ l))) (sym k.chains)
    (moves_beside (c ∷ (xs ++ zs)) (c ∷ (ys ++ zs)) (c ∷ zs) m
    (λ k. omega (arith, times-append k xs zs)) (λ k. omega (arith, times-append k ys zs))) in
    record {
      chain = chain_same p q (c ∷ zs) c rest (omega (arith, times_same c zs));
      shows = k.shows;
      fit = record { socks = k.ready; owned = owned_after all o };
      moves = all;
    }

-- the parts fit after a step that keeps the caller's chain
pub keeps_fit : {v u : NetView} {c : ℕ} → KeepsParts v (c ∷ []) u (c ∷ []) → SocksFit v.pool v.socks (c ∷ v.waiting)
    → SocksFit u.pool u.socks (c ∷ u.waiting)
keeps_fit k fit = record { socks = k.ready; owned = owned_after k.moves fit.owned }

-- the same for an equal table, and equal chains elsewhere
pub fit_as : {q : PoolView} {t u : Table} {bs : List SockBufView} {c : ℕ} {xs ys : List ℕ}
    → SocksFit q (record { pcbs = t; queues = bs }) (c ∷ xs) → u ≡ t → ys ≡ xs
    → SocksFit q (record { pcbs = u; queues = bs }) (c ∷ ys)
fit_as {q} {t} {u} {bs} {c} fit e f = record {
  socks = subst (λ (x : Table). IsSocks q (record { pcbs = x; queues = bs })) (sym e) fit.socks;
  owned = subst (λ (zs : List ℕ). IsOwned q (c ∷ (zs ++ queued_chains q bs))) (sym f) fit.owned;
}

-- ---- the caller's chain is put into a queue
pub record Joined (p : PoolView) (c : ℕ) (xs : List ℕ) (bs : List SockBufView) (q : PoolView) (cs : List SockBufView)
    : Type 0 where
  pub same : SameAt p q xs
  pub moves : Moves p (c ∷ (xs ++ queued_chains p bs)) q (xs ++ queued_chains q cs)

pub joined : (p q : PoolView) (c : ℕ) (xs : List ℕ) (bs cs : List SockBufView)
    → IsOwned p (c ∷ (xs ++ queued_chains p bs)) → Moves p (c ∷ queued_chains p bs) q (queued_chains q cs)
    → Joined p c xs bs q cs
joined p q c xs bs cs o m = record {
  same = same_beside xs m (λ k. omega (arith, o k, times-append k xs (queued_chains p bs)))
      (λ k h. omega (arith, o k, h, live_at_most p k, times-append k xs (queued_chains p bs)));
  moves = moves_beside (c ∷ (xs ++ queued_chains p bs)) (xs ++ queued_chains q cs) xs m
      (λ k. omega (arith, times-append k xs (queued_chains p bs)))
      (λ k. omega (arith, times-append k xs (queued_chains q cs)));
}

-- ---- the three outcomes, as in the contract

-- the block that the clause names is that of the descriptor
abbrev Named : ℕ → Table → Type 0
Named fd t = (b : Block) → block_at fd t ≡ Some b → b.fd ≡ fd

-- the queue of the descriptor has this limit
abbrev pub HasLimit : ℕ → Table → ℕ → Type 0
HasLimit fd t limit = (b : Block) → block_at fd t ≡ Some b → b.receive_limit ≡ limit

pub limit_at : (t : Table) (fd limit : ℕ)
    → option_map (λ (b : Block). b.receive_limit) (block_at fd t) ≡ Some limit → HasLimit fd t limit
limit_at t fd limit h = λ b e.
    same_Some b.receive_limit limit (sym (ap (option_map (λ (x : Block). x.receive_limit)) e) ∙ h)

-- if the queue is full, the chain is freed and counted
pub record IsFull (limit : ℕ) (p : PoolView) (t : Table) (bs : List SockBufView) (us : List Unfinished) (xs : List ℕ)
    (c : Counters)
    (chain fd : ℕ) (q : PoolView) (vs : List Unfinished) (ys : List ℕ) (d : Counters) : Type 0 where
  pub fit : SocksFit p (record { pcbs = t; queues = bs }) (chain ∷ xs)
  pub named : Named fd t
  pub limited : HasLimit fd t limit
  pub full : fits limit (queues_of p bs fd) (length (string (chain_of p chain)))
      (memory_of (weight_at p chain)) ≡ false
  pub freed : q ≡ without p chain
  pub unfinished : SameAt p q xs → vs ≡ us
  pub waiting : SameAt p q xs → ys ≡ xs
  pub counters : d ≡ counted UdpFullSocket c

pub full_end : {p q : PoolView} {t : Table} {bs : List SockBufView} {us vs : List Unfinished} {xs ys : List ℕ}
    {c d : Counters} {chain fd limit : ℕ} (sender : Addr) → IsFull limit p t bs us xs c chain fd q vs ys d
    → IsAppended (net_view p (record { pcbs = t; queues = bs }) us xs c) chain fd sender (Some UdpFullSocket)
    (net_view q (record { pcbs = t; queues = bs }) vs ys d)
full_end {p} {q} {t} {bs} {us} {vs} {xs} {ys} {c} {d} {chain} {fd} {limit} sender f =
    let s : SocksView = record { pcbs = t; queues = bs } in
    let gone = freed f.fit f.freed in
    let now : (rest : State) → with_net q s vs d rest ≡ ends UdpFullSocket (with_net p s us c rest) =
    λ rest. ends_here p q t bs c UdpFullSocket rest gone.socks.shows (f.unfinished gone.same) f.counters in
    record {
      step = λ rest held b e a.
          full_appends (told_one (Some UdpFullSocket)) held sender (item_at p chain)
          (socket_with (queues_of p bs) b) (with_net p s us c rest)
          (with_net p s us c rest) (with_net q s vs d rest)
          (ap (λ (n : ℕ). fits n (queues_of p bs b.fd) (length (string (chain_of p chain)))
          (memory_of (weight_at p chain)))
          (f.limited b e)
          ∙ ap (λ (k : ℕ). fits limit (queues_of p bs k) (length (string (chain_of p chain)))
          (memory_of (weight_at p chain)))
          (f.named b e) ∙ f.full)
          (refl, now rest);
      others = λ k ne. gone.socks.shows k;
      parts = record {
        accounts = λ rest held a. subst (λ (x : State). IsAccounted q x held) (sym (now rest))
            (freed_accounts chain UdpFullSocket a (λ k. omega (arith, f.fit.owned k)) f.freed);
        ready = gone.socks.ready;
        pcbs = refl;
        moves = subst (λ (zs : List ℕ). Moves p (chain ∷ (xs ++ queued_chains p bs)) q (zs ++ queued_chains q bs))
            (sym (f.waiting gone.same)) gone.moves;
      };
    }

-- the state after a test of the pool, as in the machine
pub record IsTested (p : PoolView) (t : Table) (bs : List SockBufView) (us : List Unfinished) (xs : List ℕ)
    (c : Counters) (chain : ℕ) (n : ℕ) (answer : Bool) (q : PoolView) (vs : List Unfinished) (ys : List ℕ)
    (d : Counters) : Type 0 where
  pub fit : SocksFit p (record { pcbs = t; queues = bs }) (chain ∷ xs)
  pub moves : Moves p xs q ys
  pub reserves : (s : State) (held : Weight) → s.unfinished ≡ us → s.counters ≡ c → IsAccounted p s held
      → Reserves s held (need_mbufs n) answer (record s { unfinished = vs; counters = d }) q

-- if the pool lacks an mbuf, the chain is freed and counted
pub lacking_end : {p q r : PoolView} {t : Table} {bs : List SockBufView} {us vs ws : List Unfinished}
    {xs ys zs : List ℕ} {c d e : Counters} {chain fd limit : ℕ} (sender : Addr)
    → IsTested p t bs us xs c chain 1 false q vs ys d → Named fd t → HasLimit fd t limit
    → fits limit (queues_of p bs fd) (length (string (chain_of p chain)))
    (memory_of (weight_at p chain)) ≡ true
    → r ≡ without q chain → (SameAt q r ys → ws ≡ vs) → (SameAt q r ys → zs ≡ ys) → e ≡ counted NoBufs d
    → IsAppended (net_view p (record { pcbs = t; queues = bs }) us xs c) chain fd sender (Some NoBufs)
    (net_view r (record { pcbs = t; queues = bs }) ws zs e)
lacking_end {p} {q} {r} {t} {bs} {us} {vs} {ws} {xs} {ys} {zs} {c} {d} {e} {chain} {fd} {limit}
    sender i named limited room
    is_r same_ws same_zs is_e =
    let s : SocksView = record { pcbs = t; queues = bs } in
    let x = tested i.fit i.moves in
    let gone = freed x.fit is_r in
    let now : (rest : State) → with_net r s ws e rest ≡ ends NoBufs (with_net p s vs d rest) =
    λ rest. ends_here p r t bs d NoBufs rest (λ k. gone.socks.shows k ∙ x.shows k) (same_ws gone.same) is_e in
    record {
      step = λ rest held b at a.
          lacking_appends (told_one (Some NoBufs)) held sender (item_at p chain) (socket_with (queues_of p bs) b)
          (with_net p s us c rest)
          (with_net p s vs d rest) (with_net r s ws e rest)
          (ap (λ (n : ℕ). fits n (queues_of p bs b.fd) (length (string (chain_of p chain)))
          (memory_of (weight_at p chain)))
          (limited b at)
          ∙ ap (λ (k : ℕ). fits limit (queues_of p bs k) (length (string (chain_of p chain)))
          (memory_of (weight_at p chain)))
          (named b at) ∙ room)
          (i.reserves (with_net p s us c rest) (held ⊕ weight_at p chain) refl refl a).has_buffers (refl, now rest);
      others = λ k ne. gone.socks.shows k ∙ x.shows k;
      parts = record {
        accounts = λ rest held a.
            subst (λ (m : State). IsAccounted r m held) (sym (now rest))
            (freed_accounts chain NoBufs
            (subst (λ (v : ChainView). IsAccounted q (with_net p s vs d rest) (held ⊕ entries_weight v.entries))
            (sym x.chain) (i.reserves (with_net p s us c rest) (held ⊕ weight_at p chain) refl refl a).accounted)
            (λ k. omega (arith, x.fit.owned k)) is_r);
        ready = gone.socks.ready;
        pcbs = refl;
        moves = moves_trans x.moves
            (subst (λ (l : List ℕ). Moves q (chain ∷ (ys ++ queued_chains q bs)) r (l ++ queued_chains r bs))
            (sym (same_zs gone.same)) gone.moves);
      };
    }

-- the datagram is in the queue
pub fitting_end : {p q r : PoolView} {t : Table} {bs cs : List SockBufView} {us vs ws : List Unfinished}
    {xs ys zs : List ℕ} {c d : Counters} {chain fd limit : ℕ} (sender : Addr)
    → IsTested p t bs us xs c chain 1 true q vs ys d → Named fd t → HasLimit fd t limit → IsOpen fd t
    → fits limit (queues_of p bs fd) (length (string (chain_of p chain)))
    (memory_of (weight_at p chain)) ≡ true
    → StepsAt q (chain ∷ []) bs fd r [] cs → queues_of r cs fd ≡ queues_of q bs fd ++ datagram_from sender q chain ∷ []
    → (SameAt q r ys → ws ≡ vs) → (SameAt q r ys → zs ≡ ys)
    → IsAppended (net_view p (record { pcbs = t; queues = bs }) us xs c) chain fd sender None
    (net_view r (record { pcbs = t; queues = cs }) ws zs d)
fitting_end {p} {q} {r} {t} {bs} {cs} {us} {vs} {ws} {xs} {ys} {zs} {c} {d} {chain} {fd} {limit}
    sender i named limited opened
    room st here same_ws same_zs =
    let s : SocksView = record { pcbs = t; queues = bs } in
    let x = tested i.fit i.moves in
    let j = joined q r chain ys bs cs x.fit.owned st.moves in
    let ready : IsSocks r (record { pcbs = t; queues = cs }) = record {
      each = st.each;
      owned = st.owned;
      places = st.len ∙ i.fit.socks.places;
      apart = i.fit.socks.apart;
      closed = λ k none. st.others k (λ e. false≢true
          (sym (ap is_some none) ∙ ap (λ (j : ℕ). is_some (block_at j t)) e ∙ opened)) ∙ x.shows k
          ∙ i.fit.socks.closed k none;
    } in
    let came : queues_of r cs fd ≡ queues_of p bs fd ++ datagram_from sender p chain ∷ [] =
    here ∙ (λ n. x.shows fd n ++ record {
      sender = sender;
      item = record { bytes = flat_bytes (x.chain n).entries; weight = mbuf ⊕ entries_weight (x.chain n).entries };
    }
    ∷ []) in
    let pushed : (rest : State) → with_net r (record { pcbs = t; queues = cs }) ws d rest
    ≡ change_socket fd (with_datagram (datagram_from sender p chain)) (with_net p s vs d rest) = λ rest.
    (λ n. machine (record rest { unfinished = same_ws j.same n; counters = d }) (queues_of r cs) t)
    ∙ queue_changed (queues_of p bs) (queues_of r cs) t (record rest { unfinished = vs; counters = d }) fd
    (λ ds. ds ++ datagram_from sender p chain ∷ []) came (λ k ne. st.others k ne ∙ x.shows k) in
    record {
      step = λ rest held b at a.
          fitting_appends (told_one None) held sender (item_at p chain) (socket_with (queues_of p bs) b)
          (with_net p s us c rest)
          (with_net p s vs d rest) (with_net r (record { pcbs = t; queues = cs }) ws d rest)
          (ap (λ (n : ℕ). fits n (queues_of p bs b.fd) (length (string (chain_of p chain)))
          (memory_of (weight_at p chain)))
          (limited b at)
          ∙ ap (λ (k : ℕ). fits limit (queues_of p bs k) (length (string (chain_of p chain)))
          (memory_of (weight_at p chain)))
          (named b at) ∙ room)
          (i.reserves (with_net p s us c rest) (held ⊕ weight_at p chain) refl refl a).has_buffers (
            refl,
            pushed rest
                ∙ ap (λ (k : ℕ). change_socket k (with_datagram (datagram_from sender p chain))
                (with_net p s vs d rest))
                (sym (named b at)),
          );
      others = λ k ne. st.others k ne ∙ x.shows k;
      parts = record {
        accounts = λ rest held a.
            let a1 = (i.reserves (with_net p s us c rest) (held ⊕ weight_at p chain) refl refl a).accounted in
            let a2 = subst (λ (m : State). IsAccounted q m (held ⊕ weight_at p chain))
            (sym (shows_same p q t bs d rest x.shows refl)) a1 in
            let a3 = subst (λ (v : ChainView). IsAccounted q (with_net q s vs d rest) (held ⊕ entries_weight v.entries))
            (sym x.chain) a2 in
            subst (λ (us : List Unfinished). IsAccounted r (with_net r (record { pcbs = t; queues = cs }) us d rest)
            held) (sym (same_ws j.same))
            (moved_accounts t bs cs (record rest { unfinished = vs; counters = d }) (chain ∷ []) [] x.fit.socks ready
            st.moves (λ k. omega (arith, x.fit.owned k, times-append k ys (queued_chains q bs)))
            (one_goes q r chain held) a3);
        ready = ready;
        pcbs = refl;
        moves = moves_trans x.moves
            (subst (λ (l : List ℕ). Moves q (chain ∷ (ys ++ queued_chains q bs)) r (l ++ queued_chains r cs))
            (sym (same_zs j.same)) j.moves);
      };
    }
