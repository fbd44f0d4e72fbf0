-- A whole datagram that arrived: UDP's tests, and its delivery.
use Rattle.std.proofs.Common.{◌≡◌, ℕ, suc, List, [], ◌∷◌, ◌++◌, map, All, Option, Some, None, Ok, Err, is_some, refl, sym, ap, ◌∙◌, subst, arith}
use Rattle.std.specs.List.{AllByRecursion as Each}
use Rattle.std.proofs.lemmas.List.Elements.{recursion_from_All, All-from_recursion}
use Rattle.flat_model.specs.declared.lookup_key.LookupKey.{LookupKey}
use Rattle.flat_model.specs.Amounts.Weight.{Weight, Item, nothing, ◌⊕◌, times as bag_times}
use Rattle.flat_model.specs.Amounts.Layout as flat
use Rattle.flat_model.specs.Packets.Header.{udp_bytes}
use Rattle.flat_model.specs.Machine.Ledger.{weight_of_state}
use Rattle.flat_model.proofs.Laws.{times-both}
use Rattle.flat_model.specs.Machine.State.{State, Socket, Unfinished, ends}
use Rattle.flat_model.specs.Machine.Count.{counted}
use Rattle.flat_model.specs.Machine.Ledger.{exact_ledger}
use Rattle.flat_model.specs.Machine.Arrival.{DeliversAs, Offered, WholeArrivesAs}
use Rattle.flat_model.specs.Machine.Fate.{told_one, told_whole}
use Rattle.flat_model.specs.declared.address.Addr.{Addr}
use Rattle.flat_model.specs.declared.counters.Counters.{Counters}
use Rattle.flat_model.specs.declared.counters.Why.{Why}
use Rattle.flat_model.specs.declared.fate.Reached.{Reached}
use Rattle.mbuf_chain.specs.Chain.{ChainView, Entry, PoolView, chain_of, string}
use Rattle.mbuf_chain.specs.Owners.{IsOwned, Moves}
use Rattle.mbuf_chain.specs.Frames.{SameAt}
use Rattle.mbuf_chain.proofs.Laws.Owners.{times-append, live_at_most, moves_trans, moves_beside, owned_after, same_beside, shown_with}
use Rattle.chain_ops.specs.Weights.{layout_entries}
use Rattle.ip_out.specs.declared.head.IpHead.{IpHead}
use Rattle.pcb_table.specs.declared.block.Block.{Block}
use Rattle.pcb_table.specs.Table.{Table, Queues, IsOpen, block_at, socket_with}
use Rattle.ledger.specs.Accounts.{entries_weight, weight_at, item_at, IsAccounted}
use Rattle.ledger.proofs.Laws.{accounted_after}
use Rattle.sockbuf.specs.SockBuf.{SockBufView}
use Rattle.udp.specs.Datagrams as udp
use Rattle.udp.proofs.Laws.{delivered_arrives, dropped_arrives, data_weight, fds_of}
use Rattle.sock_calls.specs.Sockets.{SocksFit, SocksView, queues_of, queued_chains, with_net}
use Rattle.sock_calls.specs.Delivery.{net_view, IsDelivered, IsInput, socket_named, sockets_named}
use Rattle.sock_calls.proofs.Frames.{Kept, kept}
use Rattle.sock_calls.proofs.Delivered.{freed, freed_accounts, ends_here, shows_same}
use Rattle.sock_calls.proofs.Copies.{named_is}
use Rattle.sock_calls.proofs.Reaching.{as_whole, named_fds}

-- ---- weights
pub placed_weight : (es : List Entry) → flat.weight_of (layout_entries es) ≡ entries_weight es
placed_weight [] = refl
placed_weight (e ∷ es) = go e.cluster (placed_weight es)
  where
    go : (o : Option ℕ) → flat.weight_of (layout_entries es) ≡ entries_weight es
        → flat.weight_of (layout_entries (record { bytes = e.bytes; start = e.start; cluster = o } ∷ es))
        ≡ entries_weight (record { bytes = e.bytes; start = e.start; cluster = o } ∷ es)
    go None later = λ i. record { mbufs = suc (later i).mbufs; bag = (later i).bag }
    go (Some k) later = λ i. record { mbufs = suc (later i).mbufs; bag = k ∷ (later i).bag }

kept_weight : {p q : PoolView} {c d : ℕ} {h : IpHead} {t : Table} {to : List ℕ} {from : Addr}
    → udp.IsForSockets p c h t q to from d → weight_at q d ≡ weight_at p c
kept_weight {p} {q} {c} {d} is =
    ap (λ (k : ℕ). entries_weight (chain_of q k).entries) is.same
    ∙ ap (λ (v : ChainView). entries_weight v.entries) (shown_with p q c _ is.chain)
    ∙ sym (placed_weight _) ∙ data_weight _ (chain_of p c) ∙ placed_weight (chain_of p c).entries

-- ---- the sockets that match it
pub sockets_are : (f : Queues) (t : Table) (found : List Block) → Each (λ (b : Block). block_at b.fd t ≡ Some b) found
    → map (socket_with f) found ≡ sockets_named f t (map (λ b. b.fd) found)
sockets_are f t [] hs = refl
sockets_are f t (b ∷ bs) hs = let here : socket_with f b ≡ socket_named f t b.fd =
    sym (named_is f t b.fd b hs.0) in λ i. here i ∷ sockets_are f t bs hs.1 i

open_all : (t : Table) (found : List Block) → Each (λ (b : Block). block_at b.fd t ≡ Some b) found
    → Each (λ (fd : ℕ). IsOpen fd t) (map (λ b. b.fd) found)
open_all t [] hs = tt
open_all t (b ∷ bs) hs = (ap is_some hs.0, open_all t bs hs.1)

pub all_open : (t : Table) (destination : ℕ) (q : LookupKey) (fds : List ℕ) → udp.AreMatching t destination q fds
    → All (λ (fd : ℕ). IsOpen fd t) fds
all_open t destination q fds h =
    subst (All (λ (fd : ℕ). IsOpen fd t)) (sym h.named)
    (All-from_recursion (λ (fd : ℕ). IsOpen fd t) (map (λ b. b.fd) h.found)
    (open_all t h.found (recursion_from_All (λ (b : Block). block_at b.fd t ≡ Some b) h.found h.are_open)))

-- ---- the preconditions of the delivery
pub record Moved (p : PoolView) (c : ℕ) (xs : List ℕ) (s : SocksView) (q : PoolView) (d : ℕ) : Type 0 where
  pub same : SameAt p q xs
  pub shows : (fd : ℕ) → queues_of q s.queues fd ≡ queues_of p s.queues fd
  pub fit : SocksFit q s (d ∷ xs)
  pub moves : Moves p (c ∷ (xs ++ queued_chains p s.queues)) q (d ∷ (xs ++ queued_chains q s.queues))

pub moved : {p q : PoolView} {c d : ℕ} {xs : List ℕ} {s : SocksView} → SocksFit p s (c ∷ xs)
    → Moves p (c ∷ []) q (d ∷ []) → Moved p c xs s q d
moved {p} {q} {c} {d} {xs} {s} fit m =
    let o = fit.owned in
    let ys : List ℕ = queued_chains p s.queues in
    let all : SameAt p q (xs ++ ys) = same_beside (xs ++ ys) m (λ k. omega (arith, o k))
    (λ k h. omega (arith, o k, h, live_at_most p k)) in
    let k : Kept p q s = kept p q s (record {
      same = λ j h. all.same j (omega (arith, h, times-append j xs ys));
      mbufs = all.mbufs;
    }) fit.socks in
    let mv : Moves p (c ∷ (xs ++ ys)) q (d ∷ (xs ++ queued_chains q s.queues)) =
    subst (λ (l : List ℕ). Moves p (c ∷ (xs ++ ys)) q (d ∷ (xs ++ l))) (sym k.chains)
    (moves_beside (c ∷ (xs ++ ys)) (d ∷ (xs ++ ys)) (xs ++ ys) m (λ k. omega arith) (λ k. omega arith)) in
    record {
      same = record { same = λ j h. all.same j (omega (arith, h, times-append j xs ys)); mbufs = all.mbufs };
      shows = k.shows;
      fit = record { socks = k.ready; owned = owned_after mv o };
      moves = mv;
    }

-- ---- both outcomes
same_accounts : {p q : PoolView} {s : State} (held : Weight) (c d : ℕ) → IsAccounted p s (held ⊕ weight_at p c)
    → IsOwned p (c ∷ []) → Moves p (c ∷ []) q (d ∷ []) → weight_at q d ≡ weight_at p c
    → IsAccounted q s (held ⊕ weight_at q d)
same_accounts {p} {q} {s} held c d a o m e =
    accounted_after a m o refl (record {
      mbufs = omega (arith, ap (λ (w : Weight). w.mbufs) e);
      bag = λ k. omega (
        arith,
        ap (λ (w : Weight). bag_times k w.bag) e,
        times-both k (weight_of_state s) (held ⊕ weight_at p c),
        times-both k held (weight_at p c),
        times-both k (weight_of_state s) (held ⊕ weight_at q d),
        times-both k held (weight_at q d),
        times-both k (weight_at p c) nothing,
        times-both k (weight_at q d) nothing,
      );
    })

pub delivered_input : {p q r : PoolView} {t u : Table} {bs cs : List SockBufView} {us vs ws : List Unfinished}
    {xs ys zs : List ℕ} {c e : Counters} {chain d : ℕ} {h : IpHead} {to : List ℕ} {from : Addr} {reached : Reached}
    → SocksFit p (record { pcbs = t; queues = bs }) (chain ∷ xs)
    → udp.IsForSockets p chain h t q to from d → Moves p (chain ∷ []) q (d ∷ []) → vs ≡ us → ys ≡ xs
    → IsDelivered (net_view q (record { pcbs = t; queues = bs }) vs ys c) d to from reached
    (net_view r (record { pcbs = u; queues = cs }) ws zs e)
    → IsInput (net_view p (record { pcbs = t; queues = bs }) us xs c) chain h.src h.dst h.proto (Ok reached)
    (net_view r (record { pcbs = u; queues = cs }) ws zs e)
delivered_input {p} {q} {r} {t} {u} {bs} {cs} {us} {vs} {ws} {xs} {ys} {zs} {c} {e} {chain} {d} {h} {to} {from}
    {reached} fit
    is m same_vs same_ys done =
    let s : SocksView = record { pcbs = t; queues = bs } in
    let x = moved fit m in
    let heavy : weight_at q d ≡ weight_at p chain = kept_weight is in
    let now : (rest : State) → with_net q s vs c rest ≡ with_net p s us c rest =
    λ rest. shows_same p q t bs c rest x.shows same_vs in
    let item : item_at q d ≡ record { bytes = udp_bytes (string (chain_of p chain)); weight = weight_at p chain } =
    λ i. record { bytes = (ap (λ (k : ℕ). string (chain_of q k)) is.same ∙ is.bytes) i; weight = heavy i } in
    let accounts : (rest : State) (held : Weight) → IsAccounted p (with_net p s us c rest) (held ⊕ weight_at p chain)
    → IsAccounted q (with_net q s vs c rest) (held ⊕ weight_at q d) = λ rest held a.
    subst (λ (m : State). IsAccounted q m (held ⊕ weight_at q d)) (sym (now rest))
    (same_accounts held chain d a (λ k. omega (arith, fit.owned k)) m heavy) in
    let named : (f : Queues) → sockets_named f t to ≡ map (socket_with f) is.matched.found = λ f.
    ap (sockets_named f t) is.matched.named
    ∙ sym (sockets_are f t is.matched.found (recursion_from_All (λ (b : Block). block_at b.fd t ≡ Some b)
    is.matched.found is.matched.are_open)) in
    record {
      step = λ rest held a.
          let new : State = with_net r (record { pcbs = u; queues = cs }) ws e rest in
          let one = done.step rest held (accounts rest held a) in
          let two = subst (λ (i : Item). DeliversAs exact_ledger (λ fd. told_one (done.lacks fd)) held from i
          (sockets_named (queues_of q bs) t to)
          (with_net q s vs c rest) new) item one in
          let three = subst (λ (l : List Socket). DeliversAs exact_ledger (λ fd. told_one (done.lacks fd)) held from
          (record { bytes = udp_bytes (string (chain_of p chain)); weight = weight_at p chain }) l
          (with_net q s vs c rest) new) (named (queues_of q bs)) two in
          let four = as_whole held from
          (record { bytes = udp_bytes (string (chain_of p chain)); weight = weight_at p chain })
          (map (socket_with (queues_of q bs)) is.matched.found) to done.lacks reached (with_net q s vs c rest) new
          done.reached_is (is.matched.named ∙ sym (named_fds (queues_of q bs) is.matched.found)) three in
          subst (λ (old : State). WholeArrivesAs exact_ledger (told_whole (Ok reached)) held h.src h.dst h.proto
          (item_at p chain) old new)
          (now rest)
          (delivered_arrives exact_ledger (told_whole (Ok reached)) held p q chain d h t to from (weight_at p chain) is
          (record rest { unfinished = vs; counters = c }) new (queues_of q bs) four);
      parts = record {
        accounts = λ rest held a. done.parts.accounts rest held (accounts rest held a);
        ready = done.parts.ready;
        pcbs = done.parts.pcbs;
        moves = moves_trans x.moves
            (subst (λ (l : List ℕ). Moves q (d ∷ (l ++ queued_chains q bs)) r (zs ++ queued_chains r cs)) same_ys
            done.parts.moves);
      };
    }

pub dropped_input : {p q : PoolView} {t : Table} {bs : List SockBufView} {us vs : List Unfinished} {xs ys : List ℕ}
    {c e : Counters} {chain : ℕ} {h : IpHead} (why : Why)
    → SocksFit p (record { pcbs = t; queues = bs }) (chain ∷ xs)
    → udp.IsDropped p chain h t q why → (SameAt p q xs → vs ≡ us) → (SameAt p q xs → ys ≡ xs) → e ≡ counted why c
    → IsInput (net_view p (record { pcbs = t; queues = bs }) us xs c) chain h.src h.dst h.proto (Err why)
    (net_view q (record { pcbs = t; queues = bs }) vs ys e)
dropped_input {p} {q} {t} {bs} {us} {vs} {xs} {ys} {c} {e} {chain} {h} why fit is same_vs same_ys is_e =
    let s : SocksView = record { pcbs = t; queues = bs } in
    let gone = freed fit is.freed in
    let now : (rest : State) → with_net q s vs e rest ≡ ends why (with_net p s us c rest) =
    λ rest. ends_here p q t bs c why rest gone.socks.shows (same_vs gone.same) is_e in
    record {
      step = λ rest held a.
          dropped_arrives exact_ledger (told_whole (Err why)) held p q chain h t why (weight_at p chain) is
          (record rest { unfinished = us; counters = c }) (with_net q s vs e rest) (queues_of p bs) (refl, now rest);
      parts = record {
        accounts = λ rest held a. subst (λ (x : State). IsAccounted q x held) (sym (now rest))
            (freed_accounts chain why a (λ k. omega (arith, fit.owned k)) is.freed);
        ready = gone.socks.ready;
        pcbs = refl;
        moves = subst (λ (zs : List ℕ). Moves p (chain ∷ (xs ++ queued_chains p bs)) q (zs ++ queued_chains q bs))
            (sym (same_ys gone.same)) gone.moves;
      };
    }

-- the lookup leaves the table the same
pub delivered_to : {p q r : PoolView} {t t' u : Table} {bs cs : List SockBufView} {us vs ws : List Unfinished}
    {xs ys zs : List ℕ} {c e : Counters} {chain d : ℕ} {h : IpHead} {to fds : List ℕ} {from : Addr} {reached : Reached}
    → SocksFit p (record { pcbs = t; queues = bs }) (chain ∷ xs)
    → udp.IsForSockets p chain h t q to from d → Moves p (chain ∷ []) q (d ∷ []) → vs ≡ us → ys ≡ xs → t' ≡ t
    → fds ≡ to
    → IsDelivered (net_view q (record { pcbs = t'; queues = bs }) vs ys c) d fds from reached
    (net_view r (record { pcbs = u; queues = cs }) ws zs e)
    → IsInput (net_view p (record { pcbs = t; queues = bs }) us xs c) chain h.src h.dst h.proto (Ok reached)
    (net_view r (record { pcbs = u; queues = cs }) ws zs e)
delivered_to {p} {q} {r} {t} {t'} {u} {bs} {cs} {us} {vs} {ws} {xs} {ys} {zs} {c} {e} {chain} {d} {h} {to} {fds}
    {from} {reached}
    fit is m same_vs same_ys same_t same_to done =
    let then = net_view r (record { pcbs = u; queues = cs }) ws zs e in
    delivered_input fit is m same_vs same_ys
    (subst (λ (l : List ℕ). IsDelivered (net_view q (record { pcbs = t; queues = bs }) vs ys c) d l from reached
    then) same_to
    (subst (λ (x : Table). IsDelivered (net_view q (record { pcbs = x; queues = bs }) vs ys c) d fds from reached
    then) same_t
    done))

pub dropped_to : {p q : PoolView} {t t' : Table} {bs : List SockBufView} {us vs : List Unfinished} {xs ys : List ℕ}
    {c e : Counters} {chain : ℕ} {h : IpHead} (why : Why)
    → SocksFit p (record { pcbs = t; queues = bs }) (chain ∷ xs)
    → udp.IsDropped p chain h t q why → (SameAt p q xs → vs ≡ us) → (SameAt p q xs → ys ≡ xs) → t' ≡ t
    → e ≡ counted why c
    → IsInput (net_view p (record { pcbs = t; queues = bs }) us xs c) chain h.src h.dst h.proto (Err why)
    (net_view q (record { pcbs = t'; queues = bs }) vs ys e)
dropped_to {p} {q} {t} {t'} {bs} {us} {vs} {xs} {ys} {c} {e} {chain} {h} why fit is same_vs same_ys same_t is_e =
    subst (λ (u : Table). IsInput (net_view p (record { pcbs = t; queues = bs }) us xs c) chain h.src h.dst h.proto
    (Err why)
    (net_view q (record { pcbs = u; queues = bs }) vs ys e)) (sym same_t)
    (dropped_input why fit is same_vs same_ys is_e)
