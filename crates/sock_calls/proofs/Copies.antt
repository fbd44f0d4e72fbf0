-- Copies for the sockets that match a datagram, and the loop over them.
use Rattle.std.proofs.Common.{◌≡◌, ℕ, zero, suc, ◌<◌, ◌≤◌, Bool, true, false, cond, List, [], ◌∷◌, ◌++◌, length, drop, take, Option, Some, None, refl, sym, ap, ◌∙◌, subst, arith}
use Rattle.std.specs.Prelude.{slice_index_or, unwrap_or, find, count_by, is_some, ◌==◌}
use Rattle.std.specs.Option.{IsSome}
use Rattle.std.proofs.Math.Seq.{take-length}
use Rattle.std.proofs.lemmas.Bool.{eq-eqb, eqb-true, false≢true}
use Rattle.std.proofs.lemmas.List.{take-append-drop, take_all}
use Rattle.std.proofs.lemmas.List.Sums.{sum_by-cons}
use Rattle.std.proofs.lemmas.Option.{none-some}
use Rattle.params.specs.declared.TheConstants.{MBUF_HEADER}
use Rattle.flat_model.specs.Amounts.Weight.{Weight, Item, nothing, ◌⊕◌, times as bag_times}
use Rattle.flat_model.specs.Machine.State.{State, Socket, Unfinished, ends}
use Rattle.flat_model.specs.Machine.Count.{counted}
use Rattle.flat_model.specs.Machine.Ledger.{weight_of_state, exact_ledger, HasBuffers, need_mbufs}
use Rattle.flat_model.specs.Machine.Arrival.{AppendsAs, DeliversAs}
use Rattle.flat_model.specs.Machine.Fate.{mark, nobody, reached_by, told_one}
use Rattle.flat_model.specs.declared.address.Addr.{Addr}
use Rattle.flat_model.specs.declared.counters.Counters.{Counters}
use Rattle.flat_model.specs.declared.counters.Why.{Why}
use Rattle.flat_model.specs.declared.counters.Why.TheVariants.{NoBufs}
use Rattle.flat_model.specs.declared.fate.Reached.{Reached}
use Rattle.flat_model.proofs.Laws.{times-both}
use Rattle.mbuf_chain.specs.Chain.{Entry, PoolView, ChainView, chain_of}
use Rattle.mbuf_chain.specs.Owners.{times_among, IsOwned, Moves}
use Rattle.mbuf_chain.specs.Frames.{SameAt}
use Rattle.mbuf_chain.proofs.Laws.Owners.{times_same, times-append, live_at_most, moves_trans, moves_beside, owned_after, same_beside, chain_same}
use Rattle.chain_ops.specs.Copies.{copied_all}
use Rattle.pcb_table.specs.declared.block.Block.{Block}
use Rattle.pcb_table.specs.Apart.{AreApart, has_fd}
use Rattle.pcb_table.specs.Table.{Table, Queues, IsDescriptor, IsOpen, block_at, socket_with}
use Rattle.ledger.specs.Accounts.{item_of, item_at, entries_weight, weight_at, IsAccounted}
use Rattle.ledger.proofs.Laws.{accounted_after}
use Rattle.sockbuf.specs.SockBuf.{SockBufView}
use Rattle.sock_calls.specs.Sockets.{SocksFit, SocksView, IsSocks, queues_of, queued_chains, with_net}
use Rattle.sock_calls.specs.Delivery.{NetView, net_view, net_state, queues_at, Offers, IsAppended, IsOffered, IsDelivered, no_block, socket_named, sockets_named}
use Rattle.sock_calls.specs.Inside.Delivering.{IsUnderWay}
use Rattle.sock_calls.proofs.Frames.{Kept, kept, keeps_none, keeps_trans}
use Rattle.sock_calls.proofs.Going.{bag_of_times}
use Rattle.sock_calls.proofs.Reaching.{reached_more, reached_same}
use Rattle.sock_calls.proofs.Delivered.{IsTested, tested, ends_here, shows_same, ends_accounted}

-- ---- a copy of all is the same item
pub copied_item : (room : ℕ) (es : List Entry) → item_of (copied_all room es) ≡ item_of es
copied_item room [] = refl
copied_item room (e ∷ es) = go (copied_item MBUF_HEADER es) e.cluster
  where
    go : item_of (copied_all MBUF_HEADER es) ≡ item_of es → (o : Option ℕ)
        → item_of (record { bytes = take (length e.bytes) e.bytes; start = 0; cluster = o } ∷ copied_all MBUF_HEADER es)
        ≡ item_of (record { bytes = e.bytes; start = 0; cluster = o } ∷ es)
    go rest None = λ i. record {
      bytes = take-length e.bytes i ++ (rest i).bytes;
      weight = record { mbufs = suc (rest i).weight.mbufs; bag = (rest i).weight.bag };
    }
    go rest (Some c) = λ i. record {
      bytes = take-length e.bytes i ++ (rest i).bytes;
      weight = record { mbufs = suc (rest i).weight.mbufs; bag = c ∷ (rest i).weight.bag };
    }

-- ---- a copy was made, in addition to the caller's chain
record Copied (p : PoolView) (c : ℕ) (ys : List ℕ) (s : SocksView) (q : PoolView) (d : ℕ) : Type 0 where
  same : SameAt p q ys
  chain : chain_of q c ≡ chain_of p c
  socks : Kept p q s
  moves : Moves p (c ∷ (ys ++ queued_chains p s.queues)) q (c ∷ d ∷ (ys ++ queued_chains q s.queues))
  owned : IsOwned q (c ∷ d ∷ (ys ++ queued_chains q s.queues))

copy_came : {p q : PoolView} {c d : ℕ} {ys : List ℕ} {s : SocksView} → SocksFit p s (c ∷ ys) → Moves p [] q (d ∷ [])
    → Copied p c ys s q d
copy_came {p} {q} {c} {d} {ys} {s} fit m =
    let o = fit.owned in
    let zs : List ℕ = queued_chains p s.queues in
    let all : SameAt p q (c ∷ (ys ++ zs)) = same_beside (c ∷ (ys ++ zs)) m o (λ k h. refl) in
    let k : Kept p q s = kept p q s (record {
      same = λ j h. all.same j (omega (arith, h, times-append j ys zs));
      mbufs = all.mbufs;
    }) fit.socks in
    let mv : Moves p (c ∷ (ys ++ zs)) q (c ∷ d ∷ (ys ++ queued_chains q s.queues)) =
    subst (λ (l : List ℕ). Moves p (c ∷ (ys ++ zs)) q (c ∷ d ∷ (ys ++ l))) (sym k.chains)
    (moves_beside (c ∷ (ys ++ zs)) (c ∷ d ∷ (ys ++ zs)) (c ∷ (ys ++ zs)) m (λ k. omega arith) (λ k. omega arith)) in
    record {
      same = record { same = λ j h. all.same j (omega (arith, h, times-append j ys zs)); mbufs = all.mbufs };
      chain = chain_same p q (c ∷ (ys ++ zs)) c all (omega (arith, times_same c (ys ++ zs)));
      socks = k;
      moves = mv;
      owned = owned_after mv o;
    }

-- the accounts then include the copy, which the caller holds too
pub copy_accounts : {p q : PoolView} {s : State} {held : Weight} (d : ℕ) → IsAccounted p s held → Moves p [] q (d ∷ [])
    → IsAccounted q s (held ⊕ weight_at q d)
copy_accounts {p} {q} {s} {held} d b m =
    let w : Weight = weight_at q d in
    accounted_after b m (λ k. omega arith) refl (record {
      mbufs = omega arith;
      bag = λ k. omega (
        arith,
        times-both k (weight_of_state s) (held ⊕ w),
        times-both k held w,
        times-both k (weight_of_state s) held,
        times-both k w nothing,
      );
    })

-- the copy was queued or freed
record Gone (p : PoolView) (c d : ℕ) (ys : List ℕ) (bs : List SockBufView) (q : PoolView) (zs : List ℕ)
    (cs : List SockBufView) : Type 0 where
  chain : chain_of q c ≡ chain_of p c
  moves : Moves p (c ∷ d ∷ (ys ++ queued_chains p bs)) q (c ∷ (zs ++ queued_chains q cs))

copy_gone : (p q : PoolView) (c d : ℕ) (ys zs : List ℕ) (bs cs : List SockBufView)
    → IsOwned p (c ∷ d ∷ (ys ++ queued_chains p bs))
    → Moves p (d ∷ (ys ++ queued_chains p bs)) q (zs ++ queued_chains q cs) → Gone p c d ys bs q zs cs
copy_gone p q c d ys zs bs cs o m =
    let same : SameAt p q (c ∷ []) = same_beside (c ∷ []) m (λ k. omega (arith, o k))
    (λ k h. omega (arith, o k, h, live_at_most p k)) in
    record {
      chain = chain_same p q (c ∷ []) c same (omega (arith, times_same c []));
      moves = moves_beside (c ∷ d ∷ (ys ++ queued_chains p bs)) (c ∷ (zs ++ queued_chains q cs)) (c ∷ []) m
          (λ k. omega arith) (λ k. omega arith);
    }

-- ---- the two outcomes of an offer
lacking_offers : (held : Weight) (sender : Addr) (item : Item) (to : Socket) (old mid new : State) (n : ℕ)
    → n ≡ item.weight.mbufs → HasBuffers exact_ledger old (held ⊕ item.weight) (need_mbufs n) false mid
    → new ≡ ends NoBufs mid → Offers (Some NoBufs) held sender item to old new
lacking_offers held sender item to old mid new n is a e =
    record {
      answer = false;
      mid = mid;
      has_buffers = subst
          (λ (k : ℕ). HasBuffers exact_ledger old (held ⊕ item.weight) (need_mbufs k) false mid) is a;
      goes_on =
          record { yes = λ t. absurd (false≢true t); no = λ _. (refl, e) };
    }

appending_offers : (lack : Option Why) (held : Weight) (sender : Addr) (item : Item) (to : Socket)
    (old mid new : State) (n : ℕ)
    → n ≡ item.weight.mbufs → HasBuffers exact_ledger old (held ⊕ item.weight) (need_mbufs n) true mid
    → (copy : Item) (at : Socket) (now : State) → copy ≡ item → at ≡ to → now ≡ mid
    → AppendsAs exact_ledger (told_one lack) (held ⊕ item.weight) sender copy at now new
    → Offers lack held sender item to old new
appending_offers lack held sender item to old mid new n is a copy at now ec es em ap = record {
  answer = true;
  mid = mid;
  has_buffers = subst (λ (k : ℕ). HasBuffers exact_ledger old (held ⊕ item.weight) (need_mbufs k) true mid) is a;
  goes_on = record {
    yes = λ _. subst (λ (s : State). AppendsAs exact_ledger (told_one lack) (held ⊕ item.weight) sender item to s
        new) em
        (subst (λ (x : Socket). AppendsAs exact_ledger (told_one lack) (held ⊕ item.weight) sender item x now new) es
        (subst (λ (x : Item). AppendsAs exact_ledger (told_one lack) (held ⊕ item.weight) sender x at now new) ec ap));
    no = λ t. absurd (false≢true (sym t));
  };
}

-- ---- one receiver of several, as in the contract

-- the pool lacks mbufs for the copy
pub lacking_offer : {p q : PoolView} {t : Table} {bs : List SockBufView} {us vs : List Unfinished} {xs ys : List ℕ}
    {c d e : Counters} {chain n : ℕ} (fd : ℕ) (sender : Addr)
    → IsTested p t bs us xs c chain n false q vs ys d → n ≡ (weight_at p chain).mbufs → e ≡ counted NoBufs d
    → IsOffered (net_view p (record { pcbs = t; queues = bs }) us xs c) chain fd sender (Some NoBufs)
    (net_view q (record { pcbs = t; queues = bs }) vs ys e)
lacking_offer {p} {q} {t} {bs} {us} {vs} {xs} {ys} {c} {d} {e} {chain} {n} fd sender i is_n is_e =
    let s : SocksView = record { pcbs = t; queues = bs } in
    let x = tested i.fit i.moves in
    let ended : (rest : State) → with_net q s vs e rest ≡ ends NoBufs (with_net p s vs d rest) =
    λ rest. ends_here p q t bs d NoBufs rest x.shows refl is_e in
    record {
      step = λ rest held b at a.
          lacking_offers held sender (item_at p chain) (socket_with (queues_of p bs) b) (with_net p s us c rest)
          (with_net p s vs d rest) (with_net q s vs e rest) n is_n
          (i.reserves (with_net p s us c rest) (held ⊕ weight_at p chain) refl refl a).has_buffers (ended rest);
      others = λ k ne. x.shows k;
      chain = x.chain;
      parts = record {
        accounts = λ rest held a.
            let ends : IsAccounted q (with_net q s vs e rest) (held ⊕ weight_at p chain) =
            subst (λ (m : State). IsAccounted q m (held ⊕ weight_at p chain)) (sym (ended rest))
            (ends_accounted {s = with_net p s vs d rest} NoBufs
            (i.reserves (with_net p s us c rest) (held ⊕ weight_at p chain) refl refl a).accounted) in
            subst (λ (v : ChainView). IsAccounted q (with_net q s vs e rest) (held ⊕ entries_weight v.entries))
            (sym x.chain)
            ends;
        ready = x.fit.socks;
        pcbs = refl;
        moves = x.moves;
      };
    }

-- the preconditions for delivering the copy
pub record CopyReady (p q : PoolView) (s : SocksView) (xs : List ℕ) (copy : ℕ) : Type 0 where
  pub same : SameAt p q xs
  pub fit : SocksFit q s (copy ∷ xs)

pub copy_ready : {p q r : PoolView} {chain copy : ℕ} {xs ys : List ℕ} {s : SocksView} → SocksFit p s (chain ∷ xs)
    → Moves p xs q ys → Moves q [] r (copy ∷ []) → CopyReady q r s ys copy
copy_ready fit moves m =
    let k = copy_came (tested fit moves).fit m in
    record { same = k.same; fit = record { socks = k.socks.ready; owned = λ j. omega (arith, k.owned j) } }

-- the copy was made and delivered
pub copy_offer : {p q r z : PoolView} {t u : Table} {bs cs : List SockBufView} {us vs ws ks : List Unfinished}
    {xs ys ms zs : List ℕ} {c d e : Counters} {chain n : ℕ} {lack : Option Why} (fd copy : ℕ) (sender : Addr)
    → IsTested p t bs us xs c chain n true q vs ys d → n ≡ (weight_at p chain).mbufs → Moves q [] r (copy ∷ [])
    → item_at r copy ≡ item_at q chain → ws ≡ vs → ms ≡ ys
    → IsAppended (net_view r (record { pcbs = t; queues = bs }) ws ms d) copy fd sender lack
    (net_view z (record { pcbs = u; queues = cs }) ks zs e)
    → IsOffered (net_view p (record { pcbs = t; queues = bs }) us xs c) chain fd sender lack
    (net_view z (record { pcbs = u; queues = cs }) ks zs e)
copy_offer {p} {q} {r} {z} {t} {u} {bs} {cs} {us} {vs} {ws} {ks} {xs} {ys} {ms} {zs} {c} {d} {e} {chain} {n} {lack}
    fd copy
    sender i is_n m is_copy same_ws same_ms done =
    let s : SocksView = record { pcbs = t; queues = bs } in
    let x = tested i.fit i.moves in
    let k = copy_came x.fit m in
    let now : (rest : State) → with_net r s ws d rest ≡ with_net p s vs d rest =
    λ rest. shows_same p r t bs d rest (λ j. k.socks.shows j ∙ x.shows j) same_ws in
    let gone = copy_gone r z chain copy ms zs bs cs
    (subst (λ (l : List ℕ). IsOwned r (chain ∷ copy ∷ (l ++ queued_chains r bs))) (sym same_ms) k.owned)
    done.parts.moves in
    record {
      step = λ rest held b at a.
          let a1 = i.reserves (with_net p s us c rest) (held ⊕ weight_at p chain) refl refl a in
          let a2 = subst (λ (m : State). IsAccounted r m ((held ⊕ weight_at p chain) ⊕ weight_at r copy))
          (sym (now rest)) (copy_accounts copy a1.accounted m) in
          appending_offers lack held sender (item_at p chain) (socket_with (queues_of p bs) b) (with_net p s us c rest)
          (with_net p s vs d rest) (with_net z (record { pcbs = u; queues = cs }) ks e rest) n is_n a1.has_buffers
          (item_at r copy) (socket_with (queues_of r bs) b) (with_net r s ws d rest)
          (is_copy ∙ ap (λ (v : ChainView). item_of v.entries) x.chain)
          (λ j. record (socket_with (queues_of p bs) b) { queue = (k.socks.shows b.fd ∙ x.shows b.fd) j })
          (now rest)
          (done.step rest (held ⊕ weight_at p chain) b at a2);
      others = λ j ne. done.others j ne ∙ k.socks.shows j ∙ x.shows j;
      chain = gone.chain ∙ k.chain ∙ x.chain;
      parts = record {
        accounts = λ rest held a.
            let a1 = i.reserves (with_net p s us c rest) (held ⊕ weight_at p chain) refl refl a in
            let a2 : IsAccounted z (with_net z (record { pcbs = u; queues = cs }) ks e rest)
            (held ⊕ weight_at p chain) =
            done.parts.accounts rest (held ⊕ weight_at p chain)
            (subst (λ (m : State). IsAccounted r m ((held ⊕ weight_at p chain) ⊕ weight_at r copy)) (sym (now rest))
            (copy_accounts copy a1.accounted m)) in
            subst (λ (v : ChainView). IsAccounted z (with_net z (record { pcbs = u; queues = cs }) ks e rest)
            (held ⊕ entries_weight v.entries)) (sym (gone.chain ∙ k.chain ∙ x.chain)) a2;
        ready = done.parts.ready;
        pcbs = done.parts.pcbs;
        moves = moves_trans x.moves (moves_trans k.moves
            (subst (λ (l : List ℕ). Moves r (chain ∷ copy ∷ (l ++ queued_chains r bs)) z
            (chain ∷ (zs ++ queued_chains z cs))) same_ms gone.moves));
      };
    }

-- ---- the loop
drop_more : (xs : List ℕ) (i d : ℕ) → i < length xs → drop i xs ≡ slice_index_or xs i d ∷ drop (suc i) xs
drop_more [] i d h = absurd (omega arith)
drop_more (x ∷ xs) zero d h = refl
drop_more (x ∷ xs) (suc i) d h = drop_more xs i d (omega arith)

take_more : (xs : List ℕ) (i d : ℕ) → i < length xs → take (suc i) xs ≡ take i xs ++ slice_index_or xs i d ∷ []
take_more [] i d h = absurd (omega arith)
take_more (x ∷ xs) zero d h = refl
take_more (x ∷ xs) (suc i) d h = ap (λ (l : List ℕ). x ∷ l) (take_more xs i d (omega arith))

times_drop : (k : ℕ) (xs : List ℕ) (i : ℕ) → times_among k (drop i xs) ≤ times_among k xs
times_drop k xs zero = omega arith
times_drop k [] (suc i) = omega arith
times_drop k (x ∷ xs) (suc i) = omega (arith, times_drop k xs i)

drop_length : (xs : List ℕ) (i : ℕ) → i < length xs → 0 < length (drop i xs)
drop_length [] i h = absurd (omega arith)
drop_length (x ∷ xs) zero h = omega arith
drop_length (x ∷ xs) (suc i) h = drop_length xs i (omega arith)

drop_end : (xs : List ℕ) (i : ℕ) → i ≡ length xs → drop i xs ≡ []
drop_end [] zero h = refl
drop_end [] (suc i) h = refl
drop_end (x ∷ xs) zero h = absurd (omega (arith, h))
drop_end (x ∷ xs) (suc i) h = drop_end xs i (omega (arith, h))

pub named_is : (f : Queues) (t : Table) (fd : ℕ) (b : Block) → block_at fd t ≡ Some b
    → socket_named f t fd ≡ socket_with f b
named_is f t fd b e = ap (λ (o : Option Block). socket_with f (unwrap_or o no_block)) e

-- a block that is found has the descriptor
find_named : (fd : ℕ) (bs : List Block) (b : Block) → find (has_fd fd) bs ≡ Some b → b.fd ≡ fd
find_named fd [] b e = absurd (none-some b e)
find_named fd (x ∷ bs) b e = go (find_named fd bs b) (x.fd == fd) refl e
  where
    go : (find (has_fd fd) bs ≡ Some b → b.fd ≡ fd) → (t : Bool) → (x.fd == fd) ≡ t
        → cond t (Some x) (find (has_fd fd) bs) ≡ Some b → b.fd ≡ fd
    go later true is h = ap (λ (o : Option Block). (unwrap_or o no_block).fd) (sym h) ∙ eqb-true x.fd fd is
    go later false is h = later h

pub named_at : (t : Table) (fd : ℕ) (b : Block) → block_at fd t ≡ Some b → b.fd ≡ fd
named_at t fd b e = find_named fd t.blocks b e

-- an open descriptor is in the range of descriptors
pub descriptor_of : (t : Table) (fd : ℕ) → AreApart t.blocks → IsOpen fd t → IsDescriptor fd
descriptor_of t fd apart is_open =
    let some : 0 < count_by (has_fd fd) t.blocks = counted_open t.blocks is_open in
    record { least = apart.least fd some; most = omega (arith, apart.most fd some) }
  where
    counted_open : (bs : List Block) → is_some (find (has_fd fd) bs) ≡ true → 0 < count_by (has_fd fd) bs
    counted_open [] found = absurd (false≢true found)
    counted_open (b ∷ bs) found = go (b.fd == fd) refl found (counted_open bs)
      where
        go : (same : Bool) → (b.fd == fd) ≡ same → is_some (cond same (Some b) (find (has_fd fd) bs)) ≡ true
            → (is_some (find (has_fd fd) bs) ≡ true → 0 < count_by (has_fd fd) bs) → 0 < count_by (has_fd fd) (b ∷ bs)
        go true e here rest = omega (
          arith,
          sum_by-cons (λ (x : Block). cond {A = ℕ} (has_fd fd x) 1 0) b bs,
          ap (λ (u : Bool). cond {A = ℕ} u 1 0) e,
        )
        go false e later rest = omega (
          arith,
          sum_by-cons (λ (x : Block). cond {A = ℕ} (has_fd fd x) 1 0) b bs,
          rest later,
        )

-- one more receiver before the others
more_delivers : (lacks : ℕ → Option Why) (held : Weight) (sender : Addr) (item : Item) (f : Queues) (t : Table) (fd : ℕ)
    (later : List ℕ) (old after new : State) → 0 < length later → (socket_named f t fd).fd ≡ fd
    → Offers (lacks fd) held sender item (socket_named f t fd) old after
    → DeliversAs exact_ledger (λ k. told_one (lacks k)) held sender item (sockets_named f t later) after new
    → DeliversAs exact_ledger (λ k. told_one (lacks k)) held sender item (sockets_named f t (fd ∷ later)) old new
more_delivers lacks held sender item f t fd [] old after new some named first rest = absurd (omega (arith, some))
more_delivers lacks held sender item f t fd (next ∷ more) old after new some named first rest = (
  after,
  subst (λ (k : ℕ). Offers (lacks k) held sender item (socket_named f t fd) old after) (sym named) first,
  rest,
)

open_block : (o : Option Block) → IsSome o → (b : Block) × (o ≡ Some b)
open_block None h = absurd (false≢true h)
open_block (Some b) h = (b, refl)

module _ (v : NetView) (c : ℕ) (fds : List ℕ) (sender : Addr) where
  pub starts : (reached : Reached) → reached ≡ nobody → IsSocks v.pool v.socks → IsUnderWay v c fds sender 0 reached v
  starts reached none ready = record {
    lacks = λ fd. None;
    reached_is = none;
    goes = λ all same rest held new b d. d;
    untouched = λ k h. refl;
    chain = refl;
    parts = keeps_none ready;
  }

  -- the queue of the next receiver hasn't changed since the start
  next_socket : (i fd : ℕ) (reached : Reached) (u : NetView) → IsUnderWay v c fds sender i reached u → drop i fds ≡
      fd ∷ drop (suc i) fds
      → (b : Block) → block_at fd u.socks.pcbs ≡ Some b
      → socket_with (queues_at u) b ≡ socket_named (queues_at v) v.socks.pcbs fd
  next_socket i fd reached u w e b is =
      let named : b.fd ≡ fd = find_named fd u.socks.pcbs.blocks b is in
      let same : queues_at u b.fd ≡ queues_at v b.fd =
      subst (λ (k : ℕ). queues_at u k ≡ queues_at v k) (sym named)
      (w.untouched fd (omega (arith, ap (times_among fd) e, times_same fd (drop (suc i) fds)))) in
      (λ j. record (socket_with (queues_at v) b) { queue = same j })
      ∙ sym (named_is (queues_at v) v.socks.pcbs fd b (subst (λ (t : Table). block_at fd t ≡ Some b) w.parts.pcbs is))

  next_is : (i fd : ℕ) → i < length fds → fd ≡ slice_index_or fds i 0 → drop i fds ≡ fd ∷ drop (suc i) fds
  next_is i fd h is = drop_more fds i 0 h ∙ ap (λ (k : ℕ). k ∷ drop (suc i) fds) (sym is)

  -- the first i receivers and the next one
  up_to : (i fd : ℕ) → i < length fds → fd ≡ slice_index_or fds i 0 → take (suc i) fds ≡ take i fds ++ fd ∷ []
  up_to i fd within is = take_more fds i 0 within ∙ ap (λ (n : ℕ). take i fds ++ n ∷ []) (sym is)

  -- no receiver occurs twice
  before : (i fd : ℕ) → i < length fds → fd ≡ slice_index_or fds i 0 → ((k : ℕ) → bag_times k fds ≤ 1) → (k : ℕ)
      → 0 < times_among k (take i fds) → (k == fd) ≡ false
  before i fd within is once k some = go (k == fd) refl
    where
      twice : k ≡ fd → ⊥
      twice e = omega (
        arith,
        once fd,
        bag_of_times fd fds,
        ap (times_among fd) (take-append-drop i fds),
        times-append fd (take i fds) (drop i fds),
        ap (times_among fd) (next_is i fd within is),
        times_same fd (drop (suc i) fds),
        subst (λ (j : ℕ). 0 < times_among j (take i fds)) e some,
      )

      go : (b : Bool) → (k == fd) ≡ b → (k == fd) ≡ false
      go false e = e
      go true e = absurd (twice (eqb-true k fd e))

  pub offered_one : (i j fd : ℕ) (lack : Option Why) (reached then : Reached) (u x : NetView)
      → IsUnderWay v c fds sender i reached u → IsOffered u c fd sender lack x
      → suc i < length fds → suc i ≡ j → fd ≡ slice_index_or fds i 0 → ((k : ℕ) → bag_times k fds ≤ 1)
      → IsSome (block_at fd u.socks.pcbs) → then ≡ mark lack fd reached → IsUnderWay v c fds sender j then x
  offered_one i j fd lack reached then u x w o more is_j is once is_open is_then =
      let within : i < length fds = omega (arith, more) in
      let d : drop i fds ≡ fd ∷ drop (suc i) fds = next_is i fd within is in
      let found = open_block (block_at fd u.socks.pcbs) is_open in
      let to : socket_with (queues_at u) found.0 ≡ socket_named (queues_at v) v.socks.pcbs fd =
      next_socket i fd reached u w d found.0 found.1 in
      let named : (socket_named (queues_at v) v.socks.pcbs fd).fd ≡ fd =
      ap (λ (s : Socket). s.fd) (sym to) ∙ find_named fd u.socks.pcbs.blocks found.0 found.1 in
      let lacks : ℕ → Option Why = λ k. cond (k == fd) lack (w.lacks k) in
      let old : (k : ℕ) → 0 < times_among k (take i fds) → lacks k ≡ w.lacks k =
      λ k some. ap (λ (b : Bool). cond b lack (w.lacks k)) (before i fd within is once k some) in
      let own : lacks fd ≡ lack = ap (λ (b : Bool). cond b lack (w.lacks fd)) (eq-eqb fd fd refl) in
      subst (λ (k : ℕ). IsUnderWay v c fds sender k then x) is_j (record {
        lacks = lacks;
        reached_is = is_then ∙ ap (mark lack fd) (w.reached_is ∙ sym (reached_same w.lacks lacks (take i fds) old))
            ∙ ap (λ (l : Option Why). mark l fd (reached_by lacks (take i fds))) (sym own)
            ∙ sym (reached_more lacks (take i fds) (take (suc i) fds) fd (up_to i fd within is));
        goes = λ all same rest held new a later.
            let step = o.step rest held found.0 found.1 (w.parts.accounts rest held a) in
            let now : all fd ≡ lack = same fd (omega (
              arith,
              ap (times_among fd) (up_to i fd within is),
              times-append fd (take i fds) (fd ∷ []),
              times_same fd [],
            )) ∙ own in
            let earlier : (k : ℕ) → 0 < times_among k (take i fds) → all k ≡ w.lacks k = λ k some. same k (omega (
              arith,
              some,
              ap (times_among k) (up_to i fd within is),
              times-append k (take i fds) (fd ∷ []),
            )) ∙ old k some in
            let offers : Offers (all fd) held sender (item_at v.pool c) (socket_named (queues_at v) v.socks.pcbs fd)
            (net_state u rest) (net_state x rest) =
            subst (λ (l : Option Why). Offers l held sender (item_at v.pool c)
            (socket_named (queues_at v) v.socks.pcbs fd) (net_state u rest) (net_state x rest)) (sym now)
            (subst (λ (a : Socket). Offers lack held sender (item_at v.pool c) a (net_state u rest) (net_state x rest))
            to
            (subst (λ (ch : ChainView). Offers lack held sender (item_of ch.entries)
            (socket_with (queues_at u) found.0) (net_state u rest) (net_state x rest)) w.chain step)) in
            w.goes all earlier rest held new a
            (subst (λ (l : List ℕ). DeliversAs exact_ledger (λ k. told_one (all k)) held sender (item_at v.pool c)
            (sockets_named (queues_at v) v.socks.pcbs l) (net_state u rest) new) (sym d)
            (more_delivers all held sender (item_at v.pool c) (queues_at v) v.socks.pcbs fd (drop (suc i) fds)
            (net_state u rest) (net_state x rest) new (drop_length fds (suc i) more) named offers later));
        untouched = λ k h. o.others k (λ e. apart k d h e) ∙ w.untouched k (omega (arith, h, ap (times_among k) d));
        chain = o.chain ∙ w.chain;
        parts = keeps_trans w.parts o.parts;
      })
    where
      apart : (k : ℕ) → drop i fds ≡ fd ∷ drop (suc i) fds → 0 < times_among k (drop (suc i) fds) → k ≡ fd → ⊥
      apart k d h e =
          let some : 0 < times_among fd (drop (suc i) fds) =
          subst (λ (j : ℕ). 0 < times_among j (drop (suc i) fds)) e h in
          omega (
            arith,
            once fd,
            bag_of_times fd fds,
            times_drop fd fds i,
            ap (times_among fd) d,
            times_same fd (drop (suc i) fds),
            some,
          )

  pub delivered_all : (i fd : ℕ) (lack : Option Why) (reached then : Reached) (u x : NetView)
      → IsUnderWay v c fds sender i reached u → IsAppended u c fd sender lack x
      → suc i ≡ length fds → fd ≡ slice_index_or fds i 0 → ((k : ℕ) → bag_times k fds ≤ 1)
      → IsSome (block_at fd u.socks.pcbs) → then ≡ mark lack fd reached → IsDelivered v c fds sender then x
  delivered_all i fd lack reached then u x w o end is once is_open is_then =
      let within : i < length fds = omega (arith, end) in
      let d : drop i fds ≡ fd ∷ drop (suc i) fds = next_is i fd within is in
      let one : drop i fds ≡ fd ∷ [] = d ∙ ap (λ (l : List ℕ). fd ∷ l) (drop_end fds (suc i) end) in
      let found = open_block (block_at fd u.socks.pcbs) is_open in
      let to : socket_with (queues_at u) found.0 ≡ socket_named (queues_at v) v.socks.pcbs fd =
      next_socket i fd reached u w d found.0 found.1 in
      let named : (socket_named (queues_at v) v.socks.pcbs fd).fd ≡ fd =
      ap (λ (s : Socket). s.fd) (sym to) ∙ find_named fd u.socks.pcbs.blocks found.0 found.1 in
      let lacks : ℕ → Option Why = λ k. cond (k == fd) lack (w.lacks k) in
      let old : (k : ℕ) → 0 < times_among k (take i fds) → lacks k ≡ w.lacks k =
      λ k some. ap (λ (b : Bool). cond b lack (w.lacks k)) (before i fd within is once k some) in
      let own : lacks fd ≡ lack = ap (λ (b : Bool). cond b lack (w.lacks fd)) (eq-eqb fd fd refl) in
      record {
        lacks = lacks;
        reached_is = is_then ∙ ap (mark lack fd) (w.reached_is ∙ sym (reached_same w.lacks lacks (take i fds) old))
            ∙ ap (λ (l : Option Why). mark l fd (reached_by lacks (take i fds))) (sym own)
            ∙ sym (reached_more lacks (take i fds) (take (suc i) fds) fd (up_to i fd within is))
            ∙ ap (λ (l : List ℕ). reached_by lacks l) (take_all (suc i) fds (omega (arith, end)));
        step = λ rest held a.
            let step = o.step rest held found.0 found.1 (w.parts.accounts rest held a) in
            w.goes lacks old rest held (net_state x rest) a
            (subst (λ (l : List ℕ). DeliversAs exact_ledger (λ k. told_one (lacks k)) held sender (item_at v.pool c)
            (sockets_named (queues_at v) v.socks.pcbs l) (net_state u rest) (net_state x rest)) (sym one)
            (subst (λ (l : Option Why). AppendsAs exact_ledger (told_one l) held sender (item_at v.pool c)
            (socket_named (queues_at v) v.socks.pcbs fd) (net_state u rest) (net_state x rest))
            (sym (ap lacks named ∙ own))
            (subst (λ (a : Socket). AppendsAs exact_ledger (told_one lack) held sender (item_at v.pool c) a
            (net_state u rest) (net_state x rest)) to
            (subst (λ (ch : ChainView). AppendsAs exact_ledger (told_one lack) held sender (item_of ch.entries)
            (socket_with (queues_at u) found.0) (net_state u rest) (net_state x rest)) w.chain step))));
        parts = keeps_trans w.parts o.parts;
      }
