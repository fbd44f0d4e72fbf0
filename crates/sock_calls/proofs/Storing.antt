-- The data of a packet from the wire in a chain of their own, and their delivery to all sockets that match.
use Rattle.std.proofs.Common.{◌≡◌, ℕ, suc, ◌-◌, ◌<◌, ◌≤◌, List, All, [], ◌∷◌, ◌++◌, length, map, get_or, slice_index_or, take, drop, true, false, Some, Result, Ok, Err, refl, sym, ap, ◌∙◌, subst, arith}
use Rattle.std.specs.Prelude.{count_by}
use Rattle.std.specs.List.{AllByRecursion, cons_option}
use Rattle.std.proofs.lemmas.Bool.{true≢false}
use Rattle.std.proofs.lemmas.List.{length-map}
use Rattle.std.proofs.lemmas.List.Elements.{recursion_from_All, All-from_recursion}
use Rattle.flat_model.specs.Amounts.Weight.{Weight, Item, nothing, ◌⊕◌}
use Rattle.flat_model.specs.Amounts.Layout as flat
use Rattle.flat_model.specs.Amounts.Layout.{is_cluster, entries_on, need_of, wire}
use Rattle.flat_model.specs.Machine.State.{State, Socket, Unfinished, ends}
use Rattle.flat_model.specs.Machine.Count.{counted}
use Rattle.flat_model.specs.Machine.Ledger.{AreTaken, IsFree, exact_ledger}
use Rattle.flat_model.specs.Machine.Arrival.{DeliversAs, GoesToAs, Offered, matching_sockets}
use Rattle.flat_model.specs.Machine.Fate.{told_one, told_whole}
use Rattle.flat_model.specs.declared.fate.Reached.{Reached}
use Rattle.flat_model.specs.declared.address.Addr.{Addr}
use Rattle.flat_model.specs.declared.counters.Counters.{Counters}
use Rattle.flat_model.specs.declared.lookup_key.LookupKey.{LookupKey}
use Rattle.flat_model.specs.declared.counters.Why.{Why}
use Rattle.flat_model.specs.declared.counters.Why.TheVariants.{UdpFullSocket}
use Rattle.flat_model.specs.Sockets.Fits.{fits, memory_of}
use Rattle.mbuf_chain.specs.Chain.{ChainView, Entry, PoolView, alone, chain_of, flat_bytes, string, with_chain}
use Rattle.mbuf_chain.specs.Owners.{Moves}
use Rattle.mbuf_chain.specs.Frames.{SameAt}
use Rattle.mbuf_chain.proofs.Laws.Owners.{times-append, moves_adds, moves_beside, moves_none, moves_trans, owned_after, same_beside, shown_with, then_with}
use Rattle.chain_ops.specs.Makes.{Makes}
use Rattle.chain_ops.specs.Stored.{AreFree, Has, stored_first}
use Rattle.chain_ops.specs.Trims.{only_first, without_first}
use Rattle.chain_ops.specs.Weights.{layout_entries}
use Rattle.chain_ops.proofs.Laws.Strings.{only_first_bytes, without_first_bytes}
use Rattle.ledger.specs.Accounts.{entries_weight, weight_at, IsAccounted}
use Rattle.ledger.proofs.Laws.{some_free}
use Rattle.pcb_table.specs.declared.block.Block.{Block}
use Rattle.pcb_table.specs.Table.{IsDescriptor, IsOpen, Queues, Table, block_at, packet_key, socket_with}
use Rattle.sockbuf.specs.SockBuf.{SockBufView}
use Rattle.udp.specs.Checked.{IsChecked, unmatched}
use Rattle.udp.specs.Datagrams.{AreMatching}
use Rattle.sock_calls.specs.Sockets.{SocksFit, SocksView, IsSocks, queues_of, queued_chains, with_net}
use Rattle.sock_calls.specs.Delivery.{IsDelivered, net_view, sockets_named}
use Rattle.ip_out.specs.Headed.{carried_of}
use Rattle.sock_calls.specs.Whole.{ArrivesWhole, DeliversWhole, lost_by}
use Rattle.sock_calls.specs.Inside.Storing.{IsDataStored, data_of}
use Rattle.sock_calls.proofs.Arriving.{all_open, placed_weight, sockets_are}
use Rattle.sock_calls.proofs.Delivered.{HasLimit, ends_accounted, shows_same}
use Rattle.sock_calls.proofs.Frames.{Kept, kept}
use Rattle.sock_calls.proofs.Going.{bag_of_times, free_each}
use Rattle.sock_calls.proofs.Copies.{copy_accounts, descriptor_of}
use Rattle.sock_calls.proofs.Whole.{arrives_as}
use Rattle.sock_calls.proofs.Reaching.{as_whole, named_fds}
use Rattle.udp.proofs.Laws.{fds_of}

-- ---- trims keep weights

pub only_weighs : (n : ℕ) (es : List Entry) → entries_weight (only_first n es) ≡ entries_weight es
only_weighs n [] = refl
only_weighs n (e ∷ es) =
    let later : entries_weight (only_first (n - length e.bytes) es) ≡ entries_weight es =
    only_weighs (n - length e.bytes) es in
    λ i. record { mbufs = suc (later i).mbufs; bag = cons_option e.cluster (later i).bag }

pub without_weighs : (n : ℕ) (es : List Entry) → entries_weight (without_first n es) ≡ entries_weight es
without_weighs n [] = refl
without_weighs n (e ∷ es) =
    let later : entries_weight (without_first (n - length e.bytes) es) ≡ entries_weight es =
    without_weighs (n - length e.bytes) es in
    λ i. record { mbufs = suc (later i).mbufs; bag = cons_option e.cluster (later i).bag }

-- ---- a packet in a chain, without its headers and its padding

pub data_stored : {p q r s : PoolView} {c : ℕ} {packet clusters : List ℕ} (end : ℕ) → AreFree p clusters
    → length clusters ≡ count_by is_cluster (wire (length packet))
    → Makes p q c (alone true) (stored_first 0 false clusters (wire (length packet)) packet)
    → layout_entries (stored_first 0 false clusters (wire (length packet)) packet) ≡ entries_on clusters
    (wire (length packet))
    → string (chain_of q c) ≡ packet
    → r ≡ with_chain q c (record (chain_of q c) { entries = only_first end (chain_of q c).entries })
    → s ≡ with_chain r c (record (chain_of r c) { entries = without_first 28 (chain_of r c).entries })
    → IsDataStored p packet end s c
data_stored {p} {q} {r} {s} {c} {packet} {clusters} end free number made layout bytes cut off =
    let es : List Entry = (chain_of q c).entries in
    let shorter : (chain_of r c).entries ≡ only_first end es = ap (λ (v : ChainView). v.entries)
    (shown_with q r c _ cut) in
    let rest : (chain_of s c).entries ≡ without_first 28 (chain_of r c).entries =
    ap (λ (v : ChainView). v.entries) (shown_with r s c _ off) in
    let bytes_are : string (chain_of s c) ≡ drop 28 (take end packet) =
    ap flat_bytes rest ∙ without_first_bytes 28 (chain_of r c).entries
    ∙ ap (drop 28) (ap flat_bytes shorter ∙ only_first_bytes end es ∙ ap (take end) bytes) in
    let weighs : weight_at s c ≡ flat.weight_of (entries_on clusters (wire (length packet))) =
    ap entries_weight rest ∙ without_weighs 28 (chain_of r c).entries
    ∙ ap entries_weight shorter ∙ only_weighs end es
    ∙ ap entries_weight made.entries ∙ sym (placed_weight _) ∙ ap flat.weight_of layout in
    let came : Moves p [] q (c ∷ []) = moves_adds made.adds in
    let came_cut : Moves p [] r (c ∷ []) = then_with r c _ [] came (λ k. omega arith) cut in
    record {
      clusters = clusters;
      free = free;
      number = number;
      item = λ i. record { bytes = bytes_are i; weight = weighs i };
      moves = then_with s c _ [] came_cut (λ k. omega arith) off;
    }

-- ---- making that chain leaves the sockets the same

pub record IsBeside (p : PoolView) (xs : List ℕ) (s : SocksView) (q : PoolView) (d : ℕ) : Type 0 where
  pub same : SameAt p q xs
  pub shows : (fd : ℕ) → queues_of q s.queues fd ≡ queues_of p s.queues fd
  pub fit : SocksFit q s (d ∷ xs)
  pub moves : Moves p (xs ++ queued_chains p s.queues) q (d ∷ (xs ++ queued_chains q s.queues))

pub beside_data : {p q : PoolView} {d : ℕ} {xs : List ℕ} {s : SocksView} → SocksFit p s xs → Moves p [] q (d ∷ [])
    → IsBeside p xs s q d
beside_data {p} {q} {d} {xs} {s} fit m =
    let ys : List ℕ = queued_chains p s.queues in
    let all : SameAt p q (xs ++ ys) = same_beside (xs ++ ys) m fit.owned (λ k h. refl) in
    let k : Kept p q s = kept p q s (record {
      same = λ j h. all.same j (omega (arith, h, times-append j xs ys));
      mbufs = all.mbufs;
    }) fit.socks in
    let mv : Moves p (xs ++ ys) q (d ∷ (xs ++ queued_chains q s.queues)) =
    subst (λ (l : List ℕ). Moves p (xs ++ ys) q (d ∷ (xs ++ l))) (sym k.chains)
    (moves_beside (xs ++ ys) (d ∷ (xs ++ ys)) (xs ++ ys) m (λ k. omega arith) (λ k. omega arith)) in
    record {
      same = record { same = λ j h. all.same j (omega (arith, h, times-append j xs ys)); mbufs = all.mbufs };
      shows = k.shows;
      fit = record { socks = k.ready; owned = owned_after mv fit.owned };
      moves = mv;
    }

-- ---- the data go to all sockets that match

some_match : (whole : Result Reached Why) (sender : Addr) (item : Item) (destination : ℕ) (sockets : List Socket)
    (old new : State) → 0 < length sockets
    → DeliversAs exact_ledger (λ fd lack. told_whole whole (Offered (fds_of sockets) fd lack)) nothing sender item
    sockets
    old new
    → GoesToAs exact_ledger (told_whole whole) nothing sender item destination sockets old new
some_match whole sender item destination [] old new some delivers = absurd (omega arith)
some_match whole sender item destination (to ∷ more) old new some delivers = delivers

taken : {p : PoolView} {s : State} {clusters : List ℕ} (packet : List ℕ) → IsAccounted p s nothing → AreFree p clusters
    → length clusters ≡ count_by is_cluster (wire (length packet))
    → AreTaken exact_ledger s (need_of (wire (length packet))).clusters clusters
taken {p} {s} {clusters} packet acc free number = record {
  number = number;
  distinct = λ k. omega (arith, bag_of_times k clusters, free.once k);
  free = All-from_recursion (IsFree s nothing) clusters (free_each p s clusters acc free.exist free.free);
}

pub delivers_whole : {p q r : PoolView} {t u : Table} {bs cs : List SockBufView} {us vs ws : List Unfinished}
    {xs ys zs : List ℕ} {c e : Counters} {d end : ℕ} {fds packet : List ℕ} {from to : Addr} {reached : Reached}
    → SocksFit p (record { pcbs = t; queues = bs }) xs
    → IsChecked packet end from to → AreMatching t to.ip (packet_key to.ip to.port from) fds → 0 < length fds
    → IsDataStored p packet end q d → vs ≡ us → ys ≡ xs
    → IsDelivered (net_view q (record { pcbs = t; queues = bs }) vs ys c) d fds from reached
    (net_view r (record { pcbs = u; queues = cs }) ws zs e)
    → DeliversWhole (net_view p (record { pcbs = t; queues = bs }) us xs c) packet (Ok reached)
    (net_view r (record { pcbs = u; queues = cs }) ws zs e)
delivers_whole {p} {q} {r} {t} {u} {bs} {cs} {us} {vs} {ws} {xs} {ys} {zs} {c} {e} {d} {end} {fds} {packet} {from}
    {to} {reached}
    fit checked matching some stored same_vs same_ys done =
    let s : SocksView = record { pcbs = t; queues = bs } in
    let x = beside_data fit stored.moves in
    let item : Item = data_of packet end stored.clusters in
    let now : (rest : State) → with_net q s vs c rest ≡ with_net p s us c rest =
    λ rest. shows_same p q t bs c rest x.shows same_vs in
    let accounts : (rest : State) (held : Weight) → IsAccounted p (with_net p s us c rest) held
    → IsAccounted q (with_net q s vs c rest) (held ⊕ weight_at q d) = λ rest held a.
    subst (λ (m : State). IsAccounted q m (held ⊕ weight_at q d)) (sym (now rest)) (copy_accounts d a stored.moves) in
    let named : (f : Queues) → sockets_named f t fds ≡ map (socket_with f) matching.found = λ f.
    ap (sockets_named f t) matching.named
    ∙ sym (sockets_are f t matching.found (recursion_from_All (λ (b : Block). block_at b.fd t ≡ Some b)
    matching.found matching.are_open)) in
    let some_found : (f : Queues) → 0 < length (map (socket_with f) matching.found) = λ f. omega (
      arith,
      some,
      ap (λ (l : List ℕ). length l) matching.named,
      length-map matching.found (λ (b : Block). b.fd),
      length-map matching.found (socket_with f),
    ) in
    record {
      step = λ rest a.
          let old : State = with_net p s us c rest in
          let mid : State = with_net q s vs c rest in
          let new : State = with_net r (record { pcbs = u; queues = cs }) ws e rest in
          let one = done.step rest nothing (accounts rest nothing a) in
          let two = subst (λ (i : Item). DeliversAs exact_ledger (λ fd. told_one (done.lacks fd)) nothing
          from i (sockets_named (queues_of q bs) t fds)
          mid new) stored.item one in
          let three = subst (λ (l : List Socket). DeliversAs exact_ledger (λ fd. told_one (done.lacks fd))
          nothing from item l mid new)
          (named (queues_of q bs)) two in
          let told = as_whole nothing from item (map (socket_with (queues_of q bs)) matching.found) fds done.lacks
          reached
          mid new done.reached_is (matching.named ∙ sym (named_fds (queues_of q bs) matching.found)) three in
          let four : GoesToAs exact_ledger (told_whole (Ok reached)) nothing from item to.ip
          (map (socket_with (queues_of q bs)) matching.found)
          mid new = some_match (Ok reached) from item to.ip (map (socket_with (queues_of q bs)) matching.found) mid new
          (some_found (queues_of q bs)) told in
          let five = subst (λ (l : List Socket). GoesToAs exact_ledger (told_whole (Ok reached)) nothing from item
          to.ip l mid new)
          (sym (matching.sockets (record rest { unfinished = vs; counters = c }) (queues_of q bs))) four in
          let six = subst (λ (m : State). GoesToAs exact_ledger (told_whole (Ok reached)) nothing from item to.ip
          (matching_sockets m to.ip (packet_key to.ip to.port from)) m new) (now rest) five in (
            stored.clusters,
            taken packet a stored.free stored.number,
            arrives_as (Ok reached) packet end from to item.weight old new checked six,
          );
      parts = record {
        accounts = λ rest held a. done.parts.accounts rest held (accounts rest held a);
        ready = done.parts.ready;
        pcbs = done.parts.pcbs;
        moves = moves_trans x.moves
            (subst (λ (l : List ℕ). Moves q (d ∷ (l ++ queued_chains q bs)) r (zs ++ queued_chains r cs)) same_ys
            done.parts.moves);
      };
    }

-- the lookup leaves the table the same
pub delivers_to : {p q r : PoolView} {t t' u : Table} {bs cs : List SockBufView} {us vs ws : List Unfinished}
    {xs ys zs : List ℕ} {c e : Counters} {d end : ℕ} {fds to_all packet : List ℕ} {from to : Addr} {reached : Reached}
    → SocksFit p (record { pcbs = t; queues = bs }) xs
    → IsChecked packet end from to → AreMatching t to.ip (packet_key to.ip to.port from) fds → 0 < length fds
    → IsDataStored p packet end q d → vs ≡ us → ys ≡ xs → t' ≡ t → to_all ≡ fds
    → IsDelivered (net_view q (record { pcbs = t'; queues = bs }) vs ys c) d to_all from reached
    (net_view r (record { pcbs = u; queues = cs }) ws zs e)
    → DeliversWhole (net_view p (record { pcbs = t; queues = bs }) us xs c) packet (Ok reached)
    (net_view r (record { pcbs = u; queues = cs }) ws zs e)
delivers_to {p} {q} {r} {t} {t'} {u} {bs} {cs} {us} {vs} {ws} {xs} {ys} {zs} {c} {e} {d} {end} {fds} {to_all} {packet}
    {from} {to} {reached} fit checked matching some stored same_vs same_ys same_t same_to done =
    let then = net_view r (record { pcbs = u; queues = cs }) ws zs e in
    delivers_whole fit checked matching some stored same_vs same_ys
    (subst (λ (l : List ℕ). IsDelivered (net_view q (record { pcbs = t; queues = bs }) vs ys c) d l from reached
    then) same_to
    (subst (λ (x : Table). IsDelivered (net_view q
    (record { pcbs = x; queues = bs }) vs ys c) d to_all from reached then) same_t
    done))

-- ---- no socket matches

none_found : (f : Queues) (found : List Block) → length (map (λ (b : Block). b.fd) found) ≡ 0
    → map (socket_with f) found ≡ []
none_found f [] e = refl
none_found f (b ∷ found) e = absurd (omega (arith, e))

-- nothing is stored, and the packet is dropped for this cause
ends_whole : {p : PoolView} {t t' : Table} {bs : List SockBufView} {us : List Unfinished} {xs : List ℕ} {c e : Counters}
    {end : ℕ} {packet : List ℕ} {from to : Addr} (whole : Result Reached Why) (why : Why)
    → IsSocks p (record { pcbs = t; queues = bs })
    → IsChecked packet end from to → Has p (wire (length packet)) → t' ≡ t → e ≡ counted why c
    → ((rest : State) (w : Weight) → (let old : State = with_net p (record { pcbs = t; queues = bs }) us c rest in
    GoesToAs exact_ledger (told_whole whole) nothing from (record { bytes = drop 28 (take end packet); weight = w })
    to.ip
    (matching_sockets old to.ip (packet_key to.ip to.port from)) old (ends why old)))
    → DeliversWhole (net_view p (record { pcbs = t; queues = bs }) us xs c) packet whole
    (net_view p (record { pcbs = t'; queues = bs }) us xs e)
ends_whole {p} {t} {t'} {bs} {us} {xs} {c} {e} {end} {packet} {from} {to} whole why socks checked has same_t is_e
    goes =
    let s : SocksView = record { pcbs = t; queues = bs } in
    let now : (rest : State) → with_net p s us e rest ≡ ends why (with_net p s us c rest) =
    λ rest i. with_net p s us (is_e i) rest in
    subst (λ (u : Table). DeliversWhole (net_view p s us xs c) packet whole
    (net_view p (record { pcbs = u; queues = bs }) us xs e)) (sym same_t)
    (record {
      step = λ rest a.
          let old : State = with_net p s us c rest in
          let free = some_free p old (need_of (wire (length packet))).clusters a has.1 in
          let w : Weight = flat.weight_of (entries_on free.0 (wire (length packet))) in (
            free.0,
            free.1,
            subst (λ (new : State). ArrivesWhole whole packet (record { bytes = carried_of packet; weight = w }) old
                new)
                (sym (now rest))
                (arrives_as whole packet end from to w old (ends why old) checked (goes rest w)),
          );
      parts = record {
        accounts = λ rest held a. subst (λ (m : State). IsAccounted p m held) (sym (now rest)) (ends_accounted why a);
        ready = socks;
        pcbs = refl;
        moves = moves_none p (xs ++ queued_chains p bs);
      };
    })

pub unmatched_ends : {p : PoolView} {t t' : Table} {bs : List SockBufView} {us : List Unfinished} {xs fds : List ℕ}
    {c e : Counters} {end : ℕ} {packet : List ℕ} {from to : Addr} (why : Why)
    → IsSocks p (record { pcbs = t; queues = bs }) → IsChecked packet end from to
    → AreMatching t to.ip (packet_key to.ip to.port from) fds → length fds ≡ 0 → Has p (wire (length packet))
    → why ≡ unmatched t to.ip → t' ≡ t → e ≡ counted why c
    → DeliversWhole (net_view p (record { pcbs = t; queues = bs }) us xs c) packet (Err why)
    (net_view p (record { pcbs = t'; queues = bs }) us xs e)
unmatched_ends {p} {t} {t'} {bs} {us} {xs} {fds} {c} {e} {end} {packet} {from} {to} why socks checked matching none has
    is same_t is_e =
    ends_whole (Err why) why socks checked has same_t is_e (λ rest w.
    let old : State = with_net p (record { pcbs = t; queues = bs }) us c rest in
    let item : Item = record { bytes = drop 28 (take end packet); weight = w } in
    let nobody : matching_sockets old to.ip (packet_key to.ip to.port from) ≡ [] =
    matching.sockets (record rest { unfinished = us; counters = c }) (queues_of p bs)
    ∙ none_found (queues_of p bs) matching.found
    (omega (arith, none, ap (λ (l : List ℕ). length l) matching.named)) in
    subst (λ (l : List Socket). GoesToAs exact_ledger (told_whole (Err why)) nothing from item to.ip l old
    (ends why old)) (sym nobody) (is, ap (λ (y : Why). ends y old) is))

-- ---- the queue of the only socket that matches is full

only_found : (t : Table) (f : Queues) (found : List Block) (fd : ℕ) → map (λ (b : Block). b.fd) found ≡ fd ∷ []
    → AllByRecursion (λ (b : Block). block_at b.fd t ≡ Some b) found
    → (b : Block) × (b.fd ≡ fd) × (map (socket_with f) found ≡ socket_with f b ∷ []) × (block_at fd t ≡ Some b)
only_found t f [] fd e is_open = absurd (omega (arith, ap (λ (l : List ℕ). length l) e))
only_found t f (b ∷ []) fd e is_open =
    let named : b.fd ≡ fd = ap (λ (l : List ℕ). get_or l 0 0) e in
    (b, named, refl, ap (λ (k : ℕ). block_at k t) (sym named) ∙ is_open.0)
only_found t f (b ∷ a ∷ found) fd e is_open = absurd (omega (arith, ap (λ (l : List ℕ). length l) e))

-- a list of one, by its length
pub lone_is : (l : List ℕ) → 1 ≤ length l → length l < 2 → l ≡ slice_index_or l 0 0 ∷ []
lone_is [] least most = absurd (omega arith)
lone_is (x ∷ []) least most = refl
lone_is (x ∷ y ∷ l) least most = absurd (omega arith)

pub lone_descriptor : {p : PoolView} {t : Table} {bs : List SockBufView} {fds : List ℕ} {destination fd : ℕ}
    {q : LookupKey} → IsSocks p (record { pcbs = t; queues = bs }) → AreMatching t destination q fds → fds ≡ fd ∷ []
    → IsDescriptor fd
lone_descriptor {p} {t} {bs} {fds} {destination} {fd} {q} socks matching one =
    descriptor_of t fd socks.apart (recursion_from_All (λ (k : ℕ). IsOpen k t) (fd ∷ [])
    (subst (All (λ (k : ℕ). IsOpen k t)) one (all_open t destination q fds matching))).0

pub lone_open : {t : Table} {fds : List ℕ} {destination fd : ℕ} {q : LookupKey} → AreMatching t destination q fds
    → fds ≡ fd ∷ [] → IsOpen fd t
lone_open {t} {fds} {destination} {fd} {q} matching one =
    (recursion_from_All (λ (k : ℕ). IsOpen k t) (fd ∷ [])
    (subst (All (λ (k : ℕ). IsOpen k t)) one (all_open t destination q fds matching))).0

pub full_ends : {p : PoolView} {t t' : Table} {bs : List SockBufView} {us : List Unfinished} {xs fds : List ℕ}
    {c e : Counters} {end fd : ℕ} {packet : List ℕ} {from to : Addr} {reached : Reached} → reached ≡ lost_by fd
    → IsSocks p (record { pcbs = t; queues = bs })
    → IsChecked packet end from to → AreMatching t to.ip (packet_key to.ip to.port from) fds → fds ≡ fd ∷ []
    → HasLimit fd t 0 → Has p (wire (length packet))
    → fits 0 (queues_of p bs fd) (length (drop 28 (take end packet))) 0 ≡ false
    → t' ≡ t → e ≡ counted UdpFullSocket c
    → DeliversWhole (net_view p (record { pcbs = t; queues = bs }) us xs c) packet (Ok reached)
    (net_view p (record { pcbs = t'; queues = bs }) us xs e)
full_ends {p} {t} {t'} {bs} {us} {xs} {fds} {c} {e} {end} {fd} {packet} {from} {to} {reached} is_reached socks
    checked matching one
    limited has over same_t is_e =
    ends_whole (Ok reached) UdpFullSocket socks checked has same_t is_e (λ rest w.
    let old : State = with_net p (record { pcbs = t; queues = bs }) us c rest in
    let item : Item = record { bytes = drop 28 (take end packet); weight = w } in
    let f : Queues = queues_of p bs in
    let only = only_found t f matching.found fd (sym matching.named ∙ one)
    (recursion_from_All (λ (b : Block). block_at b.fd t ≡ Some b) matching.found matching.are_open) in
    let lone : matching_sockets old to.ip (packet_key to.ip to.port from) ≡ socket_with f only.0 ∷ [] =
    matching.sockets (record rest { unfinished = us; counters = c }) f ∙ only.2 in
    subst (λ (l : List Socket). GoesToAs exact_ledger (told_whole (Ok reached)) nothing from item to.ip l old
    (ends UdpFullSocket old)) (sym lone)
    (record {
      yes = λ y. absurd (true≢false (sym y
          ∙ ap (λ (n : ℕ). fits n (f (only.0).fd) (length (drop 28 (take end packet))) (memory_of w))
          (limited only.0 only.3)
          ∙ ap (λ (k : ℕ). fits 0 (f k) (length (drop 28 (take end packet))) 0) only.1 ∙ over));
      no = λ _. ((λ k. Some UdpFullSocket, is_reached ∙ ap lost_by (sym only.1), refl), refl);
    }))
