-- The outcomes of a packet that arrives.
use Rattle.std.proofs.Common.{◌≡◌, ◌⊎◌, ℕ, ◌<◌, ◌≤◌, min, Bool, true, false, List, [], ◌∷◌, ◌++◌, length, take, drop, None, Some, Result, Ok, Err, is_some, refl, sym, ap, ◌∙◌, subst, arith, inl, inr}
use Rattle.std.specs.Prelude.{◌/◌, ◌%◌, ◌==◌, not, nat_lt, slice_index, slice_index_or}
use Rattle.std.specs.List.{AllByRecursion as Each}
use Rattle.std.proofs.lemmas.Bool.{true≢false, ltb-false, cases_lt}
use Rattle.std.proofs.lemmas.Option.{none-some, same_Some}
use Rattle.std.proofs.lemmas.List.{length-take}
use Rattle.flat_model.specs.Amounts.Choice.{Choice}
use Rattle.flat_model.specs.Amounts.Weight.{Weight, Item, ◌⊕◌}
use Rattle.flat_model.specs.Packets.Checksum.{folded_sum}
use Rattle.flat_model.specs.Packets.Header.{head_fault, head_of, total_of}
use Rattle.flat_model.specs.Machine.Count.{counted, counts_more}
use Rattle.flat_model.specs.Machine.State.{State, ends}
use Rattle.flat_model.specs.Machine.Ledger.{exact_ledger}
use Rattle.flat_model.specs.Machine.Arrival.{Origin, By_wire, Looped, ArrivesAs, PassesAs, FragmentArrivesAs, WholeArrivesAs, counts_packet, carried, is_for_us, is_fragment}
use Rattle.flat_model.specs.Machine.Fate.{told, told_whole}
use Rattle.flat_model.specs.declared.fate.Fate.{Fate}
use Rattle.flat_model.specs.declared.fate.Fate.TheVariants.{Completed, Dropped}
use Rattle.flat_model.specs.declared.fate.Reached.{Reached}
use Rattle.flat_model.specs.declared.counter.Counter.TheVariants.{IpTotal}
use Rattle.flat_model.specs.declared.counters.Counters.{Counters}
use Rattle.flat_model.specs.declared.counters.Why.{Why}
use Rattle.flat_model.specs.declared.counters.Why.TheVariants.{TooSmall, BadVersion, BadHeaderLength, Options, BadSum, BadLength, TooShort, CantForward}
use Rattle.flat_model.proofs.Laws.{none_passed}
use Rattle.mbuf_chain.specs.Chain.{ChainView, Entry, PoolView, IsLive, chain_of, entry_of, flat_bytes, no_entry, string, with_chain, without}
use Rattle.mbuf_chain.specs.Owners.{IsOwned, Moves}
use Rattle.mbuf_chain.proofs.Laws.Owners.{live_first, moves_with, moves_without, moves_trans, shown_with}
use Rattle.chain_ops.specs.Trims.{only_first, without_first}
use Rattle.chain_ops.proofs.Laws.Strings.{only_first_bytes, without_first_bytes}
use Rattle.ledger.specs.Accounts.{item_at, entries_weight, weight_at, weight_owned, IsAccounted}
use Rattle.pcb_table.specs.Table.{machine}
use Rattle.ip_out.specs.Headings.{head_in}
use Rattle.ip_out.specs.declared.head.IpHead.{IpHead}
use Rattle.ip_reass.specs.Table.{TableView, IsReady, held_all, unfinished}
use Rattle.ip_reass.specs.Arrivals.{CameBy, carried_at, flat_head}
use Rattle.ip_reass.specs.Arrivals as reass
use Rattle.sock_calls.specs.Sockets.{SocksView, IsSocks, queued_chains, with_sockets, with_net}
use Rattle.sock_calls.specs.Delivery.{NetView, net_state, KeepsParts, IsInput}
use Rattle.sock_calls.proofs.Laws.{keeps_trans, only_weighs, without_weighs}
use Rattle.net_stack.specs.Inside.Arrivals.{fate_of, is_ours_or_all, IsFragmentTaken, IsArrived}
use Rattle.net_stack.proofs.Aside.{Aside, aside, aside_keeps, as_held, host_view, BesideSocks, beside_socks}

-- ---- a chain with other entries

pub record IsChanged (p : PoolView) (ds : TableView) (s : SocksView) (c : ℕ) (q : PoolView) (es : List Entry)
    : Type 0 where
  pub entries : (chain_of q c).entries ≡ es
  pub header : (chain_of q c).front.header ≡ (chain_of p c).front.header
  pub live : IsLive q c
  pub beside : Aside p ds s (c ∷ []) q (c ∷ [])

pub changed : {p q : PoolView} {ds : TableView} {s : SocksView} (c : ℕ) (es : List Entry)
    → IsOwned p (c ∷ (held_all p ds.datagrams ++ queued_chains p s.queues)) → IsReady p ds → IsSocks p s
    → q ≡ with_chain p c (record (chain_of p c) { entries = es }) → IsChanged p ds s c q es
changed {p} {q} {ds} {s} c es owned table socks e =
    let v : ChainView = record (chain_of p c) { entries = es } in
    let shown : chain_of q c ≡ v = shown_with p q c v e in
    let beside = aside (c ∷ []) (c ∷ []) owned table socks
    (moves_with p q c v (live_first p c (held_all p ds.datagrams ++ queued_chains p s.queues) owned) e) in
    record {
      entries = ap (λ (w : ChainView). w.entries) shown;
      header = ap (λ (w : ChainView). w.front.header) shown;
      live = live_first q c (held_all q ds.datagrams ++ queued_chains q s.queues) beside.owned;
      beside = beside;
    }

pub freed : {p q : PoolView} {ds : TableView} {s : SocksView} (c : ℕ)
    → IsOwned p (c ∷ (held_all p ds.datagrams ++ queued_chains p s.queues)) → IsReady p ds → IsSocks p s
    → q ≡ without p c → Aside p ds s (c ∷ []) q []
freed {p} {q} {ds} {s} c owned table socks e = aside (c ∷ []) [] owned table socks
    (moves_without p q c (live_first p c (held_all p ds.datagrams ++ queued_chains p s.queues) owned) e)

-- ---- a fragment

-- the fragment in chain c was added to the unfinished datagrams; `hand` are the chains that the caller owns afterwards
pub record Arrived (p : PoolView) (ds : TableView) (a : Counters) (c : ℕ) (h : IpHead) (fate : Fate) (q : PoolView)
    (es : TableView) (b : Counters) (hand : List ℕ) (Then : Weight → State → State → Type 0) : Type 0 where
  pub step : (rest : State) (held : Weight) (origin : Origin) (new : State) → CameBy origin (chain_of p c)
      → IsAccounted p (reass.with_waiting p ds.datagrams a rest) (held ⊕ weight_at p c)
      → Then held (reass.with_waiting q es.datagrams b rest) new
      → FragmentArrivesAs exact_ledger (told fate) origin held (flat_head h) (carried_at p c)
      (reass.with_waiting p ds.datagrams a rest) new
  pub accounts : (rest : State) (held : Weight) → IsAccounted p (reass.with_waiting p ds.datagrams a rest)
      (held ⊕ weight_at p c) → IsAccounted q (reass.with_waiting q es.datagrams b rest) (held ⊕ weight_owned q hand)
  pub moves : Moves p (c ∷ held_all p ds.datagrams) q (hand ++ held_all q es.datagrams)

-- its datagram is still incomplete, or the fragment was dropped
pub waits : {p q : PoolView} {ds es : TableView} {s : SocksView} {a b : Counters} {c : ℕ} {h : IpHead} {fate : Fate}
    → IsOwned p (c ∷ (held_all p ds.datagrams ++ queued_chains p s.queues)) → IsSocks p s
    → Arrived p ds a c h fate q es b [] (λ held now new. new ≡ now)
    → IsFragmentTaken (host_view p s ds a) c h fate (host_view q s es b)
waits {p} {q} {ds} {es} {s} {a} {b} {c} {h} {fate} owned socks is =
    let beside : BesideSocks p s (c ∷ held_all p ds.datagrams) q [] (held_all q es.datagrams) =
    beside_socks (c ∷ held_all p ds.datagrams) [] (held_all q es.datagrams) owned socks is.moves in
    let now : (rest : State) → with_net q s (unfinished q es.datagrams) b rest
    ≡ reass.with_waiting q es.datagrams b (with_sockets p s rest) =
    λ rest i. machine (record rest { unfinished = unfinished q es.datagrams; counters = b })
    (λ fd. beside.socks.shows fd i) s.pcbs in
    record {
      step = λ rest held origin came acc. is.step (with_sockets p s rest) held origin
          (with_net q s (unfinished q es.datagrams) b rest) came acc (now rest);
      parts = record {
        accounts = λ rest held acc. subst (λ (t : State). IsAccounted q t held) (sym (now rest))
            (as_held held [] (is.accounts (with_sockets p s rest) held acc));
        ready = beside.socks.ready;
        pcbs = refl;
        moves = beside.moves;
      };
    }

-- its datagram is complete, and was delivered to the sockets
pub completes : {p q : PoolView} {ds es : TableView} {s : SocksView} {a b : Counters} {c d : ℕ} {h : IpHead}
    {u : NetView} {whole : Result Reached Why} (g : IpHead)
    → IsOwned p (c ∷ (held_all p ds.datagrams ++ queued_chains p s.queues)) → IsSocks p s
    → Arrived p ds a c h (Completed whole) q es b (d ∷ []) (λ held now new. WholeArrivesAs exact_ledger
    (told_whole whole) held g.src g.dst g.proto (item_at q d) now new)
    → IsInput (host_view q s es b) d g.src g.dst g.proto whole u
    → IsFragmentTaken (host_view p s ds a) c h (Completed whole) u
completes {p} {q} {ds} {es} {s} {a} {b} {c} {d} {h} {u} {whole} g owned socks is input =
    let beside : BesideSocks p s (c ∷ held_all p ds.datagrams) q (d ∷ []) (held_all q es.datagrams) =
    beside_socks (c ∷ held_all p ds.datagrams) (d ∷ []) (held_all q es.datagrams) owned socks is.moves in
    let now : (rest : State) → with_net q s (unfinished q es.datagrams) b rest
    ≡ reass.with_waiting q es.datagrams b (with_sockets p s rest) =
    λ rest i. machine (record rest { unfinished = unfinished q es.datagrams; counters = b })
    (λ fd. beside.socks.shows fd i) s.pcbs in
    let mid : (rest : State) (held : Weight) → IsAccounted p (with_net p s (unfinished p ds.datagrams) a rest)
    (held ⊕ weight_at p c) → IsAccounted q (with_net q s (unfinished q es.datagrams) b rest)
    (held ⊕ weight_at q d) =
    λ rest held acc. as_held held (d ∷ []) (subst (λ (t : State). IsAccounted q t (held ⊕ weight_owned q (d ∷ [])))
    (sym (now rest)) (is.accounts (with_sockets p s rest) held acc)) in
    record {
      step = λ rest held origin came acc.
          is.step (with_sockets p s rest) held origin (net_state u rest) came acc
          (subst (λ (t : State). WholeArrivesAs exact_ledger (told_whole whole) held g.src g.dst g.proto (item_at q d) t
          (net_state u rest)) (now rest) (input.step rest held (mid rest held acc)));
      parts = record {
        accounts = λ rest held acc. input.parts.accounts rest held (mid rest held acc);
        ready = input.parts.ready;
        pcbs = input.parts.pcbs;
        moves = moves_trans beside.moves input.parts.moves;
      };
    }

-- ---- a header without a fault, decoded

pub record IsHeaded (bytes : List ℕ) (h : IpHead) : Type 0 where
  pub none : head_fault bytes ≡ None
  pub says : h ≡ head_in bytes
  pub least : 20 ≤ h.total
  pub most : h.total ≤ length bytes
  pub offset : h.offset ≤ 65528

abbrev head_tests : List ℕ → List (Bool × Why)
head_tests bytes =
    (nat_lt (length bytes) 20, TooSmall)
    ∷ (not (slice_index bytes 0 / 16 == 4), BadVersion)
    ∷ (nat_lt (slice_index bytes 0 % 16) 5, BadHeaderLength)
    ∷ (nat_lt 5 (slice_index bytes 0 % 16), Options)
    ∷ (not (folded_sum (take 20 bytes) == 65535), BadSum)
    ∷ (nat_lt (total_of bytes) 20, BadLength)
    ∷ (nat_lt (length bytes) (total_of bytes), TooShort)
    ∷ []

pub headed : (bytes : List ℕ) (h : IpHead) → head_fault bytes ≡ None → h ≡ head_in bytes → IsHeaded bytes h
headed bytes h none says =
    let all : Each (λ (test : Bool × Why). test.0 ≡ false) (head_tests bytes) = none_passed (head_tests bytes) none in
    let total : h.total ≡ total_of bytes = ap (λ (x : IpHead). x.total) says in
    record {
      none = none;
      says = says;
      least = omega (arith, total, ltb-false (total_of bytes) 20 all.1.1.1.1.1.0);
      most = omega (arith, total, ltb-false (length bytes) (total_of bytes) all.1.1.1.1.1.1.0);
      offset = omega (arith, ap (λ (x : IpHead). x.offset) says);
    }

-- ---- a packet

-- what is told of a whole datagram is told of its packet
pub as_fate : (whole : Result Reached Why) (held : Weight) (source destination protocol : ℕ) (item : Item)
    (old new : State)
    → WholeArrivesAs exact_ledger (told_whole whole) held source destination protocol item old new
    → WholeArrivesAs exact_ledger (told (fate_of whole)) held source destination protocol item old new
as_fate (Ok reached) held source destination protocol item old new arrives = arrives
as_fate (Err why) held source destination protocol item old new arrives = arrives

-- it is dropped: its header has a fault, or it's for another machine
pub ends_here : {p q : PoolView} {ds : TableView} {s : SocksView} {a b e : Counters} {c : ℕ} (why : Why) → IsReady p ds
    → IsSocks p s → IsOwned p (c ∷ (held_all p ds.datagrams ++ queued_chains p s.queues)) → q ≡ without p c
    → b ≡ counts_more IpTotal 1 a → e ≡ counted why b
    → ((rest : State) (held : Weight) (origin : Origin)
    → ArrivesAs exact_ledger (told (Dropped why)) origin held (item_at p c)
    (with_net p s (unfinished p ds.datagrams) a rest)
    (ends why (counts_packet (with_net p s (unfinished p ds.datagrams) a rest))))
    → IsArrived (host_view p s ds a) c (Dropped why) (host_view q s ds e)
ends_here {p} {q} {ds} {s} {a} {b} {e} {c} why table socks owned gone is_b is_e ended =
    let beside : Aside p ds s (c ∷ []) q [] = freed c owned table socks gone in
    let count : e ≡ counted why (counts_more IpTotal 1 a) = is_e ∙ ap (counted why) is_b in
    let now : (rest : State) → with_net q s (unfinished q ds.datagrams) e rest
    ≡ ends why (counts_packet (with_net p s (unfinished p ds.datagrams) a rest)) =
    λ rest. beside.shows e rest ∙ (λ i. with_net p s (unfinished p ds.datagrams) (count i) rest) in
    record {
      step = λ rest held origin came acc. subst (λ (t : State). ArrivesAs exact_ledger (told (Dropped why)) origin held
          (item_at p c) (with_net p s (unfinished p ds.datagrams) a rest) t) (sym (now rest)) (ended rest held origin);
      parts = aside_keeps a e beside;
    }

pub refused : (bytes : List ℕ) (origin : Origin) (held : Weight) (w : Weight) (old : State) (why : Why)
    → head_fault bytes ≡ Some why
    → ArrivesAs exact_ledger (told (Dropped why)) origin held (record { bytes = bytes; weight = w }) old
    (ends why (counts_packet old))
refused bytes origin held w old why is = record {
  none = λ e. absurd (none-some why (sym e ∙ is));
  some = λ y e. (
    same_Some why y (sym is ∙ e),
    ap (λ (x : Why). ends x (counts_packet old)) (same_Some why y (sym is ∙ e)),
  );
}

pub passes : (fate : Fate) (bytes : List ℕ) (origin : Origin) (held : Weight) (w : Weight) (old new : State)
    → head_fault bytes ≡ None
    → PassesAs exact_ledger (told fate) origin held (record { bytes = bytes; weight = w }) (counts_packet old) new
    → ArrivesAs exact_ledger (told fate) origin held (record { bytes = bytes; weight = w }) old new
passes fate bytes origin held w old new none p = record {
  none = λ e. p;
  some = λ why e. absurd (none-some why (sym none ∙ e));
}

pub forwarded : (bytes : List ℕ) (origin : Origin) (held : Weight) (w : Weight) (old : State) → head_fault bytes ≡ None
    → is_for_us old.config (head_of bytes).destination ≡ false
    → ArrivesAs exact_ledger (told (Dropped CantForward)) origin held (record { bytes = bytes; weight = w }) old
    (ends CantForward (counts_packet old))
forwarded bytes origin held w old none other =
    passes (Dropped CantForward) bytes origin held w old (ends CantForward (counts_packet old)) none
    (record { yes = λ e. absurd (true≢false (sym e ∙ other)); no = λ e. (refl, refl) })

-- ---- trimming the end of a chain keeps the cluster of its first entry

first_cluster : (n : ℕ) (es : List Entry) → (slice_index_or (only_first n es) 0 no_entry).cluster
    ≡ (slice_index_or es 0 no_entry).cluster
first_cluster n [] = refl
first_cluster n (e ∷ es) = refl

first_length : (n : ℕ) (es : List Entry) → length (slice_index_or (only_first n es) 0 no_entry).bytes
    ≡ min n (length (slice_index_or es 0 no_entry).bytes)
first_length n [] = omega arith
first_length n (e ∷ es) = omega (arith, length-take (min n (length e.bytes)) e.bytes)

came_cut : (origin : Origin) (n : ℕ) (v w : ChainView) → w.entries ≡ only_first n v.entries → CameBy origin v
    → CameBy origin w
came_cut Looped n v w e came = ap (λ (es : List Entry). (slice_index_or es 0 no_entry).cluster) e
    ∙ first_cluster n v.entries ∙ came
came_cut (By_wire received) n v w e came = record {
  cluster = ap (λ (es : List Entry). is_some (slice_index_or es 0 no_entry).cluster) e
      ∙ ap is_some (first_cluster n v.entries) ∙ came.cluster;
  holds = go came.holds (cases_lt n (length (entry_of v 0).bytes));
}
  where
    first : length (entry_of w 0).bytes ≡ min n (length (entry_of v 0).bytes)
    first = ap (λ (es : List Entry). length (slice_index_or es 0 no_entry).bytes) e ∙ first_length n v.entries

    all : length (string w) ≡ min n (length (string v))
    all = omega (
      arith,
      ap (λ (es : List Entry). length (flat_bytes es)) e,
      ap (λ (xs : List ℕ). length xs) (only_first_bytes n v.entries),
      length-take n (string v),
    )

    go : (length (string v) ≤ length (entry_of v 0).bytes) ⊎ (40 < length (entry_of v 0).bytes)
        → (n < length (entry_of v 0).bytes) ⊎ (length (entry_of v 0).bytes ≤ n)
        → (length (string w) ≤ length (entry_of w 0).bytes) ⊎ (40 < length (entry_of w 0).bytes)
    go (inl h) b = inl (omega (arith, first, all, h))
    go (inr h) (inl l) = inl (omega (arith, first, all, l))
    go (inr h) (inr l) = inr (omega (arith, first, h, l))

-- ---- a packet for this machine

pub record IsForUs (p : PoolView) (ds : TableView) (s : SocksView) (a : Counters) (c : ℕ) (h : IpHead) (q : PoolView)
    (b : Counters) : Type 0 where
  pub head : IsHeaded (string (chain_of p c)) h
  pub ours : (rest : State) → is_for_us (with_net p s (unfinished p ds.datagrams) a rest).config h.dst ≡ true
  pub counts : b ≡ counts_more IpTotal 1 a
  pub cut : IsChanged p ds s c q (only_first h.total (chain_of p c).entries)

pub for_us : {p q : PoolView} {ds : TableView} {s : SocksView} {a b : Counters} {c : ℕ} {h : IpHead} (ours : Bool)
    → IsReady p ds → IsSocks p s → IsOwned p (c ∷ (held_all p ds.datagrams ++ queued_chains p s.queues))
    → head_fault (string (chain_of p c)) ≡ None → h ≡ head_in (string (chain_of p c))
    → ours ≡ is_ours_or_all s.pcbs.addr s.pcbs.bcast h.dst → ours ≡ true → b ≡ counts_more IpTotal 1 a
    → q ≡ with_chain p c (record (chain_of p c) { entries = only_first h.total (chain_of p c).entries })
    → IsForUs p ds s a c h q b
for_us {p} {q} {ds} {s} {a} {b} {c} {h} ours table socks owned none says is received count cut = record {
  head = headed (string (chain_of p c)) h none says;
  ours = λ rest. sym is ∙ received;
  counts = count;
  cut = changed c (only_first h.total (chain_of p c).entries) owned table socks cut;
}

-- after the trim, the chain is as long as the header's total length
pub cut_length : {p q : PoolView} {ds : TableView} {s : SocksView} {a b : Counters} {c : ℕ} {h : IpHead}
    → IsForUs p ds s a c h q b → length (string (chain_of q c)) ≡ h.total
cut_length {p} {q} {c = c} {h = h} is =
    omega (
      arith,
      ap (λ (es : List Entry). length (flat_bytes es)) is.cut.entries,
      ap (λ (xs : List ℕ). length xs) (only_first_bytes h.total (chain_of p c).entries),
      length-take h.total (string (chain_of p c)),
      is.head.most,
    )

cut_bytes : {p q : PoolView} {ds : TableView} {s : SocksView} {a b : Counters} {c : ℕ} {h : IpHead}
    → IsForUs p ds s a c h q b → string (chain_of q c) ≡ take (total_of (string (chain_of p c))) (string (chain_of p c))
cut_bytes {p} {q} {c = c} {h = h} is =
    ap flat_bytes is.cut.entries ∙ only_first_bytes h.total (chain_of p c).entries
    ∙ ap (λ (x : IpHead). take x.total (string (chain_of p c))) is.head.says

cut_weighs : {p q : PoolView} {ds : TableView} {s : SocksView} {a b : Counters} {c : ℕ} {h : IpHead}
    → IsForUs p ds s a c h q b → weight_at q c ≡ weight_at p c
cut_weighs {p} {q} {c = c} {h = h} is = ap entries_weight is.cut.entries ∙ only_weighs h.total (chain_of p c).entries

carried_cut : {p q : PoolView} {ds : TableView} {s : SocksView} {a b : Counters} {c : ℕ} {h : IpHead}
    → IsForUs p ds s a c h q b → carried_at q c ≡ carried (item_at p c)
carried_cut is = λ i. record { bytes = drop 20 (cut_bytes is i); weight = cut_weighs is i }

counted_now : {p q : PoolView} {ds : TableView} {s : SocksView} {a b : Counters} {c : ℕ} {h : IpHead}
    (is : IsForUs p ds s a c h q b) (rest : State)
    → with_net q s (unfinished q ds.datagrams) b rest ≡ counts_packet (with_net p s (unfinished p ds.datagrams) a rest)
counted_now {p} {q} {ds} {s} {a} {b} is rest = is.cut.beside.shows b rest
    ∙ (λ i. with_net p s (unfinished p ds.datagrams) (is.counts i) rest)

-- it passes the tests of its header, and of its destination
ours_pass : {p q : PoolView} {ds : TableView} {s : SocksView} {a b : Counters} {c : ℕ} {h : IpHead}
    (fate : Fate) (is : IsForUs p ds s a c h q b) (rest : State) (held : Weight) (origin : Origin) (new : State)
    → (is_fragment (flat_head h) ≡ true → FragmentArrivesAs exact_ledger (told fate) origin held (flat_head h)
    (carried (item_at p c)) (counts_packet (with_net p s (unfinished p ds.datagrams) a rest)) new)
    → (is_fragment (flat_head h) ≡ false → WholeArrivesAs exact_ledger (told fate) held h.src h.dst h.proto
    (carried (item_at p c)) (counts_packet (with_net p s (unfinished p ds.datagrams) a rest)) new)
    → ArrivesAs exact_ledger (told fate) origin held (item_at p c) (with_net p s (unfinished p ds.datagrams) a rest) new
ours_pass {p} {q} {ds} {s} {a} {b} {c} {h} fate is rest held origin new part all =
    let old : State = with_net p s (unfinished p ds.datagrams) a rest in
    let bytes : List ℕ = string (chain_of p c) in
    passes fate bytes origin held (weight_at p c) old new is.head.none (record {
      yes = λ e. subst (λ (x : IpHead). Choice (is_fragment (flat_head x))
          (FragmentArrivesAs exact_ledger (told fate) origin held (flat_head x) (carried (item_at p c))
          (counts_packet old) new)
          (WholeArrivesAs exact_ledger (told fate) held x.src x.dst x.proto (carried (item_at p c))
          (counts_packet old) new))
          is.head.says (record { yes = part; no = all });
      no = λ e. absurd (true≢false (sym (is.ours rest) ∙ ap (λ (x : IpHead). is_for_us old.config x.dst) is.head.says
          ∙ e));
    })

pub fragment_arrives : {p q : PoolView} {ds : TableView} {s : SocksView} {a b : Counters} {c : ℕ} {h : IpHead}
    {fate : Fate} {u : NetView} → IsForUs p ds s a c h q b → is_fragment (flat_head h) ≡ true
    → IsFragmentTaken (host_view q s ds b) c h fate u → IsArrived (host_view p s ds a) c fate u
fragment_arrives {p} {q} {ds} {s} {a} {b} {c} {h} {fate} {u} is part taken = record {
  step = λ rest held origin came acc. ours_pass fate is rest held origin (net_state u rest)
      (λ e. subst (λ (x : Item). FragmentArrivesAs exact_ledger (told fate) origin held (flat_head h) x
      (counts_packet (with_net p s (unfinished p ds.datagrams) a rest)) (net_state u rest)) (carried_cut is)
      (subst (λ (t : State). FragmentArrivesAs exact_ledger (told fate) origin held (flat_head h) (carried_at q c) t
      (net_state u rest)) (counted_now is rest)
      (taken.step rest held origin (came_cut origin h.total (chain_of p c) (chain_of q c) is.cut.entries came)
      (is.cut.beside.accounts a b rest held acc))))
      (λ e. absurd (true≢false (sym part ∙ e)));
  parts = keeps_trans (aside_keeps a b is.cut.beside) taken.parts;
}

pub whole_arrives : {p q r : PoolView} {ds : TableView} {s : SocksView} {a b : Counters} {c : ℕ} {h : IpHead}
    {whole : Result Reached Why} {u : NetView} → IsForUs p ds s a c h q b → is_fragment (flat_head h) ≡ false
    → IsChanged q ds s c r (without_first 20 (chain_of q c).entries)
    → IsInput (host_view r s ds b) c h.src h.dst h.proto whole u
    → IsArrived (host_view p s ds a) c (fate_of whole) u
whole_arrives {p} {q} {r} {ds} {s} {a} {b} {c} {h} {whole} {u} is all off input =
    let item : item_at r c ≡ carried (item_at p c) =
    (λ i. record {
      bytes = (ap flat_bytes off.entries ∙ without_first_bytes 20 (chain_of q c).entries) i;
      weight = (ap entries_weight off.entries ∙ without_weighs 20 (chain_of q c).entries) i;
    }) ∙ carried_cut is in
    let cut : KeepsParts (host_view p s ds a) (c ∷ []) (host_view r s ds b) (c ∷ []) =
    keeps_trans (aside_keeps a b is.cut.beside) (aside_keeps b b off.beside) in
    record {
      step = λ rest held origin came acc. ours_pass (fate_of whole) is rest held origin (net_state u rest)
          (λ e. absurd (true≢false (sym e ∙ all)))
          (λ e. as_fate whole held h.src h.dst h.proto (carried (item_at p c))
          (counts_packet (with_net p s (unfinished p ds.datagrams) a rest)) (net_state u rest)
          (subst (λ (x : Item). WholeArrivesAs exact_ledger (told_whole whole) held h.src h.dst h.proto x
          (counts_packet (with_net p s (unfinished p ds.datagrams) a rest)) (net_state u rest)) item
          (subst (λ (t : State). WholeArrivesAs exact_ledger (told_whole whole) held h.src h.dst h.proto (item_at r c) t
          (net_state u rest)) (off.beside.shows b rest ∙ counted_now is rest)
          (input.step rest held (cut.accounts rest held acc)))));
      parts = keeps_trans cut input.parts;
    }
