-- Linking a chain before another in a train.
use Rattle.std.proofs.Common.{◌≡◌, ℕ, true, cond, ◌∷◌, Option, None, Some, is_some, option_map, refl, sym, ap, ◌∙◌, subst, arith}
use Rattle.std.specs.Prelude.{IsSome}
use Rattle.std.proofs.lemmas.Bool.{false≢true}
use Rattle.std.proofs.lemmas.Option.{same_Some}
use Rattle.mbuf_pool.specs.Cells.{Head, PacketHeader, head_size, with_arrival}
use Rattle.mbuf_pool.proofs.Laws.{sets_head, sets_twice}
use Rattle.mbuf_pool.specs.Store.{StoreView, mbuf_head, SetsHead, IsStore}
use Rattle.mbuf_chain.specs.Chain.{Front, PoolView, chain_of, IsLive, with_chain}
use Rattle.mbuf_chain.specs.Steps.{placed}
use Rattle.mbuf_chain.specs.Inside.Cells.{arrival_of, entry_at, front_of, head_room_low, pool_of, IsPool}
use Rattle.mbuf_chain.proofs.Focused.{first_out, open_on}
use Rattle.mbuf_chain.proofs.Heads.{rehead, enter_first, set_same}
use Rattle.mbuf_chain.proofs.Places.{front_is, header_is}

abbrev pub trained : Head → Option ℕ → ℕ → PacketHeader → Head
trained h after tag packet =
    record h { next_packet = after; packet = Some (record { len = packet.len; arrival = tag }) }

pub record Placed (s t : StoreView) (c : ℕ) (after : Option ℕ) (tag : ℕ) : Type 0 where
  pub pool : IsPool t
  pub map_is : pool_of t ≡ with_chain (pool_of s) c (placed (chain_of (pool_of s) c) after tag)

pub placed_made : (s t : StoreView) (c : ℕ) (after : Option ℕ) (tag : ℕ) (packet : PacketHeader) → IsPool s
    → IsLive (pool_of s) c → (chain_of (pool_of s) c).front.header ≡ true → (mbuf_head s c).packet ≡ Some packet
    → SetsHead s t c (trained (mbuf_head s c) after tag packet) → IsStore t → Placed s t c after tag
placed_made s t c after tag packet pool live headed is sets store =
    let o = open_on s c pool live in
    let f = o.at in
    let e = enter_first s c o.at in
    let h = trained (mbuf_head s c) after tag packet in
    let low : head_room_low (trained (mbuf_head s c) after tag packet) ≡ head_room_low (mbuf_head s c) =
    ap (λ (p : Option PacketHeader). cond {A = ℕ} (is_some (mbuf_head s c).cluster) 0 (cond (is_some p) 28 20)) (sym is)
    in
    let r =
    rehead s t c 0 c h o.at e sets store refl refl
    (record { low = omega (arith, low, e.fit.low); high = e.fit.high; kind = e.fit.kind })
    (λ lt. absurd (omega arith)) in
    record {
      pool = (
        f.cells ∷ f.rest,
        r.change.sound,
        (
          λ packet' is'.
              let here : Some (record { len = packet.len; arrival = tag }) ≡ Some packet' =
              ap (λ (y : Head). y.packet) (sym r.head) ∙ ap (λ (j : ℕ). (mbuf_head t j).packet) (sym f.first) ∙ is' in
              omega (
                arith,
                ap (λ (q : PacketHeader). q.len) (same_Some _ _ here),
                o.totals.0 packet (ap (λ (j : ℕ). (mbuf_head s j).packet) f.first ∙ is),
                r.change.lens,
                ap (λ (y : Head). y.len) r.head,
              ),
          r.change.totals o.totals.1,
        ),
      );
      map_is =
          r.change.map_is ∙ (λ j. with_chain (pool_of s) c
          (record {
            front = (ap front_of r.head ∙ (λ i. record { header = sym headed i; after = after; tag = tag })) j;
            entries =
                set_same (chain_of (pool_of s) c).entries 0 (entry_at t c) (e.shows ∙ sym r.entry) j;
            cells =
                (chain_of (pool_of s) c).cells;
          }));
    }

pub has_packet : {A : Type 0} (s : StoreView) (c : ℕ) → IsPool s → IsLive (pool_of s) c
    → (chain_of (pool_of s) c).front.header ≡ true → (mbuf_head s c).packet ≡ None → A
has_packet s c pool live headed none =
    absurd (false≢true (ap (λ (p : Option PacketHeader). is_some p) (sym none) ∙ header_is s c pool live ∙ headed))

pub packet_there : (s : StoreView) (c : ℕ) → IsPool s → IsLive (pool_of s) c
    → (chain_of (pool_of s) c).front.header ≡ true → (packet : PacketHeader) × ((mbuf_head s c).packet ≡ Some packet)
packet_there s c pool live headed = go (mbuf_head s c).packet refl
  where
    go : (p : Option PacketHeader) → (mbuf_head s c).packet ≡ p
        → (packet : PacketHeader) × ((mbuf_head s c).packet ≡ Some packet)
    go None e = has_packet s c pool live headed e
    go (Some packet) e = (packet, e)

-- the chain that a caller knows, and its packet header
pub record HasPacket (s : StoreView) (c : ℕ) : Type 0 where
  pub live : IsLive (pool_of s) c
  pub headed : (chain_of (pool_of s) c).front.header ≡ true
  pub packet : PacketHeader
  pub is : (mbuf_head s c).packet ≡ Some packet

pub has_packet_in : {s : StoreView} {p : PoolView} {c : ℕ} → IsPool s → pool_of s ≡ p → IsLive p c
    → (chain_of p c).front.header ≡ true → HasPacket s c
has_packet_in {s} {p} {c} pool view_is is_live is_headed =
    let live : IsLive (pool_of s) c = subst (λ (q : PoolView). IsLive q c) (sym view_is) is_live in
    let headed : (chain_of (pool_of s) c).front.header ≡ true =
    subst (λ (q : PoolView). (chain_of q c).front.header ≡ true) (sym view_is) is_headed in
    let there = packet_there s c pool live headed in
    record { live = live; headed = headed; packet = there.0; is = there.1 }

-- the link first, and then the tag
pub trained_twice : (s t u : StoreView) (c : ℕ) (after : Option ℕ) (tag : ℕ) (packet : PacketHeader) → IsPool s
    → IsLive (pool_of s) c → (mbuf_head s c).packet ≡ Some packet
    → SetsHead s t c (record (mbuf_head s c) { next_packet = after })
    → SetsHead t u c (with_arrival (mbuf_head t c) tag)
    → SetsHead s u c (trained (mbuf_head s c) after tag packet)
trained_twice s t u c after tag packet pool live is first later =
    let o = open_on s c pool live in
    let out = first_out s c o.at in
    let set : with_arrival (record (mbuf_head s c) { next_packet = after }) tag
    ≡ trained (mbuf_head s c) after tag packet =
    ap (λ (p : Option PacketHeader). record (mbuf_head s c)
    { next_packet = after; packet = option_map {T = PacketHeader} (λ q. record q { arrival = tag }) p }) is in
    let size : head_size (record (mbuf_head s c) { next_packet = after })
    ≡ head_size (trained (mbuf_head s c) after tag packet) =
    ap (λ (p : Option PacketHeader). cond {A = ℕ} (is_some (mbuf_head s c).cluster) 32 (cond (is_some p) 28 20)) is in
    sets_twice s t u c (record (mbuf_head s c) { next_packet = after }) (trained (mbuf_head s c) after tag packet) out
    o.at.sound.store (omega (arith, size)) first
    (subst (λ (g : Head). SetsHead t u c g) set
    (subst (λ (g : Head). SetsHead t u c (with_arrival g tag))
    (sets_head s t c (record (mbuf_head s c) { next_packet = after }) out first) later))

pub packet_after : (s t : StoreView) (c : ℕ) (after : Option ℕ) (packet : PacketHeader) → IsPool s
    → IsLive (pool_of s) c → (mbuf_head s c).packet ≡ Some packet
    → SetsHead s t c (record (mbuf_head s c) { next_packet = after }) → IsSome (mbuf_head t c).packet
packet_after s t c after packet pool live is first =
    let o = open_on s c pool live in
    subst (λ (p : Option PacketHeader). IsSome p)
    (sym (ap (λ (h : Head). h.packet)
    (sets_head s t c (record (mbuf_head s c) { next_packet = after }) (first_out s c o.at) first) ∙ is)) refl

-- setting only the link: the tag is unchanged
pub relinked : (s t : StoreView) (c : ℕ) (after : Option ℕ) → IsPool s → IsLive (pool_of s) c
    → (chain_of (pool_of s) c).front.header ≡ true → SetsHead s t c (record (mbuf_head s c) { next_packet = after })
    → IsStore t
    → Placed s t c after (chain_of (pool_of s) c).front.tag
relinked s t c after pool live headed sets store =
    let there = packet_there s c pool live headed in
    let packet : PacketHeader = there.0 in
    let tag : packet.arrival ≡ (chain_of (pool_of s) c).front.tag =
    sym (ap arrival_of there.1) ∙ ap (λ (f : Front). f.tag) (front_is s c pool live) in
    subst (Placed s t c after) tag
    (placed_made s t c after packet.arrival packet pool live headed there.1
    (subst (SetsHead s t c) (ap (λ (p : Option PacketHeader). record (mbuf_head s c)
    { next_packet = after; packet = p }) there.1) sets) store)
