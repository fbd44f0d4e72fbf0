-- The heads of the mbufs of a live chain, read along the links.
use Rattle.std.proofs.Common.{◌≡◌, ℕ, List, [], ◌∷◌, length, map, Option, None, Some, cond, is_some, refl, sym, ap, ◌∙◌, slice_get}
use Rattle.mbuf_pool.specs.Cells.{Head, PacketHeader}
use Rattle.mbuf_pool.specs.Store.{StoreView, mbuf_head, stored_part}
use Rattle.mbuf_chain.specs.Chain.{ChainView, chain_of, IsLive, string}
use Rattle.mbuf_chain.specs.declared.mbuf_head.MbufHead.{MbufHead}
use Rattle.mbuf_chain.specs.Heads.{heads, heads_from, packet_header}
use Rattle.mbuf_chain.specs.Inside.Cells.{arrival_of, entry_at, entry_from, first_of, pool_of, read_chain, AllFollow, IsChain, IsLinked, IsPool}
use Rattle.mbuf_chain.specs.Inside.Readable.{data_of, reported_at, reported_from, reported_head, IsReadable}
use Rattle.mbuf_chain.proofs.Focused.{open_on}
use Rattle.mbuf_chain.proofs.Joins.{total_is}
use Rattle.mbuf_chain.proofs.Lists.{walk_on}
use Rattle.mbuf_chain.proofs.Reading.{readable, reads}

-- ---- one step of the walk
pub next_reported : (s : StoreView) (at : Option ℕ) (i : ℕ) (h : Head) (reported : MbufHead) (bs : List ℕ) → at ≡ Some i
    → IsReadable s at → h ≡ mbuf_head s i → reported ≡ reported_head i h → bs ≡ stored_part s (data_of i h)
    → reported_from s at ≡ (reported, bs) ∷ reported_from s h.next
next_reported s at i h reported bs is r head of part =
    let same : mbuf_head s i ≡ h = sym head in
    let bytes : (entry_at s i).bytes ≡ bs =
    ap (λ (x : Head). (entry_from s i x).bytes) same ∙ sym (part ∙ (reads s at i h is r head).bytes) in
    ap (map (reported_at s)) (walk_on s at i is r.whole).cells
    ∙ (λ j. (reported_head i (same j), bytes j) ∷ reported_from s (same j).next)
    ∙ ap (λ (m : MbufHead). (m, bs) ∷ reported_from s h.next) (sym of)

-- ---- the whole walk
next_of : (s : StoreView) (at : Option ℕ) (l : List ℕ) → IsLinked s at l → at ≡ slice_get l 0
next_of s at [] g = g
next_of s at (c ∷ cs) g = g.0

-- the heads of the mbufs after the first
later_reported : (s : StoreView) (at : Option ℕ) (l : List ℕ) → IsReadable s at → IsLinked s at l → AllFollow s l
    → map (reported_at s) l ≡ heads_from None None l (map (entry_at s) l)
later_reported s at [] r g f = refl
later_reported s at (c ∷ cs) r g f =
    let n = reads s at c (mbuf_head s c) g.0 r refl in
    let next = next_of s (mbuf_head s c).next cs g.3 in
    let rest = later_reported s (mbuf_head s c).next cs n.rest g.3 f.1 in
    λ j. (
      record {
        number = c;
        next = next j;
        next_packet = f.0.after j;
        start = (mbuf_head s c).start;
        len = n.long j;
        packet = f.0.packet j;
        cluster = (mbuf_head s c).cluster;
      },
      (entry_at s c).bytes,
    ) ∷ rest j

chain_reported : (s : StoreView) (at : Option ℕ) (l : List ℕ) → IsReadable s at → IsLinked s at l → IsChain s l
    → (mbuf_head s (first_of l)).packet ≡ packet_header (read_chain s l)
    → map (reported_at s) l ≡ heads (read_chain s l)
chain_reported s at [] r g chain packet = absurd chain
chain_reported s at (c ∷ cs) r g chain packet =
    let n = reads s at c (mbuf_head s c) g.0 r refl in
    let next = next_of s (mbuf_head s c).next cs g.3 in
    let rest = later_reported s (mbuf_head s c).next cs n.rest g.3 chain.1 in
    λ j. (
      record {
        number = c;
        next = next j;
        next_packet = (mbuf_head s c).next_packet;
        start = (mbuf_head s c).start;
        len = n.long j;
        packet = packet j;
        cluster = (mbuf_head s c).cluster;
      },
      (entry_at s c).bytes,
    ) ∷ rest j

packet_is : (s : StoreView) (l : List ℕ)
    → ((packet : PacketHeader) → (mbuf_head s (first_of l)).packet ≡ Some packet
    → packet.len ≡ length (string (read_chain s l)))
    → (mbuf_head s (first_of l)).packet ≡ packet_header (read_chain s l)
packet_is s l total = go (mbuf_head s (first_of l)).packet refl
  where
    go : (o : Option PacketHeader) → (mbuf_head s (first_of l)).packet ≡ o
        → o ≡ cond (is_some o) (Some (record { len = length (string (read_chain s l)); arrival = arrival_of o })) None
    go None e = refl
    go (Some packet) e = λ j. Some (record { len = total packet e j; arrival = packet.arrival })

pub reported_are : (s : StoreView) (c : ℕ) → IsPool s → IsLive (pool_of s) c
    → reported_from s (Some c) ≡ heads (chain_of (pool_of s) c)
reported_are s c pool live =
    let f = (open_on s c pool live).at in
    ap (map (reported_at s)) f.walks
    ∙ chain_reported s (Some c) f.cells (readable s c pool live) f.linked f.chain
    (packet_is s f.cells (λ packet e.
    total_is s c packet pool live (ap (λ (j : ℕ). (mbuf_head s j).packet) (sym f.first) ∙ e)
    ∙ ap (λ (v : ChainView). length (string v)) (sym f.shows)))
    ∙ ap heads f.shows
