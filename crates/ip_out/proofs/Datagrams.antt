-- A chain with the layout of a send can be output.
use Rattle.std.proofs.Common.{◌≡◌, ℕ, zero, suc, ◌+◌, ◌-◌, ◌<◌, ◌≤◌, true, List, [], ◌∷◌, length, None, refl, sym, ap, ◌∙◌, subst, arith, inl, inr}
use Rattle.std.specs.Prelude.{◌⊎◌, slice_index_or}
use Rattle.std.specs.List.{AllByRecursion}
use Rattle.std.proofs.lemmas.Bool.{cases_lt}
use Rattle.flat_model.specs.Amounts.Layout as flat
use Rattle.flat_model.specs.Amounts.Layout.{Room, Plain, Cluster, size_of, filled, next_room, entries_on, sent}
use Rattle.mbuf_chain.specs.Chain.{Entry, ChainView, no_entry, string}
use Rattle.chain_ops.specs.Weights.{layout_entries, HaveBytes}
use Rattle.chain_ops.proofs.Laws.Rooms.{next_some}
use Rattle.ip_out.specs.Packets.{IsDatagramChain}
use Rattle.ip_out.proofs.Counting.{sent_short, sent_long}

abbrev HaveRoom : List Room → Type 0
HaveRoom rooms = AllByRecursion (λ (r : Room). 0 < size_of r) rooms

abbrev HaveSize : List flat.LayoutEntry → Type 0
HaveSize xs = AllByRecursion (λ (x : flat.LayoutEntry). 0 < x.size) xs

filled_some : (k large small left : ℕ) → 0 < large → 0 < small → HaveRoom (filled k large small left)
unfolding filled
filled_some zero large small left l s = tt
filled_some (suc k) large small zero l s = tt
filled_some (suc k) large small (suc less) l s = (
  next_some large small (suc less) l s (omega arith),
  filled_some k 2048 108 (suc less - size_of (next_room large small (suc less))) (omega arith) (omega arith),
)

entries_on_some : (cs : List ℕ) (rooms : List Room) → HaveRoom rooms → HaveSize (entries_on cs rooms)
unfolding entries_on
entries_on_some [] [] h = tt
entries_on_some (c ∷ cs) [] h = tt
entries_on_some [] (Plain n ∷ rooms) h = (h.0, entries_on_some [] rooms h.1)
entries_on_some (c ∷ cs) (Plain n ∷ rooms) h = (h.0, entries_on_some (c ∷ cs) rooms h.1)
entries_on_some [] (Cluster n ∷ rooms) h = (h.0, entries_on_some [] rooms h.1)
entries_on_some (c ∷ cs) (Cluster n ∷ rooms) h = (h.0, entries_on_some cs rooms h.1)

entries_some : (es : List Entry) → HaveSize (layout_entries es) → HaveBytes es
entries_some [] h = tt
entries_some (e ∷ es) h = (h.0, entries_some es h.1)

plain_first : (cs : List ℕ) (n : ℕ) (rooms : List Room)
    → entries_on cs (Plain n ∷ rooms) ≡ record { size = n; cluster = None } ∷ entries_on cs rooms
unfolding entries_on
plain_first [] n rooms = refl
plain_first (c ∷ cs) n rooms = refl

no_flat : flat.LayoutEntry
no_flat = record { size = 0; cluster = None }

first_of : (es : List Entry) (x : flat.LayoutEntry) (xs : List flat.LayoutEntry) → layout_entries es ≡ x ∷ xs
    → ((slice_index_or es 0 no_entry).cluster ≡ x.cluster) × (length (slice_index_or es 0 no_entry).bytes ≡ x.size)
first_of [] x xs h = absurd (omega (arith, ap (λ (ys : List flat.LayoutEntry). length ys) h))
first_of (e ∷ es) x xs h = (
  ap (λ (ys : List flat.LayoutEntry). (slice_index_or ys 0 no_flat).cluster) h,
  ap (λ (ys : List flat.LayoutEntry). (slice_index_or ys 0 no_flat).size) h,
)

of_rooms : (v : ChainView) (cs : List ℕ) (n m : ℕ) (rooms : List Room) → v.front.header ≡ true
    → layout_entries v.entries ≡ entries_on cs (sent n) → sent n ≡ Plain m ∷ rooms → HaveRoom (Plain m ∷ rooms) → 20 ≤ m
    → length (string v) ≤ 65535 → IsDatagramChain v
of_rooms v cs n m rooms headed is e some room most =
    let whole : layout_entries v.entries ≡ entries_on cs (Plain m ∷ rooms) = is ∙ ap (entries_on cs) e in
    let first =
    first_of v.entries (record { size = m; cluster = None }) (entries_on cs rooms) (whole ∙ plain_first cs m rooms) in
    record {
      headed = headed;
      plain = first.0;
      room = omega (arith, first.1, room);
      bytes = entries_some v.entries (subst HaveSize (sym whole) (entries_on_some cs (Plain m ∷ rooms) some));
      most = most;
    }

pub datagram_sent : (v : ChainView) (cs : List ℕ) (n : ℕ) → v.front.header ≡ true
    → layout_entries v.entries ≡ entries_on cs (sent n)
    → length (string v) ≤ 65535 → IsDatagramChain v
datagram_sent v cs n headed is most = go (cases_lt 72 n)
  where
    go : (72 < n) ⊎ (n ≤ 72) → IsDatagramChain v
    go (inl long) =
        of_rooms v cs n 28 (filled n 1992 100 n) headed is (sent_long n long)
        (omega arith, filled_some n 1992 100 n (omega arith) (omega arith)) (omega arith) most
    go (inr short) = of_rooms v cs n (28 + n) [] headed is (sent_short n short) (omega arith, tt) (omega arith) most
