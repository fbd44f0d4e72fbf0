-- A new plain mbuf, to which bytes are written after its head.
use Rattle.std.proofs.Common.{◌≡◌, ℕ, ◌+◌, ◌≤◌, Bool, List, length, None, refl, sym, ap, ◌∙◌, subst, arith, take, drop}
use Rattle.std.proofs.lemmas.Option.{none-some}
use Rattle.mbuf_pool.specs.Cells.{Head, over}
use Rattle.mbuf_pool.specs.Store.{StoreView, mbuf_of, mbuf_head, IsStore}
use Rattle.mbuf_chain.specs.declared.place.Place.{Place}
use Rattle.mbuf_chain.specs.Chain.{Entry, ChainView, chain_of, IsPlace, with_chain, Adds}
use Rattle.mbuf_chain.specs.Steps.{one_mbuf, with_entry}
use Rattle.mbuf_chain.specs.Inside.Access.{CanWrite}
use Rattle.mbuf_chain.specs.Inside.Cells.{place_bytes, entry_over, pool_of, IsPool, Taken, only_head, start_of, head_room_low, room_high, WritesPlace}
use Rattle.mbuf_chain.proofs.Made.{new_plain, plain_made, low_for}
use Rattle.mbuf_chain.proofs.Bytes.{run_written}
use Rattle.mbuf_chain.proofs.Laws.Owners.{live_adds, shown_adds}
use Rattle.mbuf_chain.proofs.Laws.Steps.{new_entry, filled}

-- the place of the only mbuf
abbrev pub only : ℕ → Place
only i = record { index = 0; cell = i }

-- what the write needs, and the pool after it
pub record Blank (s t : StoreView) (i : ℕ) (header : Bool) (start : ℕ) (ws : List ℕ) : Type 0 where
  pub can : CanWrite t i (only i)
  pub cluster : None ≡ (mbuf_head t i).cluster
  pub low : head_room_low (mbuf_head t i) ≤ start
  pub high : start + length ws ≤ room_high (mbuf_head t i)
  pub done : (u : StoreView) → WritesPlace t u i (only i) start ws
      → Adds (pool_of s) (pool_of u) i (one_mbuf header (record { bytes = ws; start = start; cluster = None }) i)

pub blank : (s t : StoreView) (i : ℕ) (header : Bool) (start : ℕ) (ws : List ℕ) → IsPool s
    → Taken s t i (only_head header start (length ws) None) → IsStore t → start_of header ≤ start
    → start + length ws ≤ 128 → Blank s t i header start ws
blank s t i header start ws pool got store low high =
    let m = plain_made s t i header start (length ws) pool got store low high in
    let n = new_plain s t i (only_head header start (length ws) None) got refl store in
    let old : Entry =
    record { bytes = take (length ws) (drop start (mbuf_of t i).bytes); start = start; cluster = None } in
    let shows = new_entry (pool_of s) (pool_of t) i 0 header old m.adds refl in
    let long : length (mbuf_of t i).bytes ≡ 128 = store.mbuf_bytes i n.out in
    record {
      can = record {
        place = record {
          pool = m.pool;
          live = live_adds m.adds;
          place =
              subst (λ (v : ChainView). IsPlace v (only i)) (sym (shown_adds m.adds))
              (record { within = omega arith; cell = refl });
        };
        unshared = λ c is. absurd (none-some c (ap (λ (e : Entry). e.cluster) (sym shows) ∙ is));
      };
      cluster = ap (λ (h : Head). h.cluster) (sym n.head);
      low = omega (arith, low, ap head_room_low n.head, low_for header start (length ws));
      high = omega (arith, high, ap room_high n.head);
      done =
          λ u w. filled (pool_of s) (pool_of t) (pool_of u) i 0 header old
          (record { bytes = ws; start = start; cluster = None }) m.adds refl
          (w.map_is ∙ ap (λ (e : Entry). with_chain (pool_of t) i (with_entry (chain_of (pool_of t) i) 0 e))
          (written n.head long));
    }
  where
    written : mbuf_head t i ≡ only_head header start (length ws) None → length (mbuf_of t i).bytes ≡ 128
        → entry_over t i start ws ≡ record { bytes = ws; start = start; cluster = None }
    written e long =
        ap (λ (h : Head). record {
          bytes = take h.len (drop h.start (over (place_bytes t i h.cluster) start ws));
          start = h.start;
          cluster = h.cluster;
        }) e
        ∙ (λ j. record {
          bytes = run_written (mbuf_of t i).bytes start ws (omega (arith, long, high)) j;
          start = start;
          cluster = None;
        })
