-- The effect of an operation, composed of steps of `mbuf_chain`.
use Rattle.std.proofs.Common.{◌≡◌, ◌≢◌, ℕ, ◌+◌, List, length, refl, sym, ap, ◌∙◌, subst, arith}
use Rattle.mbuf_chain.specs.Chain.{Entry, Front, ChainView, PoolView, IsLive, chain_of, with_chain, without, held_mbufs, Adds}
use Rattle.mbuf_chain.proofs.Laws.Owners.{shown_adds, kept_with}
use Rattle.mbuf_chain.proofs.Laws.Steps.{apart, live_beside, live_shown, live_without, adds_then, adds_undone, adds_in_place}
use Rattle.mbuf_chain.proofs.Laws.Accounts.{held-adds}
use Rattle.chain_ops.specs.Makes.{Makes}

-- a new chain has the front and the entries that it was made with
pub makes_new : {p q : PoolView} {c : ℕ} {v : ChainView} → Adds p q c v → Makes p q c v.front v.entries
makes_new {p} {q} {c} {v} a =
    let shown : chain_of q c ≡ v = shown_adds a in
    record {
      adds = record { fresh = a.fresh; pool = a.pool ∙ ap (with_chain p c) (sym shown) };
      front = ap (λ (w : ChainView). w.front) shown;
      entries = ap (λ (w : ChainView). w.entries) shown;
    }

-- a chain that was made and then changed
pub makes_then : {p q : PoolView} {c : ℕ} {front : Front} {entries : List Entry} (r : PoolView) (v : ChainView)
    → Makes p q c front entries → r ≡ with_chain q c v → Makes p r c v.front v.entries
makes_then r v m is = makes_new (adds_then r v m.adds is)

-- a chain that was made and then freed leaves the pool unchanged
pub makes_undone : {p q : PoolView} {c : ℕ} {front : Front} {entries : List Entry} (r : PoolView)
    → Makes p q c front entries → r ≡ without q c → r ≡ p
makes_undone r m is = adds_undone r m.adds is

-- other live chains stay live and unchanged
pub makes_live : {p q : PoolView} {c : ℕ} {front : Front} {entries : List Entry} (k : ℕ) → Makes p q c front entries
    → IsLive p k → IsLive q k
makes_live {p} {q} {c} k m live = live_beside p q c (chain_of q c) m.adds k live

pub makes_kept : {p q : PoolView} {c : ℕ} {front : Front} {entries : List Entry} (k : ℕ) → Makes p q c front entries
    → IsLive p k → chain_of q k ≡ chain_of p k
makes_kept {p} {q} {c} k m live =
    kept_with p q c (chain_of q c) k m.adds.pool (apart p q c (chain_of q c) m.adds k live)

-- the number of mbufs that the pool holds then
pub makes_held : {p q : PoolView} {c : ℕ} {front : Front} {entries : List Entry} → Makes p q c front entries
    → held_mbufs q ≡ held_mbufs p + length entries
makes_held {p} {q} {c} m = omega (arith, held-adds m.adds, ap (λ (es : List Entry). length es) m.entries)

pub makes_mbufs : {p q : PoolView} {c : ℕ} {front : Front} {entries : List Entry} → Makes p q c front entries
    → q.mbufs ≡ p.mbufs
makes_mbufs m = ap (λ (s : PoolView). s.mbufs) m.adds.pool

-- a chain that was changed and kept its number
pub makes_in_place : (p q : PoolView) (c : ℕ) (w : ChainView) → q ≡ with_chain p c w
    → Makes (without p c) q c w.front w.entries
makes_in_place p q c w is = makes_new (adds_in_place p q c w is)

-- the same for an equal pool, an equal front and equal entries
pub makes_as : {b q : PoolView} {c : ℕ} {f : Front} {es : List Entry} (b' : PoolView) (f' : Front) (es' : List Entry)
    → Makes b q c f es → b ≡ b' → f ≡ f' → es ≡ es' → Makes b' q c f' es'
makes_as {b} {q} {c} {f} {es} b' f' es' m eb ef ee =
    record {
      adds = subst (λ (s : PoolView). Adds s q c (chain_of q c)) eb m.adds;
      front = m.front ∙ ef;
      entries = m.entries ∙ ee;
    }

-- ---- live chains after it
pub live_made : {p q : PoolView} {c : ℕ} {front : Front} {entries : List Entry} → Makes p q c front entries → IsLive q c
live_made {p} {q} {c} m = live_shown p q c (chain_of q c) m.adds.pool

-- the other live chains, after one was changed, perhaps under another number
pub live_changed : (p : PoolView) {q : PoolView} (c : ℕ) {d : ℕ} {front : Front} {entries : List Entry} (k : ℕ)
    → Makes (without p c) q d front entries → k ≢ c → IsLive p k → IsLive q k
live_changed p {q} c {d} k m ne live = makes_live k m (live_without p (without p c) c refl k ne live)

pub apart_made : {p q : PoolView} {c : ℕ} {front : Front} {entries : List Entry} (k : ℕ) → Makes p q c front entries
    → IsLive p k → k ≢ c
apart_made {p} {q} {c} k m live = apart p q c (chain_of q c) m.adds k live

pub ruleset live_steps = (live_made, makes_live, live_changed, apart_made)
