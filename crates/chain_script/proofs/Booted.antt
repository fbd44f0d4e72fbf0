-- A pool without chains, and empty slots.
use Rattle.std.proofs.Common.{◌≡◌, ℕ, zero, suc, List, [], replicate, Option, None, refl, sym, ap, ◌∙◌}
use Rattle.std.specs.FinMap as finmap
use Rattle.std.specs.FinMap.{FinMap, get-empty}
use Rattle.std.specs.Ordering.{nat_cmp}
use Rattle.mbuf_chain.specs.Chain.{ChainView, PoolView}
use Rattle.mbuf_chain.proofs.Laws.Owners.{live_none}
use Rattle.chain_script.specs.Inside.Slots.{slot_numbers, FitsSlots}

none_numbered : (n : ℕ) → slot_numbers (replicate n None) ≡ []
none_numbered zero = refl
none_numbered (suc n) = none_numbered n

pub booted_fits : (p : PoolView) (slots : List (Option ℕ)) → p.chains ≡ finmap.empty {R = nat_cmp}
    → slots ≡ replicate 64 None → FitsSlots p slots
booted_fits p slots none all = λ k.
    ap (λ (ss : List (Option ℕ)). Rattle.mbuf_chain.specs.Owners.times_among k (slot_numbers ss)) all
    ∙ ap (Rattle.mbuf_chain.specs.Owners.times_among k) (none_numbered 64)
    ∙ sym (live_none p k (ap (λ (m : FinMap nat_cmp ChainView). finmap.get m k) none ∙ get-empty nat_cmp k))
