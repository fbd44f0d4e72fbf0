-- The shapes of chains, and the usage of the pool.
use Rattle.std.proofs.Common.{◌≡◌, ℕ, ◌+◌, ◌≤◌, Some, None, List, length, map, sum, fold, max, get_or, Option, refl, sym, ap, ◌∙◌, arith}
use Rattle.std.specs.List.{range_with_len}
use Rattle.mbuf_chain.specs.declared.usage.Usage.{Usage}
use Rattle.mbuf_chain.specs.Chain.{PoolView, IsLive, chain_of, without, string, held_mbufs, references, reference_counts, free_clusters}
use Rattle.mbuf_chain.specs.Frames.{IsBounded}
use Rattle.mbuf_chain.proofs.Laws.Accounts.{held-without}
use Rattle.chain_script.specs.Machines.{slots_usage}
use Rattle.chain_script.specs.Steps.{Layout_shown, Wrong_chain, ChainStep, shapes_of}
use Rattle.chain_script.specs.Lines.{Show}
use Rattle.chain_script.specs.Inside.Slots.{machine_of, FitsSlots}
use Rattle.chain_script.proofs.Accounts.{held_is, count_is, free_is}
use Rattle.chain_script.proofs.Faults.{wrong_chain, done}
use Rattle.chain_script.proofs.Held.{is_there, is_empty, entries_are, length_is}

-- the usage that the pool reports is that of the slots
pub usage_is : (p : PoolView) (slots : List (Option ℕ)) (u : Usage) → FitsSlots p slots → u.mbufs ≡ p.mbufs
    → u.free_mbufs + held_mbufs p ≡ p.mbufs
    → u.clusters ≡ p.clusters → u.free_clusters ≡ free_clusters p → u.references ≡ sum (reference_counts p)
    → u.greatest_count ≡ fold max 0 (reference_counts p)
    → record {
      free_mbufs = u.free_mbufs;
      mbufs = u.mbufs;
      free_clusters = u.free_clusters;
      clusters = u.clusters;
      refs = u.references;
      most = u.greatest_count;
    } ≡ slots_usage (machine_of p slots)
usage_is p slots u fits mbufs free clusters free_too refs most =
    let left : u.free_mbufs ≡ (slots_usage (machine_of p slots)).free_mbufs =
    omega (arith, held_is p slots fits, free) in
    let each : reference_counts p ≡ Rattle.chain_script.specs.Machines.counts_of_clusters (machine_of p slots) =
    (λ j. map (λ c. sym (count_is p slots c fits) j) (range_with_len 0 p.clusters)) in
    let same : u.free_clusters ≡ (slots_usage (machine_of p slots)).free_clusters =
    free_too ∙ sym (free_is p slots fits) in
    let all : u.references ≡ (slots_usage (machine_of p slots)).refs = refs ∙ ap sum each in
    let top : u.greatest_count ≡ (slots_usage (machine_of p slots)).most = most ∙ ap (fold max 0) each in
    (λ j. record {
      free_mbufs = left j;
      mbufs = mbufs j;
      free_clusters = same j;
      clusters = clusters j;
      refs = all j;
      most = top j;
    })

-- a chain has at most the number of mbufs that a pool can have
pub few_mbufs : (p : PoolView) (c : ℕ) → IsLive p c → IsBounded p → length (chain_of p c).entries ≤ 65535
few_mbufs p c live b = omega (arith, held-without p (without p c) c live refl, b.few, b.small)

-- ---- the steps
pub show_done : (p : PoolView) (slots : List (Option ℕ)) (i c : ℕ) → FitsSlots p slots → get_or slots i None ≡ Some c
    → ChainStep (machine_of p slots) (Show i)
    (Layout_shown (length (string (chain_of p c))) (shapes_of (references p) (chain_of p c).entries))
    (machine_of p slots)
show_done p slots i c fits is =
    done (machine_of p slots) (Show i) _ _ (is_there p slots i c is) refl refl refl refl refl (
      (λ j. Layout_shown (sym (length_is p slots i c is) j)
          (shapes_of (λ n. sym (count_is p slots n fits) j) (sym (entries_are p slots i c is) j))),
      refl,
    )

pub show_empty : (p : PoolView) (slots : List (Option ℕ)) (i : ℕ) → get_or slots i None ≡ None
    → ChainStep (machine_of p slots) (Show i) Wrong_chain (machine_of p slots)
show_empty p slots i is = wrong_chain (machine_of p slots) (Show i) (is_empty p slots i is)
