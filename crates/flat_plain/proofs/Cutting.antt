-- Parts that are added one after another.
use Rattle.std.proofs.Common.{◌≡◌, ℕ, ◌+◌, ◌-◌, ◌*◌, ◌/◌, ◌<◌, ◌≤◌, false, List, [], ◌∷◌, ◌++◌, map, sym, ◌∙◌, ap, arith}
use Rattle.std.specs.List.{range_with_len}
use Rattle.std.specs.Prelude.{nat_le}
use Rattle.std.proofs.lemmas.List.{map-append}
use Rattle.std.proofs.lemmas.List.FromFn.{map-range_with_len_more}
use Rattle.std.proofs.lemmas.Bool.{cond-true, cond-false, le-leb, lt-leb}
use Rattle.flat_model.specs.Fragments.Cuts as Cuts
use Rattle.flat_plain.specs.declared.parts.Part.{Part}
use Rattle.flat_plain.specs.Parts.{part_of}

pub cut_short : (n mtu : ℕ) → 20 + n ≤ mtu → Cuts.cuts n mtu ≡ record { offset = 0; size = n; more = false } ∷ []
unfolding Cuts.cuts
cut_short n mtu h = cond-true (nat_le (20 + n) mtu) _ _ (le-leb (20 + n) mtu h)

pub cut_long : (n mtu : ℕ) → mtu < 20 + n
    → Cuts.cuts n mtu ≡ map (Cuts.part n ((mtu - 20) / 8 * 8)) (range_with_len 0 (Cuts.chunks n ((mtu - 20) / 8 * 8)))
unfolding Cuts.cuts
cut_long n mtu h = cond-false (nat_le (20 + n) mtu) _ _ (lt-leb (20 + n) mtu h)

pub cut_step : (old new : List Part) (p : Part) (n c i : ℕ) → map part_of old ≡ map (Cuts.part n c) (range_with_len 0 i)
    → new ≡ old ++ p ∷ [] → part_of p ≡ Cuts.part n c i
    → map part_of new ≡ map (Cuts.part n c) (range_with_len 0 (i + 1))
cut_step old new p n c i so pushed is =
    ap (map part_of) pushed
    ∙ map-append part_of old (p ∷ [])
    ∙ ap (λ xs. xs ++ part_of p ∷ []) so
    ∙ ap (λ q. map (Cuts.part n c) (range_with_len 0 i) ++ q ∷ []) is
    ∙ sym (map-range_with_len_more (Cuts.part n c) 0 i i (omega arith))
