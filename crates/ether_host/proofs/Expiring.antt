-- The datagrams that the stack dropped in a tick are those that the link is told of.
use Rattle.std.proofs.Common.{◌≡◌, ℕ, List, [], ◌∷◌, length, map, min, take, zero, suc, refl, sym, ap, ◌∙◌, arith}
use Rattle.std.specs.Prelude.{filter, filter_map}
use Rattle.std.specs.List.{cons_option}
use Rattle.std.proofs.lemmas.List.{take-map}
use Rattle.flat_model.specs.Machine.State.{State, Unfinished}
use Rattle.flat_ether.specs.Hosts.{expired_keys, expires, first_key}
use Rattle.ip_reass.specs.Expiring.{expired_among, to_expired}
use Rattle.ip_reass.specs.declared.expiring.Expired.{Expired}
use Rattle.ether_host.specs.Expired.{told_keys}

-- a list's front, if it's longer than the list
take_least : {X : Type 0} (k n : ℕ) (xs : List X) → k ≡ min n (length xs) → take k xs ≡ take n xs
take_least zero zero xs h = refl
take_least zero (suc n) [] h = refl
take_least (suc k) zero [] h = refl
take_least (suc k) (suc n) [] h = refl
take_least zero (suc n) (x ∷ xs) h = absurd (omega arith)
take_least (suc k) zero (x ∷ xs) h = absurd (omega arith)
take_least (suc k) (suc n) (x ∷ xs) h = ap (λ zs. x ∷ zs) (take_least k n xs (omega arith))

keys_told : (us : List Unfinished) → told_keys (map to_expired us) ≡ filter_map first_key us
keys_told [] = refl
keys_told (u ∷ us) = ap (cons_option (first_key u)) (keys_told us)

-- `list` has 8 places, and the stack dropped n datagrams
pub expired_told : (s : State) (k n : ℕ) (list : List Expired) → length list ≡ 8 → k ≡ min n 8
    → take n list ≡ take (length list) (expired_among s.unfinished) → told_keys (take k list) ≡ expired_keys s
expired_told s k n list long less told =
    let us : List Unfinished = filter expires s.unfinished in
    ap told_keys (take_least k n list (less ∙ ap (min n) (sym long)) ∙ told
    ∙ ap (λ m. take m (map to_expired us)) long ∙ take-map to_expired 8 us) ∙ keys_told (take 8 us)
