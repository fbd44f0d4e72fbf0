-- The first fragments that are kept, by their quotes.
use Rattle.std.proofs.Common.{◌≡◌, ℕ, ◌+◌, ◌<◌, cond, List, [], ◌∷◌, length, map, get_or, zero, suc, Some, None, refl, ap, ◌∙◌, arith}
use Rattle.std.specs.Prelude.{nat_lt, not, position, slice_get}
use Rattle.std.specs.List.{prefix_len}
use Rattle.std.proofs.lemmas.List.{length-map}
use Rattle.std.proofs.lemmas.List.Quantifiers.{position-Some}
use Rattle.flat_model.specs.Machine.State.{Key}
use Rattle.flat_ether.specs.Icmp.{is_quote_of, quote_of}
use Rattle.ether_host.specs.Buffers.{is_kept_of}

places_same : (k : Key) (xs : List (List ℕ)) → prefix_len (λ x. not (is_quote_of k x)) (map quote_of xs)
    ≡ prefix_len (λ x. not (is_kept_of k x)) xs
places_same k [] = refl
places_same k (x ∷ xs) = ap (λ n. cond (not (is_kept_of k x)) (1 + n) 0) (places_same k xs)

pub kept_place : (k : Key) (xs : List (List ℕ)) → position (is_quote_of k) (map quote_of xs)
    ≡ position (is_kept_of k) xs
kept_place k xs =
    let n : ℕ = prefix_len (λ x. not (is_kept_of k x)) xs in
    ap (λ i. cond (nat_lt i (length (map quote_of xs))) (Some i) None) (places_same k xs)
    ∙ ap (λ m. cond (nat_lt n m) (Some n) None) (length-map xs quote_of)

at_quote : (xs : List (List ℕ)) (at : ℕ) → at < length xs
    → Some (quote_of (get_or xs at [])) ≡ slice_get (map quote_of xs) at
at_quote [] at h = absurd (omega arith)
at_quote (x ∷ xs) zero h = refl
at_quote (x ∷ xs) (suc at) h = at_quote xs at (omega arith)

pub kept_at : (xs : List (List ℕ)) (at : ℕ) (k : Key) → position (is_kept_of k) xs ≡ Some at
    → Some (quote_of (get_or xs at [])) ≡ slice_get (map quote_of xs) at
kept_at xs at k e = at_quote xs at (position-Some (is_kept_of k) xs at [] e).0
