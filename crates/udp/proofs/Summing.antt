-- A checksum is right if the folded sum is 65,535.
use Rattle.std.proofs.Common.{◌≡◌, ℕ, zero, suc, ◌-◌, ◌≤◌, Bool, true, false, ◌==◌, ◌++◌, List, take, refl, sym, ap, ◌∙◌, arith}
use Rattle.std.specs.Prelude.{◌||◌}
use Rattle.std.proofs.lemmas.Bool.{eq-eqb, ne_eqb, eqb-true, eqb-false}
use Rattle.flat_model.specs.Packets.Checksum.{checksum, fold16, folded_sum, word_sum}
use Rattle.flat_model.specs.Packets.Header.{pseudo_header, u16_at}
use Rattle.udp.specs.declared.header.Header.{Header}
use Rattle.udp.specs.Inside.{has_right_sum, header_in}

fold16-most : (n : ℕ) → fold16 n ≤ 65535
fold16-most zero = omega arith
fold16-most (suc n) = omega arith

complement : (f : ℕ) → f ≤ 65535 → (65535 - f == 0) ≡ (f == 65535)
complement f le = go (f == 65535) refl
  where
    go : (t : Bool) → (f == 65535) ≡ t → (65535 - f == 0) ≡ t
    go true e = let same : f ≡ 65535 = eqb-true f 65535 e in eq-eqb (65535 - f) 0 (omega arith)
    go false e = let other : f ≡ 65535 → ⊥ = eqb-false f 65535 e in ne_eqb (65535 - f) 0 (λ z. other (omega arith))

pub right_sum : (src dst : ℕ) (s : List ℕ) (x : ℕ) (h : Header) → h ≡ header_in s → (h.sum == 0) ≡ false
    → x ≡ checksum (pseudo_header src dst h.len ++ take h.len s) → (x == 0) ≡ has_right_sum src dst s
right_sum src dst s x h said given is =
    let covered : List ℕ = pseudo_header src dst h.len ++ take h.len s in
    ap (λ n. n == 0) is ∙ complement (folded_sum covered) (fold16-most (word_sum covered))
    ∙ (λ j. sym given j || (folded_sum (pseudo_header src dst (said j).len ++ take (said j).len s) == 65535))
    ∙ ap (λ (k : Header). (k.sum == 0)
    || (folded_sum (pseudo_header src dst (u16_at 4 s) ++ take (u16_at 4 s) s) == 65535)) said
