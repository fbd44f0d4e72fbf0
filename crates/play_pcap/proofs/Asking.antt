-- What the words of a line request.
use Rattle.std.proofs.Common.{◌≡◌, ℕ, ◌+◌, ◌-◌, ◌==◌, List, [], ◌∷◌, length, take, drop, length-drop, position, codes, MatchOption, Option, Some, None, inl, inr, sym, ap, ◌∙◌, subst, arith}
use Rattle.std.proofs.lemmas.List.{take_all}
use Rattle.std.proofs.lemmas.Option.{none-some}
use Rattle.std.specs.Borrow.{Bor}
use Rattle.flat_model.specs.Scripts.Grammar.{words}
use Rattle.script_loop.specs.Left.{left}
use Rattle.play_pcap.specs.Asks.{IsDetails, IsPair, IsRange, IsRanged}
use Rattle.play_pcap.specs.declared.ask.Details.{Details}
use Rattle.play_pcap.specs.declared.ask.Range.{Range}

-- the bytes after a position, as a slice to the end
pub tail_all : (n : ℕ) (xs : List ℕ) → take (length xs - n) (drop n xs) ≡ drop n xs
tail_all n xs = take_all (length xs - n) (drop n xs) (omega (arith, length-drop n xs))

same_place : (a b : ℕ) (o : Option ℕ) → Some a ≡ o → o ≡ Some b → b ≡ a
same_place a b o e f = let g : Some a ≡ Some b = e ∙ f in cc

pub ranged : (word : List ℕ) (at : ℕ) (r : Option Range) → Some at ≡ position (λ byte. byte == 45) word
    → MatchOption r ((r : Range) → IsPair (take at word) (drop (at + 1) word) r → ⊥)
    (IsPair (take at word) (drop (at + 1) word))
    → MatchOption r ((r : Range) → IsRange word r → ⊥) (IsRange word)
ranged word at None is h = λ r k.
    h r (subst (λ (i : ℕ). IsPair (take i word) (drop (i + 1) word) r) (same_place at k.0 _ is k.1) k.2)
ranged word at (Some r) is h = (at, sym is, h)

pub unranged : (word : List ℕ) → None ≡ position (λ byte. byte == 45) word → (r : Range) → IsRange word r → ⊥
unranged word is r k = none-some k.0 (is ∙ k.1)

no_ranged : (word : List ℕ) (o : Option Range) → ((r : Range) → IsRange word r → ⊥) → IsRanged word o → ⊥
no_ranged word None none h = h
no_ranged word (Some r) none h = none r h

no_after : (word : List ℕ) (more : List (List ℕ)) → (word ≡ codes "ticks" → ⊥) → ((r : Range) → IsRange word r → ⊥)
    → (d : Details) → IsDetails (word ∷ more) d → ⊥
no_after word [] other none d (inl h) = other h.0
no_after word [] other none d (inr h) = no_ranged word d.range none h.0
no_after word (second ∷ []) other none d h = no_ranged word d.range none h.0
no_after word (second ∷ third ∷ more) other none d h = h

pub no_details : (rest : Option (Bor (List ℕ))) (text : Bor (List ℕ)) (word : List ℕ) (more : List (List ℕ))
    → rest ≡ Some text
    → words text.now ≡ word ∷ more → (word ≡ codes "ticks" → ⊥) → ((r : Range) → IsRange word r → ⊥)
    → (d : Details) → IsDetails (left rest) d → ⊥
no_details rest text word more some is other none d h =
    no_after word more other none d (subst (λ (ws : List (List ℕ)). IsDetails ws d) (ap left some ∙ is) h)
