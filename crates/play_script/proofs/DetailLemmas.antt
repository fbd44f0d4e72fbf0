-- A line requests at most one capture.
use Rattle.std.proofs.Common.{◌≡◌, ℕ, ◌+◌, ◌==◌, Bool, List, [], ◌∷◌, take, drop, position, codes, Option, Some, None, inl, inr, sym, ap, ap₂, ◌∙◌, arith, subst}
use Rattle.std.proofs.lemmas.Fmt.{decimal_injective}
use Rattle.flat_model.specs.Scripts.Grammar.{IsNumber}
use Rattle.play_pcap.specs.Asks.{IsAsked, IsDetails, IsPair, IsRange, IsRanged}
use Rattle.play_pcap.specs.declared.ask.Details.{Details}
use Rattle.play_pcap.specs.declared.ask.Range.{Range}

number-same : (word : List ℕ) (m n : ℕ) → IsNumber 4294967295 word m → IsNumber 4294967295 word n → m ≡ n
number-same word m n h k = decimal_injective m n (omega (arith, h.0)) (omega (arith, k.0)) (sym h.1 ∙ k.1)

pair-same : (first last : List ℕ) (r s : Range) → IsPair first last r → IsPair first last s → r ≡ s
pair-same first last r s h k =
    ap₂ (λ (a b : ℕ). record { first = a; last = b }) (number-same first r.first s.first h.begins k.begins)
    (number-same last r.last s.last h.ends k.ends)

place-same : (m n : ℕ) (at : Option ℕ) → at ≡ Some m → at ≡ Some n → m ≡ n
place-same m n at h k = let both : Some m ≡ Some n = sym h ∙ k in cc both

range-same : (word : List ℕ) (r s : Range) → IsRange word r → IsRange word s → r ≡ s
range-same word r s h k =
    let at : h.0 ≡ k.0 = place-same h.0 k.0 (position (λ byte. byte == 45) word) h.1 k.1 in
    pair-same (take k.0 word) (drop (k.0 + 1) word) r s
    (subst (λ (n : ℕ). IsPair (take n word) (drop (n + 1) word) r) at h.2) k.2

ranged-same : (word : List ℕ) (a b : Option Range) → IsRanged word a → IsRanged word b → a ≡ b
ranged-same word (Some r) (Some s) h k = ap Some (range-same word r s h k)
ranged-same word (Some r) None h k = absurd k
ranged-same word None b h k = absurd h

never : (n : ℕ) → None ≡ Some n → ⊥
never n e = cc

-- `ticks` has no dash
ticks-unranged : (word : List ℕ) (a : Option Range) → word ≡ codes "ticks" → IsRanged word a → ⊥
ticks-unranged word (Some r) is h = never h.0 (sym (ap (λ (w : List ℕ). position (λ byte. byte == 45) w) is) ∙ h.1)
ticks-unranged word None is h = h

details-are : (d e : Details) → d.range ≡ e.range → d.ticks ≡ e.ticks → d ≡ e
details-are d e r t = ap₂ (λ (a : Option Range) (b : Bool). record { range = a; ticks = b }) r t

details-same : (rest : List (List ℕ)) (d e : Details) → IsDetails rest d → IsDetails rest e → d ≡ e
details-same [] d e h k = details-are d e (h.0 ∙ sym k.0) (h.1 ∙ sym k.1)
details-same (word ∷ []) d e (inl h) (inl k) = details-are d e (h.1 ∙ sym k.1) (h.2 ∙ sym k.2)
details-same (word ∷ []) d e (inr h) (inr k) =
    details-are d e (ranged-same word d.range e.range h.0 k.0) (h.1 ∙ sym k.1)
details-same (word ∷ []) d e (inl h) (inr k) = absurd (ticks-unranged word e.range h.0 k.0)
details-same (word ∷ []) d e (inr h) (inl k) = absurd (ticks-unranged word d.range k.0 h.0)
details-same (word ∷ second ∷ []) d e h k = details-are d e (ranged-same word d.range e.range h.0 k.0) (h.2 ∙ sym k.2)
details-same (word ∷ second ∷ third ∷ more) d e h k = absurd h

pub name-same : (plain name name' : List ℕ) (d e : Details) → IsAsked plain name d → IsAsked plain name' e
    → name ≡ name'
name-same plain name name' d e h k =
    let all : codes "rx" ∷ codes "pcap" ∷ name ∷ h.0 ≡ codes "rx" ∷ codes "pcap" ∷ name' ∷ k.0 = sym h.1 ∙ k.1 in
    cc all

pub capture-same : (plain name name' : List ℕ) (d e : Details) → IsAsked plain name d → IsAsked plain name' e → d ≡ e
capture-same plain name name' d e h k =
    let all : codes "rx" ∷ codes "pcap" ∷ name ∷ h.0 ≡ codes "rx" ∷ codes "pcap" ∷ name' ∷ k.0 = sym h.1 ∙ k.1 in
    let rest : h.0 ≡ k.0 = cc all in
    details-same k.0 d e (subst (λ (words : List (List ℕ)). IsDetails words d) rest h.2) k.2
