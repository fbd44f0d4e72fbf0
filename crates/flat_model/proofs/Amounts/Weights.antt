-- Weights added up.
use Rattle.std.proofs.Common.{◌≡◌, ℕ, ◌+◌, List, [], ◌∷◌, ◌++◌, refl, sym, ◌∙◌, ap, arith, append_assoc, append-nil}
use Rattle.std.specs.Prelude.{◌==◌}
use Rattle.flat_model.specs.Amounts.Weight.{Weight, nothing, ◌⊕◌, all_of, times}
use Rattle.flat_model.proofs.Lists.Totals.{count-append}

-- ---- equations

weight_is : (m n : ℕ) (a b : List ℕ) → m ≡ n → a ≡ b
    → ◌≡◌ {A = Weight} (record { mbufs = m; bag = a }) (record { mbufs = n; bag = b })
weight_is m n a b e f = λ i. record { mbufs = e i; bag = f i }

pub nothing-both : (a : Weight) → nothing ⊕ a ≡ a
nothing-both a = weight_is (0 + a.mbufs) a.mbufs a.bag a.bag (omega arith) refl

pub both-nothing : (a : Weight) → a ⊕ nothing ≡ a
both-nothing a = weight_is (a.mbufs + 0) a.mbufs (a.bag ++ []) a.bag (omega arith) (append-nil a.bag)

pub both-assoc : (a b d : Weight) → (a ⊕ b) ⊕ d ≡ a ⊕ (b ⊕ d)
both-assoc a b d =
    weight_is (a.mbufs + b.mbufs + d.mbufs) (a.mbufs + (b.mbufs + d.mbufs)) ((a.bag ++ b.bag) ++ d.bag)
    (a.bag ++ (b.bag ++ d.bag)) (omega arith) (append_assoc a.bag b.bag d.bag)

pub all_of-append : {X : Type 0} (w : X → Weight) (xs ys : List X) → all_of w (xs ++ ys) ≡ all_of w xs ⊕ all_of w ys
all_of-append w [] ys = sym (nothing-both (all_of w ys))
all_of-append w (x ∷ xs) ys =
    ap (λ (a : Weight). w x ⊕ a) (all_of-append w xs ys) ∙ sym (both-assoc (w x) (all_of w xs) (all_of w ys))

-- ---- counts of a cluster

pub times-both : (c : ℕ) (a b : Weight) → times c (a ⊕ b).bag ≡ times c a.bag + times c b.bag
times-both c a b = count-append (λ k. k == c) a.bag b.bag
