-- Weights: how many mbufs an item takes, and to which clusters they refer. Mbufs of 128 bytes and clusters of 2048 are
-- those of volume 2, chapter 2; counting them as weights is this project's own.
use Rattle.std.specs.Prelude.{◌≡◌, ℕ, ◌+◌, ◌-◌, ◌*◌, ◌≤◌, ◌==◌, List, [], ◌∷◌, ◌++◌, length, count_by}
use Rattle.params.specs.declared.TheConstants.{MLEN, MCLBYTES}

-- a number of mbufs, and a cluster number for each of them that refers to a cluster
pub record Weight : Type 0 where
  pub mbufs : ℕ
  pub bag : List ℕ  -- cluster numbers, repeats kept

-- a string of bytes with the buffers that it takes
pub record Item : Type 0 where
  pub bytes : List ℕ
  pub weight : Weight

-- no buffer at all
abbrev pub nothing : Weight
nothing = record { mbufs = 0; bag = [] }

-- one plain mbuf
abbrev pub mbuf : Weight
mbuf = record { mbufs = 1; bag = [] }

-- the sum of two weights
infixl 60 ◌⊕◌
abbrev pub ◌⊕◌ : Weight → Weight → Weight
a ⊕ b = record { mbufs = a.mbufs + b.mbufs; bag = a.bag ++ b.bag }

-- the sum of the weights of all elements of a list
abbrev pub all_of : {X : Type 0} → (X → Weight) → List X → Weight
all_of weight [] = nothing
all_of weight (x ∷ xs) = weight x ⊕ all_of weight xs

-- how often a cluster is in a bag
abbrev pub times : ℕ → List ℕ → ℕ
times c bag = count_by (λ k. k == c) bag

-- no cluster is in the small bag more often than in the large one
abbrev pub IsSubBag : List ℕ → List ℕ → Type 0
IsSubBag small large = (c : ℕ) → times c small ≤ times c large

-- the same number of mbufs, and each cluster equally often: the order of a bag has no meaning
pub record SameWeight (a b : Weight) : Type 0 where
  pub mbufs : a.mbufs ≡ b.mbufs
  pub bag : (c : ℕ) → times c a.bag ≡ times c b.bag

-- There is space for n bytes: a plain mbuf has space for 108 bytes, one that refers to a cluster for 2048. Even an
-- empty string takes an mbuf.
pub record Covers (w : Weight) (n : ℕ) : Type 0 where
  pub some : 1 ≤ w.mbufs
  pub references : length w.bag ≤ w.mbufs
  pub room : n ≤ MLEN * (w.mbufs - length w.bag) + MCLBYTES * length w.bag
