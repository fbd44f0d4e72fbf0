-- Blocks of a list after a write over the list.
use Rattle.std.proofs.Common.{◌≡◌, ℕ, ◌+◌, ◌-◌, ◌<◌, ◌≤◌, ◌⊎◌, inl, inr, List, length, take, drop, get_or, sym, ap, ◌∙◌, arith, ext_get_or, length-drop, length-take-le, get_or-drop}
use Rattle.std.proofs.lemmas.List.{get_or-take}
use Rattle.std.proofs.lemmas.Bool.{cases_lt}
use Rattle.raw_cells.specs.Over.{over}
use Rattle.raw_cells.proofs.Laws.{over_below, over_above, over_in, length_over}

-- the n elements from a on
abbrev pub block : List ℕ → ℕ → ℕ → List ℕ
block xs a n = take n (drop a xs)

pub length_block : (xs : List ℕ) (a n : ℕ) → a + n ≤ length xs → length (block xs a n) ≡ n
length_block xs a n fits = length-take-le n (drop a xs) (omega (arith, length-drop a xs))

block_at : (xs : List ℕ) (a n k : ℕ) → k < n → get_or (block xs a n) k 0 ≡ get_or xs (a + k) 0
block_at xs a n k lt = get_or-take n (drop a xs) k 0 lt ∙ get_or-drop a xs k 0

-- a block that doesn't overlap the write
pub block_apart : (xs : List ℕ) (at : ℕ) (ws : List ℕ) (a n : ℕ) → at + length ws ≤ length xs → a + n ≤ length xs
    → (at + length ws ≤ a) ⊎ (a + n ≤ at) → block (over xs at ws) a n ≡ block xs a n
block_apart xs at ws a n fits inside apart =
    let long : length (over xs at ws) ≡ length xs = length_over xs at ws (omega arith) in
    let new_long = length_block (over xs at ws) a n (omega arith) in
    ext_get_or 0 (block (over xs at ws) a n) (block xs a n) (new_long ∙ sym (length_block xs a n inside)) (λ k lt.
    block_at (over xs at ws) a n k (omega arith)
    ∙ elim apart [
      | inl after ↦ over_above xs at ws fits (a + k) 0 (omega arith)
      | inr before ↦ over_below xs at ws fits (a + k) 0 (omega arith)
    ]
    ∙ sym (block_at xs a n k (omega arith)))

-- a block that contains the write
pub block_written : (xs : List ℕ) (a n s : ℕ) (ws : List ℕ) → a + n ≤ length xs → s + length ws ≤ n
    → block (over xs (a + s) ws) a n ≡ over (block xs a n) s ws
block_written xs a n s ws inside fits =
    let old_long = length_block xs a n inside in
    let long : length (over xs (a + s) ws) ≡ length xs = length_over xs (a + s) ws (omega arith) in
    let new_long = length_block (over xs (a + s) ws) a n (omega arith) in
    let all : a + s + length ws ≤ length xs = omega arith in
    let small : s + length ws ≤ length (block xs a n) = omega arith in
    ext_get_or 0 (block (over xs (a + s) ws) a n) (over (block xs a n) s ws)
    (new_long ∙ sym (length_over (block xs a n) s ws (omega arith) ∙ old_long)) (λ k lt.
    block_at (over xs (a + s) ws) a n k (omega arith)
    ∙ elim (cases_lt k s) [
      | inl before ↦
          over_below xs (a + s) ws all (a + k) 0 (omega arith)
          ∙ sym (over_below (block xs a n) s ws small k 0 before ∙ block_at xs a n k (omega arith))
      | inr after ↦ elim (cases_lt k (s + length ws)) [
        | inl within ↦
            let there : a + k ≡ a + s + (k - s) = omega arith in
            let here : s + (k - s) ≡ k = omega arith in
            ap (λ j. get_or (over xs (a + s) ws) j 0) there
            ∙ over_in xs (a + s) ws all (k - s) 0 (omega arith)
            ∙ sym (over_in (block xs a n) s ws small (k - s) 0 (omega arith))
            ∙ ap (λ j. get_or (over (block xs a n) s ws) j 0) here
        | inr past ↦
            over_above xs (a + s) ws all (a + k) 0 (omega arith)
            ∙ sym (over_above (block xs a n) s ws small k 0 past ∙ block_at xs a n k (omega arith))
      ]
    ])

-- a part of a block
pub block_part : (xs : List ℕ) (a n s k : ℕ) → a + n ≤ length xs → s + k ≤ n
    → block (block xs a n) s k ≡ block xs (a + s) k
block_part xs a n s k inside fits =
    let long = length_block xs a n inside in
    let inner = length_block (block xs a n) s k (omega arith) in
    ext_get_or 0 (block (block xs a n) s k) (block xs (a + s) k) (inner ∙ sym (length_block xs (a + s) k (omega arith)))
    (λ j lt.
    let same : a + (s + j) ≡ a + s + j = omega arith in
    block_at (block xs a n) s k j (omega arith)
    ∙ block_at xs a n (s + j) (omega arith)
    ∙ ap (λ m. get_or xs m 0) same
    ∙ sym (block_at xs (a + s) k j (omega arith)))
