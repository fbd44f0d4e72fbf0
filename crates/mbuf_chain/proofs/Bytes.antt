-- Runs of bytes in a list, before and after a write.
use Rattle.std.proofs.Common.{◌≡◌, ℕ, ◌+◌, ◌-◌, ◌≤◌, ◌<◌, ◌⊎◌, inl, inr, List, [], ◌∷◌, ◌++◌, zero, suc, length, take, drop, get_or, refl, sym, ap, ◌∙◌, arith, ext_get_or, length-take-le, length-drop, take_all, get_or-drop}
use Rattle.std.proofs.lemmas.List.{drop-drop, get_or-take}
use Rattle.mbuf_pool.specs.Cells.{over}
use Rattle.mbuf_pool.proofs.Laws.{over_below, over_above, over_in, length_over}

-- ---- runs
pub run_length : (xs : List ℕ) (a n : ℕ) → a + n ≤ length xs → length (take n (drop a xs)) ≡ n
run_length xs a n le = length-take-le n (drop a xs) (omega (arith, length-drop a xs))

run_at : (xs : List ℕ) (a n k : ℕ) → k < n → get_or (take n (drop a xs)) k 0 ≡ get_or xs (a + k) 0
run_at xs a n k lt = get_or-take n (drop a xs) k 0 lt ∙ get_or-drop a xs k 0

-- two runs are equal if they have the same bytes
run_is : (xs ys : List ℕ) (a b n : ℕ) → a + n ≤ length xs → b + n ≤ length ys
    → ((k : ℕ) → k < n → get_or xs (a + k) 0 ≡ get_or ys (b + k) 0) → take n (drop a xs) ≡ take n (drop b ys)
run_is xs ys a b n fx fy h =
    ext_get_or 0 (take n (drop a xs)) (take n (drop b ys)) (run_length xs a n fx ∙ sym (run_length ys b n fy)) (λ k lt.
    let short : k < n = omega (arith, run_length xs a n fx) in
    run_at xs a n k short ∙ h k short ∙ sym (run_at ys b n k short))

pub run_apart : (xs : List ℕ) (at : ℕ) (ws : List ℕ) (a n : ℕ) → at + length ws ≤ length xs → a + n ≤ length xs
    → (at + length ws ≤ a) ⊎ (a + n ≤ at) → take n (drop a (over xs at ws)) ≡ take n (drop a xs)
run_apart xs at ws a n fits le apart =
    run_is (over xs at ws) xs a a n (omega (arith, length_over xs at ws (omega arith))) le (λ k lt. elim apart [
      | inl after ↦ over_above xs at ws fits (a + k) 0 (omega arith)
      | inr before ↦ over_below xs at ws fits (a + k) 0 (omega arith)
    ])

pub run_written : (xs : List ℕ) (at : ℕ) (ws : List ℕ) → at + length ws ≤ length xs
    → take (length ws) (drop at (over xs at ws)) ≡ ws
run_written xs at ws fits =
    run_is (over xs at ws) ws at 0 (length ws) (omega (arith, length_over xs at ws (omega arith))) (omega arith)
    (λ k lt. let e : k ≡ 0 + k = omega arith in over_in xs at ws fits k 0 lt ∙ ap (λ j. get_or ws j 0) e)
    ∙ take_all (length ws) ws (omega arith)

take_add : (m n : ℕ) (xs : List ℕ) → take (m + n) xs ≡ take m xs ++ take n (drop m xs)
take_add zero n xs = let e : zero + n ≡ n = omega arith in ap (λ k. take k xs) e
take_add (suc m) n [] = let e : suc m + n ≡ suc (m + n) = omega arith in ap {B = List ℕ} (λ k. take k []) e ∙ nothing n
  where
    nothing : (n : ℕ) → ◌≡◌ {A = List ℕ} [] (take n [])
    nothing zero = refl
    nothing (suc n) = refl
take_add (suc m) n (x ∷ xs) = let e : suc m + n ≡ suc (m + n) = omega arith in
    ap (λ k. take k (x ∷ xs)) e ∙ ap (λ (l : List ℕ). x ∷ l) (take_add m n xs)

-- a run of two parts
pub run_split : (xs : List ℕ) (a m n : ℕ) → take (m + n) (drop a xs) ≡ take m (drop a xs) ++ take n (drop (a + m) xs)
run_split xs a m n = take_add m n (drop a xs) ∙ ap (λ l. take m (drop a xs) ++ take n l) (drop-drop m a xs)

-- a run within a run
pub run_inner : (xs : List ℕ) (a len skip keep : ℕ) → a + len ≤ length xs → skip + keep ≤ len
    → take keep (drop skip (take len (drop a xs))) ≡ take keep (drop (a + skip) xs)
run_inner xs a len skip keep le within =
    run_is (take len (drop a xs)) xs skip (a + skip) keep (omega (arith, run_length xs a len le)) (omega arith)
    (λ k lt. let e : a + (skip + k) ≡ a + skip + k = omega arith in
    run_at xs a len (skip + k) (omega arith) ∙ ap (λ j. get_or xs j 0) e)

-- ---- a run after a write that begins at its end, ends at its beginning, or is within it
pub written_after : (xs : List ℕ) (a len : ℕ) (ws : List ℕ) → a + len + length ws ≤ length xs
    → take (len + length ws) (drop a (over xs (a + len) ws)) ≡ take len (drop a xs) ++ ws
written_after xs a len ws fits =
    run_split (over xs (a + len) ws) a len (length ws)
    ∙ (λ i. run_apart xs (a + len) ws a len fits (omega arith) (inr (omega arith)) i
    ++ run_written xs (a + len) ws fits i)

pub written_before : (xs : List ℕ) (a b len : ℕ) (ws : List ℕ) → b + length ws ≡ a → a + len ≤ length xs
    → take (len + length ws) (drop b (over xs b ws)) ≡ ws ++ take len (drop a xs)
written_before xs a b len ws is fits =
    let e : len + length ws ≡ length ws + len = omega arith in
    ap (λ k. take k (drop b (over xs b ws))) e ∙ run_split (over xs b ws) b (length ws) len
    ∙ (λ i. run_written xs b ws (omega arith) i
    ++ (ap (λ k. take len (drop k (over xs b ws))) is
    ∙ run_apart xs b ws a len (omega arith) fits (inl (omega arith))) i)

pub written_within : (xs : List ℕ) (a len off : ℕ) (ws : List ℕ) → a + len ≤ length xs → off + length ws ≤ len
    → take len (drop a (over xs (a + off) ws))
    ≡ take off (take len (drop a xs)) ++ (ws ++ drop (off + length ws) (take len (drop a xs)))
written_within xs a len off ws fits within =
    let rest = len - off - length ws in
    let ys = over xs (a + off) ws in
    let e : len ≡ off + (length ws + (len - off - length ws)) = omega arith in
    let fits' : a + off + length ws ≤ length xs = omega arith in
    let n0 : a + 0 ≡ a = omega arith in
    ap (λ k. take k (drop a (over xs (a + off) ws))) e
    ∙ run_split (over xs (a + off) ws) a off (length ws + (len - off - length ws))
    ∙ (λ i. (run_apart xs (a + off) ws a off fits' (omega arith) (inr (omega arith))
    ∙ sym (run_inner xs a len 0 off fits (omega arith) ∙ ap (λ k. take off (drop k xs)) n0)) i
    ++ (run_split (over xs (a + off) ws) (a + off) (length ws) (len - off - length ws)
    ∙ (λ j. run_written xs (a + off) ws fits' j
    ++ (run_apart xs (a + off) ws (a + off + length ws) (len - off - length ws) fits' (omega arith) (inl (omega arith))
    ∙ tail_is) j)) i)
  where
    tail_is : take (len - off - length ws) (drop (a + off + length ws) xs)
        ≡ drop (off + length ws) (take len (drop a xs))
    tail_is =
        let same : a + (off + length ws) ≡ a + off + length ws = omega arith in
        let long : length (drop (off + length ws) (take len (drop a xs))) ≡ len - off - length ws =
        omega (arith, length-drop (off + length ws) (take len (drop a xs)), run_length xs a len fits) in
        sym (sym (take_all (len - off - length ws) (drop (off + length ws) (take len (drop a xs))) (omega arith))
        ∙ run_inner xs a len (off + length ws) (len - off - length ws) fits (omega arith)
        ∙ ap (λ k. take (len - off - length ws) (drop k xs)) same)
