-- Each element of a list after a write over it.
use Rattle.std.proofs.Common.{◌≡◌, ℕ, ◌+◌, ◌-◌, ◌<◌, ◌≤◌, List, ◌++◌, length, take, drop, get_or, refl, ap, ◌∙◌, arith, length-append, length-drop, length-take-le, take_all, take_at, get_or-drop}
use Rattle.std.proofs.lemmas.List.{get_or-take, get_or_append_left, get_or-append_right}
use Rattle.raw_cells.specs.Over.{over}

module _ {X : Type 0} (xs : List X) (at : ℕ) (ws : List X) where
  long_enough : at ≤ length xs → length xs ≤ length (take at xs ++ (ws ++ drop (at + length ws) xs))
  long_enough h =
      omega (
        arith,
        length-append (take at xs) (ws ++ drop (at + length ws) xs),
        length-append ws (drop (at + length ws) xs),
        length-take-le at xs h,
        length-drop (at + length ws) xs,
      )

  -- a write keeps the length of the list
  pub length_over : at ≤ length xs → length (over xs at ws) ≡ length xs
  length_over h = length-take-le (length xs) (take at xs ++ (ws ++ drop (at + length ws) xs)) (long_enough h)

  module _ (fits : at + length ws ≤ length xs) where
    front_long : length (take at xs) ≡ at
    front_long = length-take-le at xs (omega arith)

    -- nothing is cut if everything fits
    pub over_is : over xs at ws ≡ take at xs ++ (ws ++ drop (at + length ws) xs)
    over_is =
        take_all (length xs) (take at xs ++ (ws ++ drop (at + length ws) xs))
        (omega (
          arith,
          length-append (take at xs) (ws ++ drop (at + length ws) xs),
          length-append ws (drop (at + length ws) xs),
          front_long,
          length-drop (at + length ws) xs,
        ))

    pub over_below : (k : ℕ) (d : X) → k < at → get_or (over xs at ws) k d ≡ get_or xs k d
    over_below k d lt =
        ap (λ l. get_or l k d) over_is
        ∙ get_or_append_left (take at xs) (ws ++ drop (at + length ws) xs) d k (omega (arith, front_long))
        ∙ get_or-take at xs k d lt

    -- at and after the write
    after : (k : ℕ) (d : X) → at ≤ k → get_or (over xs at ws) k d ≡ get_or (ws ++ drop (at + length ws) xs) (k - at) d
    after k d le =
        ap (λ l. get_or l k d) over_is
        ∙ get_or-append_right (take at xs) (ws ++ drop (at + length ws) xs) at k d front_long le

    pub over_in : (j : ℕ) (d : X) → j < length ws → get_or (over xs at ws) (at + j) d ≡ get_or ws j d
    over_in j d lt =
        let same : at + j - at ≡ j = omega arith in
        after (at + j) d (omega arith)
        ∙ ap (λ k. get_or (ws ++ drop (at + length ws) xs) k d) same
        ∙ get_or_append_left ws (drop (at + length ws) xs) d j lt

    pub over_above : (k : ℕ) (d : X) → at + length ws ≤ k → get_or (over xs at ws) k d ≡ get_or xs k d
    over_above k d le =
        let same : at + length ws + (k - at - length ws) ≡ k = omega arith in
        after k d (omega arith)
        ∙ get_or-append_right ws (drop (at + length ws) xs) (length ws) (k - at) d refl (omega arith)
        ∙ get_or-drop (at + length ws) xs (k - at - length ws) d
        ∙ ap (λ j. get_or xs j d) same

-- a write of the whole list
pub over_all : {X : Type 0} (xs ws : List X) → length ws ≡ length xs → over xs 0 ws ≡ ws
over_all xs ws e = take_at ws (drop (0 + length ws) xs) (length xs) e
