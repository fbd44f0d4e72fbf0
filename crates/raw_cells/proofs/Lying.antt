-- Bytes that are stored one after the other in memory, and space for more. Assumes `Logic`.
use Rattle.std.proofs.Common.{◌≡◌, ℕ, zero, suc, ◌+◌, ◌≤◌, List, [], ◌∷◌, ◌++◌, length, take, drop, refl, sym, ap, ◌∙◌, arith, w8, take-append-drop, length-take-le, length-drop}
use Rattle.std.proofs.lemmas.List.{drop-drop}
use seplogic.Ra.Ura.{Ura}
use base.Fraction.{full_share}
use base.Logic.{ent, sep, id⊢, mono_r}
use base.Fml.{Lft, Fml, ftrue, fsep, fat, froom}
use mir.Syntax.{ty_int}
use mir.Val.{vint}
use types.Logic.{Logic, sem}
use types.Kit.{‵, ◌⊛◌, ◌$◌, ◌∵◌, !, qed, by, move, keep, use1, use2, drop as skip, split, rewrite, fsplit, fjoin, done}
use types.SemTy.{cells}
use denote.Builtin.{u8}
use denote.Memory.{mem, part_at, shared_of}
use denote.Slice.{elements_shared}
use denote.Plain.{uint_out}
use denote.Steps.{nothing}
use Rattle.raw_cells.specs.Inside.Memory.{block_type}

-- the bytes xs, stored in block b from offset o on
abbrev pub Lie : List ℕ → ℕ → ℕ → Fml
Lie xs b o = cells (mem u8) xs b o

module _ {M : Type 1} {𝓤 : Ura M} (𝓛 : Logic 𝓤) (b : ℕ) where
  open 𝓛 use {H}

  pub cut : (xs ys : List ℕ) (o at : ℕ) → at ≡ o + length xs
      → ent 𝓤 (sem 𝓛 (Lie (xs ++ ys) b o)) (sep 𝓤 (sem 𝓛 (Lie xs b o)) (sem 𝓛 (Lie ys b at)))
  cut [] ys o at e =
      qed 𝓛 (‵ (Lie ys b o) ∷ []) ∵ rewrite ! 0 (λ (k : ℕ). ‵ (Lie ys b k)) {x = at} (omega arith) refl $ nothing ! $
      done !
  cut (x ∷ xs) ys o at e =
      qed 𝓛 (‵ (Lie (x ∷ xs ++ ys) b o) ∷ []) ∵ fsplit ! $ move ! (1 ∷ []) $
      use1 𝓛 (‵ (Lie xs b (o + 1)) ⊛ ‵ (Lie ys b at)) (cut xs ys (o + 1) at (omega arith)) $ split ! $
      move ! (2 ∷ 0 ∷ []) $ fjoin ! $ done !

  pub glue : (xs ys : List ℕ) (o at : ℕ) → at ≡ o + length xs
      → ent 𝓤 (sep 𝓤 (sem 𝓛 (Lie xs b o)) (sem 𝓛 (Lie ys b at))) (sem 𝓛 (Lie (xs ++ ys) b o))
  glue [] ys o at e =
      qed 𝓛 (‵ ftrue ∷ ‵ (Lie ys b at) ∷ []) ∵ skip ! $
      rewrite ! 0 (λ (k : ℕ). ‵ (Lie ys b k)) {x = o} (omega arith) refl $ done !
  glue (x ∷ xs) ys o at e =
      qed 𝓛 (‵ (Lie (x ∷ xs) b o) ∷ ‵ (Lie ys b at) ∷ []) ∵ fsplit ! $ move ! (1 ∷ 2 ∷ []) $
      use2 𝓛 (‵ (Lie (xs ++ ys) b (o + 1))) (glue xs ys (o + 1) at (omega arith)) $ move ! (1 ∷ 0 ∷ []) $ fjoin ! $
      done !

  -- one more byte after them
  pub put_next : (xs : List ℕ) (x o at : ℕ) → at ≡ o + length xs
      → ent 𝓤 (sep 𝓤 (sem 𝓛 (part_at u8 full_share x b at)) (sem 𝓛 (Lie xs b o))) (sem 𝓛 (Lie (xs ++ x ∷ []) b o))
  put_next xs x o at e =
      qed 𝓛 (‵ (part_at u8 full_share x b at) ∷ ‵ (Lie xs b o) ∷ []) ∵ nothing ! $ move ! (1 ∷ 0 ∷ []) $ fjoin ! $
      move ! (1 ∷ 0 ∷ []) $
      by ! (glue xs (x ∷ []) o at e)

  -- bytes and the space after them are space together
  pub as_room : (xs : List ℕ) (n o at : ℕ) → at ≡ o + length xs
      → ent 𝓤 (sep 𝓤 (sem 𝓛 (Lie xs b o)) (H.room (block_type n) b at)) (H.room (block_type (length xs + n)) b o)
  as_room [] n o at e =
      let none : n ≡ length {A = ℕ} [] + n = omega arith in
      qed 𝓛 (‵ ftrue ∷ ‵ (froom (block_type n) b at) ∷ []) ∵ skip ! $
      rewrite ! 0 (λ (k : ℕ). ‵ (froom (block_type n) b k)) {x = o} (omega arith) refl $
      rewrite ! 0 (λ (k : ℕ). ‵ (froom (block_type k) b o)) none refl $ done !
  as_room (x ∷ xs) n o at e =
      let more : suc (length xs + n) ≡ length (x ∷ xs) + n = omega arith in
      qed 𝓛 (‵ (Lie (x ∷ xs) b o) ∷ ‵ (froom (block_type n) b at) ∷ []) ∵ fsplit ! $
      use1 𝓛 (‵ (fat full_share (ty_int w8) b o (vint w8 x))) (uint_out 𝓛 full_share w8 x b o) $
      use1 𝓛 (‵ (froom (ty_int w8) b o)) (𝓛.laws.at_room (ty_int w8) b o (vint w8 x)) $
      move ! (1 ∷ 2 ∷ []) $ use2 𝓛 (‵ (froom (block_type (length xs + n)) b (o + 1)))
      (as_room xs n (o + 1) at (omega arith)) $ move ! (1 ∷ 0 ∷ []) $
      use2 𝓛 (‵ (froom (block_type (suc (length xs + n))) b o)) (𝓛.laws.room_cons (ty_int w8) (length xs + n) b o) $
      rewrite ! 0 (λ (k : ℕ). ‵ (froom (block_type k) b o)) more refl $ done !

  module _ (xs : List ℕ) (o from n : ℕ) (fits : from + n ≤ length xs) where
    abbrev pub run : List ℕ
    run = take n (drop from xs)

    -- all bytes except the n bytes from index `from` on
    abbrev pub Around : Fml
    Around = fsep (Lie (take from xs) b o) (Lie (drop (from + n) xs) b (from + o + n))

    pub run_out : ent 𝓤 (sem 𝓛 (Lie xs b o)) (sep 𝓤 (sem 𝓛 (Lie run b (from + o))) (sem 𝓛 Around))
    run_out =
        let front = length-take-le from xs (omega arith) in
        let long = length-take-le n (drop from xs) (omega (arith, length-drop from xs)) in
        qed 𝓛 (‵ (Lie xs b o) ∷ []) ∵
        rewrite ! 0 (λ (l : List ℕ). ‵ (Lie l b o))
        (sym (take-append-drop from xs)
        ∙ ap (λ l. take from xs ++ l) (sym (take-append-drop n (drop from xs))
        ∙ ap (λ l. run ++ l) (drop-drop n from xs))) refl $
        use1 𝓛 (‵ (Lie (take from xs) b o) ⊛ ‵ (Lie (run ++ drop (from + n) xs) b (from + o)))
        (cut (take from xs) (run ++ drop (from + n) xs) o (from + o) (omega arith)) $ split ! $ move ! (1 ∷ []) $
        use1 𝓛 (‵ (Lie run b (from + o)) ⊛ ‵ (Lie (drop (from + n) xs) b (from + o + n)))
        (cut run (drop (from + n) xs) (from + o) (from + o + n) (omega arith)) $
        split ! $ move ! (2 ∷ 1 ∷ []) $ fjoin ! $ move ! (1 ∷ []) $ done !

    pub run_in : (ws : List ℕ) → length ws ≡ n
        → ent 𝓤 (sep 𝓤 (sem 𝓛 (Lie ws b (from + o))) (sem 𝓛 Around))
        (sem 𝓛 (Lie (take from xs ++ (ws ++ drop (from + n) xs)) b o))
    run_in ws long =
        let front = length-take-le from xs (omega arith) in
        qed 𝓛 (‵ (Lie ws b (from + o)) ∷ ‵ Around ∷ []) ∵ move ! (1 ∷ []) $ fsplit ! $ move ! (2 ∷ 1 ∷ []) $
        use2 𝓛 (‵ (Lie (ws ++ drop (from + n) xs) b (from + o)))
        (glue ws (drop (from + n) xs) (from + o) (from + o + n) (omega arith)) $ move ! (1 ∷ 0 ∷ []) $
        by ! (glue (take from xs) (ws ++ drop (from + n) xs) o (from + o) (omega arith))

module _ {M : Type 1} {𝓤 : Ura M} (𝓛 : Logic 𝓤) (b : ℕ) (κ : Lft) where
  abbrev Seen : List ℕ → ℕ → Fml
  Seen xs o = elements_shared u8 xs b o κ

  seen_after : (xs : List ℕ) (from o at : ℕ) → at ≡ from + o → from ≤ length xs
      → ent 𝓤 (sem 𝓛 (Seen xs o)) (sem 𝓛 (Seen (drop from xs) at))
  seen_after xs zero o at e le =
      qed 𝓛 (‵ (Seen xs o) ∷ []) ∵ rewrite ! 0 (λ (k : ℕ). ‵ (Seen xs k)) {x = at} (omega arith) refl $ done !
  seen_after [] (suc from) o at e le = absurd (omega arith)
  seen_after (x ∷ xs) (suc from) o at e le =
      qed 𝓛 (‵ (Seen (x ∷ xs) o) ∷ []) ∵ fsplit ! $ skip ! $
      by ! (seen_after xs from (o + 1) at (omega arith) (omega arith))

  seen_first : (n : ℕ) (xs : List ℕ) (o : ℕ) → ent 𝓤 (sem 𝓛 (Seen xs o)) (sem 𝓛 (Seen (take n xs) o))
  seen_first zero xs o = qed 𝓛 (‵ (Seen xs o) ∷ []) ∵ keep ! [] $ done !
  seen_first (suc n) [] o = id⊢ 𝓤 (sem 𝓛 (Seen [] o))
  seen_first (suc n) (x ∷ xs) o = mono_r 𝓤 (sem 𝓛 (shared_of u8 x b o κ)) (seen_first n xs (o + 1))

  -- a run of readable bytes is readable
  pub run_seen : (xs : List ℕ) (o from n : ℕ) → from ≤ length xs
      → ent 𝓤 (sem 𝓛 (Seen xs o)) (sem 𝓛 (Seen (take n (drop from xs)) (from + o)))
  run_seen xs o from n le =
      qed 𝓛 (‵ (Seen xs o) ∷ []) ∵ use1 𝓛 (‵ (Seen (drop from xs) (from + o)))
      (seen_after xs from o (from + o) refl le) $ by ! (seen_first n (drop from xs) (from + o))
