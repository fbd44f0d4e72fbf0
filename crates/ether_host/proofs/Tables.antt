-- The table of neighbours, a tick later.
use Rattle.std.proofs.Common.{◌≡◌, ℕ, ◌≤◌, Bool, true, false, cond, List, [], ◌∷◌, ◌++◌, ◌+◌, length, map, take, drop, zero, suc, refl, sym, ap, ◌∙◌, ◌-◌, arith, length-drop, length-take, min, get_or, ◌<◌, Some}
use Rattle.std.specs.Prelude.{filter, is_some, remove, slice_get}
use Rattle.std.specs.List.{copy_within}
use Rattle.std.proofs.lemmas.List.{take_all, take_at}
use Rattle.std.proofs.lemmas.List.Edits.{length-remove}
use Rattle.flat_ether.specs.Links.{neighbour_aged, is_resolvable, neighbour_place, neighbour_stays}
use Rattle.flat_ether.specs.declared.neighbour.Neighbour.{Neighbour}
use Rattle.ether_host.specs.Buffers.{is_resolvable_in, held_in}
use Rattle.ether_host.specs.declared.buffer.PacketBuffer.{PacketBuffer}

few_pass : (xs : List Neighbour) → length (filter neighbour_stays (map neighbour_aged xs)) ≤ length xs
few_pass [] = omega arith
few_pass (x ∷ xs) = go (neighbour_stays (neighbour_aged x)) (few_pass xs)
  where
    go : (b : Bool) → length (filter neighbour_stays (map neighbour_aged xs)) ≤ length xs
        → length (cond b (neighbour_aged x ∷ filter neighbour_stays (map neighbour_aged xs))
        (filter neighbour_stays (map neighbour_aged xs))) ≤ length (x ∷ xs)
    go true h = omega arith
    go false h = omega arith

pub few_stay : (ns : List Neighbour) (i : ℕ) (kept : List Neighbour)
    → kept ≡ filter neighbour_stays (map neighbour_aged (take i ns))
    → length kept ≤ i
few_stay ns i kept e =
    let few : length (filter neighbour_stays (map neighbour_aged (take i ns))) ≤ length (take i ns) =
    few_pass (take i ns) in
    let same : length kept ≡ length (filter neighbour_stays (map neighbour_aged (take i ns))) = ap length e in
    let long : length (take i ns) ≡ min i (length ns) = length-take i ns in
    omega arith

-- the packets that are kept, in the terms of the definitions
pub held_filter : (ns : List Neighbour) (ps : List PacketBuffer)
    → map held_in (filter (is_resolvable_in ns) ps) ≡ filter (is_resolvable ns) (map held_in ps)
held_filter ns [] = refl
held_filter ns (p ∷ ps) = go (is_some (neighbour_place p.hop ns)) (held_filter ns ps)
  where
    go : (b : Bool) → map held_in (filter (is_resolvable_in ns) ps) ≡ filter (is_resolvable ns) (map held_in ps)
        → map held_in (cond b (p ∷ filter (is_resolvable_in ns) ps) (filter (is_resolvable_in ns) ps))
        ≡ cond b (held_in p ∷ filter (is_resolvable ns) (map held_in ps)) (filter (is_resolvable ns) (map held_in ps))
    go true h = ap (λ xs. held_in p ∷ xs) h
    go false h = h

pub held_at : (ps : List PacketBuffer) (i : ℕ) (p : PacketBuffer) → i < length ps → p ≡ get_or ps i p
    → slice_get (map held_in ps) i ≡ Some (held_in p)
held_at [] i p h e = absurd (omega arith)
held_at (q ∷ ps) zero p h e = ap (λ (x : PacketBuffer). Some (held_in x)) (sym e)
held_at (q ∷ ps) (suc i) p h e = held_at ps i p (omega arith) e

pub held_remove : (ps : List PacketBuffer) (i : ℕ) → map held_in (remove ps i) ≡ remove (map held_in ps) i
held_remove [] zero = refl
held_remove [] (suc i) = refl
held_remove (p ∷ ps) zero = refl
held_remove (p ∷ ps) (suc i) = ap (λ xs. held_in p ∷ xs) (held_remove ps i)

-- ---- packets that are kept, one by one

-- the packets that are kept so far, and those that will be kept of the rest
abbrev pub kept_from : List Neighbour → List PacketBuffer → ℕ → List PacketBuffer
kept_from ns ps i = take i ps ++ filter (is_resolvable_in ns) (drop i ps)

pub kept_off : (ns : List Neighbour) (ps : List PacketBuffer) (i : ℕ) (p : PacketBuffer) → i < length ps
    → p ≡ get_or ps i p → is_resolvable_in ns p ≡ false → kept_from ns ps i ≡ kept_from ns (remove ps i) i
kept_off ns [] i p h e t = absurd (omega arith)
kept_off ns (q ∷ ps) zero p h e t =
    ap (λ b. cond b (q ∷ filter (is_resolvable_in ns) ps) (filter (is_resolvable_in ns) ps))
    (ap (is_resolvable_in ns) (sym e) ∙ t)
kept_off ns (q ∷ ps) (suc i) p h e t = ap (λ xs. q ∷ xs) (kept_off ns ps i p (omega arith) e t)

pub kept_all : (ns : List Neighbour) (ps : List PacketBuffer) (i : ℕ) → length ps ≤ i → kept_from ns ps i ≡ ps
kept_all ns [] zero h = refl
kept_all ns [] (suc i) h = refl
kept_all ns (p ∷ ps) zero h = absurd (omega arith)
kept_all ns (p ∷ ps) (suc i) h = ap (λ xs. p ∷ xs) (kept_all ns ps i (omega arith))

-- removing an element: those after it are copied down by one, and the last one is cut off
pub moved_down : (ps : List PacketBuffer) (i n : ℕ) → i < length ps → n ≡ length ps
    → take (n - 1) (copy_within ps (i + 1) n i) ≡ remove ps i
moved_down ps i n l e =
    let m = n - (i + 1) in
    let whole : take m (drop (i + 1) ps) ≡ drop (i + 1) ps =
    take_all m (drop (i + 1) ps) (omega (arith, length-drop (i + 1) ps)) in
    let one : i + 1 ≡ suc i = omega arith in
    let all : take i ps ++ take m (drop (i + 1) ps) ≡ remove ps i =
    ap (λ zs. take i ps ++ zs) (whole ∙ ap (λ k. drop k ps) one) in
    ap (λ zs. take (n - 1) (zs ++ drop (i + m) ps)) all
    ∙ take_at (remove ps i) (drop (i + m) ps) (n - 1) (omega (arith, length-remove ps i l))
