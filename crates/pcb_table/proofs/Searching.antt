-- The youngest and the best block of a list, after one more block.
use Rattle.std.proofs.Common.{◌≡◌, ◌≢◌, ℕ, zero, suc, ◌<◌, ◌≤◌, Bool, true, false, ◌&&◌, ◌==◌, cond, List, [], ◌∷◌, ◌++◌, take, take_all, ◌-◌, drop, length, get_or, Option, Some, None, is_some, find, count_by, refl, sym, ap, ◌∙◌, subst, arith, ◌⊎◌, inl, inr, append_assoc, append-nil}
use Rattle.std.specs.Option.{option_or}
use Rattle.std.proofs.lemmas.List.Folds.{find-append}
use Rattle.std.proofs.lemmas.Bool.{and_parts, false≢true}
use Rattle.flat_model.specs.declared.lookup_key.LookupKey.{LookupKey}
use Rattle.flat_model.specs.Sockets.Lookup.{agree, are_same, is_addr, wildcards, one_sided}
use Rattle.flat_model.proofs.Laws.{count_cons}
use Rattle.pcb_table.specs.declared.block.Block.{Block}
use Rattle.pcb_table.specs.Inside.Search.{does_agree, from_port, has_port, youngest_block, best_block}
use Rattle.pcb_table.specs.Apart.{plain, does_match, has_score}

-- ---- one more block

pub option_or-None : {X : Type 0} (o : Option X) → option_or o None ≡ o
option_or-None None = refl
option_or-None (Some x) = refl

pub youngest_keeps : (k : ℕ) (q : LookupKey) (xs : List Block) (x : Block) → has_score k q x ≡ false
    → youngest_block k q (xs ++ x ∷ []) ≡ youngest_block k q xs
youngest_keeps k q xs x e =
    find-append (has_score k q) xs (x ∷ []) ∙ ap (λ t. option_or (youngest_block k q xs) (cond t (Some x) None)) e
    ∙ option_or-None _

pub youngest_gets : (k : ℕ) (q : LookupKey) (xs : List Block) (x : Block) → has_score k q x ≡ true
    → youngest_block k q xs ≡ None → youngest_block k q (xs ++ x ∷ []) ≡ Some x
youngest_gets k q xs x e none =
    find-append (has_score k q) xs (x ∷ []) ∙ (λ i. option_or (none i) (cond (e i) (Some x) None))

pub youngest_stays : (k : ℕ) (q : LookupKey) (xs ys : List Block) (y : Block) → youngest_block k q xs ≡ Some y
    → youngest_block k q (xs ++ ys) ≡ Some y
youngest_stays k q xs ys y some =
    find-append (has_score k q) xs ys ∙ ap (λ o. option_or o (youngest_block k q ys)) some

-- ---- what a search has found so far

abbrev pub fewest_of : Option Block → Option Block → ℕ
fewest_of (Some b) _ = 1
fewest_of None (Some b) = 2
fewest_of None None = 3

pub record Seen (q : LookupKey) (xs : List Block) (found : Option Block) (fewest : ℕ) : Type 0 where
  pub exact : youngest_block 0 q xs ≡ None
  pub found_is : found ≡ option_or (youngest_block 1 q xs) (youngest_block 2 q xs)
  pub fewest_is : fewest ≡ fewest_of (youngest_block 1 q xs) (youngest_block 2 q xs)

pub seen_from : (q : LookupKey) (xs : List Block) (found : Option Block) (fewest : ℕ) (one two : Option Block)
    → youngest_block 0 q xs ≡ None → youngest_block 1 q xs ≡ one → youngest_block 2 q xs ≡ two
    → found ≡ option_or one two → fewest ≡ fewest_of one two → Seen q xs found fewest
seen_from q xs found fewest one two none is_one is_two f n = record {
  exact = none;
  found_is = f ∙ sym (λ i. option_or (is_one i) (is_two i));
  fewest_is = n ∙ sym (λ i. fewest_of (is_one i) (is_two i));
}

-- a block that doesn't match
pub seen_skips : (q : LookupKey) (xs : List Block) (x : Block) (found : Option Block) (fewest : ℕ)
    → does_match q x ≡ false → Seen q xs found fewest → Seen q (xs ++ x ∷ []) found fewest
seen_skips q xs x found fewest e s =
    let no : (k : ℕ) → has_score k q x ≡ false = λ k. ap (λ t. t && (wildcards q (plain x) == k)) e in
    seen_from q (xs ++ x ∷ []) found fewest (youngest_block 1 q xs) (youngest_block 2 q xs)
    (youngest_keeps 0 q xs x (no 0) ∙ s.exact) (youngest_keeps 1 q xs x (no 1)) (youngest_keeps 2 q xs x (no 2))
    s.found_is s.fewest_is

pub score_is : (q : LookupKey) (x : Block) (w k : ℕ) → does_match q x ≡ true → wildcards q (plain x) ≡ w
    → has_score k q x ≡ (w == k)
score_is q x w k met is = λ i. met i && (is i == k)

pub one_sided-most : {X : Type 0} (a b : Option X) → one_sided a b ≤ 1
one_sided-most None None = omega arith
one_sided-most None (Some y) = omega arith
one_sided-most (Some x) None = omega arith
one_sided-most (Some x) (Some y) = omega arith

pub wildcards_cases : (q : LookupKey) (x : Block) → wildcards q (plain x) ≢ 0
    → (wildcards q (plain x) ≡ 1) ⊎ (wildcards q (plain x) ≡ 2)
wildcards_cases q x some =
    go (wildcards q (plain x)) some (omega (arith, one_sided-most x.local q.local, one_sided-most x.peer q.peer))
  where
    go : (w : ℕ) → w ≢ 0 → w ≤ 2 → (w ≡ 1) ⊎ (w ≡ 2)
    go zero ne le = absurd (ne refl)
    go (suc zero) ne le = inl refl
    go (suc (suc zero)) ne le = inr refl
    go (suc (suc (suc w))) ne le = absurd (omega arith)

-- a block that matches better than those so far, with a wildcard
pub seen_gets : (q : LookupKey) (xs : List Block) (x : Block) (found : Option Block) (fewest : ℕ)
    → does_match q x ≡ true → wildcards q (plain x) ≢ 0 → wildcards q (plain x) < fewest → Seen q xs found fewest
    → Seen q (xs ++ x ∷ []) (Some x) (wildcards q (plain x))
seen_gets q xs x found fewest met some fewer s = elim (wildcards_cases q x some) [
  | inl one ↦
      let none : youngest_block 1 q xs ≡ None =
      no_one (youngest_block 1 q xs) (youngest_block 2 q xs) (omega (arith, one, s.fewest_is)) in
      seen_from q (xs ++ x ∷ []) (Some x) (wildcards q (plain x)) (Some x) (youngest_block 2 q xs)
      (youngest_keeps 0 q xs x (score_is q x 1 0 met one) ∙ s.exact)
      (youngest_gets 1 q xs x (score_is q x 1 1 met one) none)
      (youngest_keeps 2 q xs x (score_is q x 1 2 met one)) refl one
  | inr two ↦
      let none : (youngest_block 1 q xs ≡ None) × (youngest_block 2 q xs ≡ None) =
      no_two (youngest_block 1 q xs) (youngest_block 2 q xs) (omega (arith, two, s.fewest_is)) in
      seen_from q (xs ++ x ∷ []) (Some x) (wildcards q (plain x)) None (Some x)
      (youngest_keeps 0 q xs x (score_is q x 2 0 met two) ∙ s.exact)
      (youngest_keeps 1 q xs x (score_is q x 2 1 met two) ∙ none.0)
      (youngest_gets 2 q xs x (score_is q x 2 2 met two) none.1) refl two
]
  where
    no_one : (a b : Option Block) → 1 < fewest_of a b → a ≡ None
    no_one (Some y) b lt = absurd (omega arith)
    no_one None b lt = refl

    no_two : (a b : Option Block) → 2 < fewest_of a b → (a ≡ None) × (b ≡ None)
    no_two (Some y) b lt = absurd (omega arith)
    no_two None (Some y) lt = absurd (omega arith)
    no_two None None lt = (refl, refl)

-- a block that matches no better than the one so far
pub seen_stays : (q : LookupKey) (xs : List Block) (x : Block) (found : Option Block) (fewest : ℕ)
    → does_match q x ≡ true → wildcards q (plain x) ≢ 0 → fewest ≤ wildcards q (plain x) → Seen q xs found fewest
    → Seen q (xs ++ x ∷ []) found fewest
seen_stays q xs x found fewest met some no_fewer s = elim (wildcards_cases q x some) [
  | inl one ↦ at_one (youngest_block 1 q xs) refl (omega (arith, one, s.fewest_is)) one
  | inr two ↦ at_two (youngest_block 1 q xs) (youngest_block 2 q xs) refl refl (omega (arith, two, s.fewest_is)) two
]
  where
    at_one : (a : Option Block) → youngest_block 1 q xs ≡ a → fewest_of a (youngest_block 2 q xs) ≤ 1
        → wildcards q (plain x) ≡ 1 → Seen q (xs ++ x ∷ []) found fewest
    at_one (Some y) e le one =
        seen_from q (xs ++ x ∷ []) found fewest (Some y) (youngest_block 2 q xs)
        (youngest_keeps 0 q xs x (score_is q x 1 0 met one) ∙ s.exact) (youngest_stays 1 q xs (x ∷ []) y e)
        (youngest_keeps 2 q xs x (score_is q x 1 2 met one))
        (s.found_is ∙ ap (λ o. option_or o (youngest_block 2 q xs)) e)
        (s.fewest_is ∙ ap (λ o. fewest_of o (youngest_block 2 q xs)) e)
    at_one None e le one = absurd (two_or_more (youngest_block 2 q xs) le)
      where
        two_or_more : (b : Option Block) → fewest_of None b ≤ 1 → ⊥
        two_or_more None le = omega arith
        two_or_more (Some y) le = omega arith

    at_two : (a b : Option Block) → youngest_block 1 q xs ≡ a → youngest_block 2 q xs ≡ b → fewest_of a b ≤ 2
        → wildcards q (plain x) ≡ 2 → Seen q (xs ++ x ∷ []) found fewest
    at_two (Some y) b e f le two =
        seen_from q (xs ++ x ∷ []) found fewest (Some y) (youngest_block 2 q (xs ++ x ∷ []))
        (youngest_keeps 0 q xs x (score_is q x 2 0 met two) ∙ s.exact) (youngest_stays 1 q xs (x ∷ []) y e)
        refl (s.found_is ∙ ap (λ o. option_or o (youngest_block 2 q xs)) e)
        (s.fewest_is ∙ ap (λ o. fewest_of o (youngest_block 2 q xs)) e)
    at_two None (Some y) e f le two =
        seen_from q (xs ++ x ∷ []) found fewest None (Some y)
        (youngest_keeps 0 q xs x (score_is q x 2 0 met two) ∙ s.exact)
        (youngest_keeps 1 q xs x (score_is q x 2 1 met two) ∙ e)
        (youngest_stays 2 q xs (x ∷ []) y f) (s.found_is ∙ (λ i. option_or (e i) (f i)))
        (s.fewest_is ∙ (λ i. fewest_of (e i) (f i)))
    at_two None None e f le two = absurd (omega arith)

-- ---- the search through a list

abbrev pub FirstHas : ℕ → List Block → Type 0
FirstHas port [] = Unit {0}
FirstHas port (b ∷ bs) = has_port port b ≡ true

-- the state of a search: the blocks that it has passed, the rest, and the best match so far
pub record Walked (q : LookupKey) (whole rest : List Block) (found : Option Block) (fewest : ℕ) : Type 0 where
  pub done : List Block
  pub cut : done ++ rest ≡ whole
  pub seen : Seen q done found fewest

-- the same at a block that has the port, or at the end
record Reached (q : LookupKey) (port : ℕ) (whole rest : List Block) (found : Option Block) (fewest : ℕ) : Type 0 where
  pub done : List Block
  pub cut : done ++ rest ≡ whole
  pub first : FirstHas port rest
  pub seen : Seen q done found fewest

both : (a b c : Bool) → ((a && b) && c) ≡ (a && (b && c))
both true b c = refl
both false b c = refl

matches_both : (q : LookupKey) (x : Block) → does_match q x ≡ (are_same x.port q.port && does_agree q x)
matches_both q x = both (are_same x.port q.port) (agree ◌==◌ x.local q.local) (agree is_addr x.peer q.peer)

match_by_parts : (q : LookupKey) (port : ℕ) (x : Block) (p a : Bool) → q.port ≡ Some port → has_port port x ≡ p
    → does_agree q x ≡ a → does_match q x ≡ (p && a)
match_by_parts q port x p a is has agrees =
    matches_both q x ∙ ap (λ o. are_same x.port o && does_agree q x) is ∙ (λ i. has i && agrees i)

-- a block with another port doesn't match
missed_by_port : (q : LookupKey) (port : ℕ) (x : Block) → q.port ≡ Some port → has_port port x ≡ false
    → does_match q x ≡ false
missed_by_port q port x is has = match_by_parts q port x false (does_agree q x) is has refl

reached_from : (q : LookupKey) (port : ℕ) (done after : List Block) (found : Option Block) (fewest : ℕ)
    → q.port ≡ Some port → Seen q done found fewest → Reached q port (done ++ after) (from_port port after) found fewest
reached_from q port done [] found fewest is s = record { done = done; cut = refl; first = tt; seen = s }
reached_from q port done (b ∷ bs) found fewest is s =
    go (λ lacks. reached_from q port (done ++ b ∷ []) bs found fewest is
    (seen_skips q done b found fewest (missed_by_port q port b is lacks) s)) (has_port port b) refl
  where
    go : (has_port port b ≡ false → Reached q port ((done ++ b ∷ []) ++ bs) (from_port port bs) found fewest)
        → (t : Bool) → has_port port b ≡ t
        → Reached q port (done ++ b ∷ bs) (cond t (b ∷ bs) (from_port port bs)) found fewest
    go later true has = record { done = done; cut = refl; first = has; seen = s }
    go later false lacks = let more = later lacks in
        record {
          done = more.done;
          cut = more.cut ∙ append_assoc done (b ∷ []) bs;
          first = more.first;
          seen = more.seen;
        }

reached : (q : LookupKey) (port : ℕ) (whole after rest : List Block) (found : Option Block) (fewest : ℕ)
    → q.port ≡ Some port → rest ≡ from_port port after → Walked q whole after found fewest
    → Reached q port whole rest found fewest
reached q port whole after rest found fewest is e w =
    subst (λ (ys : List Block). Reached q port whole ys found fewest) (sym e)
    (subst (λ (ys : List Block). Reached q port ys (from_port port after) found fewest) w.cut
    (reached_from q port w.done after found fewest is w.seen))

pub walk_begins : (q : LookupKey) (bs : List Block) → Walked q bs bs None 3
walk_begins q bs = record { done = []; cut = refl; seen = record { exact = refl; found_is = refl; fewest_is = refl } }

-- after a block that has the port, whether it matched or not
walk_on : (q : LookupKey) (port : ℕ) (whole after rest next : List Block) (d : Block) (found now : Option Block)
    (fewest later : ℕ) → q.port ≡ Some port → rest ≡ from_port port after → 1 ≤ length rest
    → next ≡ take (length rest - 1) (drop 1 rest)
    → Walked q whole after found fewest
    → ((done : List Block) → FirstHas port rest → Seen q done found fewest
    → Seen q (done ++ get_or rest 0 d ∷ []) now later)
    → Walked q whole next now later
walk_on q port whole after [] next d found now fewest later is at long e w step = absurd (omega arith)
walk_on q port whole after (b ∷ bs) next d found now fewest later is at long e w step =
    let r = reached q port whole after (b ∷ bs) found fewest is at w in
    subst (λ (ys : List Block). Walked q whole ys now later) (sym (e ∙ take_all (suc (length bs) - 1) bs (omega arith)))
    (record {
      done = r.done ++ b ∷ [];
      cut = append_assoc r.done (b ∷ []) bs ∙ r.cut;
      seen = step r.done r.first r.seen;
    })

first_matches : (q : LookupKey) (port : ℕ) (rest : List Block) (d : Block) (a : Bool) → q.port ≡ Some port
    → 1 ≤ length rest → FirstHas port rest → does_agree q (get_or rest 0 d) ≡ a → does_match q (get_or rest 0 d) ≡ a
first_matches q port [] d a is long has agrees = absurd (omega arith)
first_matches q port (b ∷ bs) d a is long has agrees = match_by_parts q port b true a is has agrees

pub walk_gets : (q : LookupKey) (port : ℕ) (whole after rest next : List Block) (d : Block) (found now : Option Block)
    (fewest later w : ℕ) → q.port ≡ Some port → rest ≡ from_port port after → 1 ≤ length rest
    → next ≡ take (length rest - 1) (drop 1 rest) → does_agree q (get_or rest 0 d) ≡ true
    → w ≡ wildcards q (plain (get_or rest 0 d)) → w ≢ 0 → w < fewest → now ≡ Some (get_or rest 0 d) → later ≡ w
    → Walked q whole after found fewest → Walked q whole next now later
walk_gets q port whole after rest next d found now fewest later w is e long f agrees count some fewer n l at =
    walk_on q port whole after rest next d found now fewest later is e long f at (λ done has s.
    subst (λ (k : ℕ). Seen q (done ++ get_or rest 0 d ∷ []) now k) (sym (l ∙ count))
    (subst (λ (o : Option Block). Seen q (done ++ get_or rest 0 d ∷ []) o (wildcards q (plain (get_or rest 0 d))))
    (sym n)
    (seen_gets q done (get_or rest 0 d) found fewest (first_matches q port rest d true is long has agrees)
    (λ e. some (count ∙ e)) (subst (λ (k : ℕ). k < fewest) count fewer) s)))

seen_same : (q : LookupKey) (xs : List Block) (found now : Option Block) (fewest later : ℕ) → now ≡ found
    → later ≡ fewest → Seen q xs found fewest → Seen q xs now later
seen_same q xs found now fewest later n l s =
    record { exact = s.exact; found_is = n ∙ s.found_is; fewest_is = l ∙ s.fewest_is }

pub walk_stays : (q : LookupKey) (port : ℕ) (whole after rest next : List Block) (d : Block) (found now : Option Block)
    (fewest later w : ℕ) → q.port ≡ Some port → rest ≡ from_port port after → 1 ≤ length rest
    → next ≡ take (length rest - 1) (drop 1 rest) → does_agree q (get_or rest 0 d) ≡ true
    → w ≡ wildcards q (plain (get_or rest 0 d)) → w ≢ 0 → fewest ≤ w → now ≡ found → later ≡ fewest
    → Walked q whole after found fewest → Walked q whole next now later
walk_stays q port whole after rest next d found now fewest later w is e long f agrees count some no_fewer n l at =
    walk_on q port whole after rest next d found now fewest later is e long f at (λ done has s.
    seen_same q (done ++ get_or rest 0 d ∷ []) found now fewest later n l
    (seen_stays q done (get_or rest 0 d) found fewest (first_matches q port rest d true is long has agrees)
    (λ e. some (count ∙ e)) (subst (λ (k : ℕ). fewest ≤ k) count no_fewer) s))

pub walk_skips : (q : LookupKey) (port : ℕ) (whole after rest next : List Block) (d : Block) (found now : Option Block)
    (fewest later : ℕ) → q.port ≡ Some port → rest ≡ from_port port after → 1 ≤ length rest
    → next ≡ take (length rest - 1) (drop 1 rest) → does_agree q (get_or rest 0 d) ≡ false
    → now ≡ found → later ≡ fewest → Walked q whole after found fewest → Walked q whole next now later
walk_skips q port whole after rest next d found now fewest later is e long f differs n l at =
    walk_on q port whole after rest next d found now fewest later is e long f at (λ done has s.
    seen_same q (done ++ get_or rest 0 d ∷ []) found now fewest later n l
    (seen_skips q done (get_or rest 0 d) found fewest (first_matches q port rest d false is long has differs) s))

-- the first block that matches without a wildcard is the best
pub best_here : (q : LookupKey) (port : ℕ) (whole after rest : List Block) (d : Block) (found : Option Block)
    (fewest : ℕ) → q.port ≡ Some port → rest ≡ from_port port after → 1 ≤ length rest
    → does_agree q (get_or rest 0 d) ≡ true
    → wildcards q (plain (get_or rest 0 d)) ≡ 0 → Walked q whole after found fewest
    → Some (get_or rest 0 d) ≡ best_block q whole
best_here q port whole after [] d found fewest is e long agrees none w = absurd (omega arith)
best_here q port whole after (b ∷ bs) d found fewest is e long agrees none w =
    let at = reached q port whole after (b ∷ bs) found fewest is e w in
    let here : youngest_block 0 q (at.done ++ b ∷ []) ≡ Some b =
    youngest_gets 0 q at.done b (score_is q b 0 0 (match_by_parts q port b true true is at.first agrees) none)
    at.seen.exact in
    let all : youngest_block 0 q whole ≡ Some b =
    ap (youngest_block 0 q) (sym (append_assoc at.done (b ∷ []) bs ∙ at.cut))
    ∙ youngest_stays 0 q (at.done ++ b ∷ []) bs b here in
    sym (ap (λ o. option_or o (option_or (youngest_block 1 q whole) (youngest_block 2 q whole))) all)

-- the search has reached the end
pub best_seen : (q : LookupKey) (port : ℕ) (whole after rest : List Block) (found : Option Block) (fewest : ℕ)
    → q.port ≡ Some port → rest ≡ from_port port after → length rest < 1 → Walked q whole after found fewest
    → found ≡ best_block q whole
best_seen q port whole after (b ∷ bs) found fewest is e short w = absurd (omega arith)
best_seen q port whole after [] found fewest is e short w =
    let at = reached q port whole after [] found fewest is e w in
    let all : at.done ≡ whole = sym (append-nil at.done) ∙ at.cut in
    at.seen.found_is ∙ sym (ap (λ o. option_or o (option_or (youngest_block 1 q at.done) (youngest_block 2 q at.done)))
    at.seen.exact) ∙ ap (best_block q) all

-- a key without a port matches nothing
no_port_meets : (q : LookupKey) (x : Block) → q.port ≡ None → does_match q x ≡ false
no_port_meets q x is = matches_both q x ∙ ap (λ o. are_same x.port o && does_agree q x) is ∙ unset x.port
  where
    unset : (o : Option ℕ) → (are_same o None && does_agree q x) ≡ false
    unset None = refl
    unset (Some p) = refl

none_youngest : (k : ℕ) (q : LookupKey) (xs : List Block) → q.port ≡ None → youngest_block k q xs ≡ None
none_youngest k q [] is = refl
none_youngest k q (x ∷ xs) is =
    ap (λ t. cond (t && (wildcards q (plain x) == k)) (Some x) (youngest_block k q xs)) (no_port_meets q x is)
    ∙ none_youngest k q xs is

pub none_best : (q : LookupKey) (xs : List Block) → q.port ≡ None → None ≡ best_block q xs
none_best q xs is =
    sym (λ i. option_or (none_youngest 0 q xs is i) (option_or (none_youngest 1 q xs is i) (none_youngest 2 q xs is i)))

-- ---- a block that is found is there

-- if p implies r and p finds an element, r passes at least once
pub found_counts : {X : Type 0} (p r : X → Bool) → ((x : X) → p x ≡ true → r x ≡ true) → (xs : List X)
    → is_some (find p xs) ≡ true → 1 ≤ count_by r xs
found_counts p r follows [] e = absurd (false≢true e)
found_counts p r follows (x ∷ xs) e = go (found_counts p r follows xs) (p x) refl e
  where
    go : (is_some (find p xs) ≡ true → 1 ≤ count_by r xs) → (b : Bool) → p x ≡ b
        → is_some (cond b (Some x) (find p xs)) ≡ true → 1 ≤ count_by r (x ∷ xs)
    go rest true met e = omega (arith, count_cons r x xs, ap (λ t. cond {A = ℕ} t 1 0) (follows x met))
    go rest false missed e = omega (arith, count_cons r x xs, rest e)

pub best_counts : (q : LookupKey) (bs : List Block) → is_some (best_block q bs) ≡ true → 1 ≤ count_by (does_match q) bs
best_counts q bs e = go (youngest_block 0 q bs) (youngest_block 1 q bs) refl refl e
  where
    follows : (k : ℕ) (b : Block) → has_score k q b ≡ true → does_match q b ≡ true
    follows k b e = (and_parts (does_match q b) (wildcards q (plain b) == k) e).0

    go : (a b : Option Block) → youngest_block 0 q bs ≡ a → youngest_block 1 q bs ≡ b
        → is_some (option_or a (option_or b (youngest_block 2 q bs))) ≡ true → 1 ≤ count_by (does_match q) bs
    go (Some x) b e f g = found_counts (has_score 0 q) (does_match q) (follows 0) bs (ap is_some e)
    go None (Some x) e f g = found_counts (has_score 1 q) (does_match q) (follows 1) bs (ap is_some f)
    go None None e f g = found_counts (has_score 2 q) (does_match q) (follows 2) bs g

-- ---- a search ends

from_port_most : (port : ℕ) (bs : List Block) → length (from_port port bs) ≤ length bs
from_port_most port [] = omega arith
from_port_most port (b ∷ bs) = go (from_port_most port bs) (has_port port b)
  where
    go : length (from_port port bs) ≤ length bs → (t : Bool)
        → length (cond t (b ∷ bs) (from_port port bs)) ≤ length (b ∷ bs)
    go rest true = omega arith
    go rest false = omega arith

pub walk_shortens : (port : ℕ) (after rest next : List Block) → rest ≡ from_port port after → 1 ≤ length rest
    → next ≡ take (length rest - 1) (drop 1 rest) → length next < length after
walk_shortens port after [] next e long f = absurd (omega arith)
walk_shortens port after (b ∷ bs) next e long f =
    omega (
      arith,
      ap length (f ∙ take_all (suc (length bs) - 1) bs (omega arith)),
      ap length e,
      from_port_most port after,
    )
