-- Finite maps from numbers: a table, a key that is removed and inserted again, and a sum over the values.
use Rattle.std.proofs.Common.{◌≡◌, ◌≢◌, ℕ, zero, suc, ◌+◌, ◌<◌, ◌≤◌, true, false, cond, List, [], ◌∷◌, length, map, sum_by, Option, None, Some, refl, sym, ap, ◌∙◌, subst, arith, inl, inr}
use Rattle.std.specs.declared.cmp.Ordering.TheVariants.{Less, Equal, Greater}
use Rattle.std.specs.Ordering.{nat_cmp, eq_by_cmp, is_eq}
use Rattle.std.specs.Cmp.{nat_cmp_total, tied_itself}
use Rattle.std.specs.FinMap as finmap
use Rattle.std.specs.FinMap.{FinMap, nat_cmp-IsAntisymmetric, same_map, get-insert, get-remove, get-empty, get-entries, entries-insert, find, len-entries, len-empty}
use Rattle.std.specs.FinMap.{put}
use Rattle.std.specs.FinMap.Entries.{by_order}
use Rattle.std.proofs.lemmas.Bool.{cases_eq}
use Rattle.std.proofs.lemmas.List.Sums.{sum_by-cons}
use Rattle.std.proofs.lemmas.Option.{none-some}
use Rattle.mbuf_chain.specs.Inside.Cells.{tabulate, add_option}

pub tied : (k : ℕ) → eq_by_cmp nat_cmp k k ≡ true
tied k = ap is_eq (tied_itself nat_cmp_total k)

pub apart : (q k : ℕ) → q ≢ k → eq_by_cmp nat_cmp q k ≡ false
apart q k ne =
    elim (nat_cmp q k) as (λ r. nat_cmp q k ≡ r → is_eq r ≡ false) [
      | Less ↦ λ _. refl
      | Equal ↦ λ e. absurd (ne (nat_cmp-IsAntisymmetric q k e))
      | Greater ↦ λ _. refl
    ] refl

module _ {X : Type 0} where
  pub same : (m n : FinMap nat_cmp X) → ((q : ℕ) → finmap.get m q ≡ finmap.get n q) → m ≡ n
  same m n h = same_map nat_cmp_total nat_cmp-IsAntisymmetric m n h

  -- a map after an insertion or a removal
  pub get_here : (m : FinMap nat_cmp X) (k : ℕ) (v : X) → finmap.get (finmap.insert m k v) k ≡ Some v
  get_here m k v = get-insert nat_cmp_total m k v k ∙ ap (λ b. cond b (Some v) (finmap.get m k)) (tied k)

  pub get_there : (m : FinMap nat_cmp X) (k : ℕ) (v : X) (q : ℕ) → q ≢ k
      → finmap.get (finmap.insert m k v) q ≡ finmap.get m q
  get_there m k v q ne = get-insert nat_cmp_total m k v q ∙ ap (λ b. cond b (Some v) (finmap.get m q)) (apart q k ne)

  pub get_gone : (m : FinMap nat_cmp X) (k : ℕ) → finmap.get (finmap.remove m k) k ≡ None
  get_gone m k = get-remove nat_cmp_total m k k ∙ ap (λ b. cond b None (finmap.get m k)) (tied k)

  pub get_left : (m : FinMap nat_cmp X) (k q : ℕ) → q ≢ k → finmap.get (finmap.remove m k) q ≡ finmap.get m q
  get_left m k q ne = get-remove nat_cmp_total m k q ∙ ap (λ b. cond b None (finmap.get m q)) (apart q k ne)

  -- the last insertion at a key wins
  pub insert-insert : (m : FinMap nat_cmp X) (k : ℕ) (v w : X)
      → finmap.insert (finmap.insert m k v) k w ≡ finmap.insert m k w
  insert-insert m k v w = same _ _ (λ q. elim (cases_eq q k) [
    | inl e ↦ subst (λ (j : ℕ). finmap.get (finmap.insert (finmap.insert m k v) k w) j
        ≡ finmap.get (finmap.insert m k w) j) (sym e) (get_here _ k w ∙ sym (get_here m k w))
    | inr ne ↦ get_there _ k w q ne ∙ get_there m k v q ne ∙ sym (get_there m k w q ne)
  ])

  pub remove-insert : (m : FinMap nat_cmp X) (k : ℕ) (v : X) → finmap.get m k ≡ None
      → finmap.remove (finmap.insert m k v) k ≡ m
  remove-insert m k v none = same _ _ (λ q. elim (cases_eq q k) [
    | inl e ↦ subst (λ (j : ℕ). finmap.get (finmap.remove (finmap.insert m k v) k) j ≡ finmap.get m j) (sym e)
        (get_gone _ k ∙ sym none)
    | inr ne ↦ get_left _ k q ne ∙ get_there m k v q ne
  ])

  pub remove-insert_any : (m : FinMap nat_cmp X) (k : ℕ) (v : X)
      → finmap.remove (finmap.insert m k v) k ≡ finmap.remove m k
  remove-insert_any m k v = same _ _ (λ q. elim (cases_eq q k) [
    | inl e ↦ subst (λ (j : ℕ). finmap.get (finmap.remove (finmap.insert m k v) k) j ≡ finmap.get (finmap.remove m k) j)
        (sym e) (get_gone _ k ∙ sym (get_gone m k))
    | inr ne ↦ get_left _ k q ne ∙ get_there m k v q ne ∙ sym (get_left m k q ne)
  ])

  pub insert-remove : (m : FinMap nat_cmp X) (k : ℕ) (v : X) → finmap.get m k ≡ Some v
      → finmap.insert (finmap.remove m k) k v ≡ m
  insert-remove m k v some = same _ _ (λ q. elim (cases_eq q k) [
    | inl e ↦ subst (λ (j : ℕ). finmap.get (finmap.insert (finmap.remove m k) k v) j ≡ finmap.get m j) (sym e)
        (get_here _ k v ∙ sym some)
    | inr ne ↦ get_there _ k v q ne ∙ get_left m k q ne
  ])

  pub insert_same : (m : FinMap nat_cmp X) (k : ℕ) (v : X) → finmap.get m k ≡ Some v → finmap.insert m k v ≡ m
  insert_same m k v some = same _ _ (λ q. elim (cases_eq q k) [
    | inl e ↦ subst (λ (j : ℕ). finmap.get (finmap.insert m k v) j ≡ finmap.get m j) (sym e) (get_here m k v ∙ sym some)
    | inr ne ↦ get_there m k v q ne
  ])

  -- the values of a table
  pub get-tabulate : (n : ℕ) (f : ℕ → Option X) (q : ℕ)
      → (q < n → finmap.get (tabulate n f) q ≡ f q) × (n ≤ q → finmap.get (tabulate n f) q ≡ None)
  get-tabulate zero f q = (λ h. absurd (omega arith), λ _. get-empty nat_cmp q)
  get-tabulate (suc n) f q =
      let below = get-tabulate n f q in
      elim (f n) as (λ (o : Option X). f n ≡ o
      → (q < suc n → finmap.get (add_option (tabulate n f) n o) q ≡ f q)
      × (suc n ≤ q → finmap.get (add_option (tabulate n f) n o) q ≡ None)) [
        | None ↦ λ e. (
          λ h. elim (cases_eq q n) [
            | inl is ↦ below.1 (omega arith) ∙ sym e ∙ ap f (sym is)
            | inr ne ↦ below.0 (omega arith)
          ],
          λ h. below.1 (omega arith),
        )
        | Some x ↦ λ e. (
          λ h. elim (cases_eq q n) [
            | inl is ↦ subst (λ (j : ℕ). finmap.get (finmap.insert (tabulate n f) n x) j ≡ f j) (sym is)
                (get_here _ n x ∙ sym e)
            | inr ne ↦ get_there _ n x q ne ∙ below.0 (omega arith)
          ],
          λ h. get_there _ n x q (λ is. absurd (omega arith)) ∙ below.1 (omega arith),
        )
      ] refl

  -- a sum over the values
  pub total : (X → ℕ) → FinMap nat_cmp X → ℕ
  total f m = sum_by f (finmap.values m)

  pub total_is : (f : X → ℕ) (m : FinMap nat_cmp X) → total f m ≡ sum_by f (finmap.values m)
  unfolding total
  total_is f m = refl

  total_put : (f : X → ℕ) (es : List (ℕ × X)) (k : ℕ) (v : X) → find nat_cmp k es ≡ None
      → sum_by f (map (λ e. e.1) (put nat_cmp k v es)) ≡ f v + sum_by f (map (λ e. e.1) es)
  total_put f [] k v none = omega arith
  total_put f (e ∷ es) k v none =
      elim (nat_cmp k e.0) as (λ r. cond (is_eq r) (Some e.1) (find nat_cmp k es) ≡ None
      → sum_by f (map (λ e. e.1) (by_order r ((k, v) ∷ e ∷ es) ((e.0, v) ∷ es) (e ∷ put nat_cmp k v es)))
      ≡ f v + sum_by f (map (λ e. e.1) (e ∷ es))) [
        | Less ↦ λ _. sum_by-cons f v (map (λ e. e.1) (e ∷ es))
        | Equal ↦ λ is. absurd (none-some e.1 (sym is))
        | Greater ↦ λ is. omega (
          arith,
          total_put f es k v is,
          sum_by-cons f e.1 (map (λ e. e.1) (put nat_cmp k v es)),
          sum_by-cons f e.1 (map (λ e. e.1) es),
        )
      ] none

  pub total-insert : (f : X → ℕ) (m : FinMap nat_cmp X) (k : ℕ) (v : X) → finmap.get m k ≡ None
      → total f (finmap.insert m k v) ≡ f v + total f m
  unfolding total
  total-insert f m k v none =
      ap (λ (es : List (ℕ × X)). sum_by f (map (λ e. e.1) es)) (entries-insert nat_cmp_total m k v)
      ∙ total_put f (finmap.entries m) k v (sym (get-entries m k) ∙ none)

  pub total-remove : (f : X → ℕ) (m : FinMap nat_cmp X) (k : ℕ) (v : X) → finmap.get m k ≡ Some v
      → total f m ≡ f v + total f (finmap.remove m k)
  total-remove f m k v some =
      ap (total f) (sym (insert-remove m k v some)) ∙ total-insert f (finmap.remove m k) k v (get_gone m k)

  no_length : (es : List (ℕ × X)) → length es ≡ 0 → es ≡ []
  no_length [] e = refl
  no_length (e ∷ es) z = absurd (omega arith)

  no_entries : finmap.entries (finmap.empty {X = X} {R = nat_cmp}) ≡ []
  no_entries = no_length _ (sym (len-entries (finmap.empty {R = nat_cmp})) ∙ len-empty nat_cmp X)

  pub total-empty : (f : X → ℕ) → total f (finmap.empty {R = nat_cmp}) ≡ 0
  unfolding total
  total-empty f = ap (λ (es : List (ℕ × X)). sum_by f (map (λ e. e.1) es)) no_entries

  -- two keys are merged into one
  pub two_to_one : (m : FinMap nat_cmp X) (a b : ℕ) (v w u : X) → finmap.get m b ≡ None → a ≢ b
      → finmap.insert (finmap.remove (finmap.insert (finmap.insert m b w) a v) b) a u ≡ finmap.insert m a u
  two_to_one m a b v w u none ne = same _ _ (λ q. elim (cases_eq q a) [
    | inl e ↦ subst (λ (j : ℕ). finmap.get
        (finmap.insert (finmap.remove (finmap.insert (finmap.insert m b w) a v) b) a u) j
        ≡ finmap.get (finmap.insert m a u) j) (sym e) (get_here _ a u ∙ sym (get_here m a u))
    | inr na ↦ get_there _ a u q na ∙ elim (cases_eq q b) [
      | inl e ↦ subst (λ (j : ℕ). finmap.get (finmap.remove (finmap.insert (finmap.insert m b w) a v) b) j
          ≡ finmap.get m j) (sym e) (get_gone _ b ∙ sym none)
      | inr nb ↦ get_left _ b q nb ∙ get_there _ a v q na ∙ get_there m b w q nb
    ] ∙ sym (get_there m a u q na)
  ])

module _ {X : Type 0} where
  -- one key is split into two
  pub one_to_two : (m : FinMap nat_cmp X) (a b : ℕ) (v w u : X) → a ≢ b
      → finmap.insert (finmap.insert m b w) a u ≡ finmap.insert (finmap.insert (finmap.insert m a v) a u) b w
  one_to_two m a b v w u ne = same _ _ (λ q. elim (cases_eq q a) [
    | inl e ↦ subst (λ (j : ℕ). finmap.get (finmap.insert (finmap.insert m b w) a u) j
        ≡ finmap.get (finmap.insert (finmap.insert (finmap.insert m a v) a u) b w) j) (sym e)
        (get_here _ a u ∙ sym (get_there _ b w a ne ∙ get_here _ a u))
    | inr na ↦ get_there _ a u q na ∙ elim (cases_eq q b) [
      | inl e ↦ subst (λ (j : ℕ). finmap.get (finmap.insert m b w) j
          ≡ finmap.get (finmap.insert (finmap.insert (finmap.insert m a v) a u) b w) j) (sym e) (get_here _ b w
          ∙ sym (get_here _ b w))
      | inr nb ↦ get_there m b w q nb ∙ sym (get_there _ b w q nb ∙ get_there _ a u q na ∙ get_there m a v q na)
    ]
  ])

-- the rules for a map after insertions and removals, for callers' goals
pub ruleset map_steps = (get_here, get_there, get_gone, get_left)
