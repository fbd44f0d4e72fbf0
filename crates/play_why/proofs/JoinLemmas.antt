-- The bytes of a datagram, fragment by fragment.
use Rattle.std.proofs.Common.{◌≡◌, ℕ, ◌+◌, ◌-◌, ◌<◌, ◌≤◌, max, Bool, true, false, cond, List, [], ◌∷◌, ◌++◌, length, map, take, get_or, flat_map, if◌then◌else◌, Option, Some, None, refl, sym, subst, ap, ap₂, ◌∙◌, arith}
use Rattle.std.specs.Prelude.{◌&&◌, IfSome, count_by, nat_le, nat_lt, slice_index}
use Rattle.std.specs.List.{range_with_len}
use Rattle.std.proofs.lemmas.Bool.{le-ltb, lt-leb}
use Rattle.std.proofs.lemmas.List.{append-nil, map-id, take_more}
use Rattle.std.proofs.lemmas.List.Concat.{flat_map-append}
use Rattle.std.proofs.lemmas.List.FromFn.{length-range_with_len, sum_by-map-range_with_len_more}
use Rattle.std.proofs.lemmas.List.Sums.{count_by-le-length, sum_by-cons}
use Rattle.flat_model.specs.Fragments.Overlay.{Held, Map, Fragment, empty, brought, first_owned, fragment_end, is_within, lies, overlay, stays}
use Rattle.flat_model.specs.Fragments.Whole.{byte_of, bytes_below}
use Rattle.flat_model.specs.declared.fragment_key.FragmentKey.{FragmentKey}
use Rattle.play_why.specs.Joined.{IsReassembled, IsWithin, datagram_bytes, fragment_if, fragments_of, inserted_over, spots_map, one_more, outside, reach_from}
use Rattle.play_why.specs.declared.joined.Spot.{Spot}
use Rattle.play_why.specs.declared.parts.Part.{Part}

-- ---- counting

count_step : (p : ℕ → Bool) (a n : ℕ)
    → count_by p (range_with_len a (n + 1)) ≡ count_by p (range_with_len a n) + cond {A = ℕ} (p (a + n)) 1 0
count_step p a n =
    simp map-id at (sum_by-map-range_with_len_more (λ (x : ℕ). cond {A = ℕ} (p x) 1 0) (λ (x : ℕ). x) a n (a + n) refl)

pub count_more : (p : ℕ → Bool) (a n now new : ℕ) (b : Bool) → p (a + n) ≡ b
    → now ≡ count_by p (range_with_len a n) → new ≡ one_more b now → new ≡ count_by p (range_with_len a (n + 1))
count_more p a n now new true t e f =
    let one : cond {A = ℕ} (p (a + n)) 1 0 ≡ 1 = ap (λ x. cond {A = ℕ} x 1 0) t in
    omega (arith, count_step p a n, one, e, f)
count_more p a n now new false t e f =
    let none : cond {A = ℕ} (p (a + n)) 1 0 ≡ 0 = ap (λ x. cond {A = ℕ} x 1 0) t in
    omega (arith, count_step p a n, none, e, f)

pub one_more_most : (b : Bool) (now new n : ℕ) → new ≡ one_more b now → now ≤ n → new ≤ n + 1
one_more_most true now new n e less = omega (arith, e, less)
one_more_most false now new n e less = omega (arith, e, less)

count_same : (p q : ℕ → Bool) (xs : List ℕ) → ((k : ℕ) → p k ≡ q k) → count_by p xs ≡ count_by q xs
count_same p q [] same = refl
count_same p q (x ∷ xs) same =
    let one : cond {A = ℕ} (p x) 1 0 ≡ cond {A = ℕ} (q x) 1 0 = ap (λ (b : Bool). cond {A = ℕ} b 1 0) (same x) in
    omega (
      arith,
      sum_by-cons (λ k. cond {A = ℕ} (p k) 1 0) x xs,
      sum_by-cons (λ k. cond {A = ℕ} (q k) 1 0) x xs,
      one,
      count_same p q xs same,
    )

-- ---- one fragment

pub lies_inside : (bytes : Map) (f : Fragment) (k first : ℕ) (old : Option Held) → f.more ≡ false → bytes k ≡ old
    → is_within f k ≡ true → first_owned bytes f ≡ first
    → (if stays f.offset old then old
    else Some (record {
      byte = slice_index f.bytes (k - f.offset);
      piece = record { first = first; more = f.more; weight = f.weight };
    })) ≡ overlay bytes f k
unfolding overlay
lies_inside bytes f k first old m e w o = rw (e, w, o) refl

pub lies_outside : (bytes : Map) (f : Fragment) (k : ℕ) (old : Option Held) → bytes k ≡ old → is_within f k ≡ false
    → outside old f.offset (fragment_end f) ≡ overlay bytes f k
unfolding overlay
lies_outside bytes f k None e w = rw (e, w) refl
lies_outside bytes f k (Some held) e w = rw (e, w) refl

-- if no byte was at an offset after the fragment, there still is none
pub none_past : (bytes : Map) (f : Fragment) (k : ℕ) → fragment_end f ≤ k → bytes k ≡ None → overlay bytes f k ≡ None
none_past bytes f k past none =
    sym (lies_outside bytes f k None none (outside_range (nat_le f.offset k) (nat_lt k (fragment_end f))
    (le-ltb k (fragment_end f) (omega arith))))
  where
    outside_range : (a b : Bool) → b ≡ false → (a && b) ≡ false
    outside_range true b e = e
    outside_range false b e = refl

-- a fragment after all bytes changes nothing before it
pub unchanged : (bytes : Map) (f : Fragment) (k n : ℕ) → IfSome (bytes k) (λ held. held.piece.first ≤ n) → n ≤ f.offset
    → k < f.offset → bytes k ≡ overlay bytes f k
unchanged bytes f k n first behind before = go (bytes k) refl first
  where
    same : (old : Option Held) → IfSome old (λ held. held.piece.first ≤ n) → old ≡ outside old f.offset (fragment_end f)
    same None h = refl
    same (Some held) h = rw (le-ltb f.offset held.piece.first (omega (arith, h, behind))) refl

    go : (old : Option Held) → bytes k ≡ old → IfSome old (λ held. held.piece.first ≤ n) → bytes k ≡ overlay bytes f k
    go old e h =
        e ∙ same old h
        ∙ lies_outside bytes f k old e (ap (λ (b : Bool). b && nat_lt k (fragment_end f)) (lt-leb f.offset k before))

owned_most : (bytes : Map) (f : Fragment) → first_owned bytes f ≤ fragment_end f
unfolding first_owned
owned_most bytes f =
    omega (
      arith,
      count_by-le-length (λ offset. stays f.offset (bytes offset)) (range_with_len f.offset (length f.bytes)),
      length-range_with_len f.offset (length f.bytes),
    )

first_most : (bytes : Map) (f : Fragment) (k n : ℕ) → IfSome (bytes k) (λ held. held.piece.first ≤ n)
    → fragment_end f ≤ n → IfSome (overlay bytes f k) (λ held. held.piece.first ≤ n)
unfolding overlay
first_most bytes f k n first end = go (is_within f k) (bytes k) first
  where
    owned : first_owned bytes f ≤ n
    owned = omega (arith, owned_most bytes f, end)

    go : (within : Bool) (old : Option Held) → IfSome old (λ held. held.piece.first ≤ n)
        → IfSome (lies bytes f k within old) (λ held. held.piece.first ≤ n)
    go true None h = owned
    go true (Some held) h =
        elim (nat_le held.piece.first f.offset) as (λ (s : Bool).
        IfSome (if s then Some held else Some (brought bytes f k)) (λ it. it.piece.first ≤ n))
        [ true ↦ h | false ↦ owned ]
    go false None h = tt
    go false (Some held) h =
        elim (nat_lt f.offset held.piece.first && nat_lt held.piece.first (fragment_end f)) as (λ (s : Bool).
        (if s then record held { piece = record (held.piece) { first = fragment_end f } } else held).piece.first ≤ n)
        [ true ↦ end | false ↦ h ]

-- all pieces begin within the reach of the fragments
pub firsts_most : (old new : List (Option Spot)) (reach later : ℕ) (f : Fragment)
    → ((k : ℕ) → spots_map new k ≡ overlay (spots_map old) f k) → later ≡ max reach (fragment_end f)
    → IsWithin old reach → (k : ℕ) → IfSome (spots_map new k) (λ held. held.piece.first ≤ later)
firsts_most old new reach later f inserted is within k =
    subst (λ (held : Option Held). IfSome held (λ it. it.piece.first ≤ later)) (sym (inserted k))
    (first_most (spots_map old) f k later (further (spots_map old k) (within.firsts k)) (omega (arith, is)))
  where
    further : (held : Option Held) → IfSome held (λ it. it.piece.first ≤ reach)
        → IfSome held (λ it. it.piece.first ≤ later)
    further None h = tt
    further (Some it) h = omega (arith, is, h)

-- ---- equal maps give equal results

first_same : (a b : Map) (f : Fragment) → ((k : ℕ) → a k ≡ b k) → first_owned a f ≡ first_owned b f
unfolding first_owned
first_same a b f same =
    ap (λ (n : ℕ). f.offset + n)
    (count_same (λ offset. stays f.offset (a offset)) (λ offset. stays f.offset (b offset))
    (range_with_len f.offset (length f.bytes)) (λ k. ap (λ (held : Option Held). stays f.offset held) (same k)))

lies_same : (a b : Map) (f : Fragment) (k : ℕ) (within : Bool) (old : Option Held) → first_owned a f ≡ first_owned b f
    → lies a f k within old ≡ lies b f k within old
lies_same a b f k true None e = rw e refl
lies_same a b f k true (Some held) e =
    elim (nat_le held.piece.first f.offset) as (λ (s : Bool).
    (if s then Some held else Some (brought a f k)) ≡ (if s then Some held else Some (brought b f k)))
    [ true ↦ refl | false ↦ rw e refl ]
lies_same a b f k false None e = refl
lies_same a b f k false (Some held) e = refl

overlay_same : (a b : Map) (f : Fragment) (k : ℕ) → ((k : ℕ) → a k ≡ b k) → overlay a f k ≡ overlay b f k
unfolding overlay
overlay_same a b f k same =
    ap (λ (old : Option Held). lies a f k (is_within f k) old) (same k)
    ∙ lies_same a b f k (is_within f k) (b k) (first_same a b f same)

-- ---- one more fragment

inserted_more : (bytes : Map) (fs : List Fragment) (f : Fragment) (k : ℕ)
    → overlay (inserted_over bytes fs) f k ≡ inserted_over bytes (fs ++ f ∷ []) k
inserted_more bytes [] f k = refl
inserted_more bytes (g ∷ fs) f k = inserted_more (overlay bytes g) fs f k

reach_more : (n : ℕ) (fs : List Fragment) (f : Fragment)
    → max (reach_from n fs) (fragment_end f) ≡ reach_from n (fs ++ f ∷ [])
reach_more n [] f = refl
reach_more n (g ∷ fs) f = reach_more (max n (fragment_end g)) fs f

pub table_more : (old new : List (Option Spot)) (reach later : ℕ) (f : Fragment) (fs : List Fragment)
    → ((k : ℕ) → spots_map new k ≡ overlay (spots_map old) f k) → later ≡ max reach (fragment_end f) → IsReassembled
    old reach fs
    → IsReassembled new later (fs ++ f ∷ [])
table_more old new reach later f fs inserted is table = record {
  map = λ k. inserted k ∙ overlay_same (spots_map old) (inserted_over empty fs) f k table.map ∙ inserted_more empty fs
      f k;
  reach_is = is ∙ ap (λ (n : ℕ). max n (fragment_end f)) table.reach_is ∙ reach_more 0 fs f;
}

pub parts_more : (key : FragmentKey) (parts : List Part) (i : ℕ) (part : Part) → i < length parts
    → part ≡ get_or parts i part
    → fragments_of key (take i parts) ++ fragment_if key part ≡ fragments_of key (take (i + 1) parts)
parts_more key parts i part less is =
    sym (ap (λ (ps : List Part). flat_map (fragment_if key) ps) (take_more parts i part less)
    ∙ flat_map-append (fragment_if key) (take i parts) (get_or parts i part ∷ [])
    ∙ ap (λ (gs : List Fragment). flat_map (fragment_if key) (take i parts) ++ gs)
    (append-nil (fragment_if key (get_or parts i part)))
    ∙ ap (λ (it : Part). flat_map (fragment_if key) (take i parts) ++ fragment_if key it) (sym is))

-- ---- all bytes

map_same : (f g : ℕ → ℕ) (xs : List ℕ) → ((k : ℕ) → f k ≡ g k) → map f xs ≡ map g xs
map_same f g [] same = refl
map_same f g (x ∷ xs) same = ap₂ (λ (y : ℕ) (ys : List ℕ). y ∷ ys) (same x) (map_same f g xs same)

pub bytes_are : (spots : List (Option Spot)) (reach : ℕ) (fs : List Fragment) → IsReassembled spots reach fs
    → bytes_below (spots_map spots) reach ≡ datagram_bytes fs
unfolding datagram_bytes
bytes_are spots reach fs table =
    map_same (λ k. byte_of (spots_map spots k)) (λ k. byte_of (inserted_over empty fs k)) (range_with_len 0 reach)
    (λ k. ap (λ (held : Option Held). byte_of held) (table.map k))
    ∙ ap (λ (n : ℕ). bytes_below (inserted_over empty fs) n) table.reach_is
