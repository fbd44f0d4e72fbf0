-- Packets are added to those under way, one after another.
use Rattle.std.proofs.Common.{◌≡◌, ℕ, List, [], ◌∷◌, ◌++◌, take, refl, sym, ap, subst, ◌∙◌, append_assoc}
use Rattle.rand_pcg.specs.Lcg.{Lcg}
use Rattle.segment.specs.Chances.{chances_at, copies_before, entering, fate_of}
use Rattle.segment.specs.Flying.{Flying}
use Rattle.segment.specs.Tallies.{with_tally, tallied}
use Rattle.segment.specs.declared.tally.Tally.{Tally}
use Rattle.segment.specs.Inside.{AreSentBy, Enters}
use Rattle.segment.specs.declared.chances.Chances.{Chances}
use Rattle.segment.specs.declared.chances.Impairment.{Impairment}
use Rattle.segment.specs.declared.flight.Flight.{Flight}
use Rattle.segment.specs.declared.chances.Fate.{Fate}
use Rattle.segment.specs.declared.chances.Fate.TheVariants.{Lost, Once, Twice}
use Rattle.segment.proofs.Taking.{take_again}

copies-append : (fate : Fate) (f : Flying) (xs ys : List Flying)
    → copies_before fate f (xs ++ ys) ≡ copies_before fate f xs ++ ys
copies-append Lost f xs ys = refl
copies-append (Once wait) f xs ys = refl
copies-append (Twice first second) f xs ys = refl

entering-append : (chances : List Chances) (xs ys : List Flying) (g : Lcg)
    → entering chances (xs ++ ys) g
    ≡ (
      (entering chances xs g).0 ++ (entering chances ys (entering chances xs g).1).0,
      (entering chances ys (entering chances xs g).1).1,
    )
entering-append chances [] ys g = refl
entering-append chances (x ∷ xs) ys g =
    let fate : Fate × Lcg = fate_of (chances_at chances x.sender) g in
    let front : List Flying × Lcg = entering chances xs fate.1 in
    let back : List Flying × Lcg = entering chances ys front.1 in
    ap (λ (r : List Flying × Lcg). (copies_before fate.0 x r.0, r.1)) (entering-append chances xs ys fate.1)
    ∙ ap (λ (fs : List Flying). (fs, back.1)) (copies-append fate.0 x front.0 back.0)

tallied-append : (chances : List Chances) (xs ys : List Flying) (g : Lcg) (tallies : List Tally)
    → tallied chances (xs ++ ys) g tallies ≡ tallied chances ys (entering chances xs g).1 (tallied chances xs g tallies)
tallied-append chances [] ys g tallies = refl
tallied-append chances (x ∷ xs) ys g tallies =
    tallied-append chances xs ys (fate_of (chances_at chances x.sender) g).1
    (with_tally x.sender (fate_of (chances_at chances x.sender) g).0 tallies)

take_short : (room : ℕ) (first : List Flying) → first ≡ take room first → first ≡ take room (first ++ [])
take_short room first short = short ∙ ap (take room) (sym (append_nil first))
  where
    append_nil : (xs : List Flying) → xs ++ [] ≡ xs
    append_nil [] = refl
    append_nil (x ∷ xs) = ap (λ ys. x ∷ ys) (append_nil xs)

pub none_enter : (room : ℕ) (first : List Flying) (i : Impairment) → first ≡ take room first
    → Enters room room first first i i []
none_enter room first i short =
    record { tallies = refl; taken = take_short room first short; random = refl; chances = refl; same_room = refl }

pub more_enter : {r s t : ℕ} {first mid last : List Flying} {i j k : Impairment} {xs ys zs : List Flying}
    → Enters r s first mid i j xs → Enters s t mid last j k ys → zs ≡ xs ++ ys → Enters r t first last i k zs
more_enter {r} {s} {t} {first} {mid} {last} {i} {j} {k} {xs} {ys} {zs} before one is =
    let chances : List Chances = i.chances.items in
    let those : List Chances = j.chances.items in
    let equal : those ≡ chances = ap (λ v. v.items) before.chances in
    let front : List Flying × Lcg = entering chances xs i.random in
    let more : List Flying × Lcg = entering chances ys front.1 in
    let all : entering chances zs i.random ≡ (front.0 ++ more.0, more.1) =
    ap (λ (fs : List Flying). entering chances fs i.random) is ∙ entering-append chances xs ys i.random in
    let here : entering those ys j.random ≡ more =
    ap (λ (cs : List Chances). entering cs ys j.random) equal ∙ ap (entering chances ys) before.random in
    record {
      tallies = one.tallies
          ∙ ap (λ (cs : List Chances). tallied cs ys j.random j.tallies.items) equal
          ∙ ap (λ (g : Lcg). tallied chances ys g j.tallies.items) before.random
          ∙ ap (tallied chances ys front.1) before.tallies
          ∙ sym (tallied-append chances xs ys i.random i.tallies.items)
          ∙ ap (λ (fs : List Flying). tallied chances fs i.random i.tallies.items) (sym is);
      taken = one.taken
          ∙ ap (λ n. take n (mid ++ (entering those ys j.random).0)) before.same_room
          ∙ ap (λ (m : List Flying). take r (m ++ (entering those ys j.random).0)) before.taken
          ∙ ap (λ (e : List Flying × Lcg). take r (take r (first ++ front.0) ++ e.0)) here
          ∙ take_again r (first ++ front.0) more.0
          ∙ ap (take r) (append_assoc first front.0 more.0)
          ∙ ap (λ (e : List Flying × Lcg). take r (first ++ e.0)) (sym all);
      random =
          one.random ∙ ap (λ (e : List Flying × Lcg). e.1) here ∙ ap (λ (e : List Flying × Lcg). e.1) (sym all);
      chances = one.chances ∙ before.chances;
      same_room = one.same_room ∙ before.same_room;
    }

pub sent_moved : (f : Flight) (i : Impairment) (sent : List Flying) (a b : Flight) (j k : Impairment) → b ≡ a → k ≡ j
    → AreSentBy f i sent a j → AreSentBy f i sent b k
sent_moved f i sent a b j k same alike h =
    subst (λ x. AreSentBy f i sent x k) (sym same) (subst (λ y. AreSentBy f i sent a y) (sym alike) h)
