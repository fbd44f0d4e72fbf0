use Rattle.std.proofs.Common.{◌≡◌, ℕ, ◌<◌, ◌≤◌, ◌⊎◌, inl, inr, List, Option, None, rules, refl, ap, sym, ◌∙◌, arith}
use Rattle.std.proofs.lemmas.Bool.{cases_lt}
use Rattle.flat_model.specs.Fragments.Overlay.{Fragment, fragment_end, overlay}
use Rattle.play_why.specs.Joined.{as_fragment, spot_held, spots_map}
use Rattle.play_why.specs.declared.joined.Spot.{Spot}
use Rattle.play_why.proofs.JoinLemmas.{firsts_most, none_past, unchanged}
use Rattle.play_why.proofs.joined.insert.Invariants.{IsInserted}
use Rattle.play_why.proofs.joined.insert.Goals as goal

still_none : (old new : List (Option Spot)) (f : Fragment) (i k : ℕ) → IsInserted old new f i → i ≤ k
    → spots_map old k ≡ None → spots_map new k ≡ None
still_none old new f i k is past none = ap spot_held (is.ahead k past) ∙ none

all_inserted : (old new : List (Option Spot)) (f : Fragment) (i k : ℕ) → IsInserted old new f i → fragment_end f ≤ i
    → ((j : ℕ) → i ≤ j → spots_map old j ≡ None) → spots_map new k ≡ overlay (spots_map old) f k
all_inserted old new f i k is inside past = go (cases_lt k i)
  where
    go : (k < i) ⊎ (i ≤ k) → spots_map new k ≡ overlay (spots_map old) f k
    go (inl less) = is.below k less
    go (inr more) =
        still_none old new f i k is more (past k more)
        ∙ sym (none_past (spots_map old) f k (omega (arith, inside, more)) (past k more))

pub places-init : goal.places-init
places-init c = record {
  below = λ k h. unchanged (spots_map c.args.spots.now) (as_fragment c.args.offset c.args.bytes.now) k c.args.reach
      (c.requires.within.firsts k) (c.first_changed-k.ensures.behind (omega (arith, h)))
      (omega (arith, h, c.first_changed-k.ensures.most));
  ahead = λ k h. refl;
}

pub returns-clause-map : goal.returns-clause-map
returns-clause-map c =
    λ k. all_inserted _ _ _ c.places.k k c.places.invariant (omega arith)
    (λ j h. c.requires.within.past j (omega (arith, h)))

pub returns-clause-within : goal.returns-clause-within
returns-clause-within c = record {
  len = omega arith;
  most = omega arith;
  past = λ k h. still_none _ _ _ c.places.k k c.places.invariant (omega (arith, h))
      (c.requires.within.past k (omega (arith, h)));
  firsts =
      firsts_most c.args.spots.now c.places.spots c.args.reach c.max-end.result
      (as_fragment c.args.offset c.args.bytes.now)
      (λ k. all_inserted _ _ _ c.places.k k c.places.invariant (omega arith)
      (λ j h. c.requires.within.past j (omega (arith, h)))) (search rules) c.requires.within;
}
