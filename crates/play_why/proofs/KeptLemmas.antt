-- One more unfinished datagram.
use Rattle.std.proofs.Common.{◌≡◌, ℕ, ◌+◌, Bool, false, List, refl, sym, ap, ◌∙◌, add-one}
use Rattle.std.specs.Prelude.{◌||◌}
use Rattle.flat_model.specs.Machine.State.{Unfinished}
use Rattle.flat_model.specs.declared.fragment_key.FragmentKey.{FragmentKey}
use Rattle.ip_reass.specs.Questions.{nth_unfinished}
use Rattle.play_why.specs.Kept.{has_same_key, unfinished_below}

pub none_unfinished : (key : FragmentKey) (us : List Unfinished) → false ≡ unfinished_below 0 key us
unfolding unfinished_below
none_unfinished key us = refl

pub one_more_unfinished : (n : ℕ) (key : FragmentKey) (us : List Unfinished) (was now : Bool) → was ≡ unfinished_below n key us
    → now ≡ (was || has_same_key key (nth_unfinished n us)) → now ≡ unfinished_below (n + 1) key us
unfolding unfinished_below
one_more_unfinished n key us was now e f =
    f ∙ ap (λ (b : Bool). b || has_same_key key (nth_unfinished n us)) e
    ∙ ap (λ (k : ℕ). unfinished_below k key us) (sym (add-one n))
