-- Laws of lines that request to be shown something.
use Rattle.std.proofs.Common.{◌≡◌, ℕ, ◌⊎◌, Bool, true, false, List, [], ◌∷◌, if◌then◌else◌, codes, bytes_eq, Option, Some, None, inl, inr, refl, ap, ◌∙◌}
use Rattle.std.proofs.lemmas.Slice.Eq.{bytes_eq-Decides}
use Rattle.flat_model.specs.Scripts.Grammar.{words}
use Rattle.play_show.specs.Topics.{topic_asked}
use Rattle.play_show.specs.declared.topic.Topic.{Topic}

chosen : (b : Bool) (t topic : Topic) (more : Option Topic) → (if b then Some t else more) ≡ Some topic
    → (b ≡ true) ⊎ (more ≡ Some topic)
chosen true t topic more e = inl refl
chosen false t topic more e = inr e

never : (topic : Topic) → None ≡ Some topic → ⊥
never topic e = cc

by_text : (plain text : List ℕ) (rest : List (List ℕ)) → words text ≡ codes "show" ∷ rest → bytes_eq plain text ≡ true
    → (more : List (List ℕ)) × (words plain ≡ codes "show" ∷ more)
by_text plain text rest is same = (rest, ap words ((bytes_eq-Decides plain text).0 same) ∙ is)

-- a line that requests to be shown something begins with the word `show`
pub begins_with_show : (plain : List ℕ) (topic : Topic) → topic_asked plain ≡ Some topic
    → (rest : List (List ℕ)) × (words plain ≡ codes "show" ∷ rest)
begins_with_show plain topic e =
    elim (chosen _ _ topic _ e) [
      | inl same ↦ by_text plain (codes "show sockets") (codes "sockets" ∷ []) refl same
      | inr more ↦ elim (chosen _ _ topic _ more) [
        | inl same ↦ by_text plain (codes "show unfinished") (codes "unfinished" ∷ []) refl same
        | inr more ↦ elim (chosen _ _ topic _ more) [
          | inl same ↦ by_text plain (codes "show queue") (codes "queue" ∷ []) refl same
          | inr more ↦ elim (chosen _ _ topic _ more) [
            | inl same ↦ by_text plain (codes "show counters") (codes "counters" ∷ []) refl same
            | inr more ↦ elim (chosen _ _ topic _ more) [
              | inl same ↦ by_text plain (codes "show pool") (codes "pool" ∷ []) refl same
              | inr none ↦ absurd (never topic none)
            ]
          ]
        ]
      ]
    ]
