-- If no block has a receive limit, that of an open descriptor's block is 0.
use Rattle.std.proofs.Common.{◌≡◌, ℕ, Bool, true, false, cond, List, [], ◌∷◌, Some, None, refl, sym, ap, subst, ◌∙◌, option_map}
use Rattle.std.specs.Prelude.{find, IsSome, ◌==◌}
use Rattle.std.proofs.lemmas.Bool.{eqb-true, not-false}
use Rattle.std.proofs.lemmas.Option.{none-some}
use Rattle.pcb_table.specs.declared.block.Block.{Block}
use Rattle.pcb_table.specs.Apart.{has_fd}
use Rattle.pcb_table.specs.Inside.Fields.{has_limit}

abbrev limit_of : Block → ℕ
limit_of b = b.receive_limit

pub unlimited : (fd : ℕ) (bs : List Block) → find has_limit bs ≡ None → IsSome (find (has_fd fd) bs)
    → option_map limit_of (find (has_fd fd) bs) ≡ Some 0
unlimited fd [] e some = cc some
unlimited fd (b ∷ bs) e some = go (unlimited fd bs) (has_limit b) refl (has_fd fd b) refl
  where
    go : (find has_limit bs ≡ None → IsSome (find (has_fd fd) bs) → option_map limit_of (find (has_fd fd) bs) ≡ Some 0)
        → (l : Bool) → has_limit b ≡ l → (f : Bool) → has_fd fd b ≡ f
        → option_map limit_of (find (has_fd fd) (b ∷ bs)) ≡ Some 0
    go later true is f named =
        absurd (none-some b (sym e ∙ ap (λ (t : Bool). cond t (Some b) (find has_limit bs)) is))
    go later false is true named =
        (λ i. option_map limit_of (cond (named i) (Some b) (find (has_fd fd) bs)))
        ∙ ap Some (eqb-true b.receive_limit 0 (not-false (b.receive_limit == 0) is))
    go later false is false named =
        (λ i. option_map limit_of (cond (named i) (Some b) (find (has_fd fd) bs)))
        ∙ later (sym (ap (λ (t : Bool). cond t (Some b) (find has_limit bs)) is) ∙ e)
        (subst (λ (t : Bool). IsSome (cond t (Some b) (find (has_fd fd) bs))) named some)
