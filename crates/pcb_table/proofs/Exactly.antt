-- The youngest block without a wildcard is the best one, if that has none.
use Rattle.std.proofs.Common.{◌≡◌, ◌≢◌, ℕ, ◌==◌, List, Option, Some, None, refl, sym, ◌∙◌, arith}
use Rattle.std.specs.Option.{option_or}
use Rattle.std.proofs.lemmas.Bool.{and_parts, eqb-true}
use Rattle.std.proofs.lemmas.Option.{none-some}
use Rattle.flat_model.specs.declared.lookup_key.LookupKey.{LookupKey}
use Rattle.flat_model.specs.Sockets.Lookup.{wildcards}
use Rattle.pcb_table.specs.declared.block.Block.{Block}
use Rattle.pcb_table.specs.Apart.{does_match, has_score, plain}
use Rattle.pcb_table.specs.Inside.Search.{best_block, youngest_block}
use Rattle.pcb_table.proofs.Places.{find_gives}

score_of : (k : ℕ) (q : LookupKey) (bs : List Block) (b : Block) → youngest_block k q bs ≡ Some b
    → wildcards q (plain b) ≡ k
score_of k q bs b e =
    let met = (find_gives (has_score k q) bs b e).3 in
    eqb-true (wildcards q (plain b)) k (and_parts (does_match q b) (wildcards q (plain b) == k) met).1

pub exact_none : (q : LookupKey) (bs : List Block) → best_block q bs ≡ None → youngest_block 0 q bs ≡ None
exact_none q bs e = go (youngest_block 0 q bs) refl e
  where
    go : (o : Option Block) → youngest_block 0 q bs ≡ o
        → option_or o (option_or (youngest_block 1 q bs) (youngest_block 2 q bs)) ≡ None → youngest_block 0 q bs ≡ None
    go None is e = is
    go (Some b) is e = absurd (none-some b (sym e))

-- what is best without a wildcard
pub exact_is : (q : LookupKey) (bs : List Block) (b : Block) → best_block q bs ≡ Some b → wildcards q (plain b) ≡ 0
    → youngest_block 0 q bs ≡ Some b
exact_is q bs b e none = go (youngest_block 0 q bs) (youngest_block 1 q bs) refl refl e
  where
    go : (x y : Option Block) → youngest_block 0 q bs ≡ x → youngest_block 1 q bs ≡ y
        → option_or x (option_or y (youngest_block 2 q bs)) ≡ Some b → youngest_block 0 q bs ≡ Some b
    go (Some c) y is ey e = is ∙ e
    go None (Some c) is ey e = let one = score_of 1 q bs b (ey ∙ e) in absurd (omega (arith, one, none))
    go None None is ey e = let two = score_of 2 q bs b e in absurd (omega (arith, two, none))

-- what is best with one
pub exact_not : (q : LookupKey) (bs : List Block) (b : Block) → best_block q bs ≡ Some b → wildcards q (plain b) ≢ 0
    → youngest_block 0 q bs ≡ None
exact_not q bs b e some = go (youngest_block 0 q bs) refl e
  where
    go : (o : Option Block) → youngest_block 0 q bs ≡ o
        → option_or o (option_or (youngest_block 1 q bs) (youngest_block 2 q bs)) ≡ Some b
        → youngest_block 0 q bs ≡ None
    go None is e = is
    go (Some c) is e = absurd (some (score_of 0 q bs b (is ∙ e)))
