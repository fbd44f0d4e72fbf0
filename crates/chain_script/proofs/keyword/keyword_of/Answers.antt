use Rattle.std.proofs.Common.{◌≡◌, ℕ, ◌∙◌, slice_index_or, arith}
use Rattle.std.proofs.lemmas.Bool.{false≢true}
use Rattle.std.proofs.lemmas.Slice.Eq.{bytes_eq-Decides}
use borrow.Author.Count.{below_more}
use Rattle.chain_script.specs.Inside.Calls.{word_of}
use Rattle.chain_script.specs.declared.keyword.Keyword.TheVariants as word
use Rattle.chain_script.specs.declared.keyword.TheConstants.{KEYWORDS}
use Rattle.chain_script.proofs.Forms.{keyword-none}
use Rattle.chain_script.proofs.keyword.keyword_of.Goals as goal

pub loop-keyword-init : goal.loop-keyword-init
loop-keyword-init c = λ k below. absurd (omega arith)

pub loop-keyword-preserved : goal.loop-keyword-preserved
loop-keyword-preserved c =
    below_more (λ (k : ℕ). word_of (slice_index_or KEYWORDS k word.User) ≡ c.args.word.now → ⊥)
    c.loop-keyword.keyword-index c.loop-keyword.invariant (λ same.
    let equal = (bytes_eq-Decides c.word.result.now c.args.word.now).1 (c.word.ensures ∙ same) in
    false≢true (c.if-eq.ensures ∙ equal))

pub returns : goal.returns
returns c = keyword-none c.args.word.now (λ k below. c.loop-keyword.invariant k (omega arith))
