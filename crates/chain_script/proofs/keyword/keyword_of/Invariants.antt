use Rattle.std.proofs.Common.{◌≡◌, ℕ, ◌<◌, slice_index_or}
use Rattle.chain_script.specs.Inside.Calls.{word_of}
use Rattle.chain_script.specs.declared.keyword.Keyword.TheVariants as word
use Rattle.chain_script.proofs.keyword.keyword_of.Given as goal

-- none of the keywords so far is the word
abbrev pub invariant-loop-keyword : goal.invariant-loop-keyword
invariant-loop-keyword l =
    (k : ℕ) → k < l.keyword-index → word_of (slice_index_or l.keyword-items k word.User) ≡ l.word → ⊥
