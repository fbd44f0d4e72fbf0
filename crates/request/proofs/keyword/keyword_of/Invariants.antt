use Rattle.std.proofs.Common.{◌≡◌, ℕ, ◌<◌, slice_index_or}
use Rattle.request.specs.Inside.{word_of}
use Rattle.request.specs.declared.keyword.Keyword.TheVariants as line
use Rattle.request.proofs.keyword.keyword_of.Given as goal

-- none of the keywords so far is the word
abbrev pub invariant-loop-keyword : goal.invariant-loop-keyword
invariant-loop-keyword l =
    (k : ℕ) → k < l.keyword-index → word_of (slice_index_or l.keyword-items k line.Socket) ≡ l.word → ⊥
