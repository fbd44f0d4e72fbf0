use Rattle.std.proofs.Common.{◌≡◌, ℕ, ◌+◌}
use Rattle.in_cksum.specs.Inside.{CountsAs, swapped_sum}
use Rattle.in_cksum.proofs.Rests.{last_none, last_one, last_three, last_two, left_last, rest_counts}
use Rattle.in_cksum.proofs.sum_rest.Goals as goal
use Rattle.in_cksum.proofs.sum_rest.Goals.{After-add_four-sum}

-- the sum so far, and the words of the last bytes
counted : (c : After-add_four-sum) (value : ℕ)
    → value ≡ c.add_four-sum.result.0 + swapped_sum c.add_four-sum.result.1.now
    → CountsAs value (swapped_sum c.args.bytes.now)
counted c value last =
    rest_counts _ _ _ _ _ _ _ _ _ _ c.add_eight-sum.ensures.added c.add_eight-sum-2.ensures.added
    c.add_eight-sum-3.ensures.added c.add_four-sum.ensures.added last

pub returns-in-empty-clause-counts : goal.returns-in-empty-clause-counts
returns-in-empty-clause-counts c =
    counted (goal.at.returns-in-empty-clause-counts c).After-add_four-sum _ (last_none _ _ c.in-empty.len_below)

pub returns-in-len1-clause-counts : goal.returns-in-len1-clause-counts
returns-in-len1-clause-counts c =
    counted (goal.at.returns-in-len1-clause-counts c).After-add_four-sum _
    (last_one _ _ c.in-len1.len_at_least c.in-len1.len_below)

pub returns-in-len2-clause-counts : goal.returns-in-len2-clause-counts
returns-in-len2-clause-counts c =
    counted (goal.at.returns-in-len2-clause-counts c).After-add_four-sum _
    (last_two _ _ _ c.in-len2.len_at_least c.in-len2.len_below c.from_le_bytes.ensures)

pub returns-in-len3-up-clause-counts : goal.returns-in-len3-up-clause-counts
returns-in-len3-up-clause-counts c =
    counted (goal.at.returns-in-len3-up-clause-counts c).After-add_four-sum _
    (last_three _ _ _ c.in-len3-up.len_at_least
    (left_last _ _ _ _ _ c.requires c.add_eight-sum.ensures.left c.add_eight-sum-2.ensures.left
    c.add_eight-sum-3.ensures.left c.add_four-sum.ensures.left) c.from_le_bytes-in-len3-up.ensures)
