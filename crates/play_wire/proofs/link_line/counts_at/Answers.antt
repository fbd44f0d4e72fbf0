use Rattle.std.proofs.Common.{◌∙◌, inl, inr, sym}
use Rattle.std.specs.Prelude.{slice_get}
use Rattle.flat_ether.specs.Links.{LinkState}
use Rattle.net_stack.specs.Stack.{StackView, state_of}
use Rattle.segment.specs.Inside.{view}
use Rattle.play_wire.proofs.LinkLemmas.{counted_so, none_is}
use Rattle.play_wire.proofs.link_line.counts_at.Goals as goal

pub returns-in_default-clause-counts : goal.returns-in_default-clause-counts
returns-in_default-clause-counts c =
    inl (none_is (λ (l : LinkState). l.tallies) (slice_get (view c.args.segment.now).links c.args.place)
    (sym c.link_tallies.ensures ∙ c.in_default.is))

pub returns-in_default-counters_at-clause-counts : goal.returns-in_default-counters_at-clause-counts
returns-in_default-counters_at-clause-counts c =
    inr (none_is (λ (s : StackView). (state_of s).counters) (slice_get (view c.args.segment.now).stacks c.args.place)
    (sym c.counters_at.ensures.is ∙ c.in_default-counters_at.is))

pub returns-clause-counts : goal.returns-clause-counts
returns-clause-counts c =
    counted_so c.args.place (view c.args.segment.now) c.in-Some-counters_at.stack c.in-Some.link
    (sym c.in-Some-counters_at.is ∙ c.counters_at.ensures.is) (sym c.in-Some.is ∙ c.link_tallies.ensures)
