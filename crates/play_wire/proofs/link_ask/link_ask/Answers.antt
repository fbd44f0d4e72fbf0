use Rattle.std.proofs.Common.{◌∙◌, inl, inr, sym}
use Rattle.play_wire.specs.Inside.{link_asked}
use Rattle.play_wire.proofs.link_ask.link_ask.Goals as goal

pub returns-else-is_asked-clause-none : goal.returns-else-is_asked-clause-none
returns-else-is_asked-clause-none c =
    inr (link_asked c.in-Some.ask, c.in-Some.ensures.is, sym c.is_asked.ensures ∙ c.if-is_asked.false)

pub returns-in-None-clause-none : goal.returns-in-None-clause-none
returns-in-None-clause-none c = inl c.in-None.ensures.is
