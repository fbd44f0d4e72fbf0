-- Definitions that only this crate uses.
use Rattle.play_forms.specs.Advice as advice
use Rattle.play_forms.specs.declared.advice.Advice.{Advice}
use Rattle.play_forms.specs.declared.advice.Advice.TheVariants.{Empty, Unknown, OfHost, Wrong, Missing, More, Otherwise}

-- the advice that a value means
abbrev pub advice_of : Advice → advice.Advice
advice_of Empty = advice.Empty
advice_of (Unknown word near) = advice.Unknown word.now near
advice_of (OfHost asked) = advice.OfHost asked
advice_of (Wrong word wanted asked) = advice.Wrong word.now wanted asked
advice_of (Missing wanted asked) = advice.Missing wanted asked
advice_of (More word asked) = advice.More word.now asked
advice_of (Otherwise asked) = advice.Otherwise asked
