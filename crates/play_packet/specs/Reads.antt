-- The results of a reader of lines (this project's own).
use Rattle.std.specs.Prelude.{ℕ, Bool, true, false, List, ◌++◌, codes, Result, Ok, Err}
use Rattle.flat_model.specs.Scripts.Texts.{hex_text}
use Rattle.play_line.specs.declared.fault.SyntaxError.{SyntaxError}

-- the text that was written, or the error
abbrev pub put_or : {E : Type 0} → Result Unit E → List ℕ → Result (List ℕ) E
put_or (Ok done) text = Ok text
put_or (Err error) text = Err error

-- the plain line of words that describe this packet, or don't describe one
abbrev pub plain_or : List ℕ → Result Bool SyntaxError → List ℕ → Result (List ℕ) SyntaxError
plain_or words (Ok true) packet = Ok (codes "rx " ++ hex_text packet)
plain_or words (Ok false) packet = Ok words
plain_or words (Err error) packet = Err error
