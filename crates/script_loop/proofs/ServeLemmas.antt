-- From the unfinished line to the outcome of serving a script.
use Rattle.std.proofs.Common.{◌≡◌, ℕ, List, [], ◌∷◌, ◌++◌, Option, Result, Ok, Err, inl, inr, refl, sym, ap, ◌∙◌, append_assoc, append-nil, arith, subst}
use Rattle.std.specs.Io.KnownBytes.{Appends, Consumes, IsAtEnd}
use Rattle.std.proofs.KnownBytes.{Appends-trans, Consumes-trans}
use Rattle.flat_model.specs.Scripts.Lines.{whole_lines, begun_line, last_line, lines}
use Rattle.script_loop.specs.Streams.{Sends, reader_failures}
use Rattle.script_loop.specs.Serves.{Serves, ReadsAndWrites, IsServed}
use Rattle.script_loop.specs.Inside.{Answered, TakesChunk}
use Rattle.script_loop.specs.declared.fault.RunFault.{RunFault}
use Rattle.script_loop.specs.declared.fault.RunFault.TheVariants.{Read, Write, Memory, TooManyLines, BadSizes, BadConfig}
use Rattle.script_loop.proofs.PrintLemmas.{Prints-push, Prints-same}

pub Answered-start : {S : Type 0} (gives : S → List ℕ → List ℕ → S → Type 0) (begin : S)
    → Answered gives begin begin [] [] 0 []
unfolding whole_lines begun_line
Answered-start gives begin = record {
  begun = refl;
  counted = refl;
  within = λ k h. absurd (omega arith);
  printed = (refl, refl);
  last = λ e. refl;
}

pub Moves-then : (a b c w v u : Option (List ℕ)) (seen more written further : List ℕ)
    → ReadsAndWrites a b seen w v written → Consumes b c more → Appends v u further
    → ReadsAndWrites a c (seen ++ more) w u (written ++ further)
Moves-then a b c w v u seen more written further m read sent = record {
  consumed = Consumes-trans a b c seen more m.consumed read;
  appended = Appends-trans w v u written further m.appended sent;
}

Moves-same : (a b w v : Option (List ℕ)) (seen seen' written : List ℕ) → seen ≡ seen'
    → ReadsAndWrites a b seen w v written
    → ReadsAndWrites a b seen' w v written
Moves-same a b w v seen seen' written e m = subst (λ (s : List ℕ). ReadsAndWrites a b s w v written) e m

last_line-some : (line : List ℕ) → (line ≡ [] → ⊥) → last_line line ≡ line ∷ []
last_line-some [] some = absurd (some refl)
last_line-some (b ∷ bytes) some = refl

whole-lines-last : (seen line : List ℕ) → line ≡ begun_line seen → (line ≡ [] → ⊥)
    → whole_lines seen ++ line ∷ [] ≡ lines seen
whole-lines-last seen line e some =
    ap (λ (t : List (List ℕ)). whole_lines seen ++ t) (sym (last_line-some line some) ∙ ap last_line e)

pub Serves-stop : {S : Type 0} (gives : S → List ℕ → List ℕ → S → Type 0) (begin now : S)
    (a b c w v u : Option (List ℕ))
    (seen chunk written line : List ℕ) (e : RunFault)
    → ReadsAndWrites a b seen w v written → Consumes b c chunk
    → TakesChunk gives begin now seen chunk written v u [] line (Err e)
    → Serves gives begin now a c w u (Err e)
Serves-stop gives begin now a b c w v u seen chunk written line Write m read h = (
  seen ++ h.0,
  h.1,
  written ++ h.2,
  h.3,
  Moves-same a c w u _ _ _ (ap (λ (t : List ℕ). seen ++ t) h.4 ∙ sym (append_assoc seen h.0 h.1))
      (Moves-then a b c w v u seen chunk written h.2 m read h.5),
  h.6,
  inl h.7,
)
Serves-stop gives begin now a b c w v u seen chunk written line TooManyLines m read h = (
  seen ++ h.0,
  h.1,
  h.2,
  written ++ h.3,
  Moves-same a c w u _ _ _ (ap (λ (t : List ℕ). seen ++ t) h.4 ∙ sym (append_assoc seen h.0 (h.1 ∷ h.2)))
      (Moves-then a b c w v u seen chunk written h.3 m read h.7),
  h.5,
  h.6,
  h.8,
)
Serves-stop gives begin now a b c w v u seen chunk written line Read m read h = absurd h
Serves-stop gives begin now a b c w v u seen chunk written line Memory m read h = absurd h
Serves-stop gives begin now a b c w v u seen chunk written line BadSizes m read h = absurd h
Serves-stop gives begin now a b c w v u seen chunk written line BadConfig m read h = absurd h

-- the bytes after the last byte 10, if the reader has no more
pub Serves-last : {S : Type 0} (gives : S → List ℕ → List ℕ → S → Type 0) (begin now new : S)
    (a b c w v u : Option (List ℕ))
    (seen line written : List ℕ) (count : ℕ) (text : List ℕ) (r : Result Unit RunFault)
    → ReadsAndWrites a b seen w v written → Consumes b c [] → IsAtEnd c
    → Answered gives begin now seen line count written
    → (line ≡ [] → ⊥)
    → gives now line text new → Sends v u text r
    → Serves gives begin new a c w u r
Serves-last gives begin now new a b c w v u seen line written count text (Ok done) m read end h some to sent = (
  seen,
  written ++ text,
  Moves-same a c w u _ _ _ (append-nil seen) (Moves-then a b c w v u seen [] written _ m read sent),
  end,
  h.within,
  Prints-same gives begin new _ _ _ _ (whole-lines-last seen line h.begun some) refl
      (Prints-push gives begin now new (whole_lines seen) written line text h.printed to),
)
Serves-last gives begin now new a b c w v u seen line written count text (Err Write) m read end h some to sent = (
  seen,
  [],
  written ++ sent.0,
  sent.1,
  Moves-then a b c w v u seen [] written _ m read sent.3,
  h.within,
  inr (
    refl,
    end,
    Prints-same gives begin new _ _ _ _ (whole-lines-last seen line h.begun some)
        (ap (λ (t : List ℕ). written ++ t) sent.2 ∙ sym (append_assoc written sent.0 sent.1))
        (Prints-push gives begin now new (whole_lines seen) written line text h.printed to),
  ),
)
Serves-last gives begin now new a b c w v u seen line written count text (Err Read) m read end h some to sent =
    absurd sent
Serves-last gives begin now new a b c w v u seen line written count text (Err Memory) m read end h some to sent =
    absurd sent
Serves-last gives begin now new a b c w v u seen line written count text (Err TooManyLines) m read end h some to sent =
    absurd sent
Serves-last gives begin now new a b c w v u seen line written count text (Err BadSizes) m read end h some to sent =
    absurd sent
Serves-last gives begin now new a b c w v u seen line written count text (Err BadConfig) m read end h some to sent =
    absurd sent

-- a chunk doesn't end with a fault of the reader or of boot
pub chunk-fault : {S : Type 0} (gives : S → List ℕ → List ℕ → S → Type 0) (begin now : S) (seen chunk written : List ℕ)
    (w v : Option (List ℕ)) (line : List ℕ) (e : RunFault)
    → TakesChunk gives begin now seen chunk written w v [] line (Err e)
    → (reader_failures (Err e) ≡ 0) × IsServed (Err e)
chunk-fault gives begin now seen chunk written w v line Write h = (refl, tt)
chunk-fault gives begin now seen chunk written w v line TooManyLines h = (refl, tt)
chunk-fault gives begin now seen chunk written w v line Read h = absurd h
chunk-fault gives begin now seen chunk written w v line Memory h = absurd h
chunk-fault gives begin now seen chunk written w v line BadSizes h = absurd h
chunk-fault gives begin now seen chunk written w v line BadConfig h = absurd h
