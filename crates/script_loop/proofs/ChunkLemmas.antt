-- The unfinished line after one more byte.
use Rattle.std.proofs.Common.{◌≡◌, ◌≢◌, ℕ, zero, suc, ◌+◌, ◌<◌, ◌≤◌, ◌==◌, true, List, [], ◌∷◌, ◌++◌, length, take, drop, get_or, inl, inr, Option, refl, sym, ap, ◌∙◌, arith, append_assoc, append-nil, length-append, subst}
use Rattle.flat_model.specs.Scripts.Lines.{whole_lines, begun_line}
use Rattle.std.proofs.Common.{Ok, Err, Some, None}
use Rattle.std.proofs.KnownBytes.{Appends-nil, Appends-trans}
use Rattle.std.proofs.lemmas.Bool.{cases_lt, cases_eq}
use Rattle.std.proofs.lemmas.Grind.{common_steps}
use Rattle.std.specs.Io.KnownBytes.{Appends}
use Rattle.script_loop.specs.Streams.{Sends}
use Rattle.script_loop.specs.Serves.{GoesTooFar, StaysWithin}
use Rattle.script_loop.specs.declared.fault.RunFault.{RunFault}
use Rattle.script_loop.specs.declared.fault.RunFault.TheVariants.{Read, Write, Memory, TooManyLines, BadSizes, BadConfig}
use Rattle.script_loop.specs.Inside.{Answered, EndsNoLine, HasRoom, BreaksLimit, TakesPiece, TakesChunk, Flushes}
use Rattle.script_loop.proofs.LineLemmas.{whole_lines-end, whole_lines-more, begun_line-end, begun_line-more}
use Rattle.script_loop.proofs.PrintLemmas.{Prints-push, Prints-same}

-- ---- limits

-- one more byte that exceeds no limit keeps the input within the limits
StaysWithin-push : (seen : List ℕ) (b : ℕ) → StaysWithin seen → (GoesTooFar seen b → ⊥) → StaysWithin (seen ++ b ∷ [])
StaysWithin-push seen b within far k h too_far =
    elim (cases_lt k (length seen)) [
      | inl below ↦
          let front : take k (seen ++ b ∷ []) ≡ take k seen = grind (arith, common_steps) in
          let at : get_or (seen ++ b ∷ []) k 0 ≡ get_or seen k 0 = grind (arith, common_steps) in
          within k below (rw front at (rw at at too_far))
      | inr last ↦
          let here : k ≡ length seen = omega (arith, length-append seen (b ∷ [])) in
          let front : take k (seen ++ b ∷ []) ≡ seen = grind (arith, common_steps) in
          let at : get_or (seen ++ b ∷ []) k 0 ≡ b = grind (arith, common_steps) in
          far (rw front at (rw at at too_far))
    ]

-- a byte that neither follows the last line that is allowed nor makes a line too long
not_too_far : {S : Type 0} (gives : S → List ℕ → List ℕ → S → Type 0) (begin now : S) (seen line : List ℕ) (count : ℕ)
    (written : List ℕ) (b : ℕ) → Answered gives begin now seen line count written → count ≢ 10000000
    → (b ≢ 10 → length line ≢ 1048576) → GoesTooFar seen b → ⊥
not_too_far gives begin now seen line count written b h room short (inl full) = room (h.counted ∙ full.0)
not_too_far gives begin now seen line count written b h room short (inr long) =
    short long.1 (ap length h.begun ∙ long.0)

-- ---- one more byte

-- a byte within a line
pub Answered-more : {S : Type 0} (gives : S → List ℕ → List ℕ → S → Type 0) (begin now : S) (seen line : List ℕ)
    (count : ℕ)
    (written : List ℕ) (b : ℕ) → Answered gives begin now seen line count written → b ≢ 10 → count ≢ 10000000
    → length line ≢ 1048576 → Answered gives begin now (seen ++ b ∷ []) (line ++ b ∷ []) count written
Answered-more gives begin now seen line count written b h other room short = record {
  begun = rw (begun_line-more seen b other, h.begun) refl;
  counted = rw (whole_lines-more seen b other) h.counted;
  within = StaysWithin-push seen b h.within (not_too_far gives begin now seen line count written b h room (λ _. short));
  printed = rw (whole_lines-more seen b other) h.printed;
  last = λ e. absurd (room e);
}

-- the end of a line
pub Answered-end : {S : Type 0} (gives : S → List ℕ → List ℕ → S → Type 0) (begin now new : S) (seen line : List ℕ)
    (count : ℕ)
    (written : List ℕ) (text : List ℕ)
    → Answered gives begin now seen line count written → count ≢ 10000000 → gives now line text new
    → Answered gives begin new (seen ++ 10 ∷ []) [] (count + 1) (written ++ text)
Answered-end gives begin now new seen line count written text h room a =
    let this : gives now (begun_line seen) text new = rw (sym h.begun) a in record {
      begun = sym (begun_line-end seen);
      counted = rw (whole_lines-end seen, length-append, h.counted) refl;
      within =
          StaysWithin-push seen 10 h.within
          (not_too_far gives begin now seen line count written 10 h room (λ other. absurd (other refl)));
      printed =
          rw (whole_lines-end seen) (Prints-push gives begin now new (whole_lines seen) written (begun_line seen) text
          h.printed this);
      last = λ e. refl;
    }

pub Answered-same : {S : Type 0} (gives : S → List ℕ → List ℕ → S → Type 0) (begin now : S) (seen seen' line : List ℕ)
    (count : ℕ)
    (written written' : List ℕ) → seen ≡ seen' → written ≡ written'
    → Answered gives begin now seen line count written → Answered gives begin now seen' line count written'
Answered-same gives begin now seen seen' line count written written' e e' h =
    subst (λ (s : List ℕ). Answered gives begin now s line count written') e
    (subst (λ (t : List ℕ). Answered gives begin now seen line count t) e' h)

-- ---- several more bytes

-- the bytes before the first line end
pub no_end-take : (hay : List ℕ) (at : ℕ) → ((k : ℕ) → k < at → get_or hay k 0 ≢ 10) → EndsNoLine (take at hay)
no_end-take hay zero none = tt
no_end-take [] (suc at) none = tt
no_end-take (b ∷ hay) (suc at) none = (none 0 (omega arith), no_end-take hay at (λ k below. none (suc k) (omega arith)))

pub no_end-all : (hay : List ℕ) → ((k : ℕ) → k < length hay → get_or hay k 0 ≢ 10) → EndsNoLine hay
no_end-all [] none = tt
no_end-all (b ∷ hay) none = (none 0 (omega arith), no_end-all hay (λ k below. none (suc k) (omega arith)))

-- a search that found no byte 10 before `at`
pub first-none : (hay : List ℕ) (at : ℕ) → ((k : ℕ) → 0 ≤ k → k < at → (get_or hay k 0 == 10) ≡ true → ⊥) → (k : ℕ)
    → k < at → get_or hay k 0 ≢ 10
first-none hay at none k below is = none k (omega arith) below (rw is refl)

is_ten : (n : ℕ) → (n == 10) ≡ true → n ≡ 10
is_ten n e = grind arith

-- the byte 10 that it found
pub cut-at : (hay : List ℕ) (at : ℕ) → at < length hay → (get_or hay at 0 == 10) ≡ true
    → hay ≡ (take at hay ++ 10 ∷ []) ++ drop (suc at) hay
cut-at [] at below is = absurd (omega arith)
cut-at (b ∷ hay) zero below is = ap (λ (n : ℕ). n ∷ hay) (is_ten b is)
cut-at (b ∷ hay) (suc at) below is = ap (λ (t : List ℕ). b ∷ t) (cut-at hay at (omega arith) is)

pub cut-length : (hay part after : List ℕ) → hay ≡ (part ++ 10 ∷ []) ++ after
    → length hay ≡ (length part + 1) + length after
cut-length hay part after cut =
    let all = ap length cut in
    omega (arith, all, length-append (part ++ 10 ∷ []) after, length-append part (10 ∷ []))

-- bytes that don't end a line and are within the limits
pub Answered-part : {S : Type 0} (gives : S → List ℕ → List ℕ → S → Type 0) (begin now : S) (seen line : List ℕ)
    (count : ℕ)
    (written part : List ℕ) → Answered gives begin now seen line count written → EndsNoLine part
    → HasRoom count line part
    → Answered gives begin now (seen ++ part) (line ++ part) count written
Answered-part gives begin now seen line count written [] h other room = rw (append-nil seen, append-nil line) h
Answered-part gives begin now seen line count written (b ∷ part) h other (inl none) =
    absurd (let len = ap length none in omega (arith, len))
Answered-part gives begin now seen line count written (b ∷ part) h other (inr room) =
    let short : length line ≢ 1048576 = omega (arith, room.1) in
    let one = Answered-more gives begin now seen line count written b h other.0 room.0 short in
    let few : length (line ++ b ∷ []) + length part ≤ 1048576 = omega (arith, room.1, length-append line (b ∷ [])) in
    let more =
    Answered-part gives begin now (seen ++ b ∷ []) (line ++ b ∷ []) count written part one other.1 (inr (room.0, few))
    in
    rw (append_assoc seen (b ∷ []) part, append_assoc line (b ∷ []) part) at more

-- a first byte that exceeds a limit
breaks-first : {S : Type 0} (gives : S → List ℕ → List ℕ → S → Type 0) (begin now : S) (seen line : List ℕ) (count : ℕ)
    (written : List ℕ) (b : ℕ) (rest : List ℕ) → Answered gives begin now seen line count written → GoesTooFar seen b
    → BreaksLimit seen (b ∷ rest)
breaks-first gives begin now seen line count written b rest h far = record {
  front = [];
  byte = b;
  rest = rest;
  cut = refl;
  within = rw (append-nil seen) h.within;
  far = rw (append-nil seen) far;
  same = ap whole_lines (append-nil seen);
}

-- after the last line that is allowed, each byte exceeds a limit
pub Breaks-last : {S : Type 0} (gives : S → List ℕ → List ℕ → S → Type 0) (begin now : S) (seen line : List ℕ)
    (count : ℕ)
    (written part : List ℕ) → Answered gives begin now seen line count written → count ≡ 10000000
    → BreaksLimit seen (part ++ 10 ∷ [])
Breaks-last gives begin now seen line count written [] h last =
    breaks-first gives begin now seen line count written 10 [] h (inl (sym h.counted ∙ last, sym h.begun ∙ h.last last))
Breaks-last gives begin now seen line count written (b ∷ part) h last =
    breaks-first gives begin now seen line count written b (part ++ 10 ∷ []) h
    (inl (sym h.counted ∙ last, sym h.begun ∙ h.last last))

room-more : (count : ℕ) (line part : List ℕ) (b : ℕ) → length line ≤ 1048576 → length line ≢ 1048576
    → HasRoom count (line ++ b ∷ []) part
    → length line + length (b ∷ part) ≤ 1048576
room-more count line part b fits short (inl none) = let len : length part ≡ 0 = ap length none in omega (arith, len)
room-more count line part b fits short (inr room) = omega (arith, room.1, length-append line (b ∷ []))

-- bytes that don't end a line, one of which exceeds a limit
pub Breaks-part : {S : Type 0} (gives : S → List ℕ → List ℕ → S → Type 0) (begin now : S) (seen line : List ℕ)
    (count : ℕ)
    (written part rest : List ℕ) → Answered gives begin now seen line count written → EndsNoLine part
    → length line ≤ 1048576
    → (HasRoom count line part → ⊥) → BreaksLimit seen (part ++ rest)
Breaks-part gives begin now seen line count written [] rest h other fits full = absurd (full (inl refl))
Breaks-part gives begin now seen line count written (b ∷ part) rest h other fits full =
    elim (cases_eq count 10000000) [
      | inl last ↦ breaks-first gives begin now seen line count written b (part ++ rest) h
          (inl (sym h.counted ∙ last, sym h.begun ∙ h.last last))
      | inr room ↦
          elim (cases_eq (length line) 1048576) [
            | inl long ↦ breaks-first gives begin now seen line count written b (part ++ rest) h
                (inr (sym (ap length h.begun) ∙ long, other.0))
            | inr short ↦
                let one = Answered-more gives begin now seen line count written b h other.0 room short in
                let few : length (line ++ b ∷ []) ≤ 1048576 = omega (arith, length-append line (b ∷ [])) in
                let later =
                Breaks-part gives begin now (seen ++ b ∷ []) (line ++ b ∷ []) count written part rest one other.1 few
                (λ fit. full (inr (room, room-more count line part b fits short fit))) in
                record {
                  front = b ∷ later.front;
                  byte = later.byte;
                  rest = later.rest;
                  cut = ap (λ (t : List ℕ). b ∷ t) later.cut;
                  within = rw (append_assoc seen (b ∷ []) later.front) at later.within;
                  far = rw (append_assoc seen (b ∷ []) later.front) at later.far;
                  same =
                      ap whole_lines (sym (append_assoc seen (b ∷ []) later.front)) ∙ later.same
                      ∙ whole_lines-more seen b other.0;
                }
          ]
    ]

-- ---- replies that are written

pub Takes-no_room : {S : Type 0} (gives : S → List ℕ → List ℕ → S → Type 0) (begin now : S) (seen line : List ℕ)
    (count : ℕ)
    (written text full left held line' piece : List ℕ) (w w' : Option (List ℕ)) (e : RunFault)
    → TakesPiece gives begin now seen piece (written ++ text) text full line (Some count)
    → Flushes w w' full left (Err e)
    → TakesChunk gives begin now seen piece written w w' held line' (Err e)
Takes-no_room gives begin now seen line count written text full left held line' piece w w' Write h sent = (
  piece,
  [],
  sent.0,
  sent.1,
  sym (append-nil piece),
  sent.3,
  h.2.within,
  Prints-same gives begin now _ _ _ _ refl
      (append_assoc written text h.0 ∙ ap (λ (t : List ℕ). written ++ t) (sym h.1 ∙ sent.2)
      ∙ sym (append_assoc written sent.0 sent.1)) h.2.printed,
)
Takes-no_room gives begin now seen line count written text full left held line' piece w w' Read h sent = absurd sent
Takes-no_room gives begin now seen line count written text full left held line' piece w w' Memory h sent = absurd sent
Takes-no_room gives begin now seen line count written text full left held line' piece w w' TooManyLines h sent =
    absurd sent
Takes-no_room gives begin now seen line count written text full left held line' piece w w' BadSizes h sent = absurd sent
Takes-no_room gives begin now seen line count written text full left held line' piece w w' BadConfig h sent =
    absurd sent

-- a piece exceeds a limit, and the replies before it are written
pub Takes-too_far : {S : Type 0} (gives : S → List ℕ → List ℕ → S → Type 0) (begin now : S) (seen line : List ℕ)
    (written text full held line' piece : List ℕ) (w w' : Option (List ℕ)) → StaysWithin seen
    → TakesPiece gives begin now seen piece (written ++ text) text full line None → Appends w w' full
    → TakesChunk gives begin now seen piece written w w' held line' (Err TooManyLines)
Takes-too_far gives begin now seen line written text full held line' piece w w' within h sent = (
  h.0.front,
  h.0.byte,
  h.0.rest,
  full,
  h.0.cut,
  h.0.within,
  h.0.far,
  sent,
  rw (h.0.same, h.1) h.2,
)

pub Takes-too_far-cut : {S : Type 0} (gives : S → List ℕ → List ℕ → S → Type 0) (begin now : S) (seen line : List ℕ)
    (written text full held line' piece : List ℕ) (w w' : Option (List ℕ)) (e : RunFault) → StaysWithin seen
    → TakesPiece gives begin now seen piece (written ++ text) text full line None → Sends w w' full (Err e)
    → TakesChunk gives begin now seen piece written w w' held line' (Err e)
Takes-too_far-cut gives begin now seen line written text full held line' piece w w' Write within h sent = (
  [],
  piece,
  sent.0,
  sent.1,
  refl,
  sent.3,
  rw (append-nil seen) within,
  Prints-same gives begin now _ _ _ _ (ap whole_lines (sym (append-nil seen)))
      (ap (λ (t : List ℕ). written ++ t) (sym h.1 ∙ sent.2) ∙ sym (append_assoc written sent.0 sent.1)) h.2,
)
Takes-too_far-cut gives begin now seen line written text full held line' piece w w' Read within h sent = absurd sent
Takes-too_far-cut gives begin now seen line written text full held line' piece w w' Memory within h sent = absurd sent
Takes-too_far-cut gives begin now seen line written text full held line' piece w w' TooManyLines within h sent =
    absurd sent
Takes-too_far-cut gives begin now seen line written text full held line' piece w w' BadSizes within h sent = absurd sent
Takes-too_far-cut gives begin now seen line written text full held line' piece w w' BadConfig within h sent =
    absurd sent

-- after a chunk, all replies that were held are written
pub Takes-sent : {S : Type 0} (gives : S → List ℕ → List ℕ → S → Type 0) (begin now : S) (seen chunk line : List ℕ)
    (count : ℕ)
    (written held : List ℕ) (w w' w'' : Option (List ℕ))
    → TakesChunk gives begin now seen chunk written w w' held line (Ok count) → Appends w' w'' held
    → TakesChunk gives begin now seen chunk written w w'' [] line (Ok count)
Takes-sent gives begin now seen chunk line count written held w w' w'' h sent = (
  h.0 ++ held,
  Appends-trans w w' w'' h.0 held h.1 sent,
  Answered-same gives begin now _ _ line count _ _ refl (append_assoc written h.0 held ∙ sym (append-nil _)) h.2,
)

pub Takes-unsent : {S : Type 0} (gives : S → List ℕ → List ℕ → S → Type 0) (begin now : S) (seen chunk line : List ℕ)
    (count : ℕ)
    (written held line' : List ℕ) (w w' w'' : Option (List ℕ)) (e : RunFault)
    → TakesChunk gives begin now seen chunk written w w' held line (Ok count) → Sends w' w'' held (Err e)
    → TakesChunk gives begin now seen chunk written w w'' [] line' (Err e)
Takes-unsent gives begin now seen chunk line count written held line' w w' w'' Write h sent = (
  chunk,
  [],
  h.0 ++ sent.0,
  sent.1,
  sym (append-nil chunk),
  Appends-trans w w' w'' h.0 sent.0 h.1 sent.3,
  h.2.within,
  Prints-same gives begin now _ _ _ _ refl
      (ap (λ (t : List ℕ). (written ++ h.0) ++ t) sent.2 ∙ simp append_assoc) h.2.printed,
)
Takes-unsent gives begin now seen chunk line count written held line' w w' w'' Read h sent = absurd sent
Takes-unsent gives begin now seen chunk line count written held line' w w' w'' Memory h sent = absurd sent
Takes-unsent gives begin now seen chunk line count written held line' w w' w'' TooManyLines h sent = absurd sent
Takes-unsent gives begin now seen chunk line count written held line' w w' w'' BadSizes h sent = absurd sent
Takes-unsent gives begin now seen chunk line count written held line' w w' w'' BadConfig h sent = absurd sent

-- a fault in a piece is a fault of the chunk
pub Takes-stop : {S : Type 0} (gives : S → List ℕ → List ℕ → S → Type 0) (begin new : S)
    (seen front piece rest : List ℕ)
    (chunk written more : List ℕ) (w w' w'' : Option (List ℕ)) (held held' line : List ℕ) (e : RunFault)
    → chunk ≡ front ++ (piece ++ rest) → Appends w w' more
    → TakesChunk gives begin new (seen ++ front) piece (written ++ more) w' w'' held line (Err e)
    → TakesChunk gives begin new seen chunk written w w'' held' line (Err e)
Takes-stop gives begin new seen front piece rest chunk written more w w' w'' held held' line Write cut sent h = (
  front ++ h.0,
  h.1 ++ rest,
  more ++ h.2,
  h.3,
  cut ∙ ap (λ (t : List ℕ). front ++ (t ++ rest)) h.4 ∙ simp append_assoc,
  Appends-trans w w' w'' more h.2 sent h.5,
  rw (← append_assoc seen front h.0) h.6,
  Prints-same gives begin new _ _ _ _ (ap whole_lines (append_assoc seen front h.0)) (simp append_assoc) h.7,
)
Takes-stop gives begin new seen front piece rest chunk written more w w' w'' held held' line TooManyLines cut sent h = (
  front ++ h.0,
  h.1,
  h.2 ++ rest,
  more ++ h.3,
  cut ∙ ap (λ (t : List ℕ). front ++ (t ++ rest)) h.4 ∙ simp append_assoc,
  rw (← append_assoc seen front h.0) h.5,
  rw (← append_assoc seen front h.0) h.6,
  Appends-trans w w' w'' more h.3 sent h.7,
  Prints-same gives begin new _ _ _ _ (ap whole_lines (append_assoc seen front h.0)) (simp append_assoc) h.8,
)
Takes-stop gives begin new seen front piece rest chunk written more w w' w'' held held' line Read cut sent h = absurd h
Takes-stop gives begin new seen front piece rest chunk written more w w' w'' held held' line Memory cut sent h =
    absurd h
Takes-stop gives begin new seen front piece rest chunk written more w w' w'' held held' line BadSizes cut sent h =
    absurd h
Takes-stop gives begin new seen front piece rest chunk written more w w' w'' held held' line BadConfig cut sent h =
    absurd h

-- the chunk up to a piece, and then that piece
pub Takes-on : {S : Type 0} (gives : S → List ℕ → List ℕ → S → Type 0) (begin now : S)
    (seen front front' piece : List ℕ)
    (written more : List ℕ) (w w' w'' : Option (List ℕ)) (held line : List ℕ) (count : ℕ)
    → front' ≡ front ++ piece → Appends w w' more
    → TakesChunk gives begin now (seen ++ front) piece (written ++ more) w' w'' held line (Ok count)
    → TakesChunk gives begin now seen front' written w w'' held line (Ok count)
Takes-on gives begin now seen front front' piece written more w w' w'' held line count cut sent h = (
  more ++ h.0,
  Appends-trans w w' w'' more h.0 sent h.1,
  Answered-same gives begin now _ _ line count _ _ (rw cut (append_assoc seen front piece))
      (ap (λ (t : List ℕ). t ++ held) (append_assoc written more h.0)) h.2,
)

-- a fault in a prefix of the chunk is a fault of the chunk
pub Takes-longer : {S : Type 0} (gives : S → List ℕ → List ℕ → S → Type 0) (begin new : S)
    (seen front rest chunk written : List ℕ)
    (w w' : Option (List ℕ)) (held held' line : List ℕ) (e : RunFault) → chunk ≡ front ++ rest
    → TakesChunk gives begin new seen front written w w' held line (Err e)
    → TakesChunk gives begin new seen chunk written w w' held' line (Err e)
Takes-longer gives begin new seen front rest chunk written w w' held held' line e cut h =
    Takes-stop gives begin new seen [] front rest chunk written [] w w w' held held' line e cut (Appends-nil w)
    (subst (λ (s : List ℕ). TakesChunk gives begin new s front (written ++ []) w w' held line (Err e))
    (sym (append-nil seen))
    (subst (λ (t : List ℕ). TakesChunk gives begin new seen front t w w' held line (Err e)) (sym (append-nil written))
    h))

-- the last piece of a chunk exceeds a limit, and all replies that were held are written
pub Takes-broken : {S : Type 0} (gives : S → List ℕ → List ℕ → S → Type 0) (begin now : S)
    (seen front part chunk line : List ℕ) (count : ℕ)
    (written more held held' line' : List ℕ) (w w' w'' : Option (List ℕ)) → chunk ≡ front ++ part
    → Answered gives begin now (seen ++ front) line count ((written ++ more) ++ held) → BreaksLimit (seen ++ front) part
    → Appends w w' more → Appends w' w'' held
    → TakesChunk gives begin now seen chunk written w w'' held' line' (Err TooManyLines)
Takes-broken gives begin now seen front part chunk line count written more held held' line' w w' w'' cut h broken sent
    last = (
      front ++ broken.front,
      broken.byte,
      broken.rest,
      more ++ held,
      cut ∙ ap (λ (t : List ℕ). front ++ t) broken.cut ∙ sym (append_assoc front broken.front _),
      rw (← append_assoc seen front broken.front) broken.within,
      rw (← append_assoc seen front broken.front) broken.far,
      Appends-trans w w' w'' more held sent last,
      Prints-same gives begin now _ _ _ _ (sym broken.same ∙ ap whole_lines (append_assoc seen front broken.front))
          (append_assoc written more held) h.printed,
    )
