-- The first bytes of a file.
use Rattle.std.proofs.Common.{◌≡◌, ℕ, ◌<◌, ◌≤◌, List, [], ◌∷◌, ◌++◌, length, Option, Some, Result, Ok, Err, true, false, ltb, refl, sym, ap, subst, ◌∙◌, arith, inl, inr, lt-ltb}
use Rattle.std.proofs.lemmas.Bool.{cases_lt, le-ltb}
use Rattle.std.specs.Io.KnownBytes.{IsAtEnd}
use Rattle.capture.specs.File.{fault, header_of}
use Rattle.capture.specs.declared.pcap.fault.Fault as classic
use Rattle.capture.specs.declared.pcap.fault.Why.TheVariants.{HeaderCut}
use Rattle.capture.specs.declared.pcap.header.Header.{Header}
use Rattle.capture.proofs.Filling.{fills_all, fills_then}
use Rattle.capture.specs.Faults.{classic_fault_at}
use Rattle.capture.specs.Feeds.{Fills}
use Rattle.capture.specs.Places.{Opens, kind_in}
use Rattle.capture.specs.declared.fault.FaultAt.{FaultAt}
use Rattle.capture.specs.declared.fault.Why.TheVariants.{NotRead}
use Rattle.capture.specs.declared.records.Kind.TheVariants as kinds

-- a stream that can't be read
pub not_opened : (old new : Option (List ℕ)) (held buffer : List ℕ) (s : FaultAt) → held ≡ []
    → Fills old held new buffer
    → s.why ≡ NotRead → Opens old new buffer (Err s)
not_opened old new held buffer s none f why = (fills_all old new held buffer none f, inl why)

pub not_opened_then : (old mid new : Option (List ℕ)) (held first buffer : List ℕ) (s : FaultAt) → held ≡ []
    → Fills old held mid first → Fills mid first new buffer → s.why ≡ NotRead → Opens old new buffer (Err s)
not_opened_then old mid new held first buffer s none f g why =
    not_opened old new held buffer s none (fills_then old mid new held first buffer f g) why

-- what the first bytes say, whatever follows them
kind_stays : (front more : List ℕ) → 4 ≤ length front → kind_in (front ++ more) ≡ kind_in front
kind_stays [] more le = absurd (omega (arith, le))
kind_stays (a ∷ []) more le = absurd (omega (arith, le))
kind_stays (a ∷ b ∷ []) more le = absurd (omega (arith, le))
kind_stays (a ∷ b ∷ c ∷ []) more le = absurd (omega (arith, le))
kind_stays (a ∷ b ∷ c ∷ d ∷ xs) more le =
    let two : ltb (length (a ∷ b ∷ c ∷ d ∷ (xs ++ more))) 2 ≡ false = le-ltb _ _ (omega arith) in
    let four : ltb (length (a ∷ b ∷ c ∷ d ∷ (xs ++ more))) 4 ≡ false = le-ltb _ _ (omega arith) in
    let two_of : ltb (length (a ∷ b ∷ c ∷ d ∷ xs)) 2 ≡ false = le-ltb _ _ (omega arith) in
    let four_of : ltb (length (a ∷ b ∷ c ∷ d ∷ xs)) 4 ≡ false = le-ltb _ _ (omega arith) in
    rw (two, four, two_of, four_of) refl

is_classic : (mid new : Option (List ℕ)) (first buffer : List ℕ) → Fills mid first new buffer
    → kind_in first ≡ kinds.Classic → 12 ≤ length first → kind_in buffer ≡ kinds.Classic
is_classic mid new first buffer f kind le =
    ap kind_in f.after ∙ kind_stays first f.more (omega (arith, le)) ∙ kind

-- a header needs 24 bytes
cut : (bytes : List ℕ) → length bytes < 24 → header_of bytes ≡ Err (fault HeaderCut 0)
unfolding header_of
cut bytes lt = let short : ltb (length bytes) 24 ≡ true = lt-ltb _ _ lt in rw short refl

abbrev IsOk : Result Header classic.Fault → Type 0
IsOk (Ok h) = Unit {0}
IsOk (Err f) = ⊥

header_long : (bytes : List ℕ) (h : Header) → header_of bytes ≡ Ok h → 24 ≤ length bytes
header_long bytes h is =
    elim (cases_lt (length bytes) 24) [
      | inl lt ↦ absurd (subst IsOk (sym is ∙ cut bytes lt) tt)
      | inr le ↦ le
    ]

-- a file that ends before a header does
pub short_header : (old new : Option (List ℕ)) (held buffer : List ℕ) → held ≡ [] → Fills old held new buffer
    → kind_in buffer ≡ kinds.Classic → length buffer < 12 → IsAtEnd new
    → Opens old new buffer (Err (classic_fault_at (fault HeaderCut 0)))
short_header old new held buffer none f kind lt ended = (
  fills_all old new held buffer none f,
  inr (inr (fault HeaderCut 0, kind, cut buffer (omega (arith, lt)), λ l. ended, refl)),
)

-- a header with a fault
pub bad_header : (old mid new : Option (List ℕ)) (held first buffer : List ℕ) (f : classic.Fault) → held ≡ []
    → Fills old held mid first → Fills mid first new buffer → kind_in first ≡ kinds.Classic → 12 ≤ length first
    → header_of buffer ≡ Err f → (length buffer < 24 → IsAtEnd new) → Opens old new buffer (Err (classic_fault_at f))
bad_header old mid new held first buffer f none a b kind le is ended = (
  fills_all old new held buffer none (fills_then old mid new held first buffer a b),
  inr (inr (f, is_classic mid new first buffer b kind le, is, ended, refl)),
)

-- a header
pub good_header : (old mid new : Option (List ℕ)) (held first buffer : List ℕ) (h : Header) → held ≡ []
    → Fills old held mid first → Fills mid first new buffer → header_of buffer ≡ Ok h → length buffer ≤ 24
    → Opens old new buffer (Ok (Some h))
good_header old mid new held first buffer h none a b is le =
    let long = header_long buffer h is in (
      fills_all old new held buffer none (fills_then old mid new held first buffer a b),
      omega (arith, le, long),
      is,
    )
