-- Lemmas that later crates may cite.
use Rattle.std.proofs.Common.{◌≡◌, ℕ, ◌+◌, ◌≤◌, List, [], ◌∷◌, ◌++◌, length, drop, Option, Some, None, Result, Ok, Err, refl, ap, ◌∙◌, arith, length-drop}
use Rattle.std.specs.Int.{w32}
use Rattle.std.proofs.lemmas.List.{drop-append-le}
use Rattle.capture.specs.File.{number_of}
use Rattle.capture.specs.declared.pcap.header.Order.{Order}
use Rattle.capture.specs.declared.pcap.header.Order.TheVariants.{Little, Big}
use Rattle.capture.specs.Blocks.{head_in, head_of, head_of_total, order_at}
use Rattle.capture.specs.declared.pcapng.fault.Fault.{Fault}

-- a number at the beginning, whatever follows it
pub number_stays : (o : Order) (xs ys : List ℕ) → 4 ≤ length xs → number_of o w32 (xs ++ ys) ≡ number_of o w32 xs
number_stays o [] ys le = absurd (omega (arith, le))
number_stays o (a ∷ []) ys le = absurd (omega (arith, le))
number_stays o (a ∷ b ∷ []) ys le = absurd (omega (arith, le))
number_stays o (a ∷ b ∷ c ∷ []) ys le = absurd (omega (arith, le))
number_stays Little (a ∷ b ∷ c ∷ d ∷ xs) ys le = refl
number_stays Big (a ∷ b ∷ c ∷ d ∷ xs) ys le = refl

pub number_stays_at : (o : Order) (n : ℕ) (xs ys : List ℕ) → n + 4 ≤ length xs
    → number_of o w32 (drop n (xs ++ ys)) ≡ number_of o w32 (drop n xs)
number_stays_at o n xs ys le =
    let at = drop-append-le n xs ys (omega (arith, le)) in
    let len = length-drop n xs in
    let stays : number_of o w32 (drop n xs ++ ys) ≡ number_of o w32 (drop n xs) =
    number_stays o (drop n xs) ys (omega (arith, le, len)) in
    rw at stays

order_stays : (o : Option Order) (front more : List ℕ) → 12 ≤ length front
    → order_at o (front ++ more) ≡ order_at o front
order_stays None front more le =
    let kind : number_of Little w32 (front ++ more) ≡ number_of Little w32 front =
    number_stays Little front more (omega (arith, le)) in
    let mark = number_stays_at Little 8 front more (omega (arith, le)) in
    rw (kind, mark) refl
order_stays (Some o) front more le =
    let kind : number_of o w32 (front ++ more) ≡ number_of o w32 front =
    number_stays o front more (omega (arith, le)) in
    let mark = number_stays_at Little 8 front more (omega (arith, le)) in
    rw (kind, mark) refl

length_stays : (r : Result Order Fault) (front more : List ℕ) → 12 ≤ length front
    → head_in r (front ++ more) ≡ head_in r front
length_stays (Err f) front more le = refl
length_stays (Ok o) front more le = ap (head_of_total o) (number_stays_at o 4 front more (omega (arith, le)))

-- what the first 12 bytes of a block say, whatever follows them
pub head_stays : (o : Option Order) (front more : List ℕ) → 12 ≤ length front
    → head_of o (front ++ more) ≡ head_of o front
unfolding head_of
head_stays o front more le =
    ap (λ (r : Result Order Fault). head_in r (front ++ more)) (order_stays o front more le)
    ∙ length_stays (order_at o front) front more le
