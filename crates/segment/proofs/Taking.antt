-- Packets that wait, taken one by one.
use Rattle.std.proofs.Common.{◌≡◌, ℕ, ◌+◌, ◌<◌, Bool, List, [], ◌∷◌, ◌++◌, length, map, take, drop, get_or, zero, suc, None, Some, refl, sym, ap, ◌∙◌, subst}
use Rattle.std.specs.Prelude.{if◌then◌else◌, filter_map}
use Rattle.std.specs.List.{AllByRecursion as Each, cons_option}
use Rattle.std.proofs.lemmas.List.{map-append, take_more}
use Rattle.std.proofs.lemmas.List.Elements.{All-from_recursion, filter_map-append}
use Rattle.segment.specs.Flying.{Flying, transmits_of, sent_by}
use Rattle.segment.specs.Inside.{flying}
use Rattle.segment.specs.declared.frame.Frame.{Frame}
use Rattle.flat_model.specs.Amounts.Weight.{Item}
use Rattle.flat_model.specs.Machine.Event.{IsBytes}
use Rattle.flat_model.specs.Runs.Run.{Turn}
use Rattle.net_stack.specs.Stack.{StackView}
use Rattle.net_stack.specs.Runs.{AreCalls}

abbrev pub bytes_of : List Item → List (List ℕ)
bytes_of items = map (λ (item : Item). item.bytes) items

-- calls, and then others
pub then_calls : (a b c : StackView) (xs ys : List Turn) → AreCalls a xs b → AreCalls b ys c → AreCalls a (xs ++ ys) c
then_calls a b c [] ys same later = subst (λ (s : StackView). AreCalls s ys c) same later
then_calls a b c (x ∷ xs) ys (is, mid, call, rest) later = (is, mid, call, then_calls mid b c xs ys rest later)

-- each value of a byte slice is below 256
pub are_bytes : (xs : List ℕ) → ((k : ℕ) → get_or xs k 0 < 256) → IsBytes xs
are_bytes xs fits = All-from_recursion (λ byte. byte < 256) xs (go xs fits)
  where
    go : (ys : List ℕ) → ((k : ℕ) → get_or ys k 0 < 256) → Each (λ byte. byte < 256) ys
    go [] f = tt
    go (y ∷ ys) f = (f 0, go ys (λ k. f (suc k)))

-- ---- one more of a list

pub take_next : {X : Type 0} (i : ℕ) (xs : List X) → take (suc i) xs ≡ take i xs ++ take 1 (drop i xs)
take_next zero [] = refl
take_next zero (x ∷ xs) = refl
take_next (suc i) [] = refl
take_next (suc i) (x ∷ xs) = ap (λ ys. x ∷ ys) (take_next i xs)

pub drop_next : {X : Type 0} (i : ℕ) (xs : List X) → drop (suc i) xs ≡ drop 1 (drop i xs)
drop_next zero xs = refl
drop_next (suc i) [] = refl
drop_next (suc i) (x ∷ xs) = drop_next i xs

-- a full table stays full
pub take_again : {X : Type 0} (n : ℕ) (xs ys : List X) → take n (take n xs ++ ys) ≡ take n (xs ++ ys)
take_again zero xs ys = refl
take_again (suc n) [] ys = refl
take_again (suc n) (x ∷ xs) ys = ap (λ zs. x ∷ zs) (take_again n xs ys)

-- one more packet was taken
pub more_calls : (a s t : StackView) (packets : List (List ℕ)) (i : ℕ) → AreCalls a (transmits_of (take i packets)) s
    → AreCalls s (transmits_of (take 1 (drop i packets))) t
    → AreCalls a (transmits_of (take (suc i) packets)) t
more_calls a s t packets i before one = subst (λ (turns : List Turn). AreCalls a turns t)
    (sym (ap transmits_of (take_next i packets) ∙ map-append _ (take i packets) (take 1 (drop i packets))))
    (then_calls a s t (transmits_of (take i packets)) (transmits_of (take 1 (drop i packets))) before one)

-- one more packet of those that wait
pub sent_next : (sender i : ℕ) (packets : List (List ℕ))
    → sent_by sender (take (suc i) packets)
    ≡ sent_by sender (take i packets) ++ sent_by sender (take 1 (drop i packets))
sent_next sender i packets =
    ap (sent_by sender) (take_next i packets) ∙ map-append _ (take i packets) (take 1 (drop i packets))

-- ---- packets that come

-- those that pass a test, such as those for the host at a place; one of them, if it passes
abbrev pub came : (Flying → Bool) → List Flying → List (List ℕ)
came goes flight = filter_map (λ (f : Flying). if goes f then Some f.packet else None) flight

abbrev pub if_goes : (Flying → Bool) → Flying → List (List ℕ)
if_goes goes f = cons_option (if goes f then Some f.packet else None) []

pub received_next : (goes : Flying → Bool) (i : ℕ) (frames : List Frame) (frame : Frame) → i < length frames
    → frame ≡ get_or frames i frame
    → came goes (map flying (take (i + 1) frames))
    ≡ came goes (map flying (take i frames)) ++ if_goes goes (flying frame)
received_next goes i frames frame within is =
    ap (λ (fs : List Frame). came goes (map flying fs))
    (take_more frames i frame within ∙ ap (λ (f : Frame). take i frames ++ f ∷ []) (sym is))
    ∙ ap (came goes) (map-append flying (take i frames) (frame ∷ []))
    ∙ filter_map-append _ (map flying (take i frames)) (flying frame ∷ [])
