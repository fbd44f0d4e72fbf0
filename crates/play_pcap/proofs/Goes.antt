-- Acts one after another.
use Rattle.std.proofs.Common.{◌≡◌, ℕ, suc, zero, ◌+◌, ◌-◌, ◌<◌, List, [], ◌∷◌, ◌++◌, replicate, sym, ap, ◌∙◌, subst, arith}
use Rattle.play_pcap.specs.Acts.{Act, Arrives, Passes}
use Rattle.play_pcap.specs.Events.{Goes, came, ticks_in}
use Rattle.play_pcap.specs.declared.wire.RecordPlace.{RecordPlace}

pub goes_append : {S : Type 0} (go : S → Act → S → Type 0) (xs ys : List Act) (a b c : S)
    → Goes go xs a b → Goes go ys b c → Goes go (xs ++ ys) a c
goes_append go [] ys a b c h k = subst (λ s. Goes go ys s c) h k
goes_append go (x ∷ xs) ys a b c h k = (h.0, h.1, goes_append go xs ys h.0 b c h.2 k)

-- one tick before others
pub goes_tick : {S : Type 0} (go : S → Act → S → Type 0) (n m : ℕ) (a b c : S) → 0 < n → m ≡ n - 1
    → go a Passes b → Goes go (replicate m Passes) b c → Goes go (replicate n Passes) a c
goes_tick go zero m a b c some is h k = absurd (omega arith)
goes_tick go (suc n) m a b c some is h k =
    let same : m ≡ n = omega arith in (b, h, subst (λ (i : ℕ). Goes go (replicate i Passes) b c) same k)

-- the acts of one move, and those after it
pub goes_move : {S : Type 0} (go : S → Act → S → Type 0) (n : ℕ) (place : RecordPlace) (packet : List ℕ)
    (es all : List Act) (a b c d : S)
    → all ≡ replicate n Passes ++ Arrives place packet ∷ es → Goes go (replicate n Passes) a b
    → go b (Arrives place packet) c
    → Goes go es c d
    → Goes go all a d
goes_move go n place packet es all a b c d is ticks comes rest =
    subst (λ (v : List Act). Goes go v a d) (sym is)
    (goes_append go (replicate n Passes) (Arrives place packet ∷ es) a b d ticks (c, comes, rest))

came_after : (n : ℕ) (place : RecordPlace) (packet : List ℕ) (es : List Act)
    → came (replicate n Passes ++ Arrives place packet ∷ es) ≡ came es + 1
came_after zero place packet es = omega arith
came_after (suc n) place packet es = came_after n place packet es

pub came_move : (n : ℕ) (place : RecordPlace) (packet : List ℕ) (es all : List Act)
    → all ≡ replicate n Passes ++ Arrives place packet ∷ es
    → came all ≡ came es + 1
came_move n place packet es all is = ap came is ∙ came_after n place packet es

ticked_after : (n : ℕ) (place : RecordPlace) (packet : List ℕ) (es : List Act)
    → ticks_in (replicate n Passes ++ Arrives place packet ∷ es) ≡ n + ticks_in es
ticked_after zero place packet es = omega arith
ticked_after (suc n) place packet es = ap suc (ticked_after n place packet es) ∙ omega arith

pub ticked_move : (n : ℕ) (place : RecordPlace) (packet : List ℕ) (es all : List Act)
    → all ≡ replicate n Passes ++ Arrives place packet ∷ es
    → ticks_in all ≡ n + ticks_in es
ticked_move n place packet es all is = ap ticks_in is ∙ ticked_after n place packet es
