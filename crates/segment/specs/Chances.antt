-- What happens to a packet on the wire, by chances and the numbers of PCG XSH RR 64/32 (this project's own).
use Rattle.std.specs.Prelude.{ℕ, zero, suc, ◌+◌, ◌-◌, ◌*◌, ◌/◌, ◌^◌, nat_lt, if◌then◌else◌, List, [], ◌∷◌, length, Option, Some, None, unwrap_or, slice_get, swap}
use Rattle.rand_pcg.specs.Lcg.{Lcg, increment_of, started}
use Rattle.rand_pcg.specs.Pcg.{multiplier_64, pcg32}
use Rattle.segment.specs.Flying.{Flying, waits}
use Rattle.segment.specs.declared.chances.Chances.{Chances}
use Rattle.segment.specs.declared.chances.Fate.{Fate}
use Rattle.segment.specs.declared.chances.Fate.TheVariants.{Lost, Once, Twice}

-- the next number of 32 bits, and the generator after it
unfoldable pub drawn : Lcg → ℕ × Lcg
drawn g = pcg32 g

-- the stream of a segment's generator
abbrev pub stream : ℕ
stream = 0x0A02BDBF7BB3C0A7

-- the generator that a seed starts
abbrev pub seeded : ℕ → Lcg
seeded seed = started 64 multiplier_64 seed (increment_of 64 stream)

-- a wire that loses, repeats, delays and reorders nothing
abbrev pub no_chances : Chances
no_chances = record { loss = 0; repeat = 0; reorder = 0; delay = 0; jitter = 0 }

-- the chances for packets that the host at a place sends
abbrev pub chances_at : List Chances → ℕ → Chances
chances_at chances place = unwrap_or (slice_get chances place) no_chances

-- the delay for a number: the number divided by 2^32, times the number of delays, added to the least one
abbrev pub wait_of : Chances → ℕ → ℕ
wait_of c number = c.delay + number * (c.jitter + 1) / 2 ^ 32

-- What happens to a packet, and the generator afterwards. Each choice takes one number: whether the packet is lost; if
-- not, whether it's repeated; for each copy its delay.
abbrev pub fate_of : Chances → Lcg → Fate × Lcg
fate_of c g =
    let loss = drawn g in
    if nat_lt loss.0 c.loss
    then (Lost, loss.1)
    else (
    let again = drawn loss.1 in
    let first = drawn again.1 in
    if nat_lt again.0 c.repeat
    then (let second = drawn first.1 in (Twice (wait_of c first.0) (wait_of c second.0), second.1))
    else (Once (wait_of c first.0), first.1)
    )

-- the copies of a packet that are under way because of its fate, before these packets
abbrev pub copies_before : Fate → Flying → List Flying → List Flying
copies_before Lost f later = later
copies_before (Once wait) f later = waits wait f ∷ later
copies_before (Twice first second) f later = waits first f ∷ waits second f ∷ later

-- the copies of these packets that are under way afterwards, in order, and the generator afterwards
abbrev pub entering : List Chances → List Flying → Lcg → List Flying × Lcg
entering chances [] g = ([], g)
entering chances (f ∷ fs) g =
    let fate = fate_of (chances_at chances f.sender) g in
    let rest = entering chances fs fate.1 in
    (copies_before fate.0 f rest.0, rest.1)

-- the chance that the packet at a place is exchanged with the one after it
abbrev pub reorder_at : List Chances → Option Flying → ℕ
reorder_at chances None = 0
reorder_at chances (Some f) = (chances_at chances f.sender).reorder

-- n pairs of neighbours, from the one at a place on, each of which may be exchanged
abbrev pub shuffled_from : List Chances → ℕ → ℕ → List Flying → Lcg → List Flying × Lcg
shuffled_from chances zero at fs g = (fs, g)
shuffled_from chances (suc n) at fs g =
    let turn = drawn g in
    shuffled_from chances n (at + 1)
    (if nat_lt turn.0 (reorder_at chances (slice_get fs at)) then swap fs at (at + 1) else fs) turn.1

-- the order in which packets that are due arrive, and the generator then
abbrev pub shuffled : List Chances → List Flying → Lcg → List Flying × Lcg
shuffled chances fs g = shuffled_from chances (length fs - 1) 0 fs g
