-- The first of the records that are left, and the others.
use Rattle.std.proofs.Common.{◌≡◌, ℕ, ◌+◌, ◌-◌, ◌<◌, List, [], ◌∷◌, ◌++◌, length, get_or, take, drop, map, max, replicate, Some, None, refl, arith}
use Rattle.std.proofs.lemmas.List.{take_all}
use Rattle.flat_model.specs.Machine.Count.{more_by}
use Rattle.capture.specs.Seen.{captured}
use Rattle.capture.specs.declared.pcap.reader.Record.{Record}
use Rattle.play_pcap.specs.Acts.{Arrives, Passes}
use Rattle.play_pcap.specs.Events.{due, record_acts, packet_in_record, record_place}
use Rattle.play_pcap.specs.declared.moves.Course.{Course}
use Rattle.play_pcap.specs.declared.wire.RecordPlace.{RecordPlace}

-- the records after the first one
pub behind : {A : Type 0} (r : A) (rs : List A) → take (length (r ∷ rs) - 1) (drop 1 (r ∷ rs)) ≡ rs
behind r rs =
    let one : length (r ∷ rs) - 1 ≡ length rs = omega arith in rw one (take_all (length rs) rs (omega arith))

pub none_left : (k : Course) (number passed : ℕ) (rs : List Record) → length rs < 1
    → record_acts k number passed (map captured rs) ≡ []
unfolding record_acts
none_left k number passed [] few = refl
none_left k number passed (r ∷ rs) few = absurd (omega arith)

pub fewer : (rs : List Record) → 0 < length rs → length (take (length rs - 1) (drop 1 rs)) + 1 ≡ length rs
fewer [] some = absurd (omega arith)
fewer (r ∷ rs) some = rw (behind r rs) (omega arith)

pub skipped : (k : Course) (number next passed : ℕ) (rs : List Record) (d : Record) → 0 < length rs
    → packet_in_record k.header.link (get_or rs 0 d).bytes.now ≡ None → next ≡ more_by 1 number
    → record_acts k next passed (map captured (take (length rs - 1) (drop 1 rs)))
    ≡ record_acts k number passed (map captured rs)
unfolding record_acts
skipped k number next passed [] d some none next_is = absurd (omega arith)
skipped k number next passed (r ∷ rs) d some none next_is = rw (behind r rs, none, next_is) refl

pub moved : (k : Course) (number next passed : ℕ) (rs : List Record) (d : Record) (place : RecordPlace) (packet : List ℕ)
    (at ticks new : ℕ) → 0 < length rs
    → packet_in_record k.header.link (get_or rs 0 d).bytes.now ≡ Some packet → next ≡ more_by 1 number
    → place ≡ record_place k number (captured (get_or rs 0 d)) → at ≡ due k (captured (get_or rs 0 d))
    → ticks ≡ at - passed → new ≡ max passed at
    → record_acts k number passed (map captured rs)
    ≡ replicate ticks Passes ++ Arrives place packet
    ∷ record_acts k next new (map captured (take (length rs - 1) (drop 1 rs)))
unfolding record_acts
moved k number next passed [] d place packet at ticks new some is next_is place_is due_is ticks_is new_is =
    absurd (omega arith)
moved k number next passed (r ∷ rs) d place packet at ticks new some is next_is place_is due_is ticks_is new_is =
    rw (ticks_is, new_is, due_is, place_is, next_is, behind r rs, is) refl
