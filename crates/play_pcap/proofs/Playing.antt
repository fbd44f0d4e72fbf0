-- A file that was read, and played.
use Rattle.std.proofs.Common.{◌≡◌, ℕ, ◌-◌, List, length, take, drop, map, Option, Some, None, Ok, refl, sym, ap, ap₂, ◌∙◌, subst, arith}
use Rattle.std.proofs.lemmas.List.{length-map, drop-map}
use Rattle.std.specs.List.{take-map}
use Rattle.capture.specs.Records.{Reads}
use Rattle.capture.specs.Seen.{captured}
use Rattle.capture.specs.declared.pcap.header.Header.{Header}
use Rattle.capture.specs.declared.pcap.reader.Record.{Record}
use Rattle.play_pcap.specs.Acts.{Act}
use Rattle.play_pcap.specs.Events.{Goes, HasRange, PlaysFile, begin_of, capture_acts, first_of, record_acts, selected, tally_of}
use Rattle.play_pcap.specs.declared.ask.Details.{Details}
use Rattle.play_pcap.specs.declared.ask.Range.{Range}
use Rattle.play_pcap.specs.declared.moves.Tally.{Tally}

pub range_back : (range : Option Range) (items slice : List Record) → slice ≡ items
    → HasRange range (length (map captured items)) → HasRange range (length slice)
range_back None items slice is h = tt
range_back (Some r) items slice is h = let len = length-map items captured in let same = ap length is in
    omega (arith, len, same, h)

range_on : (range : Option Range) (items slice : List Record) → slice ≡ items
    → HasRange range (length slice) → HasRange range (length (map captured items))
range_on None items slice is h = tt
range_on (Some r) items slice is h = let len = length-map items captured in let same = ap length is in
    omega (arith, len, same, h)

selected_seen : (range : Option Range) (rs : List Record)
    → map captured (selected range rs) ≡ selected range (map captured rs)
selected_seen None rs = refl
selected_seen (Some r) rs =
    sym (ap (take (r.last - (r.first - 1))) (drop-map captured (r.first - 1) rs)
    ∙ take-map captured (r.last - (r.first - 1)) (drop (r.first - 1) rs))

-- the acts of records, by the fields of their course
abbrev pub acts_of : Details → Header → ℕ → ℕ → ℕ → List Record → List Act
acts_of d h origin begin number part =
    record_acts (record { header = h; origin = origin; ticks = d.ticks; begin = begin }) number 0 (map captured part)

pub played_file : {S : Type 0} (go : S → Act → S → Type 0) (d : Details) (file : List ℕ) (h : Header)
    (items slice part : List Record) (origin begin number : ℕ) (t : Tally) (a b : S)
    → Reads file (Ok (record { header = h; records = map captured items })) → slice ≡ items
    → HasRange d.range (length slice) → part ≡ selected d.range slice
    → origin ≡ begin_of h (map captured slice) → begin ≡ begin_of h (map captured part) → number ≡ first_of d.range
    → Goes go (acts_of d h origin begin number part) a b
    → t ≡ tally_of (length part) (acts_of d h origin begin number part) → PlaysFile go d file (Ok t) a b
played_file go d file h items slice part origin begin number t a b reads same range chosen from starts first goes
    tally =
    let all : map captured slice ≡ map captured items = ap (map captured) same in
    let is : map captured part ≡ selected d.range (map captured items) =
    ap (map captured) (chosen ∙ ap (selected d.range) same) ∙ selected_seen d.range items in
    let len : length part ≡ length (selected d.range (map captured items)) =
    sym (length-map part captured) ∙ ap length is in
    let acts : acts_of d h origin begin number part
    ≡ capture_acts d (record { header = h; records = map captured items }) =
    rw (first, from, starts, all, is) refl in (
      record { header = h; records = map captured items },
      reads,
      range_on d.range items slice same range,
      subst (λ (done : List Act). Goes go done a b) acts goes,
      tally ∙ ap₂ (λ (n : ℕ) (done : List Act). tally_of n done) len acts,
    )
