-- A capture that was written, read and played again.
use Rattle.std.proofs.Common.{◌≡◌, ℕ, zero, suc, ◌≤◌, ◌||◌, Bool, true, false, cond, List, [], ◌∷◌, ◌++◌, length, take, drop, map, ltb, Ok, Some, refl, ap, arith, lit<}
use Rattle.std.specs.List.{AllByRecursion}
use Rattle.std.specs.Int.{w16}
use Rattle.std.proofs.lemmas.Bool.{le-ltb}
use Rattle.flat_model.specs.Machine.Count.{more_by}
use Rattle.flat_model.specs.Machine.Event.{Event, Comes}
use Rattle.capture.specs.File.{IsHeader, file_header_bytes, header_for, our_header, number_of}
use Rattle.capture.specs.Frames.{unpadded}
use Rattle.capture.specs.Types.{link_type_of}
use Rattle.capture.specs.Records.{FitsFields, Reads, Whole, records_bytes}
use Rattle.capture.specs.declared.pcap.header.Order.TheVariants.{Big}
use Rattle.capture.specs.declared.pcap.link_type.LinkType.{LinkType}
use Rattle.capture.specs.declared.pcap.link_type.LinkType.TheVariants.{Null, Ethernet, Ppp, Raw, Loop, LinuxCooked, Ipv4, LinuxCooked2}
use Rattle.play_pcap.specs.Acts.{act_event}
use Rattle.play_pcap.specs.Events.{record_acts, played, taken}
use Rattle.play_pcap.specs.Traces.{IsPass, Pass, file_of, passes_bytes, record_of}

header_is : (link : LinkType) → IsHeader (header_for link)
unfolding link_type_of
header_is Null =
    record { time_zone = lit< tt; accuracy = lit< tt; snap_len = lit< tt; link_field = lit< tt; link = refl }
header_is Ethernet =
    record { time_zone = lit< tt; accuracy = lit< tt; snap_len = lit< tt; link_field = lit< tt; link = refl }
header_is Ppp =
    record { time_zone = lit< tt; accuracy = lit< tt; snap_len = lit< tt; link_field = lit< tt; link = refl }
header_is Raw =
    record { time_zone = lit< tt; accuracy = lit< tt; snap_len = lit< tt; link_field = lit< tt; link = refl }
header_is Loop =
    record { time_zone = lit< tt; accuracy = lit< tt; snap_len = lit< tt; link_field = lit< tt; link = refl }
header_is LinuxCooked =
    record { time_zone = lit< tt; accuracy = lit< tt; snap_len = lit< tt; link_field = lit< tt; link = refl }
header_is Ipv4 =
    record { time_zone = lit< tt; accuracy = lit< tt; snap_len = lit< tt; link_field = lit< tt; link = refl }
header_is LinuxCooked2 =
    record { time_zone = lit< tt; accuracy = lit< tt; snap_len = lit< tt; link_field = lit< tt; link = refl }

all_fit : (ps : List Pass) → AllByRecursion IsPass ps → AllByRecursion FitsFields (map record_of ps)
all_fit [] h = tt
all_fit (p ∷ ps) h =
    let ticks = h.0.ticks in
    let short = h.0.short in (
      record { seconds = omega arith; fraction = omega arith; captured = omega arith; original = omega arith },
      all_fit ps h.1,
    )

pub read_back : ((w : Whole) → IsHeader w.header → AllByRecursion FitsFields w.records
    → Reads (file_header_bytes w.header ++ records_bytes w.header.order w.records) (Ok w))
    → (link : LinkType) (ps : List Pass) → AllByRecursion IsPass ps
    → Reads (file_header_bytes (header_for link) ++ passes_bytes ps) (Ok (file_of link ps))
read_back law link ps h = law (file_of link ps) (header_is link) (all_fit ps h)

take_shorter : (n : ℕ) (bytes : List ℕ) → length (take n bytes) ≤ length bytes
take_shorter zero bytes = omega arith
take_shorter (suc n) [] = omega arith
take_shorter (suc n) (b ∷ bs) = let e = take_shorter n bs in omega (arith, e)

shorter : (b : Bool) (n : ℕ) (bytes : List ℕ) → length (cond b bytes (take n bytes)) ≤ length bytes
shorter true n bytes = omega arith
shorter false n bytes = take_shorter n bytes

not_longer : (bytes : List ℕ) → length (unpadded bytes) ≤ length bytes
not_longer bytes =
    let total : ℕ = number_of Big w16 (drop 2 bytes) in shorter (ltb total 20 || ltb (length bytes) total) total bytes

-- the packet of a record
whole_packet : (bytes : List ℕ) → length bytes ≤ 65_535 → taken (Ok (unpadded bytes)) ≡ Some (unpadded bytes)
whole_packet bytes short =
    let small : length (unpadded bytes) ≤ 65_535 = omega (arith, not_longer bytes) in
    let no : ltb 65_535 (length (unpadded bytes)) ≡ false = le-ltb _ _ small in rw no refl

plays : (begin origin number : ℕ) (ps : List Pass) → AllByRecursion IsPass ps
    → map act_event
    (record_acts (record { header = our_header; origin = origin; ticks = false; begin = begin }) number 0
    (map record_of ps))
    ≡ map (λ (p : Pass). Comes (unpadded p.packet)) ps
unfolding record_acts
plays begin origin number [] h = refl
plays begin origin number (p ∷ ps) h =
    rw (whole_packet p.packet h.0.short)
    (ap (λ (es : List Event). Comes (unpadded p.packet) ∷ es) (plays begin origin (more_by 1 number) ps h.1))

pub played_back : (origin number : ℕ) (ps : List Pass) → AllByRecursion IsPass ps
    → map act_event (played false our_header origin number (file_of Ipv4 ps).records)
    ≡ map (λ (p : Pass). Comes (unpadded p.packet)) ps
played_back origin number ps h = plays _ origin number ps h
