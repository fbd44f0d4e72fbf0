-- How records of classic files are read.
use Rattle.std.proofs.Common.{◌≡◌, ℕ, ◌+◌, ◌%◌, ◌^◌, ◌<◌, ◌≤◌, List, [], ◌++◌, length, take, drop, Option, Some, Ok, Err, refl, sym, ap, subst, ◌∙◌, append-nil, length-drop, arith, inl, inr}
use Rattle.std.proofs.lemmas.List.{length-append, take_all}
use Rattle.std.specs.Int.{w32}
use Rattle.std.specs.Io.KnownBytes.{IsAtEnd}
use Rattle.capture.specs.File.{number}
use Rattle.capture.specs.Records.{Captured, FitsFields, IsCut, nanoseconds, record_bytes}
use Rattle.capture.specs.declared.pcap.fault.Fault as classic
use Rattle.capture.specs.declared.pcap.header.Header.{Header}
use Rattle.capture.specs.declared.pcap.header.Order.{Order}
use Rattle.capture.specs.declared.pcap.header.Order.TheVariants.{Little, Big}
use Rattle.capture.proofs.Heads.{number_stays_at}
use Rattle.capture.proofs.Filling.{fills_all, fills_then}
use Rattle.capture.proofs.Placed.{none_left}
use Rattle.capture.specs.Feeds.{Fills}
use Rattle.capture.specs.Faults.{classic_fault_at}
use Rattle.capture.specs.Packets.{IsInside, Packet}
use Rattle.capture.specs.Steps.{ClassicReads, IsLoaded, IsRecord, captured_in}
use Rattle.capture.specs.declared.blocks.Found.{Found}
use Rattle.capture.specs.declared.fault.FaultAt.{FaultAt}
use Rattle.capture.specs.declared.fault.Why.TheVariants.{NotRead}

-- a stream that can't be read
pub not_loaded : (o : Order) (old new : Option (List ℕ)) (held buffer : List ℕ) (s : FaultAt) → held ≡ []
    → Fills old held new buffer → s.why ≡ NotRead → IsLoaded o old new buffer (Err s)
not_loaded o old new held buffer s none f why = (fills_all old new held buffer none f, inl why)

-- a header was read, and then the number of bytes that it gives, or all that are left
pub record_loaded : (o : Order) (old mid new : Option (List ℕ)) (held first buffer : List ℕ) (n : ℕ) → held ≡ []
    → Fills old held mid first → Fills mid first new buffer → 16 ≤ length first → n ≡ captured_in o first
    → length buffer ≤ 16 + n → (length buffer < 16 + n → IsAtEnd new) → IsLoaded o old new buffer (Ok tt)
record_loaded o old mid new held first buffer n none f g le is most ended =
    let long = ap length g.after ∙ length-append first g.more in
    let stays : captured_in o buffer ≡ n =
    ap (captured_in o) g.after ∙ number_stays_at o 8 first g.more (omega (arith, le)) ∙ sym is in (
      fills_all old new held buffer none (fills_then old mid new held first buffer f g),
      inr (omega (arith, le, long), omega (arith, stays, most), λ lt. ended (omega (arith, stays, lt))),
    )

-- an empty buffer at the end
pub ended_empty : (o : Order) (buffer : List ℕ) (ended : Type 0) → IsRecord o buffer ended → buffer ≡ [] → ended
ended_empty o buffer ended read none =
    elim read [
      | inl h ↦ h.1
      | inr h ↦ absurd (let len = ap length none in let le = h.0 in omega (arith, le, len))
    ]

-- too few bytes for a record
pub ended_early : (o : Order) (buffer : List ℕ) (ended : Type 0) → IsRecord o buffer ended
    → length buffer < 16 + captured_in o buffer → ended
ended_early o buffer ended read lt = elim read [ inl h ↦ h.1 | inr h ↦ h.2 lt ]

header_len : (o : Order) (a b c d : ℕ) (bytes : List ℕ)
    → drop 16 ((number o w32 a ++ number o w32 b ++ number o w32 c ++ number o w32 d) ++ bytes) ≡ bytes
header_len Little a b c d bytes = refl
header_len Big a b c d bytes = refl

-- the bytes of a record
pub record_found : (o : Order) (r : Captured) (buffer : List ℕ) → buffer ≡ record_bytes o r
    → take (length r.bytes) (drop 16 buffer) ≡ r.bytes
record_found o r buffer is =
    ap (λ (xs : List ℕ). take (length r.bytes) (drop 16 xs)) is
    ∙ ap (take (length r.bytes)) (header_len o r.seconds r.fraction (length r.bytes) r.original r.bytes)
    ∙ take_all (length r.bytes) r.bytes (omega arith)

-- the buffer has only the bytes of the record
pub all_of_record : (o : Order) (buffer rest : List ℕ) (ended : Type 0) (r : Captured) → buffer ≡ record_bytes o r ++
    rest
    → length buffer ≡ 16 + captured_in o buffer + length rest → IsRecord o buffer ended → buffer ≡ record_bytes o r
all_of_record o buffer rest ended r is len read =
    elim read [
      | inl h ↦ absurd (let lt = h.0 in omega (arith, lt, len))
      | inr h ↦
          let most = h.1 in
          let none : rest ≡ [] = none_left rest (omega (arith, len, most)) in
          is ∙ ap (λ (xs : List ℕ). record_bytes o r ++ xs) none ∙ append-nil (record_bytes o r)
    ]

-- the place of a record's packet
abbrev pub of_record : Header → Captured → ℕ → ℕ → Found
of_record h r time len =
    record {
      time = Some time;
      original_len = r.original;
      link_number = h.link_field % 2 ^ 16;
      link = Some h.link;
      from = 16;
      len = len;
    }

-- a record was read, and its packet is in the buffer
pub record_read : (h : Header) (old new : Option (List ℕ)) (buffer bytes rest : List ℕ) (r : Captured) (time len : ℕ)
    → bytes ≡ buffer → IsLoaded h.order old new buffer (Ok tt) → FitsFields r → bytes ≡ record_bytes h.order r ++ rest
    → length bytes ≡ 16 + captured_in h.order bytes + length rest → time ≡ nanoseconds h.resolution r.seconds r.fraction
    → len ≡ length r.bytes → ClassicReads h old new buffer (Ok (Some (of_record h r time len)))
record_read h old new buffer bytes rest r time len same loaded fits spelled sized time_is len_is =
    let sized_room = subst (λ (xs : List ℕ). length xs ≡ 16 + captured_in h.order xs + length rest) same sized in
    let all = all_of_record h.order buffer rest (IsAtEnd new) r (sym same ∙ spelled) sized_room loaded.1 in
    let found : take len (drop 16 buffer) ≡ r.bytes =
    ap (λ (n : ℕ). take n (drop 16 buffer)) len_is ∙ record_found h.order r buffer all in
    let packet : ℕ → List ℕ → Packet =
    λ t xs. record {
      time = Some t;
      original = r.original;
      link_number = h.link_field % 2 ^ 16;
      link = Some h.link;
      bytes = xs;
    } in
    (r, fits, loaded.0, all, ap (packet time) found ∙ ap (λ (t : ℕ). packet t r.bytes) time_is)

pub record_inside : (h : Header) (buffer bytes rest : List ℕ) (r : Captured) (ended : Type 0) (time len : ℕ)
    → bytes ≡ buffer → IsRecord h.order buffer ended → bytes ≡ record_bytes h.order r ++ rest
    → length bytes ≡ 16 + captured_in h.order bytes + length rest → len ≡ length r.bytes
    → IsInside (length buffer) (Some (of_record h r time len))
record_inside h buffer bytes rest r ended time len same read spelled sized len_is =
    let sized_room = subst (λ (xs : List ℕ). length xs ≡ 16 + captured_in h.order xs + length rest) same sized in
    let all = all_of_record h.order buffer rest ended r (sym same ∙ spelled) sized_room read in
    let body : drop 16 buffer ≡ r.bytes =
    ap (drop 16) all ∙ header_len h.order r.seconds r.fraction (length r.bytes) r.original r.bytes in
    let is = sym (ap length body) ∙ length-drop 16 buffer in
    omega (arith, is, len_is, sized_room)

-- bytes that aren't a whole record
pub record_cut : (h : Header) (old new : Option (List ℕ)) (buffer bytes : List ℕ) (f : classic.Fault) → bytes ≡ buffer
    → IsLoaded h.order old new buffer (Ok tt) → IsCut f.why h.order bytes f.offset
    → length bytes < 16 + captured_in h.order bytes → ClassicReads h old new buffer (Err (classic_fault_at f))
record_cut h old new buffer bytes f same loaded is lt =
    let short = subst (λ (xs : List ℕ). length xs < 16 + captured_in h.order xs) same lt in (
      loaded.0,
      inr (inr (
        f,
        refl,
        subst (λ (xs : List ℕ). IsCut f.why h.order xs f.offset) same is,
        ended_early h.order buffer (IsAtEnd new) loaded.1 short,
      )),
    )
