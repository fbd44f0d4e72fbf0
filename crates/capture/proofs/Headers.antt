-- A header that was written is read back.
use Rattle.std.proofs.Common.{◌≡◌, ℕ, ◌^◌, ◌%◌, ◌<◌, ◌≤◌, List, ◌++◌, length, drop, ltb, false, Some, Ok, refl, arith}
use Rattle.std.specs.Int.{w16, w32}
use Rattle.std.specs.List.{AllByRecursion}
use Rattle.std.proofs.lemmas.Bool.{le-ltb}
use Rattle.std.proofs.lemmas.Nat.{from_le_bytes-to_le_bytes_4, from_be_bytes-to_be_bytes_4}
use Rattle.capture.specs.Types.{link_type_of}
use Rattle.capture.specs.File.{number_of, mark_of, header_of, IsHeader, file_header_bytes}
use Rattle.capture.specs.Records.{FitsFields, Whole, Reads, records_bytes}
use Rattle.capture.specs.declared.pcap.header.Header.{Header}
use Rattle.capture.specs.declared.pcap.header.Order.{Order}
use Rattle.capture.specs.declared.pcap.header.Order.TheVariants.{Little, Big}
use Rattle.capture.specs.declared.pcap.header.Resolution.{Resolution}
use Rattle.capture.specs.declared.pcap.header.Resolution.TheVariants.{Microseconds, Nanoseconds}
use Rattle.capture.specs.declared.pcap.link_type.LinkType.{LinkType}

-- each field of a header is at its offset
pub record Stands (file : List ℕ) (h : Header) : Type 0 where
  pub long : 24 ≤ length file
  pub mark : mark_of (number_of Little w32 (drop 0 file)) ≡ Some (h.order, h.resolution)
  pub major : number_of h.order w16 (drop 4 file) ≡ 2
  pub minor : number_of h.order w16 (drop 6 file) ≡ 4
  pub time_zone : number_of h.order w32 (drop 8 file) ≡ h.time_zone
  pub accuracy : number_of h.order w32 (drop 12 file) ≡ h.accuracy
  pub snap_len : number_of h.order w32 (drop 16 file) ≡ h.snap_len
  pub link_field : number_of h.order w32 (drop 20 file) ≡ h.link_field
  pub link : link_type_of (h.link_field % 2 ^ 16) ≡ Some h.link

reads_fields : (file : List ℕ) (h : Header) → Stands file h → header_of file ≡ Ok h
unfolding header_of
reads_fields file h s =
    let long : ltb (length file) 24 ≡ false = le-ltb _ _ s.long in
    rw (long, s.mark, s.major, s.minor, s.link_field, s.link, s.time_zone, s.accuracy, s.snap_len, s.link_field) refl

spelled : (o : Order) (r : Resolution) (z a s f : ℕ) (l : LinkType) (rest : List ℕ) → z < 2 ^ 32 → a < 2 ^ 32
    → s < 2 ^ 32 → f < 2 ^ 32
    → link_type_of (f % 2 ^ 16) ≡ Some l
    → let h : Header =
    record { order = o; resolution = r; time_zone = z; accuracy = a; snap_len = s; link_field = f; link = l } in
    Stands (file_header_bytes h ++ rest) h × (drop 24 (file_header_bytes h ++ rest) ≡ rest)
spelled Little Microseconds z a s f l rest fz fa fs ff fl = (
  record {
    long = omega arith;
    mark = refl;
    major = refl;
    minor = refl;
    time_zone = from_le_bytes-to_le_bytes_4 z fz;
    accuracy = from_le_bytes-to_le_bytes_4 a fa;
    snap_len = from_le_bytes-to_le_bytes_4 s fs;
    link_field = from_le_bytes-to_le_bytes_4 f ff;
    link = fl;
  },
  refl,
)
spelled Little Nanoseconds z a s f l rest fz fa fs ff fl = (
  record {
    long = omega arith;
    mark = refl;
    major = refl;
    minor = refl;
    time_zone = from_le_bytes-to_le_bytes_4 z fz;
    accuracy = from_le_bytes-to_le_bytes_4 a fa;
    snap_len = from_le_bytes-to_le_bytes_4 s fs;
    link_field = from_le_bytes-to_le_bytes_4 f ff;
    link = fl;
  },
  refl,
)
spelled Big Microseconds z a s f l rest fz fa fs ff fl = (
  record {
    long = omega arith;
    mark = refl;
    major = refl;
    minor = refl;
    time_zone = from_be_bytes-to_be_bytes_4 z fz;
    accuracy = from_be_bytes-to_be_bytes_4 a fa;
    snap_len = from_be_bytes-to_be_bytes_4 s fs;
    link_field = from_be_bytes-to_be_bytes_4 f ff;
    link = fl;
  },
  refl,
)
spelled Big Nanoseconds z a s f l rest fz fa fs ff fl = (
  record {
    long = omega arith;
    mark = refl;
    major = refl;
    minor = refl;
    time_zone = from_be_bytes-to_be_bytes_4 z fz;
    accuracy = from_be_bytes-to_be_bytes_4 a fa;
    snap_len = from_be_bytes-to_be_bytes_4 s fs;
    link_field = from_be_bytes-to_be_bytes_4 f ff;
    link = fl;
  },
  refl,
)

pub header_again : (h : Header) (rest : List ℕ) → IsHeader h
    → (header_of (file_header_bytes h ++ rest) ≡ Ok h) × (drop 24 (file_header_bytes h ++ rest) ≡ rest)
header_again h rest i =
    let s =
    spelled h.order h.resolution h.time_zone h.accuracy h.snap_len h.link_field h.link rest i.time_zone i.accuracy
    i.snap_len i.link_field i.link in
    (reads_fields (file_header_bytes h ++ rest) h s.0, s.1)

pub spelled_reads : (w : Whole) → IsHeader w.header → AllByRecursion FitsFields w.records
    → Reads (file_header_bytes w.header ++ records_bytes w.header.order w.records) (Ok w)
spelled_reads w i f =
    let h = header_again w.header (records_bytes w.header.order w.records) i in
    (h.0, record { fit = f; bytes_are = h.1 })
