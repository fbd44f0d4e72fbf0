-- A file can be read in only one way.
use Rattle.std.proofs.Common.{◌≡◌, ℕ, ◌+◌, ◌^◌, ◌<◌, ◌≤◌, List, [], ◌∷◌, ◌++◌, length, take, drop, Result, Ok, Err, refl, sym, ap, subst, ◌∙◌, append_assoc, arith, inl, inr}
use Rattle.std.specs.Int.{w32}
use Rattle.std.specs.List.{AllByRecursion}
use Rattle.std.proofs.lemmas.List.{take_at, drop_at, append-nil, length-append}
use Rattle.std.proofs.lemmas.Nat.{from_le_bytes-to_le_bytes_4, from_be_bytes-to_be_bytes_4}
use Rattle.capture.specs.File.{number, number_of, header_of}
use Rattle.capture.specs.Records.{Captured, FitsFields, record_header, record_bytes, records_bytes, EndsEarly, IsCut, Whole, StopsIn, Reads}
use Rattle.capture.specs.declared.pcap.fault.Fault.{Fault}
use Rattle.capture.specs.declared.pcap.fault.Why.{Why}
use Rattle.capture.specs.declared.pcap.fault.Why.TheVariants.{HeaderCut, BadMagic, BadVersion, BadLinkType, RecordCut, BytesCut}
use Rattle.capture.specs.declared.pcap.header.Header.{Header}
use Rattle.capture.specs.declared.pcap.header.Order.{Order}
use Rattle.capture.specs.declared.pcap.header.Order.TheVariants.{Little, Big}

-- two prefixes of the same length, if the lists are equal
same_parts : (a b x y : List ℕ) → length a ≡ length b → a ++ x ≡ b ++ y → (a ≡ b) × (x ≡ y)
same_parts a b x y len e = (
  sym (take_at a x (length b) len) ∙ ap (take (length b)) e ∙ take_at b y (length b) refl,
  sym (drop_at a x (length b) len) ∙ ap (drop (length b)) e ∙ drop_at b y (length b) refl,
)

number_len : (o : Order) (n : ℕ) → length (number o w32 n) ≡ 4
number_len Little n = refl
number_len Big n = refl

number_again : (o : Order) (n : ℕ) → n < 2 ^ 32 → number_of o w32 (number o w32 n) ≡ n
number_again Little n lt = from_le_bytes-to_le_bytes_4 n lt
number_again Big n lt = from_be_bytes-to_be_bytes_4 n lt

same_number : (o : Order) (m n : ℕ) (x y : List ℕ) → m < 2 ^ 32 → n < 2 ^ 32 → number o w32 m ++ x ≡ number o w32 n ++ y
    → (m ≡ n) × (x ≡ y)
same_number o m n x y p q e =
    let parts = same_parts (number o w32 m) (number o w32 n) x y (number_len o m ∙ sym (number_len o n)) e in
    (sym (number_again o m p) ∙ ap (number_of o w32) parts.0 ∙ number_again o n q, parts.1)

regrouped : (o : Order) (a b c d : ℕ) (x : List ℕ)
    → record_header o a b c d ++ x ≡ number o w32 a ++ (number o w32 b ++ (number o w32 c ++ (number o w32 d ++ x)))
regrouped o a b c d x = simp append_assoc

header_len : (o : Order) (a b c d : ℕ) → length (record_header o a b c d) ≡ 16
header_len Little a b c d = refl
header_len Big a b c d = refl

pub record SameHeader (a b c d a' b' c' d' : ℕ) (x y : List ℕ) : Type 0 where
  pub seconds : a ≡ a'
  pub fraction : b ≡ b'
  pub captured : c ≡ c'
  pub original : d ≡ d'
  pub rest : x ≡ y

same_header : (o : Order) (a b c d a' b' c' d' : ℕ) (x y : List ℕ)
    → a < 2 ^ 32 → b < 2 ^ 32 → c < 2 ^ 32 → d < 2 ^ 32 → a' < 2 ^ 32 → b' < 2 ^ 32 → c' < 2 ^ 32 → d' < 2 ^ 32
    → record_header o a b c d ++ x ≡ record_header o a' b' c' d' ++ y → SameHeader a b c d a' b' c' d' x y
same_header o a b c d a' b' c' d' x y fa fb fc fd fa' fb' fc' fd' e =
    let e1 = sym (regrouped o a b c d x) ∙ e ∙ regrouped o a' b' c' d' y in
    let s =
    same_number o a a' (number o w32 b ++ (number o w32 c ++ (number o w32 d ++ x)))
    (number o w32 b' ++ (number o w32 c' ++ (number o w32 d' ++ y))) fa fa' e1 in
    let f =
    same_number o b b' (number o w32 c ++ (number o w32 d ++ x)) (number o w32 c' ++ (number o w32 d' ++ y)) fb fb'
    s.1 in
    let k = same_number o c c' (number o w32 d ++ x) (number o w32 d' ++ y) fc fc' f.1 in
    let l = same_number o d d' x y fd fd' k.1 in
    record { seconds = s.0; fraction = f.0; captured = k.0; original = l.0; rest = l.1 }

-- the bytes of a first record: its header, and then the packet's
parted : (o : Order) (r : Captured) (x : List ℕ)
    → record_bytes o r ++ x ≡ record_header o r.seconds r.fraction (length r.bytes) r.original ++ (r.bytes ++ x)
parted o r x = append_assoc (record_header o r.seconds r.fraction (length r.bytes) r.original) r.bytes x

captured_is : (r s : Captured) → r.seconds ≡ s.seconds → r.fraction ≡ s.fraction → r.original ≡ s.original
    → r.bytes ≡ s.bytes → r ≡ s
captured_is r s p q t b =
    ap (λ (n : ℕ). record r { seconds = n }) p ∙ ap (λ (n : ℕ). record r { seconds = s.seconds; fraction = n }) q
    ∙ ap (λ (n : ℕ). record r { seconds = s.seconds; fraction = s.fraction; original = n }) t
    ∙ ap (λ (xs : List ℕ). record s { bytes = xs }) b

record_len : (o : Order) (r : Captured) (x : List ℕ) → length (record_bytes o r ++ x) ≡ 16 + length r.bytes + length x
record_len o r x =
    let a = length-append (record_header o r.seconds r.fraction (length r.bytes) r.original) (r.bytes ++ x) in
    let b = length-append r.bytes x in
    let c = header_len o r.seconds r.fraction (length r.bytes) r.original in
    let d = ap length (parted o r x) in
    omega (arith, a, b, c, d)

same_record : (o : Order) (r s : Captured) (x y : List ℕ) → FitsFields r → FitsFields s
    → record_bytes o r ++ x ≡ record_bytes o s ++ y → (r ≡ s) × (x ≡ y)
same_record o r s x y f g e =
    let h =
    same_header o r.seconds r.fraction (length r.bytes) r.original s.seconds s.fraction (length s.bytes) s.original
    (r.bytes ++ x) (s.bytes ++ y)
    f.seconds f.fraction f.captured f.original g.seconds g.fraction g.captured g.original
    (sym (parted o r x) ∙ e ∙ parted o s y) in
    let b = same_parts r.bytes s.bytes x y h.captured h.rest in
    (captured_is r s h.seconds h.fraction h.original b.0, b.1)

-- bytes that end too early don't begin with a record
pub no_record : (o : Order) (why : Why) (bytes : List ℕ) (at : ℕ) (r : Captured) (x : List ℕ) → IsCut why o bytes at
    → FitsFields r → bytes ≡ record_bytes o r ++ x → ⊥
no_record o RecordCut bytes at r x cut f e =
    let l : length bytes ≡ length (record_bytes o r ++ x) = ap length e in
    let k = record_len o r x in
    omega (arith, cut.2, l, k)
no_record o BytesCut bytes at r x cut f e =
    let d = cut.1 in
    let h =
    same_header o d.seconds d.fraction d.captured d.original r.seconds r.fraction (length r.bytes) r.original d.rest
    (r.bytes ++ x)
    d.seconds_fit d.fraction_fit d.captured_fit d.original_fit f.seconds f.fraction f.captured f.original
    (sym d.bytes_are ∙ e ∙ parted o r x) in
    let l : length d.rest ≡ length (r.bytes ++ x) = ap length h.rest in
    omega (arith, d.early, h.captured, simp length-append at l)
no_record o HeaderCut bytes at r x cut f e = cut
no_record o BadMagic bytes at r x cut f e = cut
no_record o BadVersion bytes at r x cut f e = cut
no_record o (BadLinkType n) bytes at r x cut f e = cut

-- these bytes don't begin with a record
pub record NoRecord (o : Order) (bytes : List ℕ) : Type 0 where
  pub none : (r : Captured) (x : List ℕ) → FitsFields r → bytes ≡ record_bytes o r ++ x → ⊥

none_in_nothing : (o : Order) → NoRecord o []
none_in_nothing o = record {
  none = λ r x f e.
      let l : 0 ≡ length (record_bytes o r ++ x) = ap length e in
      let k = record_len o r x in
      omega (arith, l, k);
}

none_in_cut : (o : Order) (why : Why) (bytes : List ℕ) (at : ℕ) → IsCut why o bytes at → NoRecord o bytes
none_in_cut o why bytes at cut = record { none = λ r x f e. no_record o why bytes at r x cut f e }

-- two lists of records are equal if no record follows either of them
same_records : (o : Order) (rs ss : List Captured) (x y : List ℕ) → AllByRecursion FitsFields rs
    → AllByRecursion FitsFields ss
    → NoRecord o x → NoRecord o y
    → records_bytes o rs ++ x ≡ records_bytes o ss ++ y → (rs ≡ ss) × (x ≡ y)
same_records o [] [] x y f g p q e = (refl, e)
same_records o [] (s ∷ ss) x y f g p q e =
    absurd (p.none s (records_bytes o ss ++ y) g.0 (e ∙ append_assoc (record_bytes o s) (records_bytes o ss) y))
same_records o (r ∷ rs) [] x y f g p q e =
    absurd (q.none r (records_bytes o rs ++ x) f.0 (sym e ∙ append_assoc (record_bytes o r) (records_bytes o rs) x))
same_records o (r ∷ rs) (s ∷ ss) x y f g p q e =
    let first = same_record o r s (records_bytes o rs ++ x) (records_bytes o ss ++ y) f.0 g.0
    (sym (append_assoc (record_bytes o r) (records_bytes o rs) x) ∙ e
    ∙ append_assoc (record_bytes o s) (records_bytes o ss) y) in
    let others = same_records o rs ss x y f.1 g.1 p q first.1 in
    let a = first.0 in
    let b = others.0 in
    (cc, others.1)

-- bytes that end after a record's header have all of the header
early_len : (o : Order) (bytes : List ℕ) → EndsEarly o bytes → 16 ≤ length bytes
early_len o bytes d =
    let l : length bytes ≡ length (record_header o d.seconds d.fraction d.captured d.original ++ d.rest) =
    ap length d.bytes_are in
    let a = length-append (record_header o d.seconds d.fraction d.captured d.original) d.rest in
    let k = header_len o d.seconds d.fraction d.captured d.original in
    omega (arith, l, a, k)

cut_len : (o : Order) (why : Why) (bytes : List ℕ) (at : ℕ) → IsCut why o bytes at → 0 < length bytes
cut_len o RecordCut bytes at cut = cut.1
cut_len o BytesCut bytes at cut = omega (arith, early_len o bytes cut.1)
cut_len o HeaderCut bytes at cut = absurd cut
cut_len o BadMagic bytes at cut = absurd cut
cut_len o BadVersion bytes at cut = absurd cut
cut_len o (BadLinkType n) bytes at cut = absurd cut

same_cut : (o : Order) (why other : Why) (bytes : List ℕ) (at at' : ℕ) → IsCut why o bytes at → IsCut other o bytes at'
    → (why ≡ other) × (at ≡ at')
same_cut o RecordCut RecordCut bytes at at' p q = (refl, p.0 ∙ sym q.0)
same_cut o RecordCut BytesCut bytes at at' p q = absurd (omega (arith, p.2, early_len o bytes q.1))
same_cut o BytesCut RecordCut bytes at at' p q = absurd (omega (arith, q.2, early_len o bytes p.1))
same_cut o BytesCut BytesCut bytes at at' p q = (refl, p.0 ∙ sym q.0)
same_cut o RecordCut _ bytes at at' p q = absurd q
same_cut o BytesCut _ bytes at at' p q = absurd q
same_cut o _ other bytes at at' p q = absurd p

same_header_read : (file : List ℕ) (h k : Header) → header_of file ≡ Ok h → header_of file ≡ Ok k → h ≡ k
same_header_read file h k p q = cc

no_header_read : (file : List ℕ) (h : Header) (f : Fault) → header_of file ≡ Ok h → header_of file ≡ Err f → ⊥
no_header_read file h f p q = cc

same_fault_read : (file : List ℕ) (f g : Fault) → header_of file ≡ Err f → header_of file ≡ Err g → f ≡ g
same_fault_read file f g p q = cc

whole_or_cut : (file : List ℕ) (w : Whole) (f : Fault) → Reads file (Ok w) → StopsIn file f → ⊥
whole_or_cut file w f r s =
    let h : s.header ≡ w.header = same_header_read file s.header w.header s.read r.0 in
    let o : s.header.order ≡ w.header.order = ap (λ (k : Header). k.order) h in
    let e =
    append-nil (records_bytes w.header.order w.records) ∙ sym r.1.bytes_are ∙ s.bytes_are
    ∙ ap (λ (k : Order). records_bytes k s.records ++ s.rest) o in
    let c = subst (λ (k : Order). IsCut f.why k s.rest s.at) o s.cut in
    let both =
    same_records w.header.order w.records s.records [] s.rest r.1.fit s.fit (none_in_nothing w.header.order)
    (none_in_cut w.header.order f.why s.rest s.at c) e in
    let l : 0 ≡ length s.rest = ap length both.1 in
    omega (arith, l, cut_len w.header.order f.why s.rest s.at c)

same_whole : (file : List ℕ) (v w : Whole) → Reads file (Ok v) → Reads file (Ok w) → v ≡ w
same_whole file v w r s =
    let h : v.header ≡ w.header = same_header_read file v.header w.header r.0 s.0 in
    let o : v.header.order ≡ w.header.order = ap (λ (k : Header). k.order) h in
    let e =
    ap (λ (k : Order). records_bytes k v.records ++ []) (sym o) ∙ append-nil (records_bytes v.header.order v.records)
    ∙ sym r.1.bytes_are ∙ s.1.bytes_are ∙ sym (append-nil (records_bytes w.header.order w.records)) in
    let both =
    same_records w.header.order v.records w.records [] [] r.1.fit s.1.fit (none_in_nothing w.header.order)
    (none_in_nothing w.header.order) e in
    ap (λ (k : Header). record v { header = k }) h ∙ ap (λ (rs : List Captured). record w { records = rs }) both.0

same_stop : (file : List ℕ) (f g : Fault) → StopsIn file f → StopsIn file g → f ≡ g
same_stop file f g r s =
    let h : r.header ≡ s.header = same_header_read file r.header s.header r.read s.read in
    let o : r.header.order ≡ s.header.order = ap (λ (k : Header). k.order) h in
    let e = ap (λ (k : Order). records_bytes k r.records ++ r.rest) (sym o) ∙ sym r.bytes_are ∙ s.bytes_are in
    let c = subst (λ (k : Order). IsCut f.why k r.rest r.at) o r.cut in
    let both =
    same_records s.header.order r.records s.records r.rest s.rest r.fit s.fit
    (none_in_cut s.header.order f.why r.rest r.at c) (none_in_cut s.header.order g.why s.rest s.at s.cut) e in
    let c' = subst (λ (b : List ℕ). IsCut f.why s.header.order b r.at) both.1 c in
    let same = same_cut s.header.order f.why g.why s.rest r.at s.at c' s.cut in
    let offset : f.offset ≡ g.offset =
    r.offset_is ∙ ap (λ (n : ℕ). 24 + length (records_bytes r.header.order r.records) + n) same.1
    ∙ ap (λ (k : Order). 24 + length (records_bytes k r.records) + s.at) o
    ∙ ap (λ (ws : List Captured). 24 + length (records_bytes s.header.order ws) + s.at) both.0
    ∙ sym s.offset_is in
    ap (λ (y : Why). record f { why = y }) same.0 ∙ ap (λ (n : ℕ). record g { offset = n }) offset

-- two outcomes of reading a file are equal
pub same_reading : (file : List ℕ) (a b : Result Whole Fault) → Reads file a → Reads file b → a ≡ b
same_reading file (Ok v) (Ok w) r s = ap (λ (x : Whole). Ok x) (same_whole file v w r s)
same_reading file (Ok w) (Err f) r s =
    elim s [ inl e ↦ absurd (no_header_read file w.header f r.0 e) | inr t ↦ absurd (whole_or_cut file w f r t) ]
same_reading file (Err f) (Ok w) r s =
    elim r [ inl e ↦ absurd (no_header_read file w.header f s.0 e) | inr t ↦ absurd (whole_or_cut file w f s t) ]
same_reading file (Err f) (Err g) r s =
    elim r [
      | inl e ↦ elim s [
        | inl d ↦ ap (λ (x : Fault). Err x) (same_fault_read file f g e d)
        | inr t ↦
            absurd (no_header_read file t.header f t.read e)
      ]
      | inr t ↦ elim s [
        | inl d ↦ absurd (no_header_read file t.header g t.read d)
        | inr u ↦
            ap (λ (x : Fault). Err x) (same_stop file f g t u)
      ]
    ]
