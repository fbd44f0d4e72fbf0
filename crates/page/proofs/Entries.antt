-- Records of a capture, with one more each time.
use Rattle.std.proofs.Common.{◌≡◌, ℕ, ◌+◌, ◌++◌, List, [], ◌∷◌, Some, None, Ok, Err, refl, sym, ap, subst, ◌∙◌, append_assoc, append-nil, arith}
use Rattle.std.proofs.lemmas.List.{length-append}
use Rattle.capture.specs.Places.{Reading, Steps}
use Rattle.capture.specs.declared.records.Record.{Record}
use Rattle.capture.specs.declared.fault.Fault.{Fault}
use Rattle.page.specs.Recorded.{CapturedRecord, ReadsRecords, ReadsAll, SoFar, record_bytes, records_bytes}

pub none : (old : Reading) (text : List ℕ) → SoFar old text old text 0
none old text = ([], refl, sym (append-nil text), refl)

-- one more record
reads_more : (old : Reading) (es : List CapturedRecord) (mid new : Reading) (e : CapturedRecord)
    → ReadsRecords old es mid → Steps mid new (Ok (Some e.at)) → e.frame ≡ new.bytes
    → ReadsRecords old (es ++ e ∷ []) new
reads_more old [] mid new e read step frame =
    (new, subst (λ (r : Reading). Steps r new (Ok (Some e.at))) read step, frame, refl)
reads_more old (x ∷ xs) mid new e read step frame =
    (read.0, read.1, read.2, reads_more read.0 xs mid new e read.3 step frame)

bytes_with_record : (es : List CapturedRecord) (e : CapturedRecord)
    → records_bytes (es ++ e ∷ []) ≡ records_bytes es ++ record_bytes e.at e.frame
bytes_with_record [] e = append-nil (record_bytes e.at e.frame)
bytes_with_record (x ∷ xs) e =
    ap (λ (ys : List ℕ). record_bytes x.at x.frame ++ ys) (bytes_with_record xs e)
    ∙ sym (append_assoc (record_bytes x.at x.frame) (records_bytes xs) (record_bytes e.at e.frame))

-- after one more record, its text follows the text before
pub more_of : (old : Reading) (before : List ℕ) (mid new : Reading) (text after frame : List ℕ) (n : ℕ)
    (r : Record) → SoFar old before mid text n → Steps mid new (Ok (Some r)) → frame ≡ new.bytes
    → after ≡ text ++ record_bytes r frame → SoFar old before new after (n + 1)
more_of old before mid new text after frame n r so step is more =
    let e : CapturedRecord = record { at = r; frame = frame } in
    let es = so.0 in
    let texts = so.2 in
    let count = so.3 in
    let long = length-append es (e ∷ []) in (
      es ++ e ∷ [],
      reads_more old es mid new e so.1 step is,
      more
          ∙ ap (λ (t : List ℕ). t ++ record_bytes r frame) texts
          ∙ append_assoc before (records_bytes es) (record_bytes r frame)
          ∙ ap (λ (t : List ℕ). before ++ t) (sym (bytes_with_record es e)),
      omega (arith, count, long),
    )

pub ended : (old : Reading) (before : List ℕ) (mid new : Reading) (after : List ℕ) (n : ℕ)
    → SoFar old before mid after n → Steps mid new (Ok None) → ReadsAll old before after n None
ended old before mid new after n so step = (mid, so, (new, step))

pub failed : (old : Reading) (before : List ℕ) (mid new : Reading) (after : List ℕ) (n : ℕ) (fault : Fault)
    → SoFar old before mid after n → Steps mid new (Err fault) → ReadsAll old before after n (Some fault)
failed old before mid new after n fault so step = (mid, so, (new, step))
