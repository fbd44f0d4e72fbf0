-- Sums of numbers of 64 bits, whose carry is added at the low end: 65,536 counts as 1, and so does 2^64.
use Rattle.std.proofs.Common.{◌≡◌, ℕ, ◌+◌, ◌*◌, ◌/◌, ◌%◌, List, [], ◌∷◌, length, slice_index_or, w64, refl, sym, ap, ◌∙◌, arith}
use Rattle.std.specs.Int.{from_le_bytes}
use Rattle.flat_model.specs.Packets.Checksum.{fold16}
use Rattle.flat_model.proofs.Laws.{fold16-high, fold16-add_first, fold16-add_second}
use Rattle.in_cksum.specs.Inside.{swapped_sum}
use Rattle.in_cksum.proofs.Words.{swapped_part_added, swapped_sum_none}

-- four words of one number
words_folded : (n w0 w1 w2 w3 : ℕ)
    → fold16 (n + (w0 + 65536 * (w1 + 65536 * (w2 + 65536 * w3)))) ≡ fold16 (n + (w0 + (w1 + (w2 + w3))))
words_folded n w0 w1 w2 w3 =
    let q1 = w2 + 65536 * w3 in
    let q0 = w1 + 65536 * q1 in
    let a0 : n + (w0 + 65536 * q0) ≡ 65536 * q0 + (n + w0) = omega arith in
    let a1 : q0 + (n + w0) ≡ 65536 * q1 + (w1 + (n + w0)) = omega arith in
    let a2 : q1 + (w1 + (n + w0)) ≡ 65536 * w3 + (w2 + (w1 + (n + w0))) = omega arith in
    let a3 : w3 + (w2 + (w1 + (n + w0))) ≡ n + (w0 + (w1 + (w2 + w3))) = omega arith in
    ap fold16 a0 ∙ fold16-high q0 (n + w0) ∙ ap fold16 a1 ∙ fold16-high q1 (w1 + (n + w0)) ∙ ap fold16 a2
    ∙ fold16-high w3 (w2 + (w1 + (n + w0))) ∙ ap fold16 a3

pub number_folded : (n r : ℕ) (s : List ℕ) → length s ≡ 8
    → r ≡ from_le_bytes w64 (slice_index_or s 0 0 ∷ slice_index_or s 1 0 ∷ slice_index_or s 2 0 ∷ slice_index_or s 3 0
    ∷ slice_index_or s 4 0 ∷ slice_index_or s 5 0 ∷ slice_index_or s 6 0 ∷ slice_index_or s 7 0 ∷ [])
    → fold16 (n + r) ≡ fold16 (n + swapped_sum s)
number_folded n r (a ∷ b ∷ c ∷ d ∷ e ∷ f ∷ g ∷ h ∷ []) long is =
    let whole : n + r ≡ n + (a + 256 * b + 65536 * (c + 256 * d + 65536 * (e + 256 * f + 65536 * (g + 256 * h)))) =
    omega arith in
    let parts : n + (a + 256 * b + (c + 256 * d + (e + 256 * f + (g + 256 * h))))
    ≡ n + swapped_sum (a ∷ b ∷ c ∷ d ∷ e ∷ f ∷ g ∷ h ∷ []) = omega arith in
    ap fold16 whole ∙ words_folded n (a + 256 * b) (c + 256 * d) (e + 256 * f) (g + 256 * h) ∙ ap fold16 parts
number_folded n r [] long is = absurd (omega arith)
number_folded n r (a ∷ []) long is = absurd (omega arith)
number_folded n r (a ∷ b ∷ []) long is = absurd (omega arith)
number_folded n r (a ∷ b ∷ c ∷ []) long is = absurd (omega arith)
number_folded n r (a ∷ b ∷ c ∷ d ∷ []) long is = absurd (omega arith)
number_folded n r (a ∷ b ∷ c ∷ d ∷ e ∷ []) long is = absurd (omega arith)
number_folded n r (a ∷ b ∷ c ∷ d ∷ e ∷ f ∷ []) long is = absurd (omega arith)
number_folded n r (a ∷ b ∷ c ∷ d ∷ e ∷ f ∷ g ∷ []) long is = absurd (omega arith)
number_folded n r (a ∷ b ∷ c ∷ d ∷ e ∷ f ∷ g ∷ h ∷ i ∷ s) long is = absurd (omega arith)

-- a carry out of 64 bits
pub carry_folded : (r c : ℕ) → fold16 (r + 18446744073709551616 * c) ≡ fold16 (r + c)
carry_folded r c =
    let words : r + 18446744073709551616 * c
    ≡ 65536 * (281474976710656 * c) + r = omega arith in
    let back : 281474976710656 * c + r ≡ r + (0 + 65536 * (0 + 65536 * (0 + 65536 * c))) = omega arith in
    let end : r + (0 + (0 + (0 + c))) ≡ r + c = omega arith in
    ap fold16 words ∙ fold16-high (281474976710656 * c) r ∙ ap fold16 back ∙ words_folded r 0 0 0 c ∙ ap fold16 end

-- a part whose sum is known by its fold, and then another
pub part_folded : (x r r' : ℕ) (part after whole : List ℕ) → fold16 r ≡ fold16 (x + swapped_sum part)
    → fold16 r' ≡ fold16 (r + swapped_sum after) → swapped_sum part + swapped_sum after ≡ swapped_sum whole
    → fold16 r' ≡ fold16 (x + swapped_sum whole)
part_folded x r r' part after whole first second cut =
    second ∙ sym (fold16-add_first r (swapped_sum after)) ∙ ap (λ n. fold16 (n + swapped_sum after)) first
    ∙ swapped_part_added x part after whole cut

-- a number in a sum may be replaced by one with the same fold
pub replaced : (n a b : ℕ) → fold16 a ≡ fold16 b → fold16 (n + a) ≡ fold16 (n + b)
replaced n a b same =
    sym (fold16-add_second n a) ∙ ap (λ m. fold16 (n + m)) same ∙ fold16-add_second n b

-- both halves of a number
pub half_folded : (s low : ℕ) → low ≡ s % 4294967296 → fold16 (low + s / 4294967296) ≡ fold16 s
half_folded s low is =
    let q = s / 4294967296 in
    let back : low + q ≡ low + (0 + (0 + (q + 0))) = omega arith in
    let words : low + (0 + 65536 * (0 + 65536 * (q + 65536 * 0))) ≡ s = omega (arith, is) in
    ap fold16 back ∙ sym (words_folded low 0 0 q 0) ∙ ap fold16 words

-- a turn: `lanes` and `sum` before it, `lanes'` and `sum'` after it
pub turn_folded : (lanes sum lanes' sum' first second after rest : ℕ) → lanes' ≡ lanes + first
    → fold16 sum' ≡ fold16 (sum + second) → first + second + after ≡ rest
    → fold16 (lanes' + sum' + after) ≡ fold16 (lanes + sum + rest)
turn_folded lanes sum lanes' sum' first second after rest more added cut =
    let apart : lanes' + sum' + after ≡ lanes' + after + sum' = omega arith in
    let back : lanes' + after + (sum + second) ≡ lanes + sum + rest = omega (arith, more, cut) in
    ap fold16 apart ∙ replaced (lanes' + after) sum' (sum + second) added ∙ ap fold16 back

-- a part that was added, and the bytes after it
pub next_folded : (x r : ℕ) (part after whole : List ℕ) → fold16 r ≡ fold16 (x + swapped_sum part)
    → swapped_sum part + swapped_sum after ≡ swapped_sum whole
    → fold16 (r + swapped_sum after) ≡ fold16 (x + swapped_sum whole)
next_folded x r part after whole same cut =
    part_folded x r (r + swapped_sum after) part after whole same refl cut

-- no bytes are left
pub none_left : (n : ℕ) (s : List ℕ) → length s ≡ 0 → fold16 n ≡ fold16 (n + swapped_sum s)
none_left n s none = let same : n ≡ n + swapped_sum s = omega (arith, swapped_sum_none s none) in ap fold16 same

-- a turn's own sum, added with its carry to the one before
pub own_sum_folded : (sum own carry low more second : ℕ) → low + 18446744073709551616 * more ≡ own + sum + carry
    → fold16 (own + carry) ≡ fold16 (0 + second) → fold16 (low + more) ≡ fold16 (sum + second)
own_sum_folded sum own carry low more second whole same =
    let apart : own + sum + carry ≡ sum + (own + carry) = omega arith in
    let back : sum + (0 + second) ≡ sum + second = omega arith in
    sym (carry_folded low more) ∙ ap fold16 whole ∙ ap fold16 apart
    ∙ replaced sum (own + carry) (0 + second) same ∙ ap fold16 back
