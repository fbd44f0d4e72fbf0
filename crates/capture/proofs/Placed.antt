-- The position of a packet's bytes in a block and in a record.
use Rattle.std.proofs.Common.{◌≡◌, ℕ, ◌+◌, ◌≤◌, List, [], ◌∷◌, ◌++◌, length, take, drop, Option, Result, Ok, Err, refl, sym, ap, ◌∙◌, append_assoc, append-nil, drop-drop, length-drop, arith, inl, inr}
use Rattle.std.proofs.lemmas.List.{drop-append-le, take-append-le, length-append}
use Rattle.std.specs.Int.{w32}
use Rattle.capture.specs.File.{number}
use Rattle.capture.specs.declared.pcap.header.Order.{Order}
use Rattle.capture.specs.declared.pcap.header.Order.TheVariants.{Little, Big}
use Rattle.capture.specs.Blocks.{Part, block_bytes, size}
use Rattle.capture.specs.declared.pcapng.fault.Fault.{Fault}
use Rattle.capture.specs.Packets.{IsFirst}
use Rattle.capture.specs.Steps.{IsBlockRead}
use Rattle.capture.proofs.Spelled.{past_both}

pub number_len : (o : Order) (n : ℕ) → length (number o w32 n) ≡ 4
number_len Little n = refl
number_len Big n = refl

-- a block, and the bytes after it
after_head : (b : Part) (rest : List ℕ)
    → drop 8 (block_bytes b ++ rest) ≡ b.body ++ (number b.order w32 (size b) ++ rest)
after_head b rest =
    let n = number b.order w32 (size b) in
    let regrouped : block_bytes b ++ rest ≡ number b.order w32 b.kind ++ (n ++ (b.body ++ (n ++ rest))) =
    simp append_assoc in
    ap (drop 8) regrouped ∙ past_both b.order b.kind (size b) (b.body ++ (n ++ rest))

-- bytes in a block's body are found in the block
pub placed : (b : Part) (bytes rest : List ℕ) (from len : ℕ) → bytes ≡ block_bytes b ++ rest
    → from + len ≤ length b.body → take len (drop (from + 8) bytes) ≡ take len (drop from b.body)
placed b bytes rest from len is le =
    let tail = number b.order w32 (size b) ++ rest in
    let plus : from + 8 ≡ 8 + from = omega arith in
    let at : drop (from + 8) bytes ≡ drop from (b.body ++ tail) =
    ap (λ (k : ℕ). drop k bytes) plus ∙ sym (drop-drop from 8 bytes)
    ∙ ap (drop from) (ap (drop 8) is ∙ after_head b rest) in
    let apart : drop from (b.body ++ tail) ≡ drop from b.body ++ tail =
    drop-append-le from b.body tail (omega (arith, le)) in
    let long = length-drop from b.body in
    ap (take len) (at ∙ apart) ∙ take-append-le len (drop from b.body) tail (omega (arith, le, long))

pub block_len : (b : Part) → length (block_bytes b) ≡ size b
block_len b =
    let n = number b.order w32 (size b) in
    let a = length-append (number b.order w32 b.kind) (n ++ (b.body ++ n)) in
    let c = length-append n (b.body ++ n) in
    let d = length-append b.body n in
    let k = number_len b.order b.kind in
    let l = number_len b.order (size b) in
    omega (arith, a, c, d, k, l)

pub none_left : (xs : List ℕ) → length xs ≤ 0 → xs ≡ []
none_left [] le = refl
none_left (x ∷ xs) le = absurd (omega (arith, le))

abbrev pair : Order → ℕ → Result (Order × ℕ) Fault
pair o n = Ok (o, n)

abbrev said : Result (Order × ℕ) Fault → ℕ
said (Ok r) = r.1
said (Err f) = 0

the_size : (p o : Order) (m n : ℕ) → pair p m ≡ pair o n → m ≡ n
the_size p o m n e = ap said e

-- the buffer has only the bytes of the block, as long as its head says
pub all_of_it : (o : Option Order) (buffer : List ℕ) (ended : Type 0) (b : Part) → IsFirst o buffer b
    → IsBlockRead o buffer ended → buffer ≡ block_bytes b
all_of_it o buffer ended b first read =
    let long = ap length first.spelled ∙ length-append (block_bytes b) first.rest in
    let len = block_len b in
    elim read [
      | inl h ↦ absurd (let lt = h.0 in omega (arith, long, len, lt))
      | inr h ↦
          let is : h.1 ≡ size b = the_size h.0 b.order h.1 (size b) (sym h.2 ∙ first.head) in
          let most = h.4 in
          let none : first.rest ≡ [] = none_left first.rest (omega (arith, long, len, is, most)) in
          first.spelled ∙ ap (λ (xs : List ℕ). block_bytes b ++ xs) none ∙ append-nil (block_bytes b)
    ]
