-- A block that was written is read back.
use Rattle.std.proofs.Common.{◌≡◌, ℕ, ◌+◌, ◌-◌, ◌%◌, ◌^◌, ◌<◌, List, ◌++◌, length, take, drop, eqb, ltb, true, false, Option, Some, None, Ok, refl, sym, ap, subst, ◌∙◌, append_assoc, arith, inl, inr}
use Rattle.std.specs.Int.{w32}
use Rattle.std.proofs.lemmas.Bool.{eq-eqb, le-ltb, ne_eqb}
use Rattle.std.proofs.lemmas.List.{take_at, drop_at, length-append}
use Rattle.std.proofs.lemmas.Nat.{from_le_bytes-to_le_bytes_4, from_be_bytes-to_be_bytes_4}
use Rattle.capture.specs.File.{number, number_of}
use Rattle.capture.specs.declared.pcap.header.Order.{Order}
use Rattle.capture.specs.declared.pcap.header.Order.TheVariants.{Little, Big}
use Rattle.capture.specs.Blocks.{Part, size, block_bytes, marked, order_at, of_length, next_of, after, IsBlock, IsInOrder}
use Rattle.capture.specs.declared.pcapng.block.TheConstants.{SECTION_HEADER, BYTE_ORDER_MAGIC}

-- a block's body and what follows it
abbrev tail : Part → List ℕ → List ℕ
tail b rest = b.body ++ (number b.order w32 (size b) ++ rest)

-- a block before others
abbrev front : Part → List ℕ → List ℕ
front b rest = number b.order w32 b.kind ++ (number b.order w32 (size b) ++ tail b rest)

regrouped : (b : Part) (rest : List ℕ) → block_bytes b ++ rest ≡ front b rest
regrouped b rest = simp append_assoc

number_len : (o : Order) (n : ℕ) → length (number o w32 n) ≡ 4
number_len Little n = refl
number_len Big n = refl

number_first : (o : Order) (n : ℕ) (x : List ℕ) → n < 2 ^ 32 → number_of o w32 (number o w32 n ++ x) ≡ n
number_first Little n x lt = from_le_bytes-to_le_bytes_4 n lt
number_first Big n x lt = from_be_bytes-to_be_bytes_4 n lt

past_number : (o : Order) (n : ℕ) (x : List ℕ) → drop 4 (number o w32 n ++ x) ≡ x
past_number Little n x = refl
past_number Big n x = refl

pub past_both : (o : Order) (m n : ℕ) (x : List ℕ) → drop 8 (number o w32 m ++ (number o w32 n ++ x)) ≡ x
past_both Little m n x = refl
past_both Big m n x = refl

front_len : (b : Part) (rest : List ℕ) → length (front b rest) ≡ size b + length rest
front_len b rest =
    let n = number b.order w32 (size b) in
    let a = length-append (number b.order w32 b.kind) (n ++ tail b rest) in
    let c = length-append n (tail b rest) in
    let d = length-append b.body (n ++ rest) in
    let e = length-append n rest in
    let k = number_len b.order b.kind in
    let l = number_len b.order (size b) in
    omega (arith, a, c, d, e, k, l)

-- the type of a section's header is read in both orders
header_is : (o p : Order) (x : List ℕ) → number_of o w32 (number p w32 SECTION_HEADER ++ x) ≡ SECTION_HEADER
header_is Little Little x = refl
header_is Little Big x = refl
header_is Big Little x = refl
header_is Big Big x = refl

mark_is : (p : Order) (x : List ℕ) → marked (number_of Little w32 (number p w32 BYTE_ORDER_MAGIC ++ x)) ≡ Ok p
mark_is Little x = refl
mark_is Big x = refl

header_order : (o : Option Order) (b : Part) (rest r : List ℕ) → b.kind ≡ SECTION_HEADER
    → b.body ≡ number b.order w32 BYTE_ORDER_MAGIC ++ r → order_at o (front b rest) ≡ Ok b.order
header_order None b rest r k e =
    let n = number b.order w32 (size b) in
    let h : number_of Little w32 (front b rest) ≡ SECTION_HEADER =
    ap (λ (i : ℕ). number_of Little w32 (number b.order w32 i ++ (n ++ tail b rest))) k
    ∙ header_is Little b.order (n ++ tail b rest) in
    let d : drop 8 (front b rest) ≡ number b.order w32 BYTE_ORDER_MAGIC ++ (r ++ (n ++ rest)) =
    past_both b.order b.kind (size b) (tail b rest) ∙ ap (λ (x : List ℕ). x ++ (n ++ rest)) e
    ∙ append_assoc (number b.order w32 BYTE_ORDER_MAGIC) r (n ++ rest) in
    rw (h, d) (mark_is b.order (r ++ (n ++ rest)))
header_order (Some o) b rest r k e =
    let n = number b.order w32 (size b) in
    let h : number_of o w32 (front b rest) ≡ SECTION_HEADER =
    ap (λ (i : ℕ). number_of o w32 (number b.order w32 i ++ (n ++ tail b rest))) k
    ∙ header_is o b.order (n ++ tail b rest) in
    let d : drop 8 (front b rest) ≡ number b.order w32 BYTE_ORDER_MAGIC ++ (r ++ (n ++ rest)) =
    past_both b.order b.kind (size b) (tail b rest) ∙ ap (λ (x : List ℕ). x ++ (n ++ rest)) e
    ∙ append_assoc (number b.order w32 BYTE_ORDER_MAGIC) r (n ++ rest) in
    rw (h, d) (mark_is b.order (r ++ (n ++ rest)))

other_order : (b : Part) (rest : List ℕ) → b.kind < 2 ^ 32 → (b.kind ≡ SECTION_HEADER → ⊥)
    → order_at (Some b.order) (front b rest) ≡ Ok b.order
other_order b rest lt n =
    let k : number_of b.order w32 (front b rest) ≡ b.kind =
    number_first b.order b.kind (number b.order w32 (size b) ++ tail b rest) lt in
    let f = ne_eqb b.kind SECTION_HEADER n in
    rw (k, f) refl

order_again : (o : Option Order) (b : Part) (rest : List ℕ) → IsBlock b → IsInOrder o b
    → order_at o (front b rest) ≡ Ok b.order
order_again o b rest i s =
    elim s [
      | inl h ↦ header_order o b rest h.1.0 h.0 h.1.1
      | inr h ↦ subst (λ (p : Option Order). order_at p (front b rest) ≡ Ok b.order) (sym h.1)
          (other_order b rest i.kind h.0)
    ]

length_again : (b : Part) (rest : List ℕ) → IsBlock b → of_length b.order (size b) (front b rest) ≡ Ok b
length_again b rest i =
    let n = number b.order w32 (size b) in
    let low : ltb (size b) 12 ≡ false = le-ltb _ _ (omega arith) in
    let f = i.filled in
    let filled : eqb (size b % 4) 0 ≡ true = eq-eqb (size b % 4) 0 (omega (arith, f)) in
    let l = front_len b rest in
    let high : ltb (length (front b rest)) (size b) ≡ false = le-ltb _ _ (omega (arith, l)) in
    let inner : after (front b rest) ≡ tail b rest =
    ap (drop 4) (past_number b.order b.kind (n ++ tail b rest)) ∙ past_number b.order (size b) (tail b rest) in
    let len : size b - 12 ≡ length b.body = omega arith in
    let d : drop (length b.body) (tail b rest) ≡ n ++ rest = drop_at b.body (n ++ rest) (length b.body) refl in
    let again : number_of b.order w32 (n ++ rest) ≡ size b = number_first b.order (size b) rest i.size in
    let same : eqb (size b) (size b) ≡ true = eq-eqb (size b) (size b) refl in
    let t : take (length b.body) (tail b rest) ≡ b.body = take_at b.body (n ++ rest) (length b.body) refl in
    let k : number_of b.order w32 (front b rest) ≡ b.kind = number_first b.order b.kind (n ++ tail b rest) i.kind in
    rw (low, filled, high, inner, len, d, again, same, t, k) refl

-- a block that was written is read back, whatever follows it
pub block_again : (o : Option Order) (b : Part) (rest : List ℕ) → IsBlock b → IsInOrder o b
    → next_of o (block_bytes b ++ rest) ≡ Ok b
unfolding next_of
block_again o b rest i s =
    let l = front_len b rest in
    let long : ltb (length (front b rest)) 12 ≡ false = le-ltb _ _ (omega (arith, l)) in
    let order = order_again o b rest i s in
    let n = number b.order w32 (size b) in
    let total : number_of b.order w32 (drop 4 (front b rest)) ≡ size b =
    ap (number_of b.order w32) (past_number b.order b.kind (n ++ tail b rest))
    ∙ number_first b.order (size b) (tail b rest) i.size in
    rw (regrouped b rest, long, order, total) (length_again b rest i)
