-- The optional fields of a head, as its flags encode them.
use Rattle.std.proofs.Common.{◌≡◌, ℕ, ◌+◌, ◌*◌, ◌/◌, ◌%◌, ◌==◌, Bool, true, false, if◌then◌else◌, Option, Some, None, is_some, unwrap_or, refl, ap, ◌∙◌}
use Rattle.raw_cells.specs.declared.head.PacketHeader.{PacketHeader}

abbrev pub bit : Bool → ℕ
bit b = if b then 1 else 0

pub low_bit : (a b : Bool) → (bit a + 2 * bit b) % 2 ≡ bit a
low_bit true true = refl
low_bit true false = refl
low_bit false true = refl
low_bit false false = refl

pub high_bit : (a b : Bool) → (bit a + 2 * bit b) / 2 % 2 ≡ bit b
high_bit true true = refl
high_bit true false = refl
high_bit false true = refl
high_bit false false = refl

-- decoding returns the packet header that was encoded
pub packet_back : (o : Option PacketHeader) (k x y : ℕ) (d : PacketHeader) → k ≡ bit (is_some o)
    → x ≡ (unwrap_or o d).len → y ≡ (unwrap_or o d).arrival
    → (if k == 0 then None else Some (record { len = x; arrival = y })) ≡ o
packet_back None k x y d e ex ey = ap (λ j. if j == 0 then None else Some (record { len = x; arrival = y })) e
packet_back (Some p) k x y d e ex ey =
    ap (λ j. if j == 0 then None else Some (record { len = x; arrival = y })) e
    ∙ (λ t. Some (record { len = ex t; arrival = ey t }))

-- decoding returns the cluster number that was encoded
pub cluster_back : (o : Option ℕ) (k x d : ℕ) → k ≡ bit (is_some o) → x ≡ unwrap_or o d
    → (if k == 0 then None else Some x) ≡ o
cluster_back None k x d e ex = ap (λ j. if j == 0 then None else Some x) e
cluster_back (Some c) k x d e ex = ap (λ j. if j == 0 then None else Some x) e ∙ ap Some ex
