-- The words of few bytes, taken 8, 4, 2 and 1 at a time.
use Rattle.std.proofs.Common.{◌≡◌, ℕ, ◌+◌, ◌-◌, ◌*◌, ◌/◌, ◌<◌, ◌≤◌, List, [], ◌∷◌, length, get_or, slice_index_or, take, take_all, drop, bit_and, Fits, w8, w16, w32, w64, sym, ap, ◌∙◌, arith, inl, inr}
use Rattle.std.proofs.lemmas.Nat.{and_mask}
use Rattle.std.specs.Int.{from_le_bytes}
use Rattle.flat_model.specs.Packets.Checksum.{fold16}
use Rattle.flat_model.proofs.Laws.{fold16-high}
use Rattle.in_cksum.specs.Inside.{CountsAs, IsAdded, IsLeft, TakesUpTo, swapped_sum}

-- ---- 8 and 4 bytes

pub eight_taken : (sum r : ℕ) (s : List ℕ) → 8 ≤ length s → ((k : ℕ) → Fits w8 (get_or s k 0))
    → r ≡ from_le_bytes w64 (slice_index_or s 0 0 ∷ slice_index_or s 1 0 ∷ slice_index_or s 2 0 ∷ slice_index_or s 3 0
    ∷ slice_index_or s 4 0 ∷ slice_index_or s 5 0 ∷ slice_index_or s 6 0 ∷ slice_index_or s 7 0 ∷ [])
    → TakesUpTo 8 sum s (sum + bit_and r 4294967295 + r / 4294967296) (take (length s - 8) (drop 8 s))
eight_taken sum r (a ∷ b ∷ c ∷ d ∷ e ∷ f ∷ g ∷ h ∷ s) long fits is =
    let ba : a < 256 = (fits 0).fits in
    let bb : b < 256 = (fits 1).fits in
    let bc : c < 256 = (fits 2).fits in
    let bd : d < 256 = (fits 3).fits in
    let be : e < 256 = (fits 4).fits in
    let bf : f < 256 = (fits 5).fits in
    let bg : g < 256 = (fits 6).fits in
    let bh : h < 256 = (fits 7).fits in
    let whole : r ≡ a + 256 * b + 65536 * (c + 256 * d) + 4294967296 * (e + 256 * f + 65536 * (g + 256 * h)) =
    omega arith in
    let low : bit_and r 4294967295 ≡ a + 256 * b + 65536 * (c + 256 * d) = omega (arith, and_mask r 32) in
    let high : r / 4294967296 ≡ e + 256 * f + 65536 * (g + 256 * h) = omega arith in
    let rest : take (length (a ∷ b ∷ c ∷ d ∷ e ∷ f ∷ g ∷ h ∷ s) - 8) s ≡ s =
    take_all (length (a ∷ b ∷ c ∷ d ∷ e ∷ f ∷ g ∷ h ∷ s) - 8) s (omega arith) in
    record {
      added = record {
        once = a + 256 * b + (e + 256 * f);
        often = c + 256 * d + (g + 256 * h);
        new_is = omega (arith, low, high);
        taken = omega (arith, ap swapped_sum rest);
      };
      left = inr (omega (arith, ap length rest));
      small = omega (arith, low, high);
    }
eight_taken sum r [] long fits is = absurd (omega arith)
eight_taken sum r (a ∷ []) long fits is = absurd (omega arith)
eight_taken sum r (a ∷ b ∷ []) long fits is = absurd (omega arith)
eight_taken sum r (a ∷ b ∷ c ∷ []) long fits is = absurd (omega arith)
eight_taken sum r (a ∷ b ∷ c ∷ d ∷ []) long fits is = absurd (omega arith)
eight_taken sum r (a ∷ b ∷ c ∷ d ∷ e ∷ []) long fits is = absurd (omega arith)
eight_taken sum r (a ∷ b ∷ c ∷ d ∷ e ∷ f ∷ []) long fits is = absurd (omega arith)
eight_taken sum r (a ∷ b ∷ c ∷ d ∷ e ∷ f ∷ g ∷ []) long fits is = absurd (omega arith)

pub four_taken : (sum r : ℕ) (s : List ℕ) → 4 ≤ length s → ((k : ℕ) → Fits w8 (get_or s k 0))
    → r ≡ from_le_bytes w32 (slice_index_or s 0 0 ∷ slice_index_or s 1 0 ∷ slice_index_or s 2 0 ∷ slice_index_or s 3 0
    ∷ [])
    → TakesUpTo 4 sum s (sum + r) (take (length s - 4) (drop 4 s))
four_taken sum r (a ∷ b ∷ c ∷ d ∷ s) long fits is =
    let ba : a < 256 = (fits 0).fits in
    let bb : b < 256 = (fits 1).fits in
    let bc : c < 256 = (fits 2).fits in
    let bd : d < 256 = (fits 3).fits in
    let whole : r ≡ a + 256 * b + 65536 * (c + 256 * d) = omega arith in
    let rest : take (length (a ∷ b ∷ c ∷ d ∷ s) - 4) s ≡ s =
    take_all (length (a ∷ b ∷ c ∷ d ∷ s) - 4) s (omega arith) in
    record {
      added = record {
        once = a + 256 * b;
        often = c + 256 * d;
        new_is = omega arith;
        taken = omega (arith, ap swapped_sum rest);
      };
      left = inr (omega (arith, ap length rest));
      small = omega arith;
    }
four_taken sum r [] long fits is = absurd (omega arith)
four_taken sum r (a ∷ []) long fits is = absurd (omega arith)
four_taken sum r (a ∷ b ∷ []) long fits is = absurd (omega arith)
four_taken sum r (a ∷ b ∷ c ∷ []) long fits is = absurd (omega arith)

-- ---- the last bytes

left_below : (n k : ℕ) (s t : List ℕ) → n ≤ k → length s < k + n → IsLeft n s t → length t < k
left_below n k s t least most (inl few) = omega arith
left_below n k s t least most (inr fewer) = omega arith

pub left_last : (b0 b1 b2 b3 b4 : List ℕ) → length b0 < 32 → IsLeft 8 b0 b1 → IsLeft 8 b1 b2 → IsLeft 8 b2 b3
    → IsLeft 4 b3 b4 → length b4 < 4
left_last b0 b1 b2 b3 b4 most l1 l2 l3 l4 =
    let m1 : length b1 < 24 = left_below 8 24 b0 b1 (omega arith) (omega arith) l1 in
    let m2 : length b2 < 16 = left_below 8 16 b1 b2 (omega arith) (omega arith) l2 in
    let m3 : length b3 < 8 = left_below 8 8 b2 b3 (omega arith) (omega arith) l3 in
    left_below 4 4 b3 b4 (omega arith) (omega arith) l4

pub last_none : (s : List ℕ) (v : ℕ) → length s < 1 → v ≡ v + swapped_sum s
last_none [] v few = omega arith
last_none (a ∷ s) v few = absurd (omega arith)

pub last_one : (s : List ℕ) (v : ℕ) → 1 ≤ length s → length s < 2 → v + slice_index_or s 0 0 ≡ v + swapped_sum s
last_one [] v least few = absurd (omega arith)
last_one (a ∷ []) v least few = omega arith
last_one (a ∷ b ∷ s) v least few = absurd (omega arith)

pub last_two : (s : List ℕ) (v r : ℕ) → 2 ≤ length s → length s < 3
    → r ≡ from_le_bytes w16 (slice_index_or s 0 0 ∷ slice_index_or s 1 0 ∷ []) → v + r ≡ v + swapped_sum s
last_two [] v r least few is = absurd (omega arith)
last_two (a ∷ []) v r least few is = absurd (omega arith)
last_two (a ∷ b ∷ []) v r least few is = omega arith
last_two (a ∷ b ∷ c ∷ s) v r least few is = absurd (omega arith)

pub last_three : (s : List ℕ) (v r : ℕ) → 3 ≤ length s → length s < 4
    → r ≡ from_le_bytes w16 (slice_index_or s 0 0 ∷ slice_index_or s 1 0 ∷ [])
    → v + r + slice_index_or s 2 0 ≡ v + swapped_sum s
last_three [] v r least few is = absurd (omega arith)
last_three (a ∷ []) v r least few is = absurd (omega arith)
last_three (a ∷ b ∷ []) v r least few is = absurd (omega arith)
last_three (a ∷ b ∷ c ∷ []) v r least few is = omega arith
last_three (a ∷ b ∷ c ∷ d ∷ s) v r least few is = absurd (omega arith)

-- ---- all bytes

pub rest_counts : (s1 s2 s3 s4 v : ℕ) (b0 b1 b2 b3 b4 : List ℕ) → IsAdded 0 b0 s1 b1 → IsAdded s1 b1 s2 b2
    → IsAdded s2 b2 s3 b3 → IsAdded s3 b3 s4 b4 → v ≡ s4 + swapped_sum b4 → CountsAs v (swapped_sum b0)
rest_counts s1 s2 s3 s4 v b0 b1 b2 b3 b4 a1 a2 a3 a4 is = record {
  once = a1.once + a2.once + a3.once + a4.once + swapped_sum b4;
  often = a1.often + a2.often + a3.often + a4.often;
  value_is = omega (arith, a1.new_is, a2.new_is, a3.new_is, a4.new_is, is);
  total_is = omega (arith, a1.taken, a2.taken, a3.taken, a4.taken);
}

pub counts_more : (value total n whole : ℕ) → n + total ≡ whole → CountsAs value total → CountsAs (n + value) whole
counts_more value total n whole is c =
    record {
      once = n + c.once;
      often = c.often;
      value_is = omega (arith, c.value_is);
      total_is = omega (arith, c.total_is);
    }

pub counts_folded : (value total n : ℕ) → CountsAs value total → fold16 (n + value) ≡ fold16 (n + total)
counts_folded value total n c =
    let parts : n + value ≡ 65536 * c.often + (n + c.once) = omega (arith, c.value_is) in
    let back : c.often + (n + c.once) ≡ n + total = omega (arith, c.total_is) in
    ap fold16 parts ∙ fold16-high c.often (n + c.once) ∙ ap fold16 back

pub counts_alone : (value total : ℕ) → CountsAs value total → fold16 value ≡ fold16 total
counts_alone value total c =
    let n : 0 + value ≡ value = omega arith in
    let m : 0 + total ≡ total = omega arith in
    sym (ap fold16 n) ∙ counts_folded value total 0 c ∙ ap fold16 m
