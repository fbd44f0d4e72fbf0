-- A packet without its options, from its header and its data; and the tests that find options.
use Rattle.std.proofs.Common.{◌≡◌, ℕ, ◌-◌, Bool, true, false, cond, List, ◌++◌, length, take, drop, refl, sym, ap, ◌∙◌}
use Rattle.std.specs.Prelude.{◌&&◌}
use Rattle.flat_model.specs.Packets.Header.{head_of, packet}
use Rattle.flat_ether.specs.Options.{has_options, options_in, header_size, plain, without_options}
use Rattle.ip_out.specs.Headings.{head_bytes}
use Rattle.ether_host.specs.Plain.{short_head}
use Rattle.ether_host.proofs.Rooms.{drop_of_take}

pub head_and_data : (came body : List ℕ) → head_bytes (short_head came (length body)) ++ body
    ≡ packet (head_of came) body
unfolding head_bytes packet
head_and_data came body = refl

-- ---- what the stack gets

pub stripped : (came : List ℕ) → has_options came ≡ true → without_options came ≡ plain came
unfolding plain
stripped came e = ap (λ b. cond b (without_options came) came) (sym e)

pub unchanged : (came : List ℕ) → has_options came ≡ false → came ≡ plain came
unfolding plain
unchanged came e = ap (λ b. cond b (without_options came) came) (sym e)

-- ---- the tests

pub options_cut : (came : List ℕ) (n : ℕ) → n ≡ header_size came → take (n - 20) (drop 20 came) ≡ options_in came
options_cut came n e = sym (drop_of_take 20 n came) ∙ ap (λ k. drop 20 (take k came)) e

both_true : {a b c : Bool} → a ≡ true → b ≡ c → b ≡ (a && c)
both_true {a} {b} {c} is same = ap (λ x. x && b) (sym is) ∙ ap (λ x. a && x) same

pub five_tests : {a b c d : Bool} → a ≡ true → b ≡ true → c ≡ true → d ≡ true → (e : Bool)
    → e ≡ (a && (b && (c && (d && e))))
five_tests p q r s e = both_true p (both_true q (both_true r (both_true s refl)))
