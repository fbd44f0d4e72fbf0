-- The words after the bytes of a packet, one by one.
use Rattle.std.proofs.Common.{◌≡◌, ℕ, ◌+◌, suc, List, Some, Ok, refl, arith}
use Rattle.play_packet.specs.Forms.{form_after, with_word_at, word_at}
use Rattle.play_packet.specs.declared.form.Form.{Form}

-- one more word is parsed
pub marks_next : (left next : ℕ) (text word : List ℕ) (f g : Form) (at after : ℕ) → left ≡ next + 1
    → word_at text at ≡ Some word → with_word_at f word text at ≡ Ok (g, after)
    → form_after left text f at ≡ form_after next text g after
marks_next left next text word f g at after more is read =
    let one : left ≡ suc next = omega (arith, more) in
    rw one (rw (is, read) refl)
