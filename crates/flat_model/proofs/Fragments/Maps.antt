-- A whole map of one datagram's bytes is that datagram.
use Rattle.std.proofs.Common.{◌≡◌, ℕ, ◌-◌, ◌<◌, false, List, length, refl, sym, ◌∙◌, ap, arith, Option, Some, None}
use Rattle.std.specs.Prelude.{slice_index, IsSome, IfSome}
use Rattle.std.proofs.lemmas.List.{same_lists, get_or_default}
use Rattle.std.proofs.lemmas.List.FromFn.{get_or-map-range_with_len, length-map-range_with_len}
use Rattle.std.proofs.lemmas.Bool.{false≢true}
use Rattle.std.proofs.lemmas.Option.{none-some, same_Some}
use Rattle.flat_model.specs.Fragments.Overlay.{Held, Map}
use Rattle.flat_model.specs.Fragments.Whole.{IsWhole, bytes_below, byte_of}

-- the map has only bytes of t; if a piece is the last one of its datagram, there is a byte at the end of t
pub record IsMapOf (t : List ℕ) (bytes : Map) : Type 0 where
  pub inside : (offset : ℕ) (h : Held) → bytes offset ≡ Some h → offset < length t
  pub byte : (offset : ℕ) (h : Held) → bytes offset ≡ Some h → h.byte ≡ slice_index t offset
  pub ended : (offset : ℕ) (h : Held) → bytes offset ≡ Some h → h.piece.more ≡ false → IsSome (bytes (length t - 1))

-- the entry at an offset, if there is one
some_value : (x : Option Held) → IsSome x → (h : Held) × (x ≡ Some h)
some_value None e = absurd (false≢true e)
some_value (Some h) e = (h, refl)

-- a whole map of t's bytes is t
module _ (t : List ℕ) (bytes : Map) (n : ℕ) (m : IsMapOf t bytes) (w : IsWhole bytes n) where
  last_of : (x : Option Held) (h : Held) → x ≡ Some h → IfSome x (λ held. held.piece.more ≡ false)
      → h.piece.more ≡ false
  last_of None h e p = absurd (none-some h e)
  last_of (Some g) h e p = ap (λ (y : Held). y.piece.more) (sym (same_Some g h e)) ∙ p

  pub whole_length : n ≡ length t
  whole_length =
      let at = some_value (bytes (n - 1)) (w.filled (n - 1) (omega (arith, w.some))) in
      let closed : at.0.piece.more ≡ false = last_of (bytes (n - 1)) at.0 at.1 w.last in
      let under : length t - 1 < n = w.ended (length t - 1) (m.ended (n - 1) at.0 at.1 closed) in
      let inside : n - 1 < length t = m.inside (n - 1) at.0 at.1 in
      omega (arith, w.some)

  pub whole_bytes : bytes_below bytes n ≡ t
  whole_bytes =
      same_lists (bytes_below bytes n) t
      (length-map-range_with_len (λ offset. byte_of (bytes offset)) 0 n ∙ whole_length) λ k d l.
      let under : k < n = omega (arith, l, length-map-range_with_len (λ offset. byte_of (bytes offset)) 0 n) in
      let at = some_value (bytes k) (w.filled k under) in
      get_or-map-range_with_len (λ offset. byte_of (bytes offset)) 0 n k k d under (omega arith)
      ∙ ap byte_of at.1 ∙ m.byte k at.0 at.1 ∙ get_or_default t k 0 d (m.inside k at.0 at.1)
