-- Pieces of a text, one after another.
use Rattle.std.proofs.Common.{◌≡◌, ℕ, ◌+◌, ◌<◌, ◌≤◌, List, [], ◌∷◌, ◌++◌, length, drop, get_or, refl, sym, ap, ◌∙◌, arith, append_assoc}
use Rattle.std.proofs.lemmas.List.{append-nil, drop_more, drop_all}
use Rattle.play_text.specs.Pieces.{piece_text, piece_room, pieces_room, pieces_after, text_of}
use Rattle.play_text.specs.declared.piece.Piece.{Piece}

behind : (text front : List ℕ) (pieces : List Piece)
    → pieces_after (text ++ front) pieces ≡ text ++ pieces_after front pieces
behind text front [] = refl
behind text front (piece ∷ pieces) =
    ap (λ (t : List ℕ). pieces_after t pieces) (append_assoc text front (piece_text piece))
    ∙ behind text (front ++ piece_text piece) pieces

-- all pieces were appended to the text
pub all_put : (pieces : List Piece) (i : ℕ) (old new : List ℕ) → length pieces ≤ i
    → pieces_after new (drop i pieces) ≡ pieces_after old pieces
    → new ≡ old ++ text_of pieces
all_put pieces i old new h e =
    ap (pieces_after new) (sym (drop_all i pieces h)) ∙ e
    ∙ ap (λ (t : List ℕ). pieces_after t pieces) (sym (append-nil old)) ∙ behind old [] pieces

pub one_more : (pieces : List Piece) (i : ℕ) (d : Piece) (mid new whole : List ℕ) → i < length pieces
    → pieces_after mid (drop i pieces) ≡ whole → new ≡ mid ++ piece_text (get_or pieces i d)
    → pieces_after new (drop (i + 1) pieces) ≡ whole
one_more pieces i d mid new whole lt h e =
    ap (λ (t : List ℕ). pieces_after t (drop (i + 1) pieces)) e ∙ sym (ap (pieces_after mid) (drop_more pieces i d lt))
    ∙ h

next_room : (pieces : List Piece) (i : ℕ) (d : Piece) → i < length pieces
    → pieces_room (drop i pieces) ≡ piece_room (get_or pieces i d) + pieces_room (drop (i + 1) pieces)
next_room pieces i d lt = ap pieces_room (drop_more pieces i d lt)

-- there is space for the next piece
pub next_fits : (pieces : List Piece) (i : ℕ) (d : Piece) (mid whole n : ℕ) → i < length pieces
    → mid + pieces_room (drop i pieces) ≤ whole → whole ≤ n → mid + piece_room (get_or pieces i d) ≤ n
next_fits pieces i d mid whole n lt h le = omega (arith, next_room pieces i d lt)

-- and for the pieces after it
pub others_fit : (pieces : List Piece) (i : ℕ) (d : Piece) (mid new whole : ℕ) → i < length pieces
    → mid + pieces_room (drop i pieces) ≤ whole → new ≤ mid + piece_room (get_or pieces i d)
    → new + pieces_room (drop (i + 1) pieces) ≤ whole
others_fit pieces i d mid new whole lt h le = omega (arith, next_room pieces i d lt)
