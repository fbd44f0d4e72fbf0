-- What several reads in a row put into a buffer.
use Rattle.std.proofs.Common.{◌≡◌, ℕ, List, [], ◌++◌, Option, sym, ap, subst, ◌∙◌, append_assoc, append-nil}
use Rattle.std.specs.Io.KnownBytes.{Consumes}
use Rattle.std.proofs.KnownBytes.{Consumes-nil, Consumes-trans}
use Rattle.capture.specs.Feeds.{Fills}

pub fills_none : (a : Option (List ℕ)) (buffer : List ℕ) → Fills a buffer a buffer
fills_none a buffer = record { more = []; after = sym (append-nil buffer); read = Consumes-nil a }

pub fills_more : (a b c : Option (List ℕ)) (buffer mid new bytes : List ℕ) → Fills a buffer b mid → Consumes b c bytes
    → new ≡ mid ++ bytes → Fills a buffer c new
fills_more a b c buffer mid new bytes f e is = record {
  more = f.more ++ bytes;
  after = is ∙ ap (λ (xs : List ℕ). xs ++ bytes) f.after ∙ append_assoc buffer f.more bytes;
  read = Consumes-trans a b c f.more bytes f.read e;
}

pub fills_then : (a b c : Option (List ℕ)) (buffer mid new : List ℕ) → Fills a buffer b mid → Fills b mid c new
    → Fills a buffer c new
fills_then a b c buffer mid new f g = fills_more a b c buffer mid new g.more f g.read g.after

-- into an empty buffer
pub fills_all : (a b : Option (List ℕ)) (buffer new : List ℕ) → buffer ≡ [] → Fills a buffer b new → Consumes a b new
fills_all a b buffer new e f = subst (Consumes a b) (sym (f.after ∙ ap (λ (xs : List ℕ). xs ++ f.more) e)) f.read

-- into a buffer, after the bytes that were skipped
pub fills_after : (a b c : Option (List ℕ)) (held front buffer new : List ℕ) → Fills a held b (front ++ buffer)
    → Fills b buffer c new → Fills a held c (front ++ new)
fills_after a b c held front buffer new f g =
    fills_more a b c held (front ++ buffer) (front ++ new) g.more f g.read
    (ap (λ (xs : List ℕ). front ++ xs) g.after ∙ sym (append_assoc front buffer g.more))
