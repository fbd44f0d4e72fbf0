-- What is written for two parts of a run.
use Rattle.std.proofs.Common.{ℕ, Bool, true, false, List, ◌++◌, Option, sym, ap, ◌∙◌, subst, append_assoc}
use Rattle.std.proofs.KnownBytes.{Appends-trans}
use Rattle.std.specs.Io.KnownBytes.{Appends}
use Rattle.std.proofs.lemmas.Bool.{false≢true}
use Rattle.play_pcap.specs.Traces.{Keeps, SentAfter, Traced}

both : (o m n : Bool) (x y z : Option (List ℕ)) (a b : List ℕ) → SentAfter o m x y a → SentAfter m n y z b
    → SentAfter o n x z (a ++ b)
both false true n x y z a b h k = absurd (false≢true (sym h.0))
both false false n x y z a b h k = (k.0, k.1 ∙ h.1)
both true true true x y z a b h k = Appends-trans x y z a b h k
both true true false x y z a b h k = (
  a ++ k.0,
  k.1,
  ap (λ (t : List ℕ). a ++ t) k.2 ∙ sym (append_assoc a k.0 k.1),
  Appends-trans x y z a k.0 h k.3,
)
both true false true x y z a b h k = absurd (false≢true (sym k.0))
both true false false x y z a b h k = (
  h.0,
  h.1 ++ b,
  ap (λ (t : List ℕ). t ++ b) h.2 ∙ append_assoc h.0 h.1 b,
  subst (λ (t : Option (List ℕ)). Appends x t h.0) (sym k.1) h.3,
)

pub both_kept : (old mid new : Traced) (a b : List ℕ) → Keeps old mid a → Keeps mid new b → Keeps old new (a ++ b)
both_kept old mid new a b h k = both old.whole mid.whole new.whole old.wrote mid.wrote new.wrote a b h k
