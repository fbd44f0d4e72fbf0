-- A capture whose header may not be written yet.
use Rattle.std.proofs.Common.{◌≡◌, ℕ, Bool, false, List, [], ◌++◌, sym, ap, ◌∙◌, subst, if◌then◌else◌}
use Rattle.capture.specs.File.{file_header_bytes, header_for}
use Rattle.capture.specs.declared.pcap.link_type.LinkType.{LinkType}
use Rattle.play_pcap.specs.Traces.{Keeps, Traced, WireTraced, header_due, pass_at, pass_bytes}
use Rattle.play_pcap.proofs.Kept.{both_kept}

abbrev wire_traced : Traced → LinkType → Bool → WireTraced
wire_traced traced link headed = record { traced = traced; link = link; headed = headed }

-- the header is written, because it wasn't yet
pub head_kept : (inside new : Traced) (link : LinkType) (headed : Bool) (old : WireTraced)
    → wire_traced inside link headed ≡ old → headed ≡ false
    → Keeps inside new (file_header_bytes (header_for link)) → Keeps old.traced new (header_due old)
head_kept inside new link headed old is none kept =
    subst (λ (t : WireTraced). Keeps t.traced new (header_due t)) is
    (subst (λ (b : Bool). Keeps inside new (if b then [] else file_header_bytes (header_for link))) (sym none) kept)

-- the header, and then a record
pub record_kept : (old mid : WireTraced) (inside new : Traced) (link : LinkType) (headed : Bool) (line : ℕ)
    (bytes : List ℕ)
    → wire_traced inside link headed ≡ mid → Keeps old.traced mid.traced (header_due old)
    → mid.traced.ticks ≡ old.traced.ticks → Keeps inside new (pass_bytes (pass_at inside.ticks line bytes))
    → Keeps old.traced new (header_due old ++ pass_bytes (pass_at old.traced.ticks line bytes))
record_kept old mid inside new link headed line bytes is first same kept =
    let traced : inside ≡ mid.traced = ap (λ (t : WireTraced). t.traced) is in
    both_kept old.traced inside new _ _ (subst (λ (t : Traced). Keeps old.traced t (header_due old)) (sym traced) first)
    (subst (λ (n : ℕ). Keeps inside new (pass_bytes (pass_at n line bytes))) (ap (λ (t : Traced). t.ticks) traced ∙ same)
    kept)
