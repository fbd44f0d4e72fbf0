-- The places of packets that wait: one in the last of them, and how many there are for a next hop.
use Rattle.std.proofs.Common.{◌≡◌, ℕ, ◌+◌, List, [], ◌∷◌, ◌++◌, length, map, slice_set, cond, refl, sym, ap, ◌∙◌, subst}
use Rattle.std.proofs.Math.Seq.{set-append_seam}
use Rattle.std.proofs.lemmas.List.{map-append}
use Rattle.std.proofs.lemmas.List.Sums.{sum_by-cons}
use Rattle.std.specs.List.{count_by}
use Rattle.std.specs.Prelude.{◌==◌}
use Rattle.flat_ether.specs.Links.{WaitingPacket}
use Rattle.ether_host.specs.Buffers.{held_in}
use Rattle.ether_host.specs.View.{waits_for}
use Rattle.ether_host.specs.declared.buffer.PacketBuffer.{PacketBuffer}

pub last_set : (xs ys : List PacketBuffer) (y z : PacketBuffer) (n : ℕ) → ys ≡ xs ++ y ∷ [] → n ≡ length xs
    → map held_in (slice_set ys n z) ≡ map held_in xs ++ held_in z ∷ []
last_set xs ys y z n e k =
    subst (λ l. map held_in (slice_set l n z) ≡ map held_in xs ++ held_in z ∷ []) (sym e)
    (subst (λ i. map held_in (slice_set (xs ++ y ∷ []) i z) ≡ map held_in xs ++ held_in z ∷ []) (sym k)
    (ap (map held_in) (set-append_seam xs y [] z) ∙ map-append held_in xs (z ∷ [])))

pub held_counted : (hop : ℕ) (ps : List PacketBuffer)
    → count_by (λ (p : PacketBuffer). p.hop == hop) ps ≡ count_by (waits_for hop) (map held_in ps)
held_counted hop [] = refl
held_counted hop (p ∷ ps) =
    sum_by-cons (λ (x : PacketBuffer). cond (x.hop == hop) 1 0) p ps
    ∙ ap (λ n. cond (p.hop == hop) 1 0 + n) (held_counted hop ps)
    ∙ sym (sum_by-cons (λ (x : WaitingPacket). cond (waits_for hop x) 1 0) (held_in p) (map held_in ps))
