-- The first packet that waits and whose next hop is known, found one by one.
use Rattle.std.proofs.Common.{◌≡◌, ℕ, ◌+◌, ◌<◌, ◌≤◌, List, [], ◌∷◌, length, map, drop, get_or, zero, suc, Option, Some, None, refl, sym, ap, ◌∙◌, arith}
use Rattle.flat_ether.specs.Links.{first_ready, mac_of, one_on, ready_or}
use Rattle.flat_ether.specs.declared.mac.Mac.{Mac}
use Rattle.flat_ether.specs.declared.neighbour.Neighbour.{Neighbour}
use Rattle.ether_host.specs.Buffers.{held_in}
use Rattle.ether_host.specs.declared.buffer.PacketBuffer.{PacketBuffer}

-- the index that was found, plus n
abbrev pub on_by : ℕ → Option (ℕ × Mac) → Option (ℕ × Mac)
on_by n None = None
on_by n (Some found) = Some (found.0 + n, found.1)

abbrev pub from_place : List Neighbour → List PacketBuffer → ℕ → Option (ℕ × Mac)
from_place ns ps i = first_ready ns (map held_in (drop i ps))

-- a search from this index on finds the first packet that can be sent
abbrev pub IsSought : List Neighbour → List PacketBuffer → ℕ → Type 0
IsSought ns ps i = first_ready ns (map held_in ps) ≡ on_by i (from_place ns ps i)

ready_drop : (ns : List Neighbour) (ps : List PacketBuffer) (i : ℕ) (p : PacketBuffer) → i < length ps
    → p ≡ get_or ps i p → from_place ns ps i ≡ ready_or (mac_of p.hop ns) (from_place ns ps (i + 1))
ready_drop ns [] i p h e = absurd (omega arith)
ready_drop ns (q ∷ ps) zero p h e =
    ap (λ (x : PacketBuffer). ready_or (mac_of x.hop ns) (first_ready ns (map held_in ps))) (sym e)
ready_drop ns (q ∷ ps) (suc i) p h e =
    let m : suc (i + 1) ≡ suc i + 1 = omega arith in
    ready_drop ns ps i p (omega arith) e
    ∙ ap (λ j. ready_or (mac_of p.hop ns) (first_ready ns (map held_in (drop j (q ∷ ps))))) m

on_none : (o : Option (ℕ × Mac)) → o ≡ on_by 0 o
on_none None = refl
on_none (Some found) = let e : found.0 ≡ found.0 + 0 = omega arith in ap (λ k. Some (k, found.1)) e

on_one : (i : ℕ) (o : Option (ℕ × Mac)) → on_by i (one_on o) ≡ on_by (i + 1) o
on_one i None = refl
on_one i (Some found) = let e : (found.0 + 1) + i ≡ found.0 + (i + 1) = omega arith in ap (λ k. Some (k, found.1)) e

pub sought_first : (ns : List Neighbour) (ps : List PacketBuffer) → IsSought ns ps 0
sought_first ns ps = on_none (first_ready ns (map held_in ps))

pub sought_next : (ns : List Neighbour) (ps : List PacketBuffer) (i : ℕ) (p : PacketBuffer) → i < length ps
    → p ≡ get_or ps i p → mac_of p.hop ns ≡ None → IsSought ns ps i → IsSought ns ps (i + 1)
sought_next ns ps i p h e none so_far =
    so_far ∙ ap (on_by i) (ready_drop ns ps i p h e
    ∙ ap (λ (o : Option Mac). ready_or o (from_place ns ps (i + 1))) none) ∙ on_one i (from_place ns ps (i + 1))

pub sought_here : (ns : List Neighbour) (ps : List PacketBuffer) (i : ℕ) (p : PacketBuffer) (mac : Mac) → i < length ps
    → p ≡ get_or ps i p → mac_of p.hop ns ≡ Some mac → IsSought ns ps i
    → Some (i, mac) ≡ first_ready ns (map held_in ps)
sought_here ns ps i p mac h e some so_far =
    let here : 0 + i ≡ i = omega arith in
    sym (so_far ∙ ap (on_by i) (ready_drop ns ps i p h e
    ∙ ap (λ (o : Option Mac). ready_or o (from_place ns ps (i + 1))) some) ∙ ap (λ k. Some (k, mac)) here)

drop_all : (ps : List PacketBuffer) (i : ℕ) → length ps ≤ i → drop i ps ≡ []
drop_all [] zero h = refl
drop_all [] (suc i) h = refl
drop_all (p ∷ ps) zero h = absurd (omega arith)
drop_all (p ∷ ps) (suc i) h = drop_all ps i (omega arith)

pub sought_none : (ns : List Neighbour) (ps : List PacketBuffer) (i : ℕ) → length ps ≤ i → IsSought ns ps i
    → None ≡ first_ready ns (map held_in ps)
sought_none ns ps i h so_far =
    sym (so_far ∙ ap (λ (xs : List PacketBuffer). on_by i (first_ready ns (map held_in xs))) (drop_all ps i h))
