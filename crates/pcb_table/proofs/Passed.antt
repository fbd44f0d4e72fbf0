-- What is passed, if the indexed ports of some places are others.
use Rattle.std.proofs.Common.{◌≡◌, ℕ, zero, suc, ◌+◌, ◌-◌, ◌<◌, ◌≤◌, true, false, ◌==◌, cond, List, [], ◌∷◌, ◌++◌, drop, take, take_all, length, get_or, Option, Some, None, unwrap_or, refl, sym, ap, ◌∙◌, arith, inl, inr}
use Rattle.std.proofs.lemmas.Bool.{cases_lt}
use Rattle.std.proofs.lemmas.List.{length-drop}
use Rattle.flat_model.specs.declared.lookup_key.LookupKey.{LookupKey}
use Rattle.flat_model.specs.Sockets.Lookup.{are_same}
use Rattle.pcb_table.specs.declared.block.Block.{Block}
use Rattle.pcb_table.specs.Inside.Changed.{unbound_block}
use Rattle.pcb_table.specs.Inside.Fields.{HasPorts, PassesLanes, port_or_zero}
use Rattle.pcb_table.specs.Inside.Search.{from_port, has_port}
use Rattle.pcb_table.proofs.Searching.{Walked}

-- ---- lists without their first elements

drop_past : (bs : List Block) (at : ℕ) → length bs ≤ at → drop at bs ≡ []
drop_past [] zero le = refl
drop_past [] (suc at) le = refl
drop_past (b ∷ bs) zero le = absurd (omega arith)
drop_past (b ∷ bs) (suc at) le = drop_past bs at (omega arith)

drop_done : (done rest : List Block) → drop (length done) (done ++ rest) ≡ rest
drop_done [] rest = refl
drop_done (b ∷ done) rest = drop_done done rest

length_both : (done rest : List Block) → length (done ++ rest) ≡ length done + length rest
length_both [] rest = omega arith
length_both (b ∷ done) rest = omega (arith, length_both done rest)

walked_rest : (q : LookupKey) (whole rest : List Block) (found : Option Block) (fewest n : ℕ)
    → n ≡ length whole - length rest → Walked q whole rest found fewest → drop n whole ≡ rest
walked_rest q whole rest found fewest n is w =
    let at : n ≡ length w.done = omega (arith, is, length_both w.done rest, ap length w.cut) in
    (λ i. drop (at i) (sym w.cut i)) ∙ drop_done w.done rest

pub walked_from : (q : LookupKey) (port : ℕ) (whole slice rest : List Block) (found : Option Block) (fewest : ℕ)
    → slice ≡ whole → Walked q whole rest found fewest
    → from_port port (drop (length slice - length rest) whole) ≡ from_port port rest
walked_from q port whole slice rest found fewest same w =
    ap (from_port port) (walked_rest q whole rest found fewest (length slice - length rest)
    (ap (λ (cs : List Block). length cs - length rest) same) w)

-- ---- the walk by port

-- a block with another port
from_next : (port : ℕ) (bs : List Block) (at : ℕ) (d : Block) → at < length bs → has_port port (get_or bs at d) ≡ false
    → from_port port (drop at bs) ≡ from_port port (drop (suc at) bs)
from_next port [] at d lt e = absurd (omega arith)
from_next port (b ∷ bs) zero d lt e = ap (λ t. cond t (b ∷ bs) (from_port port bs)) e
from_next port (b ∷ bs) (suc at) d lt e = from_next port bs at d (omega arith) e

-- one that has it
pub from_here : (port : ℕ) (bs : List Block) (at : ℕ) (d : Block) → at < length bs
    → has_port port (get_or bs at d) ≡ true → from_port port (drop at bs) ≡ drop at bs
from_here port [] at d lt e = absurd (omega arith)
from_here port (b ∷ bs) zero d lt e = ap (λ t. cond t (b ∷ bs) (from_port port bs)) e
from_here port (b ∷ bs) (suc at) d lt e = from_here port bs at d (omega arith) e

pub from_past : (port : ℕ) (bs : List Block) (at : ℕ) → length bs ≤ at → from_port port (drop at bs) ≡ []
from_past port bs at le = ap (from_port port) (drop_past bs at le)

-- a block whose indexed port is another lacks the port
lacks : (port : ℕ) (b : Block) → (port_or_zero b == port) ≡ false → has_port port b ≡ false
lacks port b e = go b.port e
  where
    go : (o : Option ℕ) → (unwrap_or o 0 == port) ≡ false → are_same o (Some port) ≡ false
    go None e = refl
    go (Some p) e = e

pub from_passed : (port : ℕ) (bs : List Block) (ports : List ℕ) (at n : ℕ) → HasPorts bs ports
    → PassesLanes ports port at n → from_port port (drop at bs) ≡ from_port port (drop (at + n) bs)
from_passed port bs ports at zero has pass = let e : at ≡ at + 0 = omega arith in ap (λ k. from_port port (drop k bs)) e
from_passed port bs ports at (suc n) has pass = elim (cases_lt at (length bs)) [
  | inl lt ↦
      let d : Block = unbound_block 0 in
      let e : suc at + n ≡ at + suc n = omega arith in
      from_next port bs at d lt (lacks port (get_or bs at d)
      (ap (λ x. x == port) (sym (has at d lt)) ∙ pass at (omega arith) (omega arith)))
      ∙ from_passed port bs ports (suc at) n has (λ k from to. pass k (omega arith) (omega arith))
      ∙ ap (λ k. from_port port (drop k bs)) e
  | inr le ↦ from_past port bs at le ∙ sym (from_past port bs (at + suc n) (omega arith))
]

-- the next block after those, if it has another port too
pub from_after : (port : ℕ) (bs : List Block) (next : ℕ) (d : Block) → next < length bs
    → has_port port (get_or bs next d) ≡ false → from_port port (drop (next + 1) bs) ≡ from_port port (drop next bs)
from_after port bs next d lt lacking =
    let e : next + 1 ≡ suc next = omega arith in
    ap (λ k. from_port port (drop k bs)) e ∙ sym (from_next port bs next d lt lacking)

-- the blocks from it on, if it has the port
pub from_found : (port : ℕ) (bs : List Block) (next : ℕ) (d : Block) → next < length bs
    → has_port port (get_or bs next d) ≡ true → take (length bs - next) (drop next bs) ≡ from_port port (drop next bs)
from_found port bs next d lt met =
    take_all (length bs - next) (drop next bs) (omega (arith, length-drop next bs)) ∙ sym (from_here port bs next d lt met)

-- none, if no block is left
pub from_none : (port : ℕ) (bs : List Block) (next : ℕ) → length bs ≤ next → [] ≡ from_port port (drop next bs)
from_none port bs next le = sym (from_past port bs next le)
