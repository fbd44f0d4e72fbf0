-- Which descriptors are open after a call, and in which order.
use Rattle.std.proofs.Common.{◌≡◌, ℕ, zero, suc, ◌<◌, Bool, true, false, ◌==◌, not, nat_lt, cond, List, [], ◌∷◌, length, find, get_or, set, count_by, Option, Some, is_some, refl, sym, ap, ◌∙◌, arith}
use Rattle.std.specs.Prelude.{remove}
use Rattle.std.proofs.lemmas.Bool.{lt-ltb}
use Rattle.pcb_table.specs.declared.block.Block.{Block}
use Rattle.pcb_table.specs.declared.interface.Interface.{Interface}
use Rattle.pcb_table.specs.Table.{Table, KeepsOpen, OpensOnly, ClosesOnly, descriptors}
use Rattle.pcb_table.specs.Apart.{AreApart}
use Rattle.pcb_table.specs.Inside.Fields.{IsLocated, IsLowestUnused}
use Rattle.pcb_table.specs.Inside.Changed.{unbound_block}
use Rattle.flat_model.proofs.Laws.{count_cons}
use Rattle.pcb_table.proofs.Descriptors.{fds_of}
use Rattle.pcb_table.proofs.Lifted.{filter-map}
use Rattle.pcb_table.proofs.Places.{one_if, located_found, located_remove}
use Rattle.pcb_table.proofs.Steps.{table_of}

pub is_some-find : (p : Block → Bool) (bs : List Block) → is_some (find p bs) ≡ nat_lt 0 (count_by p bs)
is_some-find p [] = refl
is_some-find p (b ∷ bs) = go (is_some-find p bs) (p b) refl
  where
    go : is_some (find p bs) ≡ nat_lt 0 (count_by p bs) → (t : Bool) → p b ≡ t
        → is_some (cond t (Some b) (find p bs)) ≡ nat_lt 0 (count_by p (b ∷ bs))
    go rest true met = sym (lt-ltb 0 (count_by p (b ∷ bs)) (omega (arith, count_cons p b bs, ap one_if met)))
    go rest false missed =
        rest ∙ ap (nat_lt 0) (let e : count_by p bs
        ≡ count_by p (b ∷ bs) = omega (arith, count_cons p b bs, ap one_if missed) in e)

fds_set : (bs : List Block) (i : ℕ) (y d : Block) → i < length bs → y.fd ≡ (get_or bs i d).fd
    → fds_of (set bs i y) ≡ fds_of bs
fds_set [] i y d lt same = absurd (omega arith)
fds_set (b ∷ bs) zero y d lt same = λ i. same i ∷ fds_of bs
fds_set (b ∷ bs) (suc i) y d lt same = ap (λ fds. b.fd ∷ fds) (fds_set bs i y d (omega arith) same)

-- a block was replaced by one with its descriptor, in the blocks of a table
pub set_keeps_open : (i : Interface) (bs new : List Block) (last later : Option ℕ) (fd index : ℕ) (b y : Block)
    (old : Table) → IsLocated fd bs index b → y.fd ≡ b.fd → new ≡ set bs index y → table_of i bs last ≡ old
    → KeepsOpen old (table_of i new later)
set_keeps_open i bs new last later fd index b y old at same written is =
    ap fds_of written ∙ fds_set bs index y b at.within (same ∙ sym (ap (λ (c : Block). c.fd) (at.is b)))
    ∙ ap descriptors is

pub remove_closes : (i : Interface) (bs : List Block) (last : Option ℕ) (fd index : ℕ) (b : Block) → AreApart bs
    → IsLocated fd bs index b → ClosesOnly (table_of i bs last) fd (table_of i (remove bs index) last)
remove_closes i bs last fd index b apart at = record {
  before = ap is_some (located_found bs fd index b apart at);
  after =
      ap fds_of (located_remove bs fd index b apart at)
      ∙ sym (filter-map (λ (c : Block). c.fd) (λ k. not (k == fd)) bs);
}

pub unbound_opens : (i : Interface) (bs : List Block) (last : Option ℕ) (fd : ℕ) → IsLowestUnused bs fd
    → OpensOnly (table_of i bs last) fd (table_of i (unbound_block fd ∷ bs) last)
unbound_opens i bs last fd lowest = record { before = ap is_some lowest.free; after = refl }
