-- There are more ports and descriptors than blocks.
use Rattle.std.proofs.Common.{◌≡◌, ℕ, ◌+◌, ◌-◌, ◌<◌, ◌≤◌, ◌%◌, Bool, true, ◌&&◌, ◌==◌, List, length, Option, Some, None, is_some, find, sym, ap, ◌∙◌, arith}
use Rattle.std.proofs.lemmas.Bool.{and_parts, eqb-true, false≢true}
use Rattle.flat_model.specs.Sockets.Lookup.{are_same, agree, is_addr}
use Rattle.flat_model.specs.Machine.Calls.{port_after}
use Rattle.pcb_table.specs.declared.block.Block.{Block}
use Rattle.pcb_table.specs.Inside.Search.{is_used, key_port}
use Rattle.pcb_table.specs.Apart.{does_match, has_fd}
use Rattle.pcb_table.proofs.Searching.{best_counts, found_counts}
use Rattle.pcb_table.proofs.Pigeons.{pigeons}

-- ---- ports

same_port : (o : Option ℕ) (p : ℕ) → are_same o (Some p) ≡ true → o ≡ Some p
same_port None p e = absurd (false≢true e)
same_port (Some x) p e = ap Some (eqb-true x p e)

pub has_port : (local : Option ℕ) (p : ℕ) (b : Block) → does_match (key_port local p) b ≡ true → b.port ≡ Some p
has_port local p b e =
    same_port b.port p (and_parts (are_same b.port (Some p)) (agree ◌==◌ b.local local)
    (and_parts (are_same b.port (Some p) && agree ◌==◌ b.local local) (agree is_addr b.peer None) e).0).0

same_rest : (a j k : ℕ) → j < k → k < 3977 → (a + j) % 3977 ≡ (a + k) % 3977 → ⊥
same_rest a j k lt most e = omega arith

-- the ports in one pass through the circle are all different
pub apart_ports : (last : Option ℕ) (j k : ℕ) → j < k → k < 3977 → port_after last j ≡ port_after last k → ⊥
apart_ports None j k lt most e = same_rest 0 j k lt most (omega arith)
apart_ports (Some last) j k lt most e = same_rest (last - 1023) j k lt most (omega arith)

same_number : (p q : ℕ) → Some p ≡ Some q → p ≡ q
same_number p q e = cc

pub some_port_free : (bs : List Block) (last local : Option ℕ) → length bs ≤ 64
    → ((k : ℕ) → k < 3977 → is_used bs local (port_after last k) ≡ true) → ⊥
some_port_free bs last local few all =
    omega (arith, pigeons tests 3977 apart bs (λ k lt. best_counts (key_port local (port_after last k)) bs (all k lt)))
  where
    tests : ℕ → Block → Bool
    tests k b = does_match (key_port local (port_after last k)) b

    apart : (b : Block) (j k : ℕ) → j < k → k < 3977 → tests j b ≡ true → tests k b ≡ true → ⊥
    apart b j k lt most e f =
        apart_ports last j k lt most (same_number (port_after last j) (port_after last k)
        (sym (has_port local (port_after last j) b e) ∙ has_port local (port_after last k) b f))

-- ---- descriptors

pub some_fd_free : (bs : List Block) → length bs < 64 → ((k : ℕ) → 3 ≤ k → k < 67 → is_some (find (has_fd k) bs) ≡ true)
    → ⊥
some_fd_free bs few all =
    omega (
      arith,
      pigeons tests 64 apart bs
          (λ k lt. found_counts (has_fd (3 + k)) (tests k) (λ b e. e) bs (all (3 + k) (omega arith) (omega arith))),
    )
  where
    tests : ℕ → Block → Bool
    tests k b = has_fd (3 + k) b

    apart : (b : Block) (j k : ℕ) → j < k → k < 64 → tests j b ≡ true → tests k b ≡ true → ⊥
    apart b j k lt most e f = omega (arith, eqb-true b.fd (3 + j) e, eqb-true b.fd (3 + k) f)
