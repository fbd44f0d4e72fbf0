-- The sockets that match a datagram, in each machine that has the blocks.
use Rattle.std.proofs.Common.{◌≡◌, ℕ, zero, suc, ◌<◌, ◌≤◌, Bool, true, false, cond, List, [], ◌∷◌, get_or, Some, None, ◌==◌, sym, ap, ◌∙◌, arith}
use Rattle.std.specs.Prelude.{option_to_list}
use Rattle.flat_model.specs.declared.lookup_key.LookupKey.{LookupKey}
use Rattle.flat_model.specs.Amounts.Weight.{times}
use Rattle.flat_model.specs.Sockets.Lookup.{best, receivers}
use Rattle.flat_model.proofs.Laws.{count_cons}
use Rattle.pcb_table.specs.declared.block.Block.{Block}
use Rattle.pcb_table.specs.Found.{Finds}
use Rattle.pcb_table.specs.Table.{Table, block_at, sockets_with}
use Rattle.udp.specs.Datagrams.{AreMatching}
use Rattle.udp.specs.Checked.{is_to_all}

module _ (t : Table) (destination : ℕ) (q : LookupKey) (one : is_to_all t destination ≡ false) where
  -- one is found
  pub one_matches : (fd : ℕ) (fds : List ℕ) → Finds (best q) t (Some fd) → fds ≡ fd ∷ [] → AreMatching t destination q fds
  one_matches fd fds finds is = record {
    found = finds.0 ∷ [];
    named = is ∙ ap (λ k. k ∷ []) (sym finds.1);
    once = λ k. once k;
    are_open = λ k d lt. open_at k d lt;
    sockets = λ rest queues.
        (λ i. cond (one i) (receivers q (sockets_with queues t)) (option_to_list (best q (sockets_with queues t))))
        ∙ ap option_to_list (finds.3 queues);
  }
    where
      once : (k : ℕ) → times k fds ≤ 1
      once k = omega (arith, ap (times k) is, count_cons (λ j. j == k) fd [], most (fd == k))
        where
          most : (b : Bool) → cond {A = ℕ} b 1 0 ≤ 1
          most true = omega arith
          most false = omega arith

      open_at : (k : ℕ) (d : Block) → k < 1 → block_at (get_or (finds.0 ∷ []) k d).fd t ≡ Some (get_or (finds.0 ∷ []) k d)
      open_at zero d lt = ap (λ j. block_at j t) finds.1 ∙ finds.2
      open_at (suc k) d lt = absurd (omega arith)

  -- none is
  pub none_matches : (fds : List ℕ) → Finds (best q) t None → fds ≡ [] → AreMatching t destination q fds
  none_matches fds finds is = record {
    found = [];
    named = is;
    once = λ k. omega (arith, ap (times k) is);
    are_open = λ k d lt. absurd (omega arith);
    sockets = λ rest queues.
        (λ i. cond (one i) (receivers q (sockets_with queues t)) (option_to_list (best q (sockets_with queues t))))
        ∙ ap option_to_list (finds queues);
  }
