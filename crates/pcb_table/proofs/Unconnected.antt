-- If no block is connected, none matches a key with a peer without a wildcard.
use Rattle.std.proofs.Common.{◌≡◌, ℕ, Bool, true, false, cond, List, [], ◌∷◌, Option, Some, None, is_some, refl, sym, ap, ◌∙◌, arith}
use Rattle.std.specs.Prelude.{find, ◌&&◌}
use Rattle.std.proofs.lemmas.Bool.{ne_eqb}
use Rattle.std.proofs.lemmas.Option.{none-some}
use Rattle.flat_model.specs.declared.address.Addr.{Addr}
use Rattle.flat_model.specs.declared.lookup_key.LookupKey.{LookupKey}
use Rattle.flat_model.specs.Sockets.Lookup.{one_sided, wildcards}
use Rattle.pcb_table.specs.declared.block.Block.{Block}
use Rattle.pcb_table.specs.Apart.{does_match, has_score, plain}
use Rattle.pcb_table.specs.Inside.Fields.{is_connected}
use Rattle.pcb_table.specs.Inside.Search.{youngest_block}

neither : (b : Bool) → (b && false) ≡ false
neither true = refl
neither false = refl

module _ (local port : Option ℕ) (a : Addr) where
  abbrev key : LookupKey
  key = record { local = local; port = port; peer = Some a }

  not_met : (b : Block) → b.peer ≡ None → has_score 0 key b ≡ false
  not_met b none =
      let one : one_sided b.peer (Some a) ≡ 1 = ap (λ (o : Option Addr). one_sided o (Some a)) none in
      ap (λ (t : Bool). does_match key b && t) (ne_eqb (wildcards key (plain b)) 0 (λ z. omega (arith, z, one)))
      ∙ neither (does_match key b)

  pub none_met : (bs : List Block) → find is_connected bs ≡ None → youngest_block 0 key bs ≡ None
  none_met [] e = refl
  none_met (b ∷ bs) e = go (none_met bs) b.peer refl
    where
      go : (find is_connected bs ≡ None → youngest_block 0 key bs ≡ None) → (o : Option Addr) → b.peer ≡ o
          → youngest_block 0 key (b ∷ bs) ≡ None
      go later (Some x) is =
          absurd (none-some b (sym e ∙ ap (λ (o : Option Addr). cond (is_some o) (Some b) (find is_connected bs)) is))
      go later None is =
          (λ i. cond (not_met b is i) (Some b) (youngest_block 0 key bs))
          ∙ later (sym (ap (λ (o : Option Addr). cond (is_some o) (Some b) (find is_connected bs)) is) ∙ e)
