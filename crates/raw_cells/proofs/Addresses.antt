-- An `Address`, a `Bytes` and a `Deed` as machine values. Assumes `Logic`.
use Rattle.std.proofs.Common.{◌≡◌, ℕ, ◌+◌, ◌<◌, ◌^◌, List, [], ◌∷◌, ◌++◌, length, refl, subst, arith, lit<}
use lib.Dec.{T}
use seplogic.Ra.Ura.{Ura}
use base.Logic.{ent, sep, emp, id⊢}
use base.Fml.{froom}
use mir.Syntax.{ty_ptr, ty_struct, tcons, tnil}
use mir.Val.{Val, WT, has_ty, vstruct, vcons, vnil, of_list}
use types.Logic.{Logic, sem}
use types.Kit.{Item, Goal, Seq, ‵, ◌$◌, ◌∵◌, !, qed, move, drop, use0, rewrite, flt_i, fsplit, fjoin, fpick, fpack, feq_i, feq_l, done}
use denote.RattleType.{RattleType, Valss}
use denote.RawPtr.{Ptr, block_ptr, null_ptr, ptr_val}
use denote.Shadow.{makes_shadow}
use denote.Steps.{nothing}
use denote.Struct.Declared as Declared
use denote.Struct.Owning as Owning
use denote.Struct.Struct.{Struct, within}
use denote.Struct.Tuple.{Tuple, tuple_type}
use Rattle.std.specs.declared.alloc.Allocator.{Ghosts}
use Rattle.raw_cells.specs.Inside.Memory.{block_type}
use Rattle.raw_cells.proofs.Lying.{Lie}
use Rattle.raw_cells.specs.contracts.memory.Address as A
use Rattle.raw_cells.specs.contracts.memory.Bytes as B
use Rattle.raw_cells.specs.contracts.memory.Deed as D

abbrev pub address_val : Ptr → Val
address_val p = vstruct (vcons (ptr_val p) vnil)

-- `Bytes` has no field, and `Deed` one that takes no space
abbrev pub bytes_val : Val
bytes_val = vstruct vnil

abbrev pub deed_val : Val
deed_val = vstruct (vcons (vstruct vnil) vnil)

pub address_typed : (p : Ptr) → T (has_ty (ty_struct [] (tcons ty_ptr tnil)) (address_val p)) × WT (address_val p)
address_typed (block_ptr b o) = (tt, (tt, tt))
address_typed null_ptr = (tt, (record { fits = lit< tt }, tt))

-- what the fields of a `Bytes` own, and those of a `Deed`
abbrev pub BytesFields : RattleType
BytesFields = Struct (Owning.shape B.the_type)

module _ (Z : RattleType) (g : Ghosts Z.Denot) where
  abbrev pub DeedFields : RattleType
  DeedFields = Struct (Owning.shape (D.the_type Z g))

  pub deed_made : {M : Type 1} {𝓤 : Ura M} (𝓛 : Logic 𝓤)
      → ent 𝓤 (emp 𝓤) (sem 𝓛 (DeedFields.own_val (tt, tt) (deed_val ∷ [])))
  deed_made 𝓛 =
      makes_shadow 𝓛 (DeedFields.own_val (tt, tt) (deed_val ∷ [])) (λ vss. (tt, ((λ uss. (tt, tt)), tt)))
      ((vstruct vnil ∷ [], tt), (refl, ((tt, (refl, tt)), tt)))

pub bytes_made : {M : Type 1} {𝓤 : Ura M} (𝓛 : Logic 𝓤)
    → ent 𝓤 (emp 𝓤) (sem 𝓛 (BytesFields.own_val tt (bytes_val ∷ [])))
bytes_made 𝓛 = makes_shadow 𝓛 (BytesFields.own_val tt (bytes_val ∷ [])) (λ vss. (tt, tt)) (tt, (refl, tt))

pub address_made : {M : Type 1} {𝓤 : Ura M} (𝓛 : Logic 𝓤) (a : A.the_row.Denot)
    → ent 𝓤 (emp 𝓤) (sem 𝓛 (A.the_row.own_val a (address_val a.ptr ∷ [])))
address_made 𝓛 a =
    makes_shadow 𝓛 (A.the_row.own_val a (address_val a.ptr ∷ [])) (λ vss. (tt, (tt, tt)))
    ((ptr_val a.ptr ∷ [], tt), (refl, (refl, tt)))

-- ---- the parts of an allocated block
module _ (Z : RattleType) (g : Ghosts Z.Denot) where
  -- its address, its bytes, and the right to free it
  abbrev pub Parts : RattleType
  Parts = Tuple (A.the_row ∷ B.the_row ∷ D.the_row Z g ∷ [])

  abbrev pub parts_val : Ptr → Val
  parts_val p = vstruct (vcons (address_val p) (vcons bytes_val (vcons deed_val vnil)))

  -- the parts of a block to which nothing was written yet
  abbrev pub new_parts : Ptr → ℕ → Z.Denot → Parts.Denot
  new_parts p len owner = (
    record { ptr = p },
    record { at = p; written = []; blank = len },
    record { mark = record {}; alloc = owner; at = p; len = len },
  )

  -- The memory of a block and the token for freeing it make up these parts. The proof builds them from the last to the
  -- first.
  pub parts_made : {M : Type 1} {𝓤 : Ura M} (𝓛 : Logic 𝓤) (b o len : ℕ) (owner : Z.Denot) → len < 2 ^ 63
      → ent 𝓤 (sep 𝓤 (sem 𝓛 (froom (block_type len) b o))
      (sem 𝓛 (g.dealloc_token owner (block_type len) (block_ptr b o)))) (sem 𝓛
      (Parts.own_val (new_parts (block_ptr b o) len owner) (parts_val (block_ptr b o) ∷ [])))
  parts_made {𝓤 = 𝓤} 𝓛 b o len owner small =
      let p : Ptr = block_ptr b o in
      let value : List Val = parts_val (block_ptr b o) ∷ [] in
      qed 𝓛 (‵ (froom (block_type len) b o) ∷ ‵ (g.dealloc_token owner (block_type len) (block_ptr b o)) ∷ []) ∵
      move ! (1 ∷ []) $ use0 𝓛 (‵ ((DeedFields Z g).own_val (tt, tt) (deed_val ∷ []))) (deed_made Z g 𝓛) $ fjoin ! $
      -- [the deed; the room]
      nothing ! $ move ! (1 ∷ 0 ∷ []) $ fjoin ! $ move ! (1 ∷ []) $
      rewrite ! 0 (λ (k : ℕ). ‵ (froom (block_type len) b k)) {x = o + length {A = ℕ} []} (omega (arith)) refl $
      use0 𝓛 (‵ (Lie [] b o)) (id⊢ 𝓤 _) $ fjoin ! $
      flt_i ! (length {A = ℕ} [] + len) (2 ^ 63) (omega (arith, small)) $ fjoin ! $
      use0 𝓛 (‵ (BytesFields.own_val tt (bytes_val ∷ []))) (bytes_made 𝓛) $ fjoin ! $
      -- [the bytes; the deed]
      fjoin ! $ use0 𝓛 (‵ (A.the_row.own_val (record { ptr = p }) (address_val p ∷ [])))
      (address_made 𝓛 (record { ptr = p })) $ fjoin ! $
      feq_i ! (List Val) value value refl $ fjoin ! $
      fpack ! (Valss (A.the_row ∷ B.the_row ∷ D.the_row Z g ∷ []))
      (within (Declared.shape (tuple_type (A.the_row ∷ B.the_row ∷ D.the_row Z g ∷ [])))
      ((new_parts p len owner).0, ((new_parts p len owner).1, ((new_parts p len owner).2, tt))) value)
      (address_val p ∷ [], (bytes_val ∷ [], (deed_val ∷ [], tt))) $ done !

-- ---- the machine value from what is owned: the fields first, then the struct of them
of_fields : (vs fields known : List Val) → fields ≡ known → vs ≡ vstruct (of_list (fields ++ [])) ∷ []
    → vs ≡ vstruct (of_list (known ++ [])) ∷ []
of_fields vs fields known e is = subst (λ (ws : List Val). vs ≡ vstruct (of_list (ws ++ [])) ∷ []) e is

module _ {M : Type 1} {𝓤 : Ura M} {𝓛 : Logic 𝓤} {K : Type 0} {Γ : List (Item 𝓤)} {G : Goal 𝓤 𝓛.H} where
  pub told_bytes : K → (vs : List Val) → (vs ≡ bytes_val ∷ [] → Seq K 𝓛 Γ G)
      → Seq K 𝓛 (‵ (BytesFields.own_val tt vs) ∷ Γ) G
  told_bytes t vs next = fpick t (λ none. fsplit t $ move t (1 ∷ []) $ drop t $ feq_l t next)

  pub told_deed : K → (Z : RattleType) (g : Ghosts Z.Denot) (vs : List Val) → (vs ≡ deed_val ∷ [] → Seq K 𝓛 Γ G)
      → Seq K 𝓛 (‵ ((DeedFields Z g).own_val (tt, tt) vs) ∷ Γ) G
  told_deed t Z g vs next =
      fpick t (λ fields. fsplit t $ move t (1 ∷ []) $ fsplit t $ move t (1 ∷ []) $ drop t $
      fpick t (λ mark. fsplit t $ move t (1 ∷ []) $ drop t $
      feq_l t (λ e. feq_l t (λ is. next (of_fields vs fields.0 (vstruct vnil ∷ []) e is)))))

  pub told_address : K → (a : A.the_row.Denot) (vs : List Val) → (vs ≡ address_val a.ptr ∷ [] → Seq K 𝓛 Γ G)
      → Seq K 𝓛 (‵ (A.the_row.own_val a vs) ∷ Γ) G
  told_address t a vs next =
      fpick t (λ fields. fsplit t $ move t (1 ∷ []) $ fsplit t $ move t (1 ∷ []) $ drop t $
      feq_l t (λ e. feq_l t (λ is. next (of_fields vs fields.0 (ptr_val a.ptr ∷ []) e is))))
