-- `value_mut` lends the value in the box, and the address follows what is written there. Assumes `Logic`.
use Rattle.std.proofs.Common.{◌≡◌, ℕ, List, [], ◌∷◌, ◌++◌, refl}
use seplogic.Ra.Ura.{Ura}
use base.Fraction.{full_share}
use base.Logic.{SProp, ent, sep, id⊢}
use base.Fml.{GName, Fml, fsep, ftrue, flft}
use mir.Raw.{raw as bare}
use mir.Syntax.{named}
use mir.Val.{Val, vptr}
use prog.Wp.{Env, WpFn}
use contract.Monad.{fact}
use contract.Running.{tables}
use types.Logic.{Logic, sem}
use types.Kit.{‵, raw, ◌⊛◌, some, later, prop, await, pick, at_ret, ◌$◌, ◌∵◌, !, qed, move, keep, use1, split, join, group, rewrite, regoal, fsplit, fsplit3, fjoin, fpack, feq_l, suffices, frame, done}
use types.Part.{whole, sub, look_in}
use types.Run.{stop, fld, load, of_opd, addr, first, blocks, exec, returns, enter}
use types.ByLocal.{alloc_all, pass_all, free_all, look_at, get, through, sets, sets_last, env}
use denote.Exit.{no}
use denote.RattleType.{owns}
use denote.Memory.{part_at, mem, cell_at, part_of}
use denote.RawPtr.{block_ptr}
use denote.Ref.{MutBor, MutRef}
use denote.Signature.{types_at, plain, mut_ref_to}
use denote.Follow.{follows, Part, lends_Part}
use denote.Steps.{nothing, opens, heard}
use denote.Triple.Entry.{alive}
use denote.Triple.Walked.{Stays, stay_dropped, walk_of, ends_at, says, Goes-spent_ref}
use Rattle.core.proofs.alloc.Calls.{token}
use Rattle.std.proofs.raw_atomic.Walks.{proved_at}
use Rattle.std_alloc.proofs.BoxSteps.Form.{D, R, B, τ, word, handle}
use Rattle.std_alloc.proofs.BoxSteps.Steps.{box_out, box_in}
use Rattle.libbsdudp.specs.Held.{Boxed, IsFull, Kept}
use Rattle.libbsdudp.specs.HeldLends.{with_boxed}
use Rattle.libbsdudp.proofs.Boxes.{stack_box, has}
use Rattle.libbsdudp.specs.contracts.owned.Owned as owned
use Rattle.libbsdudp.specs.contracts.held.Held as held
use Rattle.libbsdudp.specs.contracts.held.Held.value_mut as f
use Rattle.libbsdudp.proofs.held.Held.value_mut.Statement.{statement}
use Rattle.libbsdudp.proofs.held.Held.value_mut.Code as code

abbrev stayed : Stays f.ended.signature.params f.ended.kept
stayed = (stay_dropped (mut_ref_to (0 ∷ []) tt (plain (λ _. held.the_row))) no, tt)

module _ {M : Type 1} {𝓤 : Ura M} (𝓛 : Logic 𝓤) (d : held.the_row.Denot) (rb ro b o : ℕ) (h : Val) where
  -- all of the box but its value
  abbrev Rest : Fml
  Rest =
      fsep (fsep (token stack_box.al d.alloc (bare (τ stack_box)) (block_ptr b o)) (handle stack_box d.alloc h))
      (cell_at full_share held.the_row.mir (word stack_box h b o ∷ []) rb ro)

  back : d.at ≡ block_ptr b o → (w : Boxed)
      → ent 𝓤 (sep 𝓤 (sem 𝓛 ((mem owned.the_row).own_at w b o)) (sem 𝓛 Rest))
      (sem 𝓛 ((mem held.the_row).own_at (with_boxed d w) rb ro))
  unfolding part_of
  back at w =
      let E = stack_box in let e : D E = record { ptr = d.at; alloc = d.alloc; value = w } in
      qed 𝓛 (‵ (part_at owned.the_row full_share w b o) ∷ ‵ Rest ∷ []) ∵ move ! (1 ∷ []) $ fsplit ! $ fsplit ! $
      move ! (3 ∷ []) $ use1 𝓛 (‵ (part_at (R E) full_share w b o)) (id⊢ 𝓤 _) $
      box_in E ! e b o w at refl $
      use1 𝓛 (‵ (held.the_row.own_val (with_boxed d w) (word E h b o ∷ []))) (id⊢ 𝓤 _) $
      move ! (1 ∷ 0 ∷ []) $ fjoin ! $
      fpack ! (List Val) (λ us. fsep (cell_at full_share held.the_row.mir us rb ro)
      (held.the_row.own_val (with_boxed d w) us)) (word E h b o ∷ []) $ done !

pub value_mut_spec : {M : Type 1} → statement M
value_mut_spec 𝓤 𝓛 𝓜 𝓡 wired =
    let E = stack_box in let H = 𝓛.H in let c = f.clauses 𝓛 𝓜.mem 𝓡.returns in let fn = code.function in
    let 𝓣 = tables 𝓤 H 𝓜 𝓡 𝓡.env in
    proved_at 𝓛 f.ended stayed c 𝓜 𝓡 (Goes-spent_ref 𝓛 1 (0 ∷ []) tt (plain (λ _. held.the_row)), tt) f.Key.name fn
    (code.unfolded 𝓤 H 𝓜 𝓡 wired) (λ z are.
    let κ = z.0.0.0 in let q = z.0.1.0 in let a = z.0.3 in let vss = z.0.4 in
    let d = a.0.now in let rb = a.0.ref_ptr.0 in let ro = a.0.ref_ptr.1 in let γ = a.0.ghost_name in
    let Post : Val → SProp 𝓤 = (walk_of 𝓛 f.ended stayed c).post z in
    qed 𝓛 ((raw (alive 𝓛 f.signature z.0.0 z.0.1) ⊛ ‵ (owns (types_at f.signature.params z.0.0) a vss))
    ∷ raw (fact 𝓤 (IsFull d.kept)) ∷ []) ∵
    move ! (1 ∷ []) $ heard ! (IsFull d.kept)
    (λ full. split ! $ use1 𝓛 (‵ (flft κ q) ⊛ ‵ ftrue) (id⊢ 𝓤 _) $ split ! $ move ! (2 ∷ []) $
    -- [what the parameter owns; the token; nothing]
    fsplit ! $ fsplit3 ! $ feq_l !
    (λ e₀. keep ! (0 ∷ 1 ∷ 3 ∷ []) $
    regoal ! (λ (us : List Val). prop (WpFn 𝓤 H 𝓣.C 𝓣.Λ fn us Post)) (λ i. e₀ i ++ []) refl $
    enter ! 𝓣.C 𝓣.Λ fn (vptr rb ro ∷ []) Post $ alloc_all ! (λ l. pass_all ! refl ((tt, tt), tt) $
    let En : Env 𝓤 H = env fn.locals l in let coded = held.the_row.coded.code d in let is = has d.kept full in
    let e : D E = record { ptr = d.at; alloc = d.alloc; value = is.0 } in
    opens ! tt held.the_row {h = d} rb ro (λ vs. move ! (1 ∷ []) $
    rewrite ! 0 (λ (k : Kept). ‵ (held.the_row.own_val (record { at = d.at; alloc = d.alloc; kept = k }) vs))
    is.1 refl $
    use1 𝓛 (‵ ((B E).own_val e vs)) (id⊢ 𝓤 _) $
    box_out E ! e vs (λ b o h at us fits. move ! (1 ∷ 2 ∷ []) $ fjoin ! $ move ! (1 ∷ []) $
    rewrite ! 2 (λ (ws : List Val). ‵ (cell_at full_share held.the_row.mir ws rb ro)) us refl $
    -- [the value; the rest of the box; the cell; the open borrow; obs; auth]
    first ! $ blocks ! $
    sets ! (of_opd ! (load ! (through ! refl (fld ! refl (stop !))) (look_in ! 2 (sub ! 0 refl (whole !))))) refl
    (tt, tt) $
    sets ! (of_opd ! (get ! refl)) refl (tt, tt) $
    sets_last ! (addr ! (through ! refl (stop !))) refl (tt, tt) $
    exec ! 𝓣.C 𝓣.Λ En code.Mir.t-2 (at_ret En Post) $
    sets ! (of_opd ! (get ! refl)) refl (tt, tt) $
    use1 𝓛 (‵ (part_at owned.the_row full_share is.0 b o)) (id⊢ 𝓤 _) $
    move ! (1 ∷ 2 ∷ []) $ fjoin ! $ move ! (2 ∷ 3 ∷ 4 ∷ 1 ∷ 0 ∷ []) $ group ! 5 $
    let way = back 𝓛 d rb ro b o h at in
    use1 𝓛 (later (some (λ (δ : GName). raw (Part 𝓛 held.the_row owned.the_row (with_boxed d) (named 0) κ q rb ro b o γ
    (sem 𝓛 (Rest 𝓛 d rb ro b o h)) way is.0 δ))))
    (lends_Part 𝓛 held.the_row owned.the_row (with_boxed d) (named 0) κ q rb ro b o γ (sem 𝓛 (Rest 𝓛 d rb ro b o h))
    way coded coded is.0) $ await ! tt $ pick ! (λ δ.
    let r : MutBor Boxed = record { ref_ptr = (b, o); ghost_name = δ; now = is.0 } in
    returns ! (look_at ! 0 refl) $ free_all ! refl $ keep ! (0 ∷ []) $
    use1 𝓛 (‵ ((MutRef (named 0) κ owned.the_row).own_val r (vptr b o ∷ [])) ⊛ ‵ (flft κ q) ⊛ ‵
    (follows held.the_row owned.the_row γ δ (with_boxed d))) (id⊢ 𝓤 _) $ split ! $ move ! (1 ∷ []) $ split ! $
    move ! (2 ∷ 0 ∷ 1 ∷ []) $
    suffices ! _ (ends_at 𝓛 f.ended stayed c z (vptr b o) r (tt, tt) (tt, tt)) $
    nothing ! $ nothing ! $ fjoin ! $ join ! $ nothing ! $ move ! (2 ∷ 0 ∷ []) $ join ! $ join ! $ frame ! $
    says ! is.1 $ done !)))))))
