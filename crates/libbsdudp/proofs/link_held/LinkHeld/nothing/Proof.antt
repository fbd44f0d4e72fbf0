-- `nothing` has a null pointer and the allocator, and owns nothing.
use Rattle.std.proofs.Common.{[], ◌∷◌, ◌++◌, List, refl, sym, subst, lit<, None}
use mir.Val.{Val, vstruct, of_list, has_ty}
use Rattle.std_alloc.proofs.ResultValues.{and_tt}
use base.Logic.{SProp, ent, emp, id⊢}
use base.Fml.{ftrue, fsep}
use prog.Wp.{WpFn}
use contract.Running.{tables}
use types.Kit.{‵, raw, ◌⊛◌, ◌$◌, ◌∵◌, !, qed, move, drop, use1, rewrite, join, split, fsplit, fjoin, fpack, feq_i, suffices, done}
use types.Part.{agg}
use types.Run.{lit, no_more, and_then, returns, enter}
use types.ByLocal.{alloc_all, pass_all, free_all, look_at, get, sets}
use denote.Exit.{yes}
use denote.RattleType.{Valss}
use denote.RawPtr.{RawPtr, null_ptr, ptr_val}
use denote.Signature.{plain}
use denote.Steps.{nothing}
use denote.Struct.Struct.{within}
use denote.Struct.Owning.{shape}
use denote.Triple.Walked.{says, Stays, stay_dropped, walk_of, ends_at, Goes-dropped}
use Rattle.core.proofs.cell.Inside.{one}
use Rattle.std.proofs.raw_atomic.Walks.{proved_at}
use denote.Param.{layout}
use Rattle.std_alloc.proofs.BoxSteps.Form.{P, owning}
use Rattle.std_heap.specs.contracts.Global as heap
use Rattle.std_heap.proofs.Global.TheLaws as heap_laws
use Rattle.libbsdudp.proofs.LinkBoxes.{link_box}
use Rattle.libbsdudp.specs.contracts.link_held.LinkHeld as held
use Rattle.libbsdudp.specs.contracts.link_held.LinkHeld.nothing as f
use Rattle.libbsdudp.proofs.link_held.LinkHeld.nothing.Statement.{statement}
use Rattle.libbsdudp.proofs.link_held.LinkHeld.nothing.Code as code

abbrev stayed : Stays f.ended.signature.params f.ended.kept
stayed = (stay_dropped (plain (λ _. heap.the_row)) yes, tt)

pub nothing_spec : {M : Type 1} → statement M
nothing_spec 𝓤 𝓛 𝓜 𝓡 wired =
    let H = 𝓛.H in let 𝓣 = tables 𝓤 H 𝓜 𝓡 𝓡.env in let c = f.clauses 𝓛 𝓜.mem 𝓡.returns in
    proved_at 𝓛 f.ended stayed c 𝓜 𝓡 (Goes-dropped 𝓛 0 (plain (λ _. heap.the_row)) yes (λ κs x f. refl), tt) f.Key.name
    code.function (code.unfolded 𝓤 H 𝓜 𝓡 wired) (λ z are.
    let a = z.0.3.0 in let Out : Val → SProp 𝓤 = (walk_of 𝓛 f.ended stayed c).post z in
    let Run : List Val → SProp 𝓤 = λ us. WpFn 𝓤 H 𝓣.C 𝓣.Λ code.function us Out in
    let only_one = one (layout heap.the_row) z.0.4.0 ((heap_laws.the_row_laws.lawful 𝓛).typed a z.0.4.0 are.0) in
    let h : Val = only_one.0 in
    let w : Val = vstruct (of_list (ptr_val null_ptr ∷ h ∷ [])) in
    let made : held.the_row.Denot = record { at = null_ptr; alloc = a; kept = None } in
    qed 𝓛 ((‵ ftrue ⊛ ‵ (fsep (heap.the_row.own_val a z.0.4.0) ftrue)) ∷ raw (emp 𝓤) ∷ []) ∵ split ! $ drop ! $
    fsplit ! $ move ! (1 ∷ 2 ∷ []) $ drop ! $ drop ! $
    rewrite ! 0 (λ (us : List Val). ‵ (heap.the_row.own_val a us)) only_one.1 refl $
    -- [the allocator's]
    nothing ! $ nothing ! $ move ! (2 ∷ 0 ∷ []) $ fjoin ! $
    feq_i ! (List Val) (ptr_val null_ptr ∷ []) (ptr_val null_ptr ∷ []) refl $ fjoin ! $
    feq_i ! (List Val) (w ∷ []) (w ∷ []) refl $ fjoin ! $
    fpack ! (Valss (RawPtr ∷ P link_box ∷ [])) (within (shape (owning link_box)) (null_ptr, (a, tt)) (w ∷ []))
    (ptr_val null_ptr ∷ [], (h ∷ [], tt)) $ fjoin ! $
    use1 𝓛 (‵ (held.the_row.own_val made (w ∷ []))) (id⊢ 𝓤 _) $
    suffices ! (Run (h ∷ [])) (subst (λ (vs : List Val). ent 𝓤 (Run (h ∷ [])) (Run (vs ++ []))) (sym only_one.1)
    (id⊢ 𝓤 (Run (h ∷ [])))) $
    enter ! 𝓣.C 𝓣.Λ code.function (h ∷ []) Out $ alloc_all ! (λ l. pass_all ! refl (only_one.2, tt) $
    sets ! (agg ! (and_then ! (lit ! tt) (and_then ! (get ! refl) (no_more !)))) refl
    (and_tt (has_ty (layout heap.the_row) h) only_one.2.0, (record { fits = lit< tt }, (only_one.2.1, tt))) $
    returns ! (look_at ! 0 refl) $ free_all ! refl $
    suffices ! _ (ends_at 𝓛 f.ended stayed c z w made (tt, tt) (tt, tt)) $ says ! refl $
    nothing ! $ nothing ! $ fjoin ! $ join ! $ nothing ! $ join ! $ done !))
