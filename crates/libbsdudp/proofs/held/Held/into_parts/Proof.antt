-- `into_parts` moves two fields, and with them the box that the mark stands for.
use Rattle.std.proofs.Common.{[], ◌∷◌, ◌++◌, List, refl, sym, subst}
use mir.Val.{Val}
use base.Logic.{SProp, ent, id⊢}
use base.Fml.{ftrue, fsep}
use prog.Wp.{WpFn}
use contract.Running.{tables}
use contract.Monad.{fact}
use types.Kit.{‵, raw, ◌⊛◌, ◌$◌, ◌∵◌, !, qed, move, drop, use1, rewrite, join, split, fsplit, fjoin, suffices, done}
use types.Part.{whole, sub, agg}
use types.Run.{stop, fld, no_more, and_then, of_opd, returns, enter}
use types.ByLocal.{alloc_all, pass_all, free_all, look_at, get, get_in, sets}
use denote.Exit.{yes}
use denote.RattleType.{RattleType}
use denote.Signature.{plain}
use denote.Steps.{nothing, heard}
use denote.Triple.Walked.{says, Stays, stay_dropped, walk_of, ends_at, Goes-dropped}
use Rattle.std.proofs.raw_atomic.Walks.{proved_at}
use Rattle.std_alloc.proofs.BoxSteps.Form.{D, B, word, box_typed}
use Rattle.std_alloc.proofs.BoxSteps.Steps.{box_out, box_in}
use Rattle.std_heap.specs.contracts.Global as heap
use Rattle.std_heap.specs.contracts.GlobalAllocator.TheImpl.{ghosts}
use Rattle.libbsdudp.specs.Held.{IsFull, Kept}
use Rattle.libbsdudp.proofs.Boxes.{stack_box, has}
use Rattle.libbsdudp.specs.contracts.owned.Owned as owned
use Rattle.libbsdudp.specs.contracts.parts.Parts as parts
use Rattle.libbsdudp.specs.contracts.held.Held as held
use Rattle.libbsdudp.specs.contracts.held.Held.into_parts as f
use Rattle.libbsdudp.proofs.held.Held.into_parts.Statement.{statement}
use Rattle.libbsdudp.proofs.held.Held.into_parts.Code as code

abbrev Into : RattleType
Into = parts.the_row owned.the_row heap.the_row ghosts

abbrev stayed : Stays f.ended.signature.params f.ended.kept
stayed = (stay_dropped (plain (λ _. held.the_row)) yes, tt)

pub into_parts_spec : {M : Type 1} → statement M
into_parts_spec 𝓤 𝓛 𝓜 𝓡 wired =
    let E = stack_box in let H = 𝓛.H in let 𝓣 = tables 𝓤 H 𝓜 𝓡 𝓡.env in let c = f.clauses 𝓛 𝓜.mem 𝓡.returns in
    proved_at 𝓛 f.ended stayed c 𝓜 𝓡 (Goes-dropped 𝓛 0 (plain (λ _. held.the_row)) yes (λ κs x f. refl), tt) f.Key.name
    code.function (code.unfolded 𝓤 H 𝓜 𝓡 wired) (λ z are.
    let p = z.0.3.0 in let Out : Val → SProp 𝓤 = (walk_of 𝓛 f.ended stayed c).post z in
    let Run : List Val → SProp 𝓤 = λ us. WpFn 𝓤 H 𝓣.C 𝓣.Λ code.function us Out in
    qed 𝓛 ((‵ ftrue ⊛ ‵ (fsep (held.the_row.own_val p z.0.4.0) ftrue)) ∷ raw (fact 𝓤 (IsFull p.kept)) ∷ []) ∵ move !
    (1 ∷ []) $ heard ! (IsFull p.kept) (λ full. split ! $ drop ! $ fsplit ! $
    let is = has p.kept full in let d : D E = record { ptr = p.at; alloc = p.alloc; value = is.0 } in
    let made : Into.Denot = record { at = p.at; alloc = p.alloc; value = is.0 } in
    rewrite ! 0 (λ (k : Kept). ‵ (held.the_row.own_val (record { at = p.at; alloc = p.alloc; kept = k }) z.0.4.0)) is.1
    refl $ use1 𝓛 (‵ ((B E).own_val d z.0.4.0)) (id⊢ 𝓤 _) $
    box_out E ! d z.0.4.0 (λ b o h at us fits. let w = word E h b o in let typed = box_typed E h b o fits in
    box_in E ! d b o d.value at refl $ use1 𝓛 (‵ (Into.own_val made (w ∷ []))) (id⊢ 𝓤 _) $ move ! (1 ∷ []) $ drop ! $
    suffices ! (Run (w ∷ [])) (subst (λ (vs : List Val). ent 𝓤 (Run (w ∷ [])) (Run (vs ++ []))) (sym us)
    (id⊢ 𝓤 (Run (w ∷ [])))) $
    enter ! 𝓣.C 𝓣.Λ code.function (w ∷ []) Out $ alloc_all ! (λ l. pass_all ! refl (typed, tt) $
    sets ! (of_opd ! (get_in ! (fld ! refl (stop !)) (sub ! 0 refl (whole !)))) refl (tt, tt) $
    sets ! (of_opd ! (get_in ! (fld ! refl (stop !)) (sub ! 1 refl (whole !)))) refl fits $
    sets ! (of_opd ! (get ! refl)) refl (tt, tt) $
    sets ! (agg ! (and_then ! (get ! refl) (and_then ! (get ! refl) (no_more !)))) refl typed $
    returns ! (look_at ! 0 refl) $ free_all ! refl $
    suffices ! _ (ends_at 𝓛 f.ended stayed c z w made (tt, tt) (tt, tt)) $ says ! is.1 $
    nothing ! $ nothing ! $ fjoin ! $ join ! $ nothing ! $ join ! $ done !))))
