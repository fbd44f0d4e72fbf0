-- `open` passes the box to `into_raw_with_allocator`, and makes a pair of the results.
use Rattle.std.proofs.Common.{◌≡◌, List, [], ◌∷◌, ◌++◌, refl, sym, subst}
use mir.Syntax.{Fn, a_type, dcons, dnil}
use mir.Val.{Val}
use mir.MapTy.{inst_fn}
use base.Logic.{SProp, ent, id⊢}
use base.Fml.{ftrue, fsep, flft}
use contract.Monad.{fact}
use contract.BorrowLft.{◌⊑◌}
use contract.Running.{tables}
use prog.Wp.{WpFn}
use types.Kit.{‵, raw, ◌⊛◌, some, later, ◌$◌, ◌∵◌, !, qed, move, drop, use1, join, split, split3, pick, fsplit, fjoin, suffices, await, done}
use types.Part.{whole, sub, agg}
use types.Run.{stop, fld, no_more, and_then, of_opd, returns, enter}
use types.ByLocal.{alloc_all, pass_all, free_all, look_at, get, get_in, sets, lands_as}
use denote.Exit.{no}
use denote.Param.{bounded}
use denote.RawPtr.{Ptr}
use denote.Signature.{plain}
use denote.Steps.{heard, nothing}
use denote.Triple.Call.{calls_at}
use denote.Triple.Spec.{triple_of}
use denote.Triple.Walked.{says, Stays, stay_dropped, walk_of, ends_at}
use Rattle.core.proofs.alloc.Calls.{Goes-blank, token}
use Rattle.core.proofs.atomic.Steps.{fm}
use Rattle.std.proofs.raw_atomic.Walks.{proved_at}
use Rattle.std_alloc.specs.Box.Ownership.{box_owns}
use Rattle.std_alloc.proofs.BoxSteps.Form.{Bx, R, P, B, word, box_typed}
use Rattle.std_alloc.proofs.BoxSteps.Steps.{box_out, box_in}
use Rattle.libbsdudp.specs.contracts.parts.Parts as parts
use Rattle.std_alloc.specs.contracts.boxed.Box.into_raw_with_allocator as taken
use Rattle.std_alloc.proofs.boxed.Box.into_raw_with_allocator.Met.{met}
use Rattle.libbsdudp.proofs.Boxes.{Side, boxed_again}
use Rattle.libbsdudp.specs.contracts.parts.open as f
use Rattle.libbsdudp.proofs.parts.open.Statement.{statement}
use Rattle.libbsdudp.proofs.parts.open.Code as code

pub open_spec : {M : Type 1} → statement M
open_spec 𝓤 𝓛 𝓜 𝓡 wired T A L LA g d dx dd allocator leaves frees =
    let H = 𝓛.H in let 𝓣 = tables 𝓤 H 𝓜 𝓡 𝓡.env in
    let E : Bx = record { row = T; laws = L; al = record { row = A; laws = LA; g = g; d = d; drops = dd } } in
    let inst = bounded (a_type ∷ a_type ∷ []) (T, (A, tt)) (dcons d (dcons dx (dcons dd dnil))) in
    let fn : Fn = inst_fn inst code.function in
    let En = f.ended T A g d dx dd in let c = f.clauses T A g d dx dd 𝓛 𝓜.mem 𝓡.returns in
    let stayed : Stays En.signature.params En.kept = (stay_dropped (plain (λ _. B E)) no, tt) in
    let Made = parts.the_row (R E) (P E) g in
    proved_at 𝓛 En stayed c 𝓜 𝓡 (Goes-blank 𝓛 2 (plain (λ _. B E)) no (λ κs x f. tt), tt) (f.Key.name inst) fn
    (code.unfolded 𝓤 H 𝓜 𝓡 wired (T, (A, tt)) d dx dd) (λ z are.
    let κs = z.0.0 in let qs = z.0.1 in let v = z.0.3.0 in let Out : Val → SProp 𝓤 = (walk_of 𝓛 En stayed c).post z in
    let Run : List Val → SProp 𝓤 = λ us. WpFn 𝓤 H 𝓣.C 𝓣.Λ fn us Out in
    let lives = ‵ (flft κs.0 qs.0) ⊛ ‵ (flft κs.1.0 qs.1.0) ⊛ ‵ ftrue in
    let bounds = raw (fact 𝓤 (κs.0 ⊑ T.lives)) ⊛ raw (fact 𝓤 (κs.1.0 ⊑ A.lives)) ⊛ ‵ ftrue in
    qed 𝓛 ((lives ⊛ ‵ (fsep ((B E).own_val v z.0.4.0) ftrue)) ∷ bounds ∷ []) ∵ split ! $ move ! (1 ∷ []) $ fsplit ! $
    box_out E ! v z.0.4.0 (λ b o h at us fits. box_in E ! v b o v.value at refl $ let w = word E h b o in
    let callee = triple_of 𝓛 (taken.signature T A g d dd dx) (taken.spec T A g d dd dx 𝓛 𝓜.mem 𝓡.returns) in
    let y : callee.Ghost = ((κs, qs, tt, (v, tt), (w ∷ [], tt)), tt) in
    -- [the box; nothing; the tokens; what they say]
    fjoin ! $ move ! (1 ∷ 0 ∷ []) $ join ! $ join ! $ use1 𝓛 (raw (callee.pre y)) (id⊢ 𝓤 _) $
    suffices ! (Run (w ∷ [])) (subst (λ (vs : List Val). ent 𝓤 (Run (w ∷ [])) (Run (vs ++ []))) (sym us)
    (id⊢ 𝓤 (Run (w ∷ [])))) $
    enter ! 𝓣.C 𝓣.Λ fn (w ∷ []) Out $
    alloc_all ! (λ l. pass_all ! refl (box_typed E h b o fits, tt) $
    sets ! (of_opd ! (get ! refl)) refl (box_typed E h b o fits) $
    calls_at ! (fm 𝓛 𝓜 𝓡) callee (met 𝓤 𝓛 𝓜 𝓡 (code.calls-std_alloc::boxed::Box::into_raw_with_allocator 𝓡.env wired) T
    A L LA g d dd dx allocator frees leaves) y (and_then ! (get ! refl) (no_more !)) (λ u.
    use1 𝓛 (later (some (λ (r : Ptr × A.Denot). (lives ⊛ ‵ ((Side E).own_val r (u ∷ []))) ⊛ some
    (λ (_ : (Unit {0} × (Unit {0} × Unit {0})) × Unit {0}). ‵ (fsep (fsep ftrue (fsep ftrue ftrue)) ftrue)
    ⊛ (raw (fact 𝓤 (r.1 ≡ v.alloc)) ⊛ ‵ (box_owns (token E.al v.alloc) (R E) r.0 v.value)))))) (id⊢ 𝓤 _) $
    await ! tt $ pick ! (λ r. split ! $ move ! (1 ∷ []) $
    pick ! (λ _. split3 ! $ drop ! $
    heard ! (r.1 ≡ v.alloc) (λ same. move ! (1 ∷ []) $ split ! $ move ! (1 ∷ 2 ∷ []) $
    -- [the pair; what the box at its pointer owns; the tokens]
    boxed_again E ! r u v.alloc v.value same (λ b' o' h' is fits'. let typed' = box_typed E h' b' o' fits' in
    lands_as ! is refl typed' $
    sets ! (of_opd ! (get_in ! (fld ! refl (stop !)) (sub ! 0 refl (whole !)))) refl (tt, tt) $
    sets ! (of_opd ! (get_in ! (fld ! refl (stop !)) (sub ! 1 refl (whole !)))) refl fits' $
    sets ! (of_opd ! (get ! refl)) refl fits' $
    sets ! (agg ! (and_then ! (get ! refl) (and_then ! (get ! refl) (no_more !)))) refl typed' $
    returns ! (look_at ! 0 refl) $ free_all ! refl $
    suffices ! _ (ends_at 𝓛 En stayed c z (word E h' b' o')
    (record { at = denote.RawPtr.block_ptr b' o'; alloc = v.alloc; value = v.value }) ((tt, (tt, tt)), tt)
    (tt, tt)) $ says ! refl $
    use1 𝓛 (‵ (Made.own_val (record { at = denote.RawPtr.block_ptr b' o'; alloc = v.alloc; value = v.value })
    (word E h' b' o' ∷ []))) (id⊢ 𝓤 _) $
    nothing ! $ nothing ! $ fjoin ! $ join ! $ move ! (1 ∷ 0 ∷ []) $ join ! $ done !))))))))
