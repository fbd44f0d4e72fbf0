-- `deallocate` joins the parts of the block to one piece of memory, and frees it. Assumes `Logic`.
use Rattle.std.proofs.Common.{◌≡◌, ℕ, ◌+◌, ◌*◌, List, [], ◌∷◌, ◌++◌, length, refl, sym, ap, ◌∙◌, subst, arith, lit<, w64}
use lib.Dec.{T}
use mir.Syntax.{Ty, Fn, Args, a_type, dcons, dnil, ty_unit}
use mir.Val.{Val, WT, has_ty, vint, vptr, vunit}
use mir.MapTy.{inst_fn}
use base.Logic.{SProp, id⊢, never}
use base.Fml.{Lft, Share, ftrue, flft, froom}
use prog.Capped.{capped_is}
use prog.Wp.{Env, WpFn}
use contract.BorrowLft.{◌⊑◌, ⊑_trans}
use contract.Monad.{fact}
use contract.Running.{tables}
use types.Kit.{‵, raw, ◌⊛◌, given, later, prop, at_ret, ◌$◌, ◌∵◌, !, qed, move, keep, drop, use1, use2, split, join, group, learn, regoal, rewrite, fsplit, fjoin, feq_i, feq_l, flt_l, await, suffices, done}
use types.Part.{whole, sub}
use types.Run.{stop, fld, lit, unit_lit, of_opd, no_more, and_then, first, blocks, exec, returns, enter}
use types.ByLocal.{alloc_all, pass_all, free_all, look_at, get, get_in, sets, lands_last, env}
use denote.Exit.{yes}
use denote.RattleType.{RattleType, owns}
use denote.RawPtr.{Ptr, block_ptr, in_a_block}
use denote.Param.{param, bounded}
use denote.Builtin.{usize, RefOf}
use denote.Signature.{types_at, plain}
use denote.Steps.{nothing, heard}
use denote.Triple.Entry.{alive}
use denote.Triple.Call.{calls_at_last}
use denote.Triple.Table.{framed}
use denote.Triple.Walked.{Stays, stay_dropped, walk_of, ends_at, Goes-dropped}
use Rattle.std.proofs.alloc.Calls.{Al, Goes-blank, Gives, at_gives, Gives-goes, Gives-Gives}
use Rattle.std.proofs.alloc.Shapes.{after}
use Rattle.std.proofs.raw_atomic.Walks.{proved_at}
use Rattle.raw_cells.specs.Inside.Memory.{bytes_owned, block_type}
use Rattle.raw_cells.proofs.Addresses.{address_val, bytes_val, deed_val, told_address, told_bytes, told_deed}
use Rattle.raw_cells.proofs.Lying.{as_room}
use Rattle.raw_cells.specs.contracts.memory.Address as A
use Rattle.raw_cells.specs.contracts.memory.Bytes as B
use Rattle.raw_cells.specs.contracts.memory.Deed as D
use Rattle.raw_cells.specs.contracts.memory.deallocate.{ended, clauses}
use Rattle.raw_cells.specs.contracts.memory.deallocate.Key.{name as #self}
use Rattle.raw_cells.proofs.memory.deallocate.Statement.{statement}
use Rattle.raw_cells.proofs.memory.deallocate.Code as code

pub deallocate_spec : {M : Type 1} → statement M
deallocate_spec 𝓤 𝓛 𝓜 𝓡 wired X L g d dd met md =
    let H = 𝓛.H in let En₀ = ended X g d dd in let c = clauses X g d dd 𝓛 𝓜.mem 𝓡.returns in
    let args : Args = bounded (a_type ∷ []) (X, tt) (dcons d (dcons dd dnil)) in
    let fn : Fn = inst_fn args code.function in
    let Z : RattleType = param 0 X in
    let stays : Stays En₀.signature.params En₀.kept = (
      stay_dropped _ yes,
      (
        stay_dropped _ yes,
        (stay_dropped _ yes, (stay_dropped _ En₀.kept.1.1.1.0, (stay_dropped _ En₀.kept.1.1.1.1.0, tt))),
      ),
    ) in
    let 𝓣 = tables 𝓤 H 𝓜 𝓡 𝓡.env in
    proved_at 𝓛 En₀ stays c 𝓜 𝓡 (
      Goes-dropped 𝓛 2 (RefOf (0 ∷ []) tt (plain (λ _. Z)) (λ _. tt)) yes (λ κs x w. refl),
      (
        Goes-dropped 𝓛 2 (plain (λ _. A.the_row)) yes (λ κs x w. refl),
        (
          Goes-dropped 𝓛 2 (plain (λ _. usize)) yes (λ κs x w. refl),
          (
            Goes-blank 𝓛 2 (plain (λ _. B.the_row)) En₀.kept.1.1.1.0 (λ κs x w. tt),
            (Goes-blank 𝓛 2 (plain (λ _. D.the_row Z g)) En₀.kept.1.1.1.1.0 (λ κs x w. tt), tt),
          ),
        ),
      ),
    )
    (#self args) fn (code.unfolded 𝓤 H 𝓜 𝓡 wired (X, tt) d dd) (λ z are.
    let Post : Val → SProp 𝓤 = (walk_of 𝓛 En₀ stays c).post z in
    let a = z.0.3 in let vss = z.0.4 in let κ : Lft = z.0.0.0 in let q : Share = z.0.1.0 in
    let Y : Al = record { row = X; laws = L; g = g; d = d; drops = dd } in
    let h = a.0.now in let handle = a.0.ref_ptr in let p = a.1.0.ptr in let len = a.1.1.0 in let bytes = a.1.1.1.0 in
    let deed = a.1.1.1.1.0 in let τ : Ty = block_type len in
    let Asked =
    (bytes.at ≡ p) × (length bytes.written + bytes.blank ≡ len) × (deed.at ≡ p) × (deed.len ≡ len)
    × (deed.alloc ≡ h) in
    qed 𝓛 ((raw (alive 𝓛 En₀.signature z.0.0 z.0.1) ⊛ ‵ (owns (types_at En₀.signature.params z.0.0) a vss))
    ∷ (raw (fact 𝓤 (z.0.0.1.0 ⊑ X.lives)) ⊛ raw (fact 𝓤 Asked)) ∷ []) ∵
    move ! (1 ∷ []) $ split ! $ heard ! (z.0.0.1.0 ⊑ X.lives) (λ le. heard ! Asked (λ asked. split ! $
    use1 𝓛 (‵ (flft κ q) ⊛ ‵ (flft z.0.0.1.0 z.0.1.1.0) ⊛ ‵ ftrue) (id⊢ 𝓤 _) $ split ! $ move ! (2 ∷ []) $
    -- [what the parameters own; the token; the other token]
    fsplit ! $ fsplit ! $ feq_l ! (λ e₀. move ! (1 ∷ []) $ fsplit ! $
    told_address ! a.1.0 vss.1.0 (λ e₁. fsplit ! $ fsplit ! $ feq_l ! (λ e₂. flt_l ! (λ fits.
    fsplit ! $ fsplit ! $ told_bytes ! vss.1.1.1.0
    (λ e₃. move ! (1 ∷ []) $ fsplit ! $ fsplit ! $ told_deed ! Z g vss.1.1.1.1.0 (λ e₄.
    keep ! (2 ∷ 0 ∷ 3 ∷ 4 ∷ 5 ∷ []) $
    in_a_block ! bytes.at (λ y. bytes_owned y bytes.written bytes.blank) (id⊢ 𝓤 (never 𝓤))
    (λ b o e. let there : p ≡ block_ptr b o = sym (asked.0) ∙ e in
    fsplit ! $ drop ! $ fsplit ! $ use2 𝓛 (‵ (froom (block_type (length bytes.written + bytes.blank)) b o))
    (as_room 𝓛 b bytes.written bytes.blank o (o + length bytes.written) refl) $
    rewrite ! 0 (λ (n : ℕ). ‵ (froom (block_type n) b o)) asked.1 refl $
    rewrite ! 1 (λ (u : X.Denot × ℕ × Ptr). ‵ (g.dealloc_token u.0 (block_type u.1) u.2))
    (λ i. (asked.4 i, asked.3 i, (asked.2 ∙ there) i)) refl $
    -- [the room; the right to give it back; the handle; the token; the other token]
    regoal ! (λ (us : List Val). prop (WpFn 𝓤 H 𝓣.C 𝓣.Λ fn us Post))
    (λ i. e₀ i ++ ((e₁ ∙ ap (λ (y : Ptr). address_val y ∷ []) there) i ++ (e₂ i ++ (e₃ i ++ (e₄ i ++ []))))) refl $
    enter ! 𝓣.C 𝓣.Λ fn (vptr handle.0 handle.1 ∷ address_val (block_ptr b o) ∷ vint w64 len ∷ bytes_val ∷ deed_val ∷ [])
    Post $
    alloc_all ! (λ l. pass_all ! refl
    ((tt, tt), ((tt, (tt, tt)), ((tt, record { fits = fits }), ((tt, tt), ((tt, (tt, tt)), tt))))) $
    let En : Env 𝓤 H = env fn.locals l in let y = at_gives Y 𝓛 𝓜.mem 𝓡.returns κ q handle h b o len 1 τ in
    first ! $ blocks ! $ group ! 4 $
    use1 𝓛 (raw ((Gives Y 𝓛 𝓜.mem 𝓡.returns).pre y))
    (Gives-goes Y 𝓛 𝓜.mem 𝓡.returns κ q handle h (⊑_trans κ z.0.0.1.0 X.lives z.0.2.0 le) b o len 1 τ
    (capped_is (len * 1) (omega arith) ∙ omega arith) refl fits (lit< tt)) $
    calls_at_last ! (framed 𝓤 H 𝓜 𝓣) (Gives Y 𝓛 𝓜.mem 𝓡.returns) (met.deallocate dd) y
    (and_then ! (get ! refl) (and_then ! (get_in ! (fld ! refl (stop !)) (sub ! 0 refl (whole !)))
    (and_then ! (get ! refl) (and_then ! (lit ! tt) (no_more !))))) (λ v.
    use1 𝓛 (later (given (v ≡ vunit) (‵ (flft κ q)))) (Gives-Gives Y 𝓛 𝓜.mem 𝓡.returns κ q handle h b o len 1 τ v) $
    await ! tt $ learn ! (λ is_unit.
    lands_last ! refl (subst (λ (u : Val). T (has_ty ty_unit u) × WT u) (sym is_unit) (tt, tt)) $
    exec ! 𝓣.C 𝓣.Λ En (after 1 fn.body) (at_ret En Post) $
    sets ! (of_opd ! (unit_lit !)) refl (tt, tt) $ returns ! (look_at ! 0 refl) $ free_all ! refl $
    keep ! (0 ∷ 1 ∷ []) $
    suffices ! _ (ends_at 𝓛 En₀ stays c z vunit tt (tt, (tt, (tt, (tt, (tt, tt))))) (tt, (tt, (tt, (tt, (tt, tt)))))) $
    join ! $ feq_i ! (List Val) (vunit ∷ []) (vunit ∷ []) refl $ nothing ! $ nothing ! $ fjoin ! $ nothing ! $ fjoin ! $
    nothing ! $ fjoin ! $ nothing ! $ fjoin ! $ nothing ! $ fjoin ! $ join ! $
    move ! (1 ∷ 0 ∷ []) $ join ! $ nothing ! $ move ! (1 ∷ 0 ∷ []) $ done !)))))))))))))
