-- `slice` shows a run of the bytes. Assumes `Logic`.
use Rattle.std.proofs.Common.{◌≡◌, ℕ, ◌+◌, ◌*◌, ◌≤◌, ◌^◌, List, [], ◌∷◌, ◌++◌, length, take, drop, refl, sym, ap, ◌∙◌, arith, w64, length-take-le, length-drop}
use base.Fraction.{full_share}
use base.Logic.{SProp, id⊢, never}
use base.Fml.{ftrue, fat, flft}
use mir.Val.{Val, vptr, vint}
use prog.Wp.{Env, WpFn}
use contract.Monad.{fact}
use contract.Running.{tables}
use types.Kit.{‵, raw, ◌⊛◌, prop, at_ret, ◌$◌, ◌∵◌, !, qed, move, keep, drop as skip, use1, split, join, rewrite, regoal, fsplit, fjoin, feq_i, feq_l, flt_l, flt_i, suffices, frame, done}
use types.Part.{whole, sub, agg}
use denote.Opens.{hide, unhide}
use types.Run.{stop, fld, bin, of_opd, and_then, no_more, first, blocks, exec, returns, enter}
use types.ByLocal.{alloc_all, pass_all, free_all, look_at, get, get_in, sets, sets_last, take_at, give_at, env}
use denote.Exit.{yes}
use denote.RattleType.{owns}
use denote.Memory.{lone}
use denote.RawPtr.{Ptr, in_a_block}
use denote.Ref.{Bor}
use denote.Builtin.{u8, usize, RefOf}
use denote.Signature.{types_at, plain}
use denote.Slice.{elements_shared, slice_val}
use denote.Steps.{nothing, heard}
use denote.Triple.Entry.{alive}
use denote.Triple.Walked.{Stays, stay_dropped, walk_of, ends_at, says, Goes-dropped}
use Rattle.std.proofs.raw_atomic.Walks.{proved_at}
use Rattle.raw_cells.specs.Inside.Memory.{bytes_lent}
use Rattle.raw_cells.proofs.Addresses.{address_val, address_typed, told_address}
use Rattle.raw_cells.proofs.Lying.{run_seen}
use Rattle.raw_cells.specs.contracts.memory.Address.{the_row as Addr}
use Rattle.raw_cells.specs.contracts.memory.Bytes.{the_row as Row}
use Rattle.raw_cells.specs.contracts.memory.Bytes.slice as f
use Rattle.raw_cells.proofs.memory.Bytes.slice.Statement.{statement}
use Rattle.raw_cells.proofs.memory.Bytes.slice.Code as code

abbrev stayed : Stays f.ended.signature.params f.ended.kept
stayed = (stay_dropped _ yes, (stay_dropped _ yes, (stay_dropped _ yes, (stay_dropped _ yes, tt))))

pub slice_spec : {M : Type 1} → statement M
slice_spec 𝓤 𝓛 𝓜 𝓡 wired =
    let H = 𝓛.H in let c = f.clauses 𝓛 𝓜.mem 𝓡.returns in let fn = code.function in
    let 𝓣 = tables 𝓤 H 𝓜 𝓡 𝓡.env in
    proved_at 𝓛 f.ended stayed c 𝓜 𝓡 (
      Goes-dropped 𝓛 1 (RefOf (0 ∷ []) tt (plain (λ _. Row)) (λ _. tt)) yes (λ κs x w. refl),
      (
        Goes-dropped 𝓛 1 (plain (λ _. Addr)) yes (λ κs x w. refl),
        (
          Goes-dropped 𝓛 1 (plain (λ _. usize)) yes (λ κs x w. refl),
          (Goes-dropped 𝓛 1 (plain (λ _. usize)) yes (λ κs x w. refl), tt),
        ),
      ),
    )
    f.Key.name fn (code.unfolded 𝓤 H 𝓜 𝓡 wired) (λ z are.
    let κ = z.0.0.0 in let q = z.0.1.0 in let a = z.0.3 in let vss = z.0.4 in
    let d = a.0.now in let rb = a.0.ref_ptr.0 in let ro = a.0.ref_ptr.1 in let xs = d.written in
    let p = a.1.0.ptr in let from = a.1.1.0 in let len = a.1.1.1.0 in let run = take len (drop from xs) in
    let Post : Val → SProp 𝓤 = (walk_of 𝓛 f.ended stayed c).post z in
    let Asked = (p ≡ d.at) × (from + len ≤ length xs) in
    qed 𝓛 ((raw (alive 𝓛 f.signature z.0.0 z.0.1) ⊛ ‵ (owns (types_at f.signature.params z.0.0) a vss))
    ∷ raw (fact 𝓤 Asked) ∷ []) ∵
    move ! (1 ∷ []) $ heard ! Asked
    (λ asked. split ! $ use1 𝓛 (‵ (flft κ q) ⊛ ‵ ftrue) (id⊢ 𝓤 _) $ split ! $ move ! (2 ∷ []) $
    -- [what the parameters own; the token; nothing]
    fsplit ! $ fsplit ! $ feq_l ! (λ e₀. move ! (1 ∷ []) $ fsplit ! $
    told_address ! a.1.0 vss.1.0 (λ e₁. fsplit ! $ fsplit ! $ feq_l ! (λ e₂. flt_l ! (λ fits_from.
    fsplit ! $ fsplit ! $ feq_l ! (λ e₃. flt_l ! (λ fits. keep ! (1 ∷ 2 ∷ []) $
    regoal ! (λ (us : List Val). prop (WpFn 𝓤 H 𝓣.C 𝓣.Λ fn us Post)) (λ i. e₀ i ++ (e₁ i ++ (e₂ i ++ (e₃ i ++ []))))
    refl $
    enter ! 𝓣.C 𝓣.Λ fn (vptr rb ro ∷ address_val p ∷ vint w64 from ∷ vint w64 len ∷ []) Post $
    alloc_all ! (λ l. pass_all ! refl
    ((tt, tt), (address_typed p, ((tt, record { fits = fits_from }), ((tt, record { fits = fits }), tt)))) $
    let En : Env 𝓤 H = env fn.locals l in
    let long : length run ≡ len = length-take-le len (drop from xs) (omega (arith, asked.1, length-drop from xs)) in
    unhide ! $ fsplit ! $ skip ! $ in_a_block ! d.at (λ y. bytes_lent y xs d.blank κ) (id⊢ 𝓤 (never 𝓤))
    (λ b o e. fsplit ! $ flt_l ! (λ few.
    -- [the bytes; the token]
    take_at ! 2 $ rewrite ! 0 (λ (y : Ptr). ‵ (fat full_share (lone Addr.mir) (l 2) 0 (address_val y))) (asked.0 ∙ e)
    refl $ give_at ! 2 $
    first ! $ blocks ! $
    sets ! (bin ! (get_in ! (fld ! refl (stop !)) (sub ! 0 refl (whole !))) (get ! refl) tt) refl (tt, tt) $
    let at : ℕ × ℕ = (b, from + o) in let r : Bor (List ℕ) = record { ref_ptr = at; now = run } in
    use1 𝓛 (‵ (elements_shared u8 run b (from + o) κ)) (run_seen 𝓛 b κ xs o from len (omega (arith, asked.1))) $
    hide ! $
    sets_last ! (agg ! (and_then ! (get ! refl) (and_then ! (get ! refl) (no_more !)))) refl
    (tt, (tt, (record { fits = fits }, tt))) $
    exec ! 𝓣.C 𝓣.Λ En code.Mir.t-2 (at_ret En Post) $
    sets ! (of_opd ! (get ! refl)) refl (tt, (tt, (record { fits = fits }, tt))) $
    flt_i ! (length run * 1) (2 ^ 63) (omega (arith, long, few, asked.1)) $
    flt_i ! (length run) (2 ^ 64) (omega (arith, long, fits)) $ fjoin ! $
    feq_i ! (List Val) (slice_val at len ∷ []) (slice_val at (length run) ∷ [])
    (ap (λ k. slice_val at k ∷ []) (sym long)) $ fjoin ! $ fjoin ! $
    returns ! (look_at ! 0 refl) $ free_all ! refl $ keep ! (1 ∷ 0 ∷ []) $
    suffices ! _ (ends_at 𝓛 f.ended stayed c z (slice_val at len) r (tt, (tt, (tt, (tt, tt))))
    (tt, (tt, (tt, (tt, tt))))) $ says ! refl $
    nothing ! $ move ! (1 ∷ 0 ∷ []) $ join ! $ frame ! $ nothing ! $ nothing ! $ fjoin ! $ nothing ! $ fjoin ! $
    nothing ! $ fjoin ! $ nothing ! $ fjoin ! $ done !)))))))))))
