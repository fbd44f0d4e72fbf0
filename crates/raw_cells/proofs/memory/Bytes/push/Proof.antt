-- `push` writes to the first byte of the room, which is then one of the bytes. Assumes `Logic`.
use Rattle.std.proofs.Common.{◌≡◌, ℕ, suc, ◌+◌, ◌-◌, ◌<◌, ◌^◌, List, [], ◌∷◌, ◌++◌, length, refl, sym, ◌∙◌, arith, w8, w64, length-append}
use base.Fraction.{full_share}
use base.Logic.{SProp, id⊢, never}
use base.Fml.{ftrue, fat, flft, froom}
use mir.Syntax.{ty_int}
use mir.Val.{Val, vptr, vint, vunit}
use prog.Wp.{Env, WpFn}
use contract.Monad.{fact}
use contract.Running.{tables}
use types.Kit.{‵, raw, ◌⊛◌, prop, at_ret, ◌$◌, ◌∵◌, !, qed, move, keep, use1, use2, split, join, rewrite, regoal, fsplit, fsplit3, fjoin, fjoin3, feq_i, feq_l, flt_l, flt_i, suffices, frame, done}
use types.Part.{whole, sub}
use types.Run.{init, stop, fld, unit_lit, bin, of_opd, assigns_last, first, blocks, exec, returns, enter}
use types.ByLocal.{alloc_all, pass_all, free_all, look_at, get, get_in, through, sets, take_at, give_at, env}
use denote.Exit.{yes}
use denote.RattleType.{owns}
use denote.Memory.{lone, part_at}
use denote.Plain.{uint_in}
use denote.RawPtr.{Ptr, in_a_block}
use denote.Builtin.{u8, usize}
use denote.Signature.{types_at, plain}
use denote.Steps.{nothing, opens, closes, heard}
use denote.Triple.Entry.{alive}
use denote.Triple.Walked.{Stays, stay_dropped, stay_ref, walk_of, ends_at, says, Goes-dropped, Goes-ref}
use Rattle.std.proofs.raw_atomic.Walks.{proved_at}
use Rattle.raw_cells.proofs.Addresses.{address_val, address_typed, told_address}
use Rattle.raw_cells.specs.Inside.Memory.{bytes_owned, block_type}
use Rattle.raw_cells.proofs.Lying.{Lie, put_next}
use Rattle.raw_cells.specs.contracts.memory.Address.{the_row as Addr}
use Rattle.raw_cells.specs.contracts.memory.Bytes.{the_row as Row}
use Rattle.raw_cells.specs.contracts.memory.Bytes.push as f
use Rattle.raw_cells.proofs.memory.Bytes.push.Statement.{statement}
use Rattle.raw_cells.proofs.memory.Bytes.push.Code as code

abbrev stayed : Stays f.ended.signature.params f.ended.kept
stayed = (stay_ref (0 ∷ []) tt (plain (λ _. Row)), (stay_dropped _ yes, (stay_dropped _ yes, (stay_dropped _ yes, tt))))

pub push_spec : {M : Type 1} → statement M
push_spec 𝓤 𝓛 𝓜 𝓡 wired =
    let H = 𝓛.H in let c = f.clauses 𝓛 𝓜.mem 𝓡.returns in let fn = code.function in
    let 𝓣 = tables 𝓤 H 𝓜 𝓡 𝓡.env in
    proved_at 𝓛 f.ended stayed c 𝓜 𝓡 (
      Goes-ref 𝓛 1 0 tt (plain (λ _. Row)),
      (
        Goes-dropped 𝓛 1 (plain (λ _. Addr)) yes (λ κs x w. refl),
        (
          Goes-dropped 𝓛 1 (plain (λ _. usize)) yes (λ κs x w. refl),
          (Goes-dropped 𝓛 1 (plain (λ _. u8)) yes (λ κs x w. refl), tt),
        ),
      ),
    )
    f.Key.name fn (code.unfolded 𝓤 H 𝓜 𝓡 wired) (λ z are.
    let κ = z.0.0.0 in let q = z.0.1.0 in let a = z.0.3 in let vss = z.0.4 in
    let d = a.0.now in let rb = a.0.ref_ptr.0 in let ro = a.0.ref_ptr.1 in
    let p = a.1.0.ptr in let index = a.1.1.0 in let byte = a.1.1.1.0 in
    let Post : Val → SProp 𝓤 = (walk_of 𝓛 f.ended stayed c).post z in
    let Asked = (p ≡ d.at) × (index ≡ length d.written) × (0 < d.blank) in
    qed 𝓛 ((raw (alive 𝓛 f.signature z.0.0 z.0.1) ⊛ ‵ (owns (types_at f.signature.params z.0.0) a vss))
    ∷ raw (fact 𝓤 Asked) ∷ []) ∵
    move ! (1 ∷ []) $ heard ! Asked (λ asked. split ! $
    use1 𝓛 (‵ (flft κ q) ⊛ ‵ ftrue) (id⊢ 𝓤 _) $ split ! $ move ! (2 ∷ []) $
    -- [what the parameters own; the token; nothing]
    fsplit ! $ fsplit3 ! $ feq_l !
    (λ e₀. move ! (2 ∷ []) $ fsplit ! $
    told_address ! a.1.0 vss.1.0 (λ e₁. fsplit ! $ fsplit ! $ feq_l ! (λ e₂. flt_l ! (λ fits.
    fsplit ! $ fsplit ! $ feq_l ! (λ e₃. flt_l ! (λ small. keep ! (1 ∷ 2 ∷ 3 ∷ []) $
    regoal ! (λ (us : List Val). prop (WpFn 𝓤 H 𝓣.C 𝓣.Λ fn us Post)) (λ i. e₀ i ++ (e₁ i ++ (e₂ i ++ (e₃ i ++ []))))
    refl $
    enter ! 𝓣.C 𝓣.Λ fn (vptr rb ro ∷ address_val p ∷ vint w64 index ∷ vint w8 byte ∷ []) Post $
    alloc_all ! (λ l. pass_all ! refl
    ((tt, tt), (address_typed p, ((tt, record { fits = fits }), ((tt, record { fits = small }), tt)))) $
    let En : Env 𝓤 H = env fn.locals l in let m = d.blank - 1 in
    let new : Row.Denot = record { at = d.at; written = d.written ++ byte ∷ []; blank = m } in
    let left : d.blank ≡ suc m = omega (arith, asked.2) in
    let more : length new.written ≡ length d.written + 1 = length-append d.written (byte ∷ []) in
    opens ! tt Row {h = d} rb ro (λ vs. move ! (1 ∷ []) $ fsplit ! $ move ! (1 ∷ []) $
    in_a_block ! d.at (λ y. bytes_owned y d.written d.blank) (id⊢ 𝓤 (never 𝓤))
    (λ b o e. fsplit ! $ flt_l ! (λ few. fsplit ! $ move ! (1 ∷ []) $
    -- [the room; the bytes; the fields; the cell; the open borrow; obs; auth]
    rewrite ! 0 (λ (n : ℕ). ‵ (froom (block_type n) b (o + length d.written))) left refl $
    rewrite ! 0 (λ (k : ℕ). ‵ (froom (block_type (suc m)) b k)) {x = index + o} (omega (arith, asked.1)) refl $
    use1 𝓛 (‵ (froom (ty_int w8) b (index + o)) ⊛ ‵ (froom (block_type m) b (index + o + 1)))
    (𝓛.laws.room_uncons (ty_int w8) m b (index + o)) $ split ! $
    take_at ! 2 $ rewrite ! 0 (λ (y : Ptr). ‵ (fat full_share (lone Addr.mir) (l 2) 0 (address_val y))) (asked.0 ∙ e)
    refl $ give_at ! 2 $
    first ! $ blocks ! $
    sets ! (bin ! (get_in ! (fld ! refl (stop !)) (sub ! 0 refl (whole !))) (get ! refl) tt) refl (tt, tt) $
    assigns_last ! (of_opd ! (get ! refl)) (through ! refl (stop !)) (init ! 0 refl (tt, record { fits = small })) $
    exec ! 𝓣.C 𝓣.Λ En code.Mir.t-2 (at_ret En Post) $ sets ! (of_opd ! (unit_lit !)) refl (tt, tt) $
    use1 𝓛 (‵ (part_at u8 full_share byte b (index + o))) (uint_in 𝓛 full_share w8 byte b (index + o)) $
    move ! (0 ∷ 2 ∷ []) $
    use2 𝓛 (‵ (Lie new.written b o)) (put_next 𝓛 b d.written byte o (index + o) (omega (arith, asked.1))) $
    move ! (1 ∷ []) $
    rewrite ! 0 (λ (k : ℕ). ‵ (froom (block_type m) b k)) {x = o + length new.written} (omega (arith, more, asked.1))
    refl $ move ! (1 ∷ 0 ∷ []) $ fjoin ! $
    flt_i ! (length new.written + m) (2 ^ 63) (omega (arith, few, more, left)) $ fjoin ! $
    rewrite ! 0 (λ (y : Ptr). ‵ (bytes_owned y new.written m)) (sym e) refl $ move ! (1 ∷ 0 ∷ []) $ fjoin ! $
    move ! (1 ∷ 0 ∷ []) $ closes ! tt Row new vs rb ro $
    returns ! (look_at ! 0 refl) $ free_all ! refl $ keep ! (0 ∷ 1 ∷ 2 ∷ []) $
    suffices ! _ (ends_at 𝓛 f.ended stayed c z vunit tt (new, (tt, (tt, (tt, tt)))) (tt, (tt, (tt, (tt, tt))))) $
    says ! (refl, refl, omega (arith, left)) $
    feq_i ! (List Val) (vunit ∷ []) (vunit ∷ []) refl $ move ! (1 ∷ 2 ∷ 3 ∷ 0 ∷ []) $
    nothing ! $ move ! (3 ∷ 0 ∷ []) $ join ! $ frame ! $ feq_i ! (List Val) vss.0 (vptr rb ro ∷ []) e₀ $ fjoin3 ! $
    nothing ! $ nothing ! $ fjoin ! $ nothing ! $ fjoin ! $ nothing ! $ fjoin ! $ move ! (1 ∷ 0 ∷ []) $ fjoin ! $
    done !))))))))))))
