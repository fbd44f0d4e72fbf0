-- `slice_mut` lends a run of the bytes, and the bytes follow what is written there. Assumes `Logic`.
use Rattle.std.proofs.Common.{◌≡◌, ℕ, ◌+◌, ◌*◌, ◌≤◌, ◌<◌, ◌^◌, List, [], ◌∷◌, ◌++◌, length, take, drop, refl, sym, ap, ◌∙◌, arith, w64, take_all, length-take-le, length-drop}
use seplogic.Ra.Ura.{Ura}
use base.Fraction.{full_share}
use base.Logic.{SProp, ent, sep, id⊢, never}
use base.Fml.{GName, Fml, ftrue, fsep, fat, flft, froom}
use mir.Syntax.{named}
use mir.Val.{Val, vptr, vint}
use prog.Wp.{Env, WpFn}
use contract.Monad.{fact}
use contract.Running.{tables}
use types.Logic.{Logic, sem}
use types.Kit.{‵, raw, ◌⊛◌, some, later, prop, await, pick, at_ret, ◌$◌, ◌∵◌, !, qed, move, keep, use1, use2, split, join, group, rewrite, regoal, fsplit, fsplit3, fjoin, fpack, feq_l, flt_l, flt_i, suffices, frame, done}
use types.Part.{whole, sub, agg}
use types.Run.{stop, fld, bin, of_opd, and_then, no_more, first, blocks, exec, returns, enter}
use types.ByLocal.{alloc_all, pass_all, free_all, look_at, get, get_in, sets, sets_last, take_at, give_at, env}
use denote.Exit.{yes, no}
use denote.RattleType.{owns}
use denote.Array.{Array}
use denote.Memory.{lone, mem, cell_at, part_of}
use denote.RawPtr.{Ptr, block_ptr, in_a_block}
use denote.Ref.{MutBor}
use denote.Builtin.{u8, usize}
use denote.Signature.{types_at, plain, mut_ref_to}
use denote.Slice.{MutSlice, slice_val}
use denote.Follow.{follows}
use denote.FollowSlice.{Elements, lends_Elements}
use denote.Steps.{nothing, opens, heard}
use denote.Struct.Owning.{shape}
use denote.Struct.Struct.{Struct}
use denote.Triple.Entry.{alive}
use denote.Triple.Walked.{Stays, stay_dropped, walk_of, ends_at, says, Goes-dropped, Goes-spent_ref}
use Rattle.std.proofs.raw_atomic.Walks.{proved_at}
use Rattle.raw_cells.specs.Inside.Memory.{bytes_owned, block_type}
use Rattle.raw_cells.specs.Inside.MemoryLends.{with_written}
use Rattle.raw_cells.specs.Over.{over}
use Rattle.raw_cells.proofs.Over.{over_is, length_over}
use Rattle.raw_cells.proofs.Addresses.{address_val, address_typed, told_address}
use Rattle.raw_cells.proofs.Lying.{Lie, Around, run_out, run_in}
use Rattle.raw_cells.specs.contracts.memory.Address.{the_row as Addr}
use Rattle.raw_cells.specs.contracts.memory.Bytes as C
use Rattle.raw_cells.specs.contracts.memory.Bytes.slice_mut as f
use Rattle.raw_cells.proofs.memory.Bytes.slice_mut.Statement.{statement}
use Rattle.raw_cells.proofs.memory.Bytes.slice_mut.Code as code

abbrev stayed : Stays f.ended.signature.params f.ended.kept
stayed = (
  stay_dropped (mut_ref_to (0 ∷ []) tt (plain (λ _. C.the_row))) no,
  (stay_dropped _ yes, (stay_dropped _ yes, (stay_dropped _ yes, tt))),
)

-- the bytes with ws written over a run of them
abbrev new : C.the_row.Denot → ℕ → ℕ → List ℕ → C.the_row.Denot
new d from len ws = with_written d (over d.written from (take len ws))

module _ {M : Type 1} {𝓤 : Ura M} (𝓛 : Logic 𝓤) (d : C.the_row.Denot) (from len rb ro b o : ℕ) (vs : List Val) where
  abbrev Fields : Fml
  Fields = (Struct (shape C.the_type)).own_val tt vs

  -- all but the run
  abbrev Rest : from + len ≤ length d.written → Fml
  Rest fits =
      fsep (Around 𝓛 b d.written o from len fits)
      (fsep (froom (block_type d.blank) b (o + length d.written))
      (fsep Fields (cell_at full_share C.the_row.mir vs rb ro)))

  back : (fits : from + len ≤ length d.written) → d.at ≡ block_ptr b o → length d.written + d.blank < 2 ^ 63
      → (ws : List ℕ) → length ws ≡ length (take len (drop from d.written))
      → ent 𝓤 (sep 𝓤 (sem 𝓛 (Lie ws b (from + o))) (sem 𝓛 (Rest fits)))
      (sem 𝓛 ((mem C.the_row).own_at (new d from len ws) rb ro))
  unfolding part_of
  back fits e few ws same =
      let xs = d.written in let ys = (new d from len ws).written in
      let count : length ws ≡ len = same ∙ length-take-le len (drop from xs) (omega (arith, length-drop from xs)) in
      let all : take len ws ≡ ws = take_all len ws (omega arith) in
      let is : ys ≡ take from xs ++ (ws ++ drop (from + len) xs) =
      ap (λ l. over xs from l) all ∙ over_is xs from ws (omega arith)
      ∙ ap (λ k. take from xs ++ (ws ++ drop (from + k) xs)) count in
      let long : length ys ≡ length xs = length_over xs from (take len ws) (omega arith) in
      qed 𝓛 (‵ (Lie ws b (from + o)) ∷ ‵ (Rest fits) ∷ []) ∵ move ! (1 ∷ []) $ fsplit ! $ move ! (2 ∷ 0 ∷ []) $
      use2 𝓛 (‵ (Lie (take from xs ++ (ws ++ drop (from + len) xs)) b o)) (run_in 𝓛 b xs o from len fits ws count) $
      rewrite ! 0 (λ (l : List ℕ). ‵ (Lie l b o)) (sym is) refl $ move ! (1 ∷ []) $ fsplit ! $
      rewrite ! 0 (λ (k : ℕ). ‵ (froom (block_type d.blank) b (o + k))) (sym long) refl $ move ! (2 ∷ 0 ∷ []) $
      fjoin ! $
      flt_i ! (length ys + d.blank) (2 ^ 63) (omega (arith, long, few)) $ fjoin ! $
      rewrite ! 0 (λ (y : Ptr). ‵ (bytes_owned y ys d.blank)) (sym e) refl $ move ! (1 ∷ []) $ fsplit ! $
      move ! (0 ∷ 2 ∷ []) $ fjoin ! $ move ! (1 ∷ 0 ∷ []) $ fjoin ! $
      fpack ! (List Val) (λ us. fsep (cell_at full_share C.the_row.mir us rb ro)
      (C.the_row.own_val (new d from len ws) us)) vs $ done !

pub slice_mut_spec : {M : Type 1} → statement M
slice_mut_spec 𝓤 𝓛 𝓜 𝓡 wired =
    let H = 𝓛.H in let c = f.clauses 𝓛 𝓜.mem 𝓡.returns in let fn = code.function in
    let 𝓣 = tables 𝓤 H 𝓜 𝓡 𝓡.env in
    proved_at 𝓛 f.ended stayed c 𝓜 𝓡 (
      Goes-spent_ref 𝓛 1 (0 ∷ []) tt (plain (λ _. C.the_row)),
      (
        Goes-dropped 𝓛 1 (plain (λ _. Addr)) yes (λ κs x w. refl),
        (
          Goes-dropped 𝓛 1 (plain (λ _. usize)) yes (λ κs x w. refl),
          (Goes-dropped 𝓛 1 (plain (λ _. usize)) yes (λ κs x w. refl), tt),
        ),
      ),
    )
    f.Key.name fn (code.unfolded 𝓤 H 𝓜 𝓡 wired) (λ z are.
    let κ = z.0.0.0 in let q = z.0.1.0 in let a = z.0.3 in let vss = z.0.4 in
    let d = a.0.now in let rb = a.0.ref_ptr.0 in let ro = a.0.ref_ptr.1 in let γ = a.0.ghost_name in
    let xs = d.written in
    let p = a.1.0.ptr in let from = a.1.1.0 in let len = a.1.1.1.0 in let run = take len (drop from xs) in
    let Post : Val → SProp 𝓤 = (walk_of 𝓛 f.ended stayed c).post z in
    let Asked = (p ≡ d.at) × (from + len ≤ length xs) in
    qed 𝓛 ((raw (alive 𝓛 f.signature z.0.0 z.0.1) ⊛ ‵ (owns (types_at f.signature.params z.0.0) a vss))
    ∷ raw (fact 𝓤 Asked) ∷ []) ∵
    move ! (1 ∷ []) $ heard ! Asked
    (λ asked. split ! $ use1 𝓛 (‵ (flft κ q) ⊛ ‵ ftrue) (id⊢ 𝓤 _) $ split ! $ move ! (2 ∷ []) $
    -- [what the parameters own; the token; nothing]
    fsplit ! $ fsplit3 ! $ feq_l !
    (λ e₀. move ! (2 ∷ []) $ fsplit ! $
    told_address ! a.1.0 vss.1.0 (λ e₁. fsplit ! $ fsplit ! $ feq_l ! (λ e₂. flt_l ! (λ fits_from.
    fsplit ! $ fsplit ! $ feq_l ! (λ e₃. flt_l ! (λ fits. keep ! (1 ∷ 2 ∷ 3 ∷ []) $
    regoal ! (λ (us : List Val). prop (WpFn 𝓤 H 𝓣.C 𝓣.Λ fn us Post)) (λ i. e₀ i ++ (e₁ i ++ (e₂ i ++ (e₃ i ++ []))))
    refl $
    enter ! 𝓣.C 𝓣.Λ fn (vptr rb ro ∷ address_val p ∷ vint w64 from ∷ vint w64 len ∷ []) Post $
    alloc_all ! (λ l. pass_all ! refl
    ((tt, tt), (address_typed p, ((tt, record { fits = fits_from }), ((tt, record { fits = fits }), tt)))) $
    let En : Env 𝓤 H = env fn.locals l in let coded = C.the_row.coded.code d in
    let long : length run ≡ len = length-take-le len (drop from xs) (omega (arith, asked.1, length-drop from xs)) in
    opens ! tt C.the_row {h = d} rb ro (λ vs. move ! (1 ∷ []) $ fsplit ! $ move ! (1 ∷ []) $
    in_a_block ! d.at (λ y. bytes_owned y xs d.blank) (id⊢ 𝓤 (never 𝓤)) (λ b o e. fsplit ! $ flt_l ! (λ few. fsplit ! $
    -- [the bytes; the room; the fields; the cell; the open borrow; obs; auth]
    take_at ! 2 $ rewrite ! 0 (λ (y : Ptr). ‵ (fat full_share (lone Addr.mir) (l 2) 0 (address_val y))) (asked.0 ∙ e)
    refl $ give_at ! 2 $
    first ! $ blocks ! $
    sets ! (bin ! (get_in ! (fld ! refl (stop !)) (sub ! 0 refl (whole !))) (get ! refl) tt) refl (tt, tt) $
    sets_last ! (agg ! (and_then ! (get ! refl) (and_then ! (get ! refl) (no_more !)))) refl
    (tt, (tt, (record { fits = fits }, tt))) $
    exec ! 𝓣.C 𝓣.Λ En code.Mir.t-2 (at_ret En Post) $
    sets ! (of_opd ! (get ! refl)) refl (tt, (tt, (record { fits = fits }, tt))) $
    let at = from + o in let way = back 𝓛 d from len rb ro b o vs asked.1 e few in
    let room : (length run < 2 ^ 64) × (length run * 1 < 2 ^ 63) =
    (omega (arith, long, fits), omega (arith, long, few, asked.1)) in
    use1 𝓛 (‵ (Lie run b at) ⊛ ‵ (Around 𝓛 b xs o from len asked.1)) (run_out 𝓛 b xs o from len asked.1) $ split ! $
    move ! (3 ∷ 4 ∷ []) $ fjoin ! $ move ! (3 ∷ 0 ∷ []) $ fjoin ! $ move ! (2 ∷ 0 ∷ []) $ fjoin ! $
    move ! (2 ∷ 3 ∷ 4 ∷ 1 ∷ 0 ∷ []) $ group ! 5 $
    use1 𝓛 (later (some (λ (δ : GName). raw
    (Elements 𝓛 C.the_row u8 (new d from len) (named 0) κ q rb ro b at γ run room
    (sem 𝓛 (Rest 𝓛 d from len rb ro b o vs asked.1)) way δ))))
    (lends_Elements 𝓛 C.the_row u8 (new d from len) (named 0) κ q rb ro b at γ run room
    (sem 𝓛 (Rest 𝓛 d from len rb ro b o vs asked.1)) way coded coded) $ await ! tt $ pick ! (λ δ.
    let r : MutBor (List ℕ) = record { ref_ptr = (b, at); ghost_name = δ; now = run } in
    returns ! (look_at ! 0 refl) $ free_all ! refl $ keep ! (0 ∷ []) $
    use1 𝓛 (‵ ((MutSlice (named 0) κ u8).own_val r (slice_val (b, at) (length run) ∷ [])) ⊛ ‵ (flft κ q) ⊛ ‵
    (follows C.the_row (Array u8 0) γ δ (new d from len))) (id⊢ 𝓤 _) $ split ! $ move ! (1 ∷ []) $ split ! $ move ! (2
    ∷ 0 ∷ 1 ∷ []) $
    rewrite ! 0 (λ (k : ℕ). ‵ ((MutSlice (named 0) κ u8).own_val r (slice_val (b, at) k ∷ []))) long refl $
    suffices ! _ (ends_at 𝓛 f.ended stayed c z (slice_val (b, at) len) r (tt, (tt, (tt, (tt, tt))))
    (tt, (tt, (tt, (tt, tt))))) $
    nothing ! $ nothing ! $ fjoin ! $ nothing ! $ fjoin ! $ nothing ! $ fjoin ! $ nothing ! $ fjoin ! $ join ! $
    nothing ! $ move ! (2 ∷ 0 ∷ []) $ join ! $ join ! $ frame ! $ says ! refl $ done !)))))))))))))
