-- A box by its pointer and its allocator. Assumes `Logic`.
use mathlib.Core.Bool.{true≢false}
use Rattle.std.proofs.Common.{◌≡◌, ℕ, List, [], ◌∷◌, ◌++◌, refl, sym, ap, ◌∙◌, Some, None}
use seplogic.Ra.Ura.{Ura}
use mir.Raw.{raw as bare}
use mir.Syntax.{impl, tnil, dnil}
use mir.Val.{Val, vstruct, of_list}
use base.Logic.{fst∗, never}
use types.Logic.{Logic, sem}
use types.Kit.{Goal, Seq, Item, ‵, ◌$◌, move, drop, rewrite, fsplit, fpick, feq_l}
use denote.RattleType.{RattleType}
use denote.RawPtr.{Ptr, RawPtr, block_ptr, null_ptr, ptr_val, in_a_block}
use denote.Steps.{only}
use denote.Struct.Tuple.{Tuple}
use Rattle.core.proofs.alloc.Calls.{token, Fits, handle_tells}
use Rattle.std_alloc.specs.Box.Ownership.{box_owns}
use Rattle.std_alloc.proofs.BoxSteps.Form.{Bx, X, τ, R, P, B, word}
use Rattle.std_alloc.proofs.BoxSteps.Steps.{box_in}
use Rattle.std_heap.specs.contracts.Global as heap
use Rattle.std_heap.specs.contracts.GlobalAllocator.TheImpl.{ghosts, dict}
use Rattle.std_heap.proofs.Global.TheLaws as heap_laws
use Rattle.libbsdudp.specs.contracts.owned.Owned as owned
use Rattle.libbsdudp.proofs.owned.Owned.TheLaws as owned_laws
use Rattle.libbsdudp.specs.Held.{Boxed, IsFull, Kept}

-- the box that a handle points to
abbrev pub stack_box : Bx
stack_box =
    record {
      row = owned.the_row;
      laws = owned_laws.the_row_laws;
      al = record {
        row = heap.the_row;
        laws = heap_laws.the_row_laws;
        g = ghosts;
        d = dict;
        drops = impl [] tnil dnil;
      };
    }

-- the pointer and the allocator of a box, side by side
module _ (E : Bx) where
  abbrev pub Side : RattleType
  Side = Tuple (RawPtr ∷ P E ∷ [])

  -- a pair, and what a box at its pointer owns, make up a box
  module _ {M : Type 1} {𝓤 : Ura M} {𝓛 : Logic 𝓤} {K : Type 0} {Γ : List (Item 𝓤)} {G : Goal 𝓤 𝓛.H} where
    pub boxed_again : K → (p : Ptr × E.al.row.Denot) (u : Val) (a : E.al.row.Denot) (x : X E) → p.1 ≡ a
        → ((b o : ℕ) (h : Val) → u ≡ word E h b o → Fits E.al h
        → Seq K 𝓛 (‵ ((B E).own_val (record { ptr = block_ptr b o; alloc = a; value = x }) (word E h b o ∷ [])) ∷ Γ)
        G)
        → Seq K 𝓛 (‵ ((Side).own_val p (u ∷ [])) ∷ ‵ (box_owns (token E.al a) (R E) p.0 x) ∷ Γ) G
    boxed_again t p u a x same k =
        move t (1 ∷ []) $ in_a_block t p.0 (λ q. box_owns (token E.al a) (R E) q x)
        (fst∗ 𝓤 (never 𝓤) (sem 𝓛 (token E.al a (bare (τ E)) null_ptr))) (λ b o at.
        move t (1 ∷ []) $ fpick t (λ parts. fsplit t $ feq_l t (λ whole. fsplit t $ feq_l t (λ first. fsplit t $
        rewrite t 0 (λ (s : E.al.row.Denot). ‵ (E.al.row.own_val s parts.1.0)) same refl $
        handle_tells E.al t a parts.1.0 (λ h second fits. move t (1 ∷ []) $ drop t $ move t (1 ∷ []) $ fsplit t $
        box_in E t {hv = h} (record { ptr = block_ptr b o; alloc = a; value = x }) b o x refl refl $
        k b o h (ap only (whole ∙ (λ i. vstruct
        (of_list ((first ∙ ap (λ (q : Ptr). ptr_val q ∷ []) at) i ++ (second i ++ []))) ∷ []))) fits)))))

-- a handle with a mark has a box
pub has : (k : Kept) → IsFull k → (x : Boxed) × (k ≡ Some x)
has None full = absurd (true≢false (sym full))
has (Some x) full = (x, refl)
