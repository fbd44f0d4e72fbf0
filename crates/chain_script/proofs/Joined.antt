-- Copies, pull-ups, splits, joins and overwritten bytes: each is a step.
use Rattle.std.proofs.Common.{◌≡◌, ◌≢◌, ℕ, ◌+◌, ◌<◌, ◌≤◌, Bool, true, false, not, cond, List, [], ◌∷◌, length, set, get_or, Option, Some, None, refl, sym, ap, ◌∙◌, subst, arith}
use Rattle.std.specs.Prelude.{◌&&◌, nat_lt, nat_le}
use Rattle.std.proofs.lemmas.Bool.{ne_eqb}
use Rattle.params.specs.declared.TheConstants.{MHLEN}
use Rattle.mbuf_chain.specs.Chain.{Entry, Front, ChainView, PoolView, IsLive, alone, chain_of, without, with_chain, references, string, entry_of}
use Rattle.mbuf_chain.specs.Owners.{Moves}
use Rattle.mbuf_chain.proofs.Laws.Owners.{moves_trans, moves_without, moves_with, moves_adds, moves_after}
use Rattle.mbuf_chain.proofs.Laws.Steps.{live_without}
use Rattle.chain_ops.specs.Makes.{Makes, Parts, HasMbufs, LacksMbufs}
use Rattle.chain_ops.specs.declared.copym.Extent.{Extent}
use Rattle.chain_ops.specs.Extents.{extent_header, extent_copied}
use Rattle.chain_ops.specs.Pulls.{has_room, entries_pulled, pulled_front, pull_need}
use Rattle.chain_ops.specs.Splits.{split_front, split_back, split_need}
use Rattle.chain_ops.specs.Joins.{cat}
use Rattle.chain_ops.specs.Writes.{is_writable, copied_back, copyback_need}
use Rattle.chain_script.specs.Lines.{Copy, Pull_up, Split, Join, Write_over}
use Rattle.chain_script.specs.Machines.{with_slot, lacks, is_range, times_referred, entries_at, header_at, is_held, emptied}
use Rattle.chain_script.specs.Steps.{Ready, No_buffers, Shared, ChainStep}
use Rattle.chain_script.specs.Inside.Slots.{machine_of, FitsSlots}
use Rattle.chain_script.proofs.SlotLemmas.{changed_fits, joined, joined_fits, parted, parted_fits, live_slot, same_slot, apart_chains}
use Rattle.chain_script.proofs.Accounts.{count_is, has_all, lacks_mbufs, lt_yes, lt_no, le_yes}
use Rattle.chain_script.proofs.Faults.{shared, no_buffers, done}
use Rattle.chain_script.proofs.Held.{is_there, is_empty, entries_are, header_is, length_is}
use Rattle.chain_script.proofs.Stores.{made_as, changed_as, moves_changed, view_is}

-- ---- copies
copy_slots : (p : PoolView) (slots : List (Option ℕ)) (to i c : ℕ) → get_or slots i None ≡ Some c
    → get_or slots to None ≡ None
    → (is_held (machine_of p slots) i && not (is_held (machine_of p slots) to)) ≡ true
copy_slots p slots to i c is empty = (λ j. is_there p slots i c is j && not (is_empty p slots to empty j))

copy_need : (p : PoolView) (slots : List (Option ℕ)) (i c : ℕ) (x : Extent) → get_or slots i None ≡ Some c
    → lacks (machine_of p slots) (length
    (extent_copied x (header_at (machine_of p slots) i) (entries_at (machine_of p slots) i))) 0
    ≡ lacks (machine_of p slots) (length (extent_copied x (chain_of p c).front.header (chain_of p c).entries)) 0
copy_need p slots i c x is =
    (λ j. lacks (machine_of p slots)
    (length (extent_copied x (header_is p slots i c is j) (entries_are p slots i c is j))) 0)

pub copy_done : (p q : PoolView) (slots : List (Option ℕ)) (to i c d : ℕ) (x : Extent) → FitsSlots p slots
    → get_or slots i None ≡ Some c → get_or slots to None ≡ None
    → is_range x (length (string (chain_of p c))) ≡ true
    → HasMbufs p (length (extent_copied x (chain_of p c).front.header (chain_of p c).entries))
    → Makes p q d (alone (extent_header x (chain_of p c).front.header))
    (extent_copied x (chain_of p c).front.header (chain_of p c).entries)
    → ChainStep (machine_of p slots) (Copy to i x) Ready (machine_of q (set slots to (Some d)))
copy_done p q slots to i c d x fits is empty range has m =
    done (machine_of p slots) (Copy to i x) Ready _ (copy_slots p slots to i c is empty)
    (ap (is_range x) (length_is p slots i c is) ∙ range) refl refl refl
    (copy_need p slots i c x is ∙ has_all p slots _ 0 fits has (omega arith)) (
      refl,
      made_as p q slots to d _ _ fits m
          ∙ (λ j. with_slot (machine_of p slots) to (extent_header x (sym (header_is p slots i c is) j))
          (extent_copied x (sym (header_is p slots i c is) j) (sym (entries_are p slots i c is) j))),
    )

pub copy_lacks : (p : PoolView) (slots : List (Option ℕ)) (to i c : ℕ) (x : Extent) → FitsSlots p slots
    → get_or slots i None ≡ Some c → get_or slots to None ≡ None
    → is_range x (length (string (chain_of p c))) ≡ true
    → LacksMbufs p (length (extent_copied x (chain_of p c).front.header (chain_of p c).entries))
    → ChainStep (machine_of p slots) (Copy to i x) No_buffers (machine_of p slots)
copy_lacks p slots to i c x fits is empty range lack =
    no_buffers (machine_of p slots) (Copy to i x) (copy_slots p slots to i c is empty)
    (ap (is_range x) (length_is p slots i c is) ∙ range) refl refl refl
    (copy_need p slots i c x is ∙ lacks_mbufs p slots _ 0 fits lack)

-- ---- pull-ups
pulled_header : (v : ChainView) (n : ℕ) → (pulled_front v n).header ≡ v.front.header
pulled_header v n =
    elim (has_room (entry_of v 0) n) as (λ (b : Bool). (cond b v.front (alone v.front.header)).header ≡ v.front.header)
    [ true ↦ refl | false ↦ refl ]

pub pull_done : (p q : PoolView) (slots : List (Option ℕ)) (i c d n : ℕ) → FitsSlots p slots → i < length slots
    → get_or slots i None ≡ Some c
    → n ≤ MHLEN → n ≤ length (string (chain_of p c)) → HasMbufs p (pull_need (chain_of p c) n)
    → Makes (without p c) q d (pulled_front (chain_of p c) n) (entries_pulled (chain_of p c) n)
    → ChainStep (machine_of p slots) (Pull_up i n) Ready (machine_of q (set slots i (Some d)))
pull_done p q slots i c d n fits within is short enough has m =
    done (machine_of p slots) (Pull_up i n) Ready _ (is_there p slots i c is) refl refl (lt_no MHLEN n short)
    (ap (λ (l : ℕ). nat_lt l n) (length_is p slots i c is) ∙ lt_no _ n enough)
    (ap (λ (v : ChainView). lacks (machine_of p slots) (pull_need v n) 0) (view_is p slots i c is)
    ∙ has_all p slots _ 0 fits has (omega arith)) (
      refl,
      changed_as p q slots i c d _ _ fits within is (live_slot p slots i c fits within is) m
          ∙ (λ j. with_slot (machine_of p slots) i (pulled_header (chain_of p c) n j) (entries_pulled (chain_of p c) n))
          ∙ (λ j. with_slot (machine_of p slots) i (sym (header_is p slots i c is) j)
          (entries_pulled (sym (view_is p slots i c is) j) n)),
    )

pub pull_lacks : (p : PoolView) (slots : List (Option ℕ)) (i c n : ℕ) → FitsSlots p slots → get_or slots i None ≡ Some c
    → n ≤ MHLEN → n ≤ length (string (chain_of p c)) → LacksMbufs p (pull_need (chain_of p c) n)
    → ChainStep (machine_of p slots) (Pull_up i n) No_buffers (machine_of p slots)
pull_lacks p slots i c n fits is short enough lack =
    no_buffers (machine_of p slots) (Pull_up i n) (is_there p slots i c is) refl refl (lt_no MHLEN n short)
    (ap (λ (l : ℕ). nat_lt l n) (length_is p slots i c is) ∙ lt_no _ n enough)
    (ap (λ (v : ChainView). lacks (machine_of p slots) (pull_need v n) 0) (view_is p slots i c is)
    ∙ lacks_mbufs p slots _ 0 fits lack)

-- ---- splits
moves_parted : (p q : PoolView) (c d : ℕ) (f g : Front) (es fs : List Entry) → IsLive p c → Parts p q c d f es g fs
    → Moves p (c ∷ []) q (c ∷ d ∷ [])
moves_parted p q c d f g es fs live m =
    moves_trans (moves_with p (with_chain p c (chain_of q c)) c (chain_of q c) live refl)
    (moves_after (c ∷ []) (moves_adds m.made.adds))

split_lacks_is : (p : PoolView) (slots : List (Option ℕ)) (i c at : ℕ) → get_or slots i None ≡ Some c
    → lacks (machine_of p slots) (split_need (header_at (machine_of p slots) i) (entries_at (machine_of p slots) i) at)
    0
    ≡ lacks (machine_of p slots) (split_need (chain_of p c).front.header (chain_of p c).entries at) 0
split_lacks_is p slots i c at is =
    (λ j. lacks (machine_of p slots) (split_need (header_is p slots i c is j) (entries_are p slots i c is j) at) 0)

pub split_done : (p q : PoolView) (slots : List (Option ℕ)) (to i c d at : ℕ) → FitsSlots p slots → i < length slots
    → to < length slots
    → get_or slots i None ≡ Some c → get_or slots to None ≡ None → at < length (string (chain_of p c))
    → HasMbufs p (split_need (chain_of p c).front.header (chain_of p c).entries at)
    → Parts p q c d (chain_of p c).front (split_front (chain_of p c).entries at) (alone (chain_of p c).front.header)
    (split_back (chain_of p c).front.header (chain_of p c).entries at)
    → FitsSlots q (set slots to (Some d))
    × ChainStep (machine_of p slots) (Split to i at) Ready (machine_of q (set slots to (Some d)))
split_done p q slots to i c d at fits wi wt is empty inside has m =
    let moves : Moves p (c ∷ []) q (c ∷ d ∷ []) = moves_parted p q c d _ _ _ _ (live_slot p slots i c fits wi is) m in (
      parted_fits p q slots i to c d fits wi wt is empty moves,
      done (machine_of p slots) (Split to i at) Ready _ (copy_slots p slots to i c is empty)
          (ap (nat_lt at) (length_is p slots i c is) ∙ lt_yes at _ inside) refl refl refl
          (split_lacks_is p slots i c at is ∙ has_all p slots _ 0 fits has (omega arith)) (
            refl,
            parted p q slots i to c d fits wi wt is empty moves
                ∙ (λ j. with_slot (with_slot (machine_of p slots) i (ap (λ (f : Front). f.header) m.front j)
                (m.entries j)) to
                (ap (λ (f : Front). f.header) m.made.front j) (m.made.entries j))
                ∙ (λ j. with_slot (with_slot (machine_of p slots) i (sym (header_is p slots i c is) j)
                (split_front (sym (entries_are p slots i c is) j) at)) to (sym (header_is p slots i c is) j)
                (split_back (sym (header_is p slots i c is) j) (sym (entries_are p slots i c is) j) at)),
          ),
    )

pub split_lacks : (p : PoolView) (slots : List (Option ℕ)) (to i c at : ℕ) → FitsSlots p slots
    → get_or slots i None ≡ Some c
    → get_or slots to None ≡ None
    → at < length (string (chain_of p c))
    → LacksMbufs p (split_need (chain_of p c).front.header (chain_of p c).entries at)
    → ChainStep (machine_of p slots) (Split to i at) No_buffers (machine_of p slots)
split_lacks p slots to i c at fits is empty inside lack =
    no_buffers (machine_of p slots) (Split to i at) (copy_slots p slots to i c is empty)
    (ap (nat_lt at) (length_is p slots i c is) ∙ lt_yes at _ inside) refl refl refl
    (split_lacks_is p slots i c at is ∙ lacks_mbufs p slots _ 0 fits lack)

-- ---- joins
moves_joined : (p q : PoolView) (c d : ℕ) (f : Front) (es : List Entry) → IsLive p c → IsLive p d → c ≢ d
    → Makes (without (without p d) c) q c f es
    → Moves p (c ∷ d ∷ []) q (c ∷ [])
moves_joined p q c d f es lc ld ne m =
    moves_trans (moves_after (c ∷ []) (moves_without p (without p d) d ld refl))
    (moves_trans (moves_without (without p d) (without (without p d) c) c (live_without p (without p d) d refl c ne lc)
    refl) (moves_adds m.adds))

pub join_done : (p q : PoolView) (slots : List (Option ℕ)) (i o c d : ℕ) → FitsSlots p slots → i < length slots
    → o < length slots → i ≢ o
    → get_or slots i None ≡ Some c → get_or slots o None ≡ Some d
    → length (string (chain_of p c)) + length (string (chain_of p d)) ≤ 65535
    → Makes (without (without p d) c) q c (chain_of p c).front (cat (chain_of p c).entries (chain_of p d).entries)
    → FitsSlots q (set slots o None) × ChainStep (machine_of p slots) (Join i o) Ready (machine_of q (set slots o None))
join_done p q slots i o c d fits wi wo ne first second inside m =
    let apart : c ≢ d = apart_chains p slots i o c d fits wi wo ne first second in
    let moves : Moves p (c ∷ d ∷ []) q (c ∷ []) =
    moves_joined p q c d _ _ (live_slot p slots i c fits wi first) (live_slot p slots o d fits wo second) apart m in (
      joined_fits p q slots i o c d fits wi wo ne first second moves,
      done (machine_of p slots) (Join i o) Ready _
          (λ j. is_there p slots i c first j && (is_there p slots o d second j && not (ne_eqb i o ne j)))
          ((λ j. nat_le (length_is p slots i c first j + length_is p slots o d second j) 65535) ∙ le_yes _ 65535 inside)
          refl refl refl refl (
            refl,
            joined p q slots i o c d fits wi wo ne first second moves
                ∙ (λ j. with_slot (emptied (machine_of p slots) o) i (ap (λ (f : Front). f.header) m.front j)
                (m.entries j))
                ∙ (λ j. with_slot (emptied (machine_of p slots) o) i (sym (header_is p slots i c first) j)
                (cat (sym (entries_are p slots i c first) j) (sym (entries_are p slots o d second) j))),
          ),
    )

-- ---- overwritten bytes
writable_is : (p : PoolView) (slots : List (Option ℕ)) (i c off len : ℕ) → FitsSlots p slots
    → get_or slots i None ≡ Some c
    → is_writable (times_referred (machine_of p slots)) (entries_at (machine_of p slots) i) off len
    ≡ is_writable (references p) (chain_of p c).entries off len
writable_is p slots i c off len fits is =
    (λ j. is_writable (λ k. count_is p slots k fits j) (entries_are p slots i c is j) off len)

pub write_shared : (p : PoolView) (slots : List (Option ℕ)) (i c off : ℕ) (xs : List ℕ) → FitsSlots p slots
    → get_or slots i None ≡ Some c → off + length xs ≤ 65535
    → is_writable (references p) (chain_of p c).entries off (length xs) ≡ false
    → ChainStep (machine_of p slots) (Write_over i off xs) Shared (machine_of p slots)
write_shared p slots i c off xs fits is inside w =
    shared (machine_of p slots) (Write_over i off xs) (is_there p slots i c is) (le_yes _ 65535 inside)
    (ap not (writable_is p slots i c off (length xs) fits is ∙ w))

pub write_lacks : (p : PoolView) (slots : List (Option ℕ)) (i c off : ℕ) (xs : List ℕ) → FitsSlots p slots
    → get_or slots i None ≡ Some c → off + length xs ≤ 65535
    → is_writable (references p) (chain_of p c).entries off (length xs) ≡ true
    → LacksMbufs p (copyback_need (chain_of p c).entries off xs)
    → ChainStep (machine_of p slots) (Write_over i off xs) No_buffers (machine_of p slots)
write_lacks p slots i c off xs fits is inside w lack =
    no_buffers (machine_of p slots) (Write_over i off xs) (is_there p slots i c is) (le_yes _ 65535 inside)
    (ap not (writable_is p slots i c off (length xs) fits is ∙ w)) refl refl
    ((λ j. lacks (machine_of p slots) (copyback_need (entries_are p slots i c is j) off xs) 0)
    ∙ lacks_mbufs p slots _ 0 fits lack)

pub write_done : (p q : PoolView) (slots : List (Option ℕ)) (i c off : ℕ) (xs : List ℕ) → FitsSlots p slots
    → i < length slots → get_or slots i None ≡ Some c → off + length xs ≤ 65535
    → is_writable (references p) (chain_of p c).entries off (length xs) ≡ true
    → HasMbufs p (copyback_need (chain_of p c).entries off xs)
    → Makes (without p c) q c (chain_of p c).front (copied_back (chain_of p c).entries off xs)
    → FitsSlots q slots × ChainStep (machine_of p slots) (Write_over i off xs) Ready (machine_of q slots)
write_done p q slots i c off xs fits within is inside w has m =
    let live : IsLive p c = live_slot p slots i c fits within is in
    let same : set slots i (Some c) ≡ slots = same_slot slots i c is in (
      subst (λ (ss : List (Option ℕ)). FitsSlots q ss) same
          (changed_fits p q slots i c c fits within is (moves_changed p q c c _ _ live m)),
      done (machine_of p slots) (Write_over i off xs) Ready _ (is_there p slots i c is) (le_yes _ 65535 inside)
          (ap not (writable_is p slots i c off (length xs) fits is ∙ w)) refl refl
          ((λ j. lacks (machine_of p slots) (copyback_need (entries_are p slots i c is j) off xs) 0)
          ∙ has_all p slots _ 0 fits has (omega arith)) (
            refl,
            ap (machine_of q) (sym same) ∙ changed_as p q slots i c c _ _ fits within is live m
                ∙ (λ j. with_slot (machine_of p slots) i (sym (header_is p slots i c is) j)
                (copied_back (sym (entries_are p slots i c is) j) off xs)),
          ),
    )
