-- Chains made of bytes, and chains changed: each is a step.
use Rattle.std.proofs.Common.{◌≡◌, ℕ, ◌+◌, ◌<◌, Bool, true, false, not, cond, List, [], ◌∷◌, length, set, get_or, count_by, Option, Some, None, refl, sym, ap, ◌∙◌, subst, arith, inl, inr}
use Rattle.std.specs.Prelude.{◌&&◌, nat_lt, nat_le, ℤ}
use Rattle.std.specs.List.{AllByRecursion}
use Rattle.params.specs.declared.TheConstants.{CLUSTER_LEADING_SPACE, MHLEN}
use Rattle.flat_model.specs.Amounts.Layout.{Room, user, wire, is_cluster}
use Rattle.mbuf_chain.specs.Chain.{Entry, Front, ChainView, PoolView, IsLive, alone, chain_of, without, with_chain, references, string}
use Rattle.mbuf_chain.specs.Owners.{Moves}
use Rattle.mbuf_chain.proofs.Laws.Owners.{moves_trans, moves_without, moves_with, moves_adds, shown_with}
use Rattle.chain_ops.specs.Makes.{Makes, HasMbufs, LacksMbufs}
use Rattle.chain_ops.specs.Stored.{AreFree, Has, Lacks, stored_first}
use Rattle.chain_ops.specs.Prepends.{has_front, prepended, prepended_front, prepend_need}
use Rattle.chain_ops.specs.Trims.{adjusted}
use Rattle.chain_script.specs.Lines.{User, Wire, Prepend, Adjust, Free}
use Rattle.chain_script.specs.Machines.{AreFreeIn, times_referred, with_slot, lacks, view_at, is_in_range}
use Rattle.chain_script.specs.Steps.{Ready, No_buffers, ChainStep}
use Rattle.chain_script.specs.Inside.Slots.{machine_of, FitsSlots}
use Rattle.chain_script.proofs.SlotLemmas.{made, changed, changed_fits, freed, freed_fits, live_slot, same_slot}
use Rattle.chain_script.proofs.Accounts.{count_is, has_all, lacks_mbufs, lacks_clusters}
use Rattle.chain_script.proofs.Faults.{no_buffers, done}
use Rattle.chain_script.proofs.Held.{is_there, is_empty, entries_are, header_is, length_is}

-- ---- a new chain
none_referred : (p : PoolView) (slots : List (Option ℕ)) (cs : List ℕ) → FitsSlots p slots
    → AllByRecursion (λ c. references p c ≡ 0) cs
    → AllByRecursion (λ c. times_referred (machine_of p slots) c ≡ 0) cs
none_referred p slots [] fits all = tt
none_referred p slots (c ∷ cs) fits all = (count_is p slots c fits ∙ all.0, none_referred p slots cs fits all.1)

free_in : (p : PoolView) (slots : List (Option ℕ)) (cs : List ℕ) → FitsSlots p slots → AreFree p cs
    → AreFreeIn (machine_of p slots) cs
free_in p slots cs fits h = record { exist = h.exist; free = none_referred p slots cs fits h.free; once = h.once }

-- a chain in a slot, in the terms of the call that made it
pub made_as : (p q : PoolView) (slots : List (Option ℕ)) (i d : ℕ) (f : Front) (es : List Entry) → FitsSlots p slots
    → Makes p q d f es
    → machine_of q (set slots i (Some d)) ≡ with_slot (machine_of p slots) i f.header es
made_as p q slots i d f es fits m =
    made p q slots i d fits (moves_adds m.adds)
    ∙ (λ j. with_slot (machine_of p slots) i (ap (λ (g : Front). g.header) m.front j) (m.entries j))

pub moves_changed : (p q : PoolView) (c d : ℕ) (f : Front) (es : List Entry) → IsLive p c → Makes (without p c) q d f es
    → Moves p (c ∷ []) q (d ∷ [])
moves_changed p q c d f es live m = moves_trans (moves_without p (without p c) c live refl) (moves_adds m.adds)

pub changed_as : (p q : PoolView) (slots : List (Option ℕ)) (i c d : ℕ) (f : Front) (es : List Entry)
    → FitsSlots p slots
    → i < length slots → get_or slots i None ≡ Some c
    → IsLive p c → Makes (without p c) q d f es
    → machine_of q (set slots i (Some d)) ≡ with_slot (machine_of p slots) i f.header es
changed_as p q slots i c d f es fits within is live m =
    changed p q slots i c d fits within is (moves_changed p q c d f es live m)
    ∙ (λ j. with_slot (machine_of p slots) i (ap (λ (g : Front). g.header) m.front j) (m.entries j))

lacks_rooms_is : (p : PoolView) (slots : List (Option ℕ)) (rooms : List Room) → FitsSlots p slots → Lacks p rooms
    → lacks (machine_of p slots) (length rooms) (count_by is_cluster rooms) ≡ true
lacks_rooms_is p slots rooms fits (inl mbufs) = lacks_mbufs p slots _ _ fits mbufs
lacks_rooms_is p slots rooms fits (inr clusters) = lacks_clusters p slots _ _ fits clusters

pub user_done : (p q : PoolView) (slots : List (Option ℕ)) (i d : ℕ) (xs cs : List ℕ) → FitsSlots p slots
    → get_or slots i None ≡ None
    → Has p (user (length xs)) → AreFree p cs → length cs ≡ count_by is_cluster (user (length xs))
    → Makes p q d (alone true) (stored_first CLUSTER_LEADING_SPACE true cs (user (length xs)) xs)
    → ChainStep (machine_of p slots) (User i xs) Ready (machine_of q (set slots i (Some d)))
user_done p q slots i d xs cs fits empty has free many m =
    done (machine_of p slots) (User i xs) Ready _ (ap not (is_empty p slots i empty)) refl refl refl refl
    (has_all p slots _ _ fits has.0 has.1)
    (refl, cs, free_in p slots cs fits free, many, made_as p q slots i d (alone true) _ fits m)

pub user_lacks : (p : PoolView) (slots : List (Option ℕ)) (i : ℕ) (xs : List ℕ) → FitsSlots p slots
    → get_or slots i None ≡ None → Lacks p (user (length xs))
    → ChainStep (machine_of p slots) (User i xs) No_buffers (machine_of p slots)
user_lacks p slots i xs fits empty lack =
    no_buffers (machine_of p slots) (User i xs) (ap not (is_empty p slots i empty)) refl refl refl refl
    (lacks_rooms_is p slots (user (length xs)) fits lack)

pub wire_done : (p q : PoolView) (slots : List (Option ℕ)) (i d : ℕ) (xs cs : List ℕ) → FitsSlots p slots
    → get_or slots i None ≡ None
    → Has p (wire (length xs)) → AreFree p cs → length cs ≡ count_by is_cluster (wire (length xs))
    → Makes p q d (alone true) (stored_first 0 false cs (wire (length xs)) xs)
    → ChainStep (machine_of p slots) (Wire i xs) Ready (machine_of q (set slots i (Some d)))
wire_done p q slots i d xs cs fits empty has free many m =
    done (machine_of p slots) (Wire i xs) Ready _ (ap not (is_empty p slots i empty)) refl refl refl refl
    (has_all p slots _ _ fits has.0 has.1)
    (refl, cs, free_in p slots cs fits free, many, made_as p q slots i d (alone true) _ fits m)

pub wire_lacks : (p : PoolView) (slots : List (Option ℕ)) (i : ℕ) (xs : List ℕ) → FitsSlots p slots
    → get_or slots i None ≡ None → Lacks p (wire (length xs))
    → ChainStep (machine_of p slots) (Wire i xs) No_buffers (machine_of p slots)
wire_lacks p slots i xs fits empty lack =
    no_buffers (machine_of p slots) (Wire i xs) (ap not (is_empty p slots i empty)) refl refl refl refl
    (lacks_rooms_is p slots (wire (length xs)) fits lack)

-- ---- a chain changed
-- the view of a slot, in the terms of the chain
pub view_is : (p : PoolView) (slots : List (Option ℕ)) (i c : ℕ) → get_or slots i None ≡ Some c
    → view_at (machine_of p slots) i
    ≡ record { front = alone (chain_of p c).front.header; entries = (chain_of p c).entries; cells = [] }
view_is p slots i c is =
    (λ j. record { front = alone (header_is p slots i c is j); entries = entries_are p slots i c is j; cells = [] })

front_header : (v : ChainView) (n : ℕ) → (prepended_front v n).header ≡ v.front.header
front_header v n =
    elim (has_front v n) as (λ (b : Bool). (cond b v.front (alone v.front.header)).header ≡ v.front.header)
    [ true ↦ refl | false ↦ refl ]

pub prepend_done : (p q : PoolView) (slots : List (Option ℕ)) (i c d : ℕ) (xs : List ℕ) → FitsSlots p slots
    → i < length slots → get_or slots i None ≡ Some c
    → is_in_range (machine_of p slots) (Prepend i xs) ≡ true → HasMbufs p (prepend_need (chain_of p c) (length xs))
    → Makes (without p c) q d (prepended_front (chain_of p c) (length xs)) (prepended (chain_of p c) xs)
    → ChainStep (machine_of p slots) (Prepend i xs) Ready (machine_of q (set slots i (Some d)))
prepend_done p q slots i c d xs fits within is range has m =
    let live : IsLive p c = live_slot p slots i c fits within is in
    done (machine_of p slots) (Prepend i xs) Ready _ (is_there p slots i c is) range refl refl refl
    (ap (λ (v : ChainView). lacks (machine_of p slots) (prepend_need v (length xs)) 0) (view_is p slots i c is)
    ∙ has_all p slots _ 0 fits has (omega arith)) (
      refl,
      changed_as p q slots i c d _ _ fits within is live m
          ∙ (λ j. with_slot (machine_of p slots) i (front_header (chain_of p c) (length xs) j)
          (prepended (chain_of p c) xs))
          ∙ (λ j. with_slot (machine_of p slots) i (sym (header_is p slots i c is) j)
          (prepended (sym (view_is p slots i c is) j) xs)),
    )

pub prepend_lacks : (p : PoolView) (slots : List (Option ℕ)) (i c : ℕ) (xs : List ℕ) → FitsSlots p slots
    → get_or slots i None ≡ Some c
    → is_in_range (machine_of p slots) (Prepend i xs) ≡ true → LacksMbufs p (prepend_need (chain_of p c) (length xs))
    → ChainStep (machine_of p slots) (Prepend i xs) No_buffers (machine_of p slots)
prepend_lacks p slots i c xs fits is range lack =
    no_buffers (machine_of p slots) (Prepend i xs) (is_there p slots i c is) range refl refl refl
    (ap (λ (v : ChainView). lacks (machine_of p slots) (prepend_need v (length xs)) 0) (view_is p slots i c is)
    ∙ lacks_mbufs p slots _ 0 fits lack)

pub prepend_range : (p : PoolView) (slots : List (Option ℕ)) (i c : ℕ) (xs : List ℕ) (b : Bool)
    → get_or slots i None ≡ Some c
    → b ≡ (nat_lt 0 (length xs) && (nat_le (length xs) MHLEN
    && nat_le (length xs + length (string (chain_of p c))) 65535))
    → is_in_range (machine_of p slots) (Prepend i xs) ≡ b
prepend_range p slots i c xs b is e =
    ap (λ (n : ℕ). nat_lt 0 (length xs) && (nat_le (length xs) MHLEN && nat_le (length xs + n) 65535))
    (length_is p slots i c is) ∙ sym e

pub adjust_done : (p q : PoolView) (slots : List (Option ℕ)) (i c : ℕ) (n : ℤ) → FitsSlots p slots → i < length slots
    → get_or slots i None ≡ Some c
    → q ≡ with_chain p c (record (chain_of p c) { entries = adjusted n (chain_of p c).entries })
    → FitsSlots q slots × ChainStep (machine_of p slots) (Adjust i n) Ready (machine_of q slots)
adjust_done p q slots i c n fits within is e =
    let live : IsLive p c = live_slot p slots i c fits within is in
    let v : ChainView = record (chain_of p c) { entries = adjusted n (chain_of p c).entries } in
    let shown : chain_of q c ≡ v = shown_with p q c v e in
    let same : set slots i (Some c) ≡ slots = same_slot slots i c is in
    let m : Moves p (c ∷ []) q (c ∷ []) = moves_with p q c v live e in (
      subst (λ (ss : List (Option ℕ)). FitsSlots q ss) same (changed_fits p q slots i c c fits within is m),
      done (machine_of p slots) (Adjust i n) Ready _ (is_there p slots i c is) refl refl refl refl refl (
        refl,
        ap (machine_of q) (sym same) ∙ changed p q slots i c c fits within is m
            ∙ (λ j. with_slot (machine_of p slots) i (shown j).front.header (shown j).entries)
            ∙ (λ j. with_slot (machine_of p slots) i (sym (header_is p slots i c is) j)
            (adjusted n (sym (entries_are p slots i c is) j))),
      ),
    )

pub free_done : (p q : PoolView) (slots : List (Option ℕ)) (i c : ℕ) → FitsSlots p slots → i < length slots
    → get_or slots i None ≡ Some c → q ≡ without p c
    → FitsSlots q (set slots i None) × ChainStep (machine_of p slots) (Free i) Ready (machine_of q (set slots i None))
free_done p q slots i c fits within is e =
    let m : Moves p (c ∷ []) q [] = moves_without p q c (live_slot p slots i c fits within is) e in (
      freed_fits p q slots i c fits within is m,
      done (machine_of p slots) (Free i) Ready _ (is_there p slots i c is) refl refl refl refl refl
          (refl, freed p q slots i c fits within is m),
    )
