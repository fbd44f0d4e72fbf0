-- The view of a slot.
use Rattle.std.proofs.Common.{◌≡◌, ℕ, true, false, List, length, get_or, Option, Some, None, ap, ◌∙◌}
use Rattle.std.specs.Prelude.{is_some}
use Rattle.std.proofs.Math.ListN.{get_or-map}
use Rattle.mbuf_chain.specs.Chain.{Entry, PoolView, chain_of, string, flat_bytes}
use Rattle.chain_script.specs.Machines.{slot_at, is_held, entries_in, entries_at, is_headed, header_at, length_at}
use Rattle.chain_script.specs.Inside.Slots.{slot_of, machine_of}

at_slot : (p : PoolView) (slots : List (Option ℕ)) (i : ℕ)
    → slot_at (machine_of p slots) i ≡ slot_of p (get_or slots i None)
at_slot p slots i = get_or-map (slot_of p) slots i None

pub is_there : (p : PoolView) (slots : List (Option ℕ)) (i c : ℕ) → get_or slots i None ≡ Some c
    → is_held (machine_of p slots) i ≡ true
is_there p slots i c is = ap is_some (at_slot p slots i ∙ ap (slot_of p) is)

pub is_empty : (p : PoolView) (slots : List (Option ℕ)) (i : ℕ) → get_or slots i None ≡ None
    → is_held (machine_of p slots) i ≡ false
is_empty p slots i is = ap is_some (at_slot p slots i ∙ ap (slot_of p) is)

pub entries_are : (p : PoolView) (slots : List (Option ℕ)) (i c : ℕ) → get_or slots i None ≡ Some c
    → entries_at (machine_of p slots) i ≡ (chain_of p c).entries
entries_are p slots i c is = ap entries_in (at_slot p slots i ∙ ap (slot_of p) is)

pub header_is : (p : PoolView) (slots : List (Option ℕ)) (i c : ℕ) → get_or slots i None ≡ Some c
    → header_at (machine_of p slots) i ≡ (chain_of p c).front.header
header_is p slots i c is = ap is_headed (at_slot p slots i ∙ ap (slot_of p) is)

pub length_is : (p : PoolView) (slots : List (Option ℕ)) (i c : ℕ) → get_or slots i None ≡ Some c
    → length_at (machine_of p slots) i ≡ length (string (chain_of p c))
length_is p slots i c is = ap (λ (es : List Entry). length (flat_bytes es)) (entries_are p slots i c is)
