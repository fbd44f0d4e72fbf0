-- Bytes in two plain mbufs: a packet of 101 to 207 bytes.
use Rattle.std.proofs.Common.{◌≡◌, ℕ, ◌-◌, ◌<◌, List, [], ◌∷◌, ◌++◌, length, true, false, take, drop, None, refl, sym, ap, ◌∙◌, arith}
use Rattle.std.specs.Prelude.{count_by}
use Rattle.std.proofs.lemmas.Bool.{cond-false, lt-leb}
use Rattle.std.proofs.lemmas.List.{append-nil, take-append-drop}
use Rattle.flat_model.specs.Amounts.Layout as flat
use Rattle.flat_model.specs.Amounts.Layout.{Plain, Room, entries_on, is_cluster, next_room, or_empty, size_of, wire}
use Rattle.mbuf_chain.specs.Chain.{Adds, ChainView, PoolView, chain_of, flat_bytes, without}
use Rattle.mbuf_chain.specs.Owners.{Moves}
use Rattle.mbuf_chain.specs.Steps.{joined, one_mbuf}
use Rattle.mbuf_chain.proofs.Laws.Owners.{moves_adds, shown_adds}
use Rattle.chain_ops.proofs.Laws.Rooms.{rest_none, rest_rooms, rooms_step}
use Rattle.sock_calls.specs.Inside.Storing.{IsDataStored, two_entries}
use Rattle.ledger.specs.Accounts.{entries_weight}
use Rattle.sock_calls.proofs.OnePacket.{entry, linked}

pub two_weigh : (m n : ℕ) → flat.weight_of (entries_on [] (Plain m ∷ Plain n ∷ [])) ≡ record { mbufs = 2; bag = [] }
unfolding entries_on
two_weigh m n = refl

pub two_plain : (n : ℕ) → 100 < n → n < 208 → wire n ≡ Plain 100 ∷ Plain (n - 100) ∷ []
two_plain n many few =
    let m : ℕ = n - 100 in
    let first : next_room 2048 100 n ≡ Plain 100 =
    cond-false {A = Room} _ _ _ (lt-leb 208 n few) ∙ ap Plain (omega (arith, many)) in
    let second : next_room 2048 108 m ≡ Plain m =
    cond-false {A = Room} _ _ _ (lt-leb 208 m (omega (arith, few))) ∙ ap Plain (omega (arith, few)) in
    let none : m - size_of (next_room 2048 108 m) ≡ 0 = omega (arith, ap size_of second) in
    let rest : rest_rooms m ≡ Plain m ∷ [] =
    rooms_step 2048 108 m (omega arith) (omega arith) (omega (arith, many)) ∙ (λ i. second i ∷ rest_rooms (none i))
    ∙ ap (λ (rooms : List Room). Plain m ∷ rooms) rest_none in
    ap or_empty (rooms_step 2048 100 n (omega arith) (omega arith) (omega (arith, many)))
    ∙ (λ i. first i ∷ rest_rooms (n - size_of (first i))) ∙ ap (λ (rooms : List Room). Plain 100 ∷ rooms) rest

-- a new mbuf, and another one before it
pub two_made : {p q r : PoolView} {b c : ℕ} (bytes rest : List ℕ) → Adds p q b (one_mbuf false (entry rest 20 None) b)
    → Adds (without q b) r c (joined (one_mbuf true (entry (take 72 bytes) 56 None) c) (chain_of q b))
    → rest ≡ drop 72 bytes → ((chain_of r c).entries ≡ two_entries bytes) × Moves p [] r (c ∷ [])
two_made bytes rest back before is =
    let made = linked (entry (take 72 bytes) 56 None) (entry rest 20 None) back before in (
      ap (λ (v : ChainView). v.entries) (shown_adds made)
          ∙ (λ i. entry (take 72 bytes) 56 None ∷ entry (is i) 20 None ∷ []),
      moves_adds made,
    )

-- the data of such a packet were stored in these two
pub two_stored : {p q : PoolView} {c end : ℕ} {packet xs : List ℕ} → 100 < length packet → length packet < 208
    → xs ≡ drop 28 (take end packet)
    → (chain_of q c).entries ≡ two_entries xs → Moves p [] q (c ∷ [])
    → IsDataStored p packet end q c
two_stored {p} {q} {c} {end} {packet} {xs} many few is stored moves =
    let two = two_plain (length packet) many few in
    record {
      clusters = [];
      free = record { exist = tt; free = tt; once = λ k. omega arith };
      number = sym (ap (count_by is_cluster) two);
      item = λ i. record {
        bytes = (ap flat_bytes stored ∙ ap (λ (ys : List ℕ). take 72 xs ++ ys) (append-nil (drop 72 xs))
            ∙ take-append-drop 72 xs ∙ is) i;
        weight = (ap entries_weight stored ∙ sym (ap (λ (rooms : List Room). flat.weight_of (entries_on [] rooms)) two
            ∙ two_weigh 100 (length packet - 100))) i;
      };
      moves = moves;
    }
