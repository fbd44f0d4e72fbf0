-- A packet is taken from the output queue, copied out and freed.
use Rattle.std.proofs.Common.{◌≡◌, ℕ, zero, suc, ◌≤◌, List, [], ◌∷◌, ◌++◌, length, take, drop, Some, IfSome, refl, sym, ap, ◌∙◌, subst}
use Rattle.std.proofs.Math.Seq.{take-append_seam, take-length}
use Rattle.std.specs.List.{AllByRecursion}
use Rattle.flat_model.specs.Amounts.Weight.{Item}
use Rattle.flat_model.specs.Machine.Event.{Given}
use Rattle.flat_model.specs.Machine.Step.{Transmits}
use Rattle.mbuf_chain.specs.Chain.{PoolView, chain_of, string, without}
use Rattle.mbuf_chain.specs.Owners.{times_among, Moves}
use Rattle.mbuf_chain.specs.Frames.{SameAt}
use Rattle.mbuf_chain.specs.Train.{TrainView, numbers}
use Rattle.mbuf_chain.proofs.Laws.Owners.{same_without, then_without}
use Rattle.ledger.specs.Accounts.{item_at}
use Rattle.ip_out.specs.Packets.{train_packets}
use Rattle.ip_out.specs.Questions.{nth_packet}
use Rattle.ip_out.specs.Queues.{IsOutputQueue}
use Rattle.net_stack.specs.Inside.Transmit.{with_packets, AreWithin, IsGiven}
use Rattle.net_stack.proofs.PartSteps.{OutputKept, output_kept}

-- if the bytes were written at the start of the buffer, they are its first n bytes
pub in_front : (bytes to room : List ℕ) (n : ℕ) → n ≡ length bytes → to ≡ bytes → take n (to ++ room) ≡ bytes
in_front bytes to room n e f = (λ i. take (e i) (f i ++ room)) ∙ take-append_seam bytes room

-- if there is room for the whole string, all of it is copied
pub all_copied : (n k : ℕ) (s to : List ℕ) → to ≡ take k (drop 0 s) → k ≡ n → n ≡ length s → to ≡ s
all_copied n k s to is is_k is_n = is ∙ ap (λ (j : ℕ). take j s) (is_k ∙ is_n) ∙ take-length s

-- if each packet of the train fits, so does the first
pub first_within : (p q : PoolView) (t u : TrainView) (c most : ℕ) → AreWithin p t most
    → train_packets p t ≡ item_at q c ∷ train_packets q u → length (string (chain_of q c)) ≤ most
first_within p q t u c most each e =
    (subst (λ (items : List Item). AllByRecursion (λ (item : Item). length item.bytes ≤ most) items) e each).0

-- and so does the i-th, if there is one
pub nth_within : (i most : ℕ) (items : List Item) → AllByRecursion (λ (item : Item). length item.bytes ≤ most) items
    → IfSome (nth_packet i items) (λ bytes. length bytes ≤ most)
nth_within zero most [] each = tt
nth_within (suc i) most [] each = tt
nth_within zero most (item ∷ items) each = each.0
nth_within (suc i) most (item ∷ items) each = nth_within i most items each.1

pub packet_given : (p q r : PoolView) (t u : TrainView) (c : ℕ) (bytes : List ℕ) → IsOutputQueue p t
    → train_packets p t ≡ item_at q c ∷ train_packets q u → times_among c (numbers q u) ≡ 0 → IsOutputQueue q u
    → Moves p (numbers p t) q (c ∷ numbers q u) → r ≡ without q c → bytes ≡ string (chain_of q c)
    → IsGiven p t (Given (Some bytes)) r u
packet_given p q r t u c bytes was front apart now m gone e =
    let same : SameAt q r (numbers q u) = same_without q r c (numbers q u) apart gone in
    let o : OutputKept q r u = output_kept q r u same now in
    let all : train_packets p t ≡ item_at q c ∷ train_packets r u = front
    ∙ ap (λ (items : List Item). item_at q c ∷ items) (sym o.shows) in
    record {
      step = λ rest. subst (λ (items : List Item). Transmits items (record rest { output = items }) (Given (Some bytes))
          (with_packets r u rest)) (sym all) (ap (λ (bs : List ℕ). Given (Some bs)) e, refl);
      queue = o.queue;
      moves = subst (Moves p (numbers p t) r) (sym o.chains) (then_without r c (numbers q u) m was.held.owned gone);
    }
