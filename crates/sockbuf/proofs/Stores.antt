-- A datagram that is stored and queued directly.
use Rattle.std.proofs.Common.{◌≡◌, ℕ, ◌+◌, Bool, true, false, List, [], ◌∷◌, length, Option, Some, None, refl, sym, ap, ◌∙◌, subst, arith}
use Rattle.std.specs.Prelude.{if◌then◌else◌}
use Rattle.std.proofs.lemmas.List.{append-nil}
use Rattle.flat_model.specs.Amounts.Weight.{mbuf, ◌⊕◌}
use Rattle.flat_model.specs.declared.address.Addr.{Addr}
use Rattle.mbuf_chain.specs.Chain.{ChainView, Entry, PoolView, IsLive, Adds, chain_of, held_mbufs, string}
use Rattle.mbuf_chain.specs.Owners.{times_among, Moves}
use Rattle.mbuf_chain.specs.Steps.{one_mbuf}
use Rattle.mbuf_chain.specs.Train.{queued_packets}
use Rattle.mbuf_chain.proofs.Laws.Owners.{live_adds, moves_adds, moves_beside, shown_adds}
use Rattle.mbuf_chain.proofs.Laws.Accounts.{held-adds}
use Rattle.mbuf_chain.proofs.Laws.Trains.{queued_packets_same}
use Rattle.ledger.specs.Accounts.{entries_weight, weight_at}
use Rattle.flat_model.specs.Sockets.Fits.{memory_of}
use Rattle.sockbuf.specs.SockBuf.{SockBufView, IsSockBuf, chains_of, datagrams, datagram_from}
use Rattle.sockbuf.specs.Stored.{IsTaken, bag_of, stored_datagram}
use Rattle.sockbuf.proofs.Beside.{apart_ready, chains_same, datagrams_same, made_beside, ready_made}

-- one mbuf of bytes, in no queue yet
abbrev pub entry : List ℕ → ℕ → Option ℕ → Entry
entry bytes start o = record { bytes = bytes; start = start; cluster = o }

-- the caller's new chain, which isn't in the queue yet
pub record InHand (p : PoolView) (b : SockBufView) (bytes : List ℕ) (start : ℕ) (o : Option ℕ) (q : PoolView) (d : ℕ)
    : Type 0 where
  pub ready : IsSockBuf q b
  pub live : IsLive q d
  pub apart : times_among d (chains_of q b) ≡ 0
  pub len : length bytes ≡ length (string (chain_of q d))
  pub same : datagrams q b ≡ datagrams p b
  pub packets : queued_packets q b.train ≡ queued_packets p b.train
  pub entries : (chain_of q d).entries ≡ entry bytes start o ∷ []
  pub held : held_mbufs q ≡ held_mbufs p + 1
  pub mbufs : q.mbufs ≡ p.mbufs
  pub moves : Moves p (chains_of p b) q (d ∷ chains_of q b)
  pub memory : (is_large : Bool) → IsTaken p is_large o
      → (if is_large then 2176 else 128) ≡ memory_of (weight_at q d)
  pub is : (sender : Addr) → datagram_from sender q d ≡ stored_datagram sender bytes o

one_takes : (p : PoolView) (bytes : List ℕ) (start : ℕ) (o : Option ℕ) (is_large : Bool) → IsTaken p is_large o
    → (if is_large then 2176 else 128) ≡ memory_of (entries_weight (entry bytes start o ∷ []))
one_takes p bytes start None false taken = refl
one_takes p bytes start (Some c) true taken = refl
one_takes p bytes start None true taken = elim taken [ ]
one_takes p bytes start (Some c) false taken = elim taken [ ]

one_weighs : (bytes : List ℕ) (start : ℕ) (o : Option ℕ)
    → mbuf ⊕ entries_weight (entry bytes start o ∷ []) ≡ record { mbufs = 2; bag = bag_of o }
one_weighs bytes start None = refl
one_weighs bytes start (Some c) = refl

pub in_hand : {p q : PoolView} {b : SockBufView} {d : ℕ} (bytes : List ℕ) (start : ℕ) (o : Option ℕ) → IsSockBuf p b
    → Adds p q d (one_mbuf false (entry bytes start o) d) → InHand p b bytes start o q d
in_hand {p} {q} {b} {d} bytes start o ready adds =
    let made : Moves p [] q (d ∷ []) = moves_adds adds in
    let shown : chain_of q d ≡ one_mbuf false (entry bytes start o) d = shown_adds adds in
    let all : string (chain_of q d) ≡ bytes = ap string shown ∙ append-nil bytes in
    let chains : chains_of q b ≡ chains_of p b = chains_same p q b (made_beside b made ready) in
    record {
      ready = ready_made b made ready;
      live = live_adds adds;
      apart = apart_ready b made ready;
      len = ap (λ (xs : List ℕ). length xs) (sym all);
      same = datagrams_same p q b (made_beside b made ready);
      packets = queued_packets_same p q b.train (made_beside b made ready);
      entries = ap (λ (v : ChainView). v.entries) shown;
      held = held-adds adds;
      mbufs = made.mbufs;
      memory = λ is_large taken. one_takes p bytes start o is_large taken
          ∙ ap (λ (v : ChainView). memory_of (entries_weight v.entries)) (sym shown);
      moves = subst (λ (xs : List ℕ). Moves p (chains_of p b) q (d ∷ xs)) (sym chains)
          (moves_beside (chains_of p b) (d ∷ chains_of p b) (chains_of p b) made (λ k. omega arith) (λ k. omega arith));
      is = λ sender i. record {
        sender = sender;
        item =
            record {
              bytes = all i;
              weight = (ap (λ (v : ChainView). mbuf ⊕ entries_weight v.entries) shown
                  ∙ one_weighs bytes start o) i;
            };
      };
    }
