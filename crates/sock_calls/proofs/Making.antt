-- The datagram of a send: its bytes, and room for both headers in front.
use Rattle.std.proofs.Common.{◌≡◌, ℕ, suc, ◌+◌, ◌≤◌, Bool, true, false, cond, List, [], ◌∷◌, ◌++◌, length, drop, count_by, refl, sym, ap, ◌∙◌, arith, inl, inr}
use Rattle.std.proofs.lemmas.List.{length-map, length-append, length-drop}
use Rattle.std.proofs.Math.Seq.{drop-append_seam}
use Rattle.flat_model.specs.Amounts.Layout as flat
use Rattle.flat_model.specs.Amounts.Layout.{is_cluster, user, sent, entries_on}
use Rattle.mbuf_chain.specs.Chain.{Entry, ChainView, PoolView, alone, chain_of, string, without}
use Rattle.mbuf_chain.proofs.Laws.Steps.{adds_undone}
use Rattle.chain_ops.specs.Makes.{Makes, LacksMbufs}
use Rattle.chain_ops.specs.Prepends.{has_front, prepended, prepended_front, prepend_need}
use Rattle.chain_ops.specs.Stored.{AreFree, Has, Lacks, stored_first}
use Rattle.chain_ops.specs.Weights.{layout_entries}
use Rattle.chain_ops.proofs.Laws.Makes.{makes_held, makes_mbufs, makes_as}
use Rattle.ip_out.specs.Packets.{IsDatagramChain}
use Rattle.ip_out.proofs.Laws.{datagram_sent}
use Rattle.sock_calls.specs.Inside.Putting.{IsSendLaidOut, IsStored}
use Rattle.sock_calls.proofs.SentRooms.{beside, placed_count}

-- ---- the bytes in buffers of their own
abbrev pub Stores : PoolView → List ℕ → PoolView → ℕ → Type 0
Stores p bytes q d =
    (cs : List ℕ) × AreFree p cs × (length cs ≡ count_by is_cluster (user (length bytes)))
    × Makes p q d (alone true) (stored_first 56 true cs (user (length bytes)) bytes)

-- with the headers prepended, the chain has the layout of a send
abbrev pub SentLayout : Type 0
SentLayout = (cs xs hs : List ℕ) → length cs ≡ count_by is_cluster (user (length xs)) → length hs ≡ 28
    → layout_entries (prepended (record {
      front = alone true;
      entries = stored_first 56 true cs (user (length xs)) xs;
      cells = [];
    }) hs) ≡ entries_on cs (sent (length xs))

pub no_lack : (p : PoolView) (n : ℕ) → Has p (sent n) → Lacks p (user n) → ⊥
no_lack p n has (inl few) = omega (arith, has.0, few, (beside n).mbufs)
no_lack p n has (inr few) = omega (arith, has.1, few, (beside n).clusters)

placed_there : {p q : PoolView} {d : ℕ} (bytes hs : List ℕ) → SentLayout → (s : Stores p bytes q d) → length hs ≡ 28
    → layout_entries (prepended (chain_of q d) hs) ≡ entries_on s.0 (sent (length bytes))
placed_there {p} {q} {d} bytes hs law s len = ap layout_entries
    (λ i. prepended (record { front = s.3.front i; entries = s.3.entries i; cells = [] }) hs) ∙ law s.0 bytes hs s.2 len

count_there : {p q : PoolView} {d : ℕ} (bytes hs : List ℕ) → SentLayout → Stores p bytes q d → length hs ≡ 28
    → length (prepended (chain_of q d) hs) ≡ length (sent (length bytes))
count_there {p} {q} {d} bytes hs law s len =
    sym (length-map (prepended (chain_of q d) hs) _)
    ∙ ap (λ (es : List flat.LayoutEntry). length es) (placed_there bytes hs law s len)
    ∙ placed_count s.0 (sent (length bytes))

prepend_few : (v : ChainView) (hs : List ℕ) → prepend_need v (length hs) + length v.entries ≤ length (prepended v hs)
prepend_few v hs = go (has_front v (length hs)) _ _ (omega (arith, length-drop 1 v.entries))
  where
    go : (t : Bool) (x y : Entry) → length v.entries ≤ suc (length (drop 1 v.entries))
        → cond t 0 1 + length v.entries ≤ length (cond {A = List Entry} t (x ∷ drop 1 v.entries) (y ∷ v.entries))
    go true x y h = omega (arith, h)
    go false x y h = omega arith

pub no_lack_there : {p q : PoolView} {d : ℕ} (bytes hs : List ℕ) → SentLayout → Stores p bytes q d → length hs ≡ 28
    → Has p (sent (length bytes)) → LacksMbufs q (prepend_need (chain_of q d) (length hs)) → ⊥
no_lack_there {p} {q} {d} bytes hs law s len has few = omega (
  arith,
  has.0,
  few,
  makes_mbufs s.3,
  makes_held s.3,
  ap (λ (es : List Entry). length es) s.3.entries,
  prepend_few (chain_of q d) hs,
  count_there bytes hs law s len,
)

headed_front : (v : ChainView) (n : ℕ) → v.front ≡ alone true → (prepended_front v n).header ≡ true
headed_front v n e = go (has_front v n)
  where
    h : v.front.header ≡ true
    h = λ i. (e i).header

    go : (t : Bool) → (cond t v.front (alone v.front.header)).header ≡ true
    go true = h
    go false = h

pub stored_is : {p q r : PoolView} {d d' : ℕ} (bytes hs : List ℕ) → SentLayout → Stores p bytes q d
    → string (chain_of q d) ≡ bytes → length hs ≡ 28
    → Makes (without q d) r d' (prepended_front (chain_of q d) (length hs)) (prepended (chain_of q d) hs)
    → string (chain_of r d') ≡ hs ++ string (chain_of q d) → IsStored p bytes r d'
stored_is {p} {q} {r} {d} {d'} bytes hs law s is len m string_is =
    let made = makes_as p (prepended_front (chain_of q d) (length hs)) (prepended (chain_of q d) hs) m
    (adds_undone (without q d) s.3.adds refl) refl refl in
    let whole : string (chain_of r d') ≡ hs ++ bytes = string_is ∙ ap (λ (xs : List ℕ). hs ++ xs) is in
    record {
      clusters = s.0;
      lies = record {
        number = s.2 ∙ sym (beside (length bytes)).clusters;
        free = s.1;
        made = made.adds;
        headed = ap (λ f. f.header) made.front ∙ headed_front (chain_of q d) (length hs) s.3.front;
        headers = hs;
        entries = made.entries
            ∙ (λ i. prepended (record { front = s.3.front i; entries = s.3.entries i; cells = [] }) hs);
        placed = ap layout_entries made.entries ∙ placed_there bytes hs law s len;
        size = omega (arith, ap (λ (xs : List ℕ). length xs) whole, length-append hs bytes, len);
        held = omega (
          arith,
          makes_held made,
          ap (λ (es : List Entry). length es) made.entries,
          count_there bytes hs law s len,
        );
      };
      holds = ap (drop 28) whole ∙ ap (λ (k : ℕ). drop k (hs ++ bytes)) (sym len) ∙ drop-append_seam hs bytes;
    }

-- ---- the UDP header written into it
pub ready : {p q : PoolView} {bytes cs : List ℕ} {c : ℕ} → IsSendLaidOut p bytes cs q c → length bytes ≤ 9216
    → IsDatagramChain (chain_of q c)
ready {p} {q} {bytes} {cs} {c} l most =
    datagram_sent (chain_of q c) cs (length bytes) l.headed l.placed (omega (arith, l.size, most))
