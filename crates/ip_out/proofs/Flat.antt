-- The packets in the terms of the flat machine.
use Rattle.std.proofs.Common.{◌≡◌, ℕ, ◌+◌, ◌-◌, ◌*◌, ◌≤◌, min, Bool, true, false, cond, List, [], ◌∷◌, ◌++◌, length, take, drop, map, refl, sym, ap, ◌∙◌, arith}
use Rattle.std.specs.Prelude.{nat_le}
use Rattle.std.specs.List.{AllByRecursion, range_with_len}
use Rattle.std.proofs.lemmas.List.{length-take, length-drop}
use Rattle.flat_model.specs.Amounts.Weight.{Item}
use Rattle.flat_model.specs.Fragments.Cuts.{Part, part, cuts, chunk, chunks}
use Rattle.flat_model.specs.Packets.Header.{Head, packet}
use Rattle.flat_model.specs.Amounts.Layout as flat
use Rattle.flat_model.specs.Amounts.Layout.{entries_on, sent}
use Rattle.flat_model.specs.Machine.Sending as sending
use Rattle.flat_model.specs.Machine.Sending.{Sending, items, datagram, mtu_to, later_weight}
use Rattle.flat_model.specs.declared.config.Config.{Config}
use Rattle.mbuf_chain.specs.Chain.{ChainView, string}
use Rattle.chain_ops.specs.Weights.{layout_entries}
use Rattle.ip_out.specs.declared.head.IpHead.{IpHead}
use Rattle.ip_out.specs.Headings.{head_bytes}
use Rattle.ip_out.specs.Packets.{packets_of, part_bytes}

-- a header with the flat machine's type of service, time to live and flags
plain_is : (h : Head) (t : List ℕ)
    → packet h t ≡ head_bytes (record {
      tos = 0;
      total = 20 + length t;
      id = h.id;
      dont = false;
      more = h.more;
      offset = h.offset;
      ttl = 64;
      proto = h.protocol;
      src = h.source;
      dst = h.destination;
    }) ++ t
unfolding packet head_bytes
plain_is h t = refl

-- the header of a send
abbrev pub sending_head : Sending → IpHead
sending_head x =
    record {
      tos = 0;
      total = 0;
      id = x.id;
      dont = false;
      more = false;
      offset = 0;
      ttl = 64;
      proto = 17;
      src = x.source;
      dst = x.to.ip;
    }

-- a part that is within the datagram
abbrev IsWithin : List ℕ → Part → Type 0
IsWithin d p = length (take p.size (drop p.offset d)) ≡ p.size

part_within : (d : List ℕ) (c i : ℕ) → IsWithin d (part (length d) c i)
part_within d c i = omega (arith, length-take (min c (length d - i * c)) (drop (i * c) d), length-drop (i * c) d)

parts_within : (d : List ℕ) (c : ℕ) (is : List ℕ) → AllByRecursion (IsWithin d) (map (part (length d) c) is)
parts_within d c [] = tt
parts_within d c (i ∷ is) = (part_within d c i, parts_within d c is)

cuts_within : (d : List ℕ) (mtu : ℕ) → AllByRecursion (IsWithin d) (cuts (length d) mtu)
unfolding cuts
cuts_within d mtu = go (nat_le (20 + length d) mtu)
  where
    one : IsWithin d (record { offset = 0; size = length d; more = false })
    one = omega (arith, length-take (length d) (drop 0 d), length-drop 0 d)

    go : (b : Bool) → AllByRecursion (IsWithin d)
        (cond {A = List Part} b (record { offset = 0; size = length d; more = false } ∷ [])
        (map (part (length d) (chunk mtu)) (range_with_len 0 (chunks (length d) (chunk mtu)))))
    go true = (one, tt)
    go false = parts_within d (chunk mtu) (range_with_len 0 (chunks (length d) (chunk mtu)))

part_same : (x : Sending) (p : Part) → IsWithin (datagram x) p
    → part_bytes (sending_head x) (datagram x) p ≡ sending.packet_for x p
part_same x p within =
    let t : List ℕ = take p.size (drop p.offset (datagram x)) in
    ap (λ (n : ℕ). head_bytes (record {
      tos = 0;
      total = 20 + n;
      id = x.id;
      dont = false;
      more = p.more;
      offset = p.offset;
      ttl = 64;
      proto = 17;
      src = x.source;
      dst = x.to.ip;
    }) ++ t) (sym within)
    ∙ sym (plain_is (sending.head_for x p) t)

later_same : (es : List flat.LayoutEntry) (f g : Part → List ℕ) (ps : List Part)
    → AllByRecursion (λ (p : Part). f p ≡ g p) ps
    → map (λ (q : Part). let item : Item = record { bytes = f q; weight = later_weight es q } in item) ps
    ≡ map (λ (q : Part). let item : Item = record { bytes = g q; weight = later_weight es q } in item) ps
later_same es f g [] all = refl
later_same es f g (p ∷ ps) all =
    λ i. record { bytes = all.0 i; weight = later_weight es p } ∷ later_same es f g ps all.1 i

items_same : (es : List flat.LayoutEntry) (f g : Part → List ℕ) (ps : List Part)
    → AllByRecursion (λ (p : Part). f p ≡ g p) ps
    → items es f ps ≡ items es g ps
items_same es f g [] all = refl
items_same es f g (p ∷ ps) all =
    λ i. record { bytes = all.0 i; weight = flat.weight_of es } ∷ later_same es f g ps all.1 i

all_same : (x : Sending) (ps : List Part) → AllByRecursion (IsWithin (datagram x)) ps
    → AllByRecursion (λ (p : Part). part_bytes (sending_head x) (datagram x) p ≡ sending.packet_for x p) ps
all_same x [] all = tt
all_same x (p ∷ ps) all = (part_same x p all.0, all_same x ps all.1)

-- the packets of a chain with the layout and the bytes of a send are the packets of the send
pub packets_sent : (c : Config) (clusters : List ℕ) (x : Sending) (v : ChainView)
    → layout_entries v.entries ≡ entries_on clusters (sent (length x.bytes)) → 20 ≤ length (string v)
    → drop 20 (string v) ≡ datagram x
    → packets_of v (sending_head x) (mtu_to c x.to.ip) ≡ sending.packets c clusters x
packets_sent c clusters x v placed_is room bytes =
    let n : length (string v) - 20 ≡ length (datagram x) =
    omega (arith, length-drop 20 (string v), ap (λ (xs : List ℕ). length xs) bytes) in
    (λ i. items (placed_is i) (part_bytes (sending_head x) (bytes i)) (cuts (n i) (mtu_to c x.to.ip)))
    ∙ items_same (entries_on clusters (sent (length x.bytes))) (part_bytes (sending_head x) (datagram x))
    (sending.packet_for x) (cuts (length (datagram x)) (mtu_to c x.to.ip))
    (all_same x (cuts (length (datagram x)) (mtu_to c x.to.ip)) (cuts_within (datagram x) (mtu_to c x.to.ip)))
