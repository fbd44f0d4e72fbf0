-- The parts of a message, one after another.
use Rattle.std.proofs.Common.{◌≡◌, ◌⊎◌, inl, inr, ℕ, zero, suc, ◌+◌, ◌-◌, ◌*◌, ◌<◌, ◌≤◌, Bool, true, false, cond, List, [], ◌∷◌, ◌++◌, length, map, min, take, drop, Some, refl, sym, ap, subst, ◌∙◌, arith, length-drop}
use Rattle.std.specs.Prelude.{is_some, nat_lt, slice_get}
use Rattle.std.proofs.Math.Nat.{le-mul_of_pos_right, mul-le-mul_right}
use Rattle.std.proofs.lemmas.Bool.{cases_lt, le-ltb, lt-ltb}
use Rattle.std.proofs.lemmas.List.{drop_more}
use Rattle.flat_model.specs.Fragments.Cuts.{Part, part, chunk, chunks, cuts}
use Rattle.flat_model.specs.Packets.Header.{packet}
use Rattle.flat_model.proofs.Laws.{chunks_enough, chunks_needed, grid, length-grid, get_or-grid, cuts_short, cuts_long}
use Rattle.flat_ether.specs.Icmp.{part_packet, part_packets}
use Rattle.ip_out.specs.Headings.{head_bytes}
use Rattle.ether_host.specs.Replies.{IsPartAt, message_in, packet_in, packets_left, part_seen, share_head}
use Rattle.ether_host.specs.declared.reply.Reply.{Reply}
use Rattle.ether_host.specs.declared.share.Share.{Share}

-- ---- the whole message in one part

abbrev whole : ℕ → Part
whole n = record { offset = 0; size = n; more = false }

one_at : (n i : ℕ) → i < 1 → IsPartAt (whole n ∷ []) i (whole n)
one_at n zero h = record { here = refl; more = refl }
one_at n (suc i) h = absurd (omega arith)

pub short_at : (n mtu i : ℕ) → 20 + n ≤ mtu → i < length (cuts n mtu) → IsPartAt (cuts n mtu) i (whole n)
short_at n mtu i h l =
    subst (λ (ps : List Part). IsPartAt ps i (whole n)) (sym (cuts_short n mtu h))
    (one_at n i (subst (λ (ps : List Part). i < length ps) (cuts_short n mtu h) l))

-- ---- in chunks

below : (n c i : ℕ) → 0 < c → (i + 1) * c < n → i + 1 < chunks n c
below n c i some h = go (cases_lt (i + 1) (chunks n c))
  where
    go : (i + 1 < chunks n c) ⊎ (chunks n c ≤ i + 1) → i + 1 < chunks n c
    go (inl l) = l
    go (inr le) =
        let more : chunks n c * c ≤ (i + 1) * c = mul-le-mul_right {m = chunks n c} {n = i + 1} c le in
        let enough : n ≤ chunks n c * c = chunks_enough n c some in
        absurd (omega arith)

more_at : (n c i : ℕ) → 0 < c → nat_lt ((i + 1) * c) n ≡ nat_lt (i + 1) (chunks n c)
more_at n c i some = go (cases_lt ((i + 1) * c) n)
  where
    go : ((i + 1) * c < n) ⊎ (n ≤ (i + 1) * c) → nat_lt ((i + 1) * c) n ≡ nat_lt (i + 1) (chunks n c)
    go (inl l) = lt-ltb ((i + 1) * c) n l ∙ sym (lt-ltb (i + 1) (chunks n c) (below n c i some l))
    go (inr le) = le-ltb ((i + 1) * c) n le ∙ sym (le-ltb (i + 1) (chunks n c) (least (cases_lt (i + 1) (chunks n c))))
      where
        least : (i + 1 < chunks n c) ⊎ (chunks n c ≤ i + 1) → chunks n c ≤ i + 1
        least (inl l) = let inside : (i + 1) * c < n = chunks_needed n c (i + 1) some l in absurd (omega arith)
        least (inr h) = h

grid_at : (n c i : ℕ) → 0 < c → i < chunks n c → IsPartAt (grid n c) i (part n c i)
grid_at n c i some l = record {
  here =
      drop_more (grid n c) i (part n c i) (omega (arith, length-grid n c))
      ∙ ap (λ (p : Part). p ∷ drop (i + 1) (grid n c)) (get_or-grid n c i (part n c i) l);
  more = more_at n c i some ∙ ap (nat_lt (i + 1)) (sym (length-grid n c));
}

some_chunk : (mtu : ℕ) → 68 ≤ mtu → 0 < chunk mtu
some_chunk mtu h = omega arith

-- the number of parts, if the message doesn't fit in one
count : (n mtu : ℕ) → mtu < 20 + n → length (cuts n mtu) ≡ chunks n (chunk mtu)
count n mtu h = ap length (cuts_long n mtu h) ∙ length-grid n (chunk mtu)

pub long_at : (n mtu i : ℕ) → 68 ≤ mtu → mtu < 20 + n → i < length (cuts n mtu)
    → IsPartAt (cuts n mtu) i (part n (chunk mtu) i)
long_at n mtu i least h l =
    subst (λ (ps : List Part). IsPartAt ps i (part n (chunk mtu) i)) (sym (cuts_long n mtu h))
    (grid_at n (chunk mtu) i (some_chunk mtu least) (omega (arith, count n mtu h)))

pub inside : (n mtu i : ℕ) → 68 ≤ mtu → mtu < 20 + n → i < length (cuts n mtu) → i * chunk mtu < n
inside n mtu i least h l =
    chunks_needed n (chunk mtu) i (some_chunk mtu least) (omega (arith, count n mtu h))

few : (n c i : ℕ) → 0 < c → i * c < n → i < n
few n c i some h = let some_each : i ≤ i * c = le-mul_of_pos_right {m = c} i some in omega arith

-- so there are few of them
pub few_short : (n mtu i : ℕ) → 20 + n ≤ mtu → i < length (cuts n mtu) → i ≤ 1500
few_short n mtu i h l = let one : length (cuts n mtu) ≡ 1 = ap length (cuts_short n mtu h) in omega arith

pub few_long : (n mtu i : ℕ) → 68 ≤ mtu → mtu < 20 + n → 20 + n ≤ 1500 → i < length (cuts n mtu) → i ≤ 1500
few_long n mtu i least h most l =
    let below : i < n = few n (chunk mtu) i (some_chunk mtu least) (inside n mtu i least h l) in omega arith

pub within : (s : Share) (n c i : ℕ) → part_seen s ≡ part n c i → i * c < n → s.offset + s.size ≤ n
within s n c i e h =
    let at : s.offset ≡ i * c = ap (λ (p : Part). p.offset) e in
    let size : s.size ≡ min c (n - i * c) = ap (λ (p : Part). p.size) e in
    omega arith

-- there is a first one
pub some_part : (n mtu : ℕ) → 68 ≤ mtu → 0 < length (cuts n mtu)
some_part n mtu least = go (cases_lt mtu (20 + n))
  where
    go : (mtu < 20 + n) ⊎ (20 + n ≤ mtu) → 0 < length (cuts n mtu)
    go (inr h) = let one : length (cuts n mtu) ≡ 1 = ap length (cuts_short n mtu h) in omega arith
    go (inl h) =
        let enough : n ≤ chunks n (chunk mtu) * chunk mtu = chunks_enough n (chunk mtu) (some_chunk mtu least) in
        any (chunks n (chunk mtu)) (count n mtu h) enough
      where
        any : (k : ℕ) → length (cuts n mtu) ≡ k → n ≤ k * chunk mtu → 0 < length (cuts n mtu)
        any zero e enough = absurd (omega arith)
        any (suc k) e enough = omega arith

-- ---- the packets that wait

left_is : (r : Reply) (p : Part) → r.waits ≡ true → IsPartAt (cuts r.message.len r.mtu) r.gone p
    → packets_left r ≡ packet_in r p ∷ map (packet_in r) (drop (r.gone + 1) (cuts r.message.len r.mtu))
left_is r p waits at =
    ap (λ b. cond b (map (packet_in r) (drop r.gone (cuts r.message.len r.mtu))) []) waits
    ∙ ap (map (packet_in r)) at.here

-- the first of them
pub first_left : (r : Reply) (p : Part) → r.waits ≡ true → IsPartAt (cuts r.message.len r.mtu) r.gone p
    → slice_get (packets_left r) 0 ≡ Some (packet_in r p)
first_left r p waits at = ap (λ (ps : List (List ℕ)). slice_get ps 0) (left_is r p waits at)

-- a packet waits if and only if the flag is set
pub waits_some : (r : Reply) → (r.waits ≡ true → r.gone < length (cuts r.message.len r.mtu))
    → r.waits ≡ is_some (slice_get (packets_left r) 0)
waits_some r left = go r.waits refl
  where
    parts : List Part
    parts = cuts r.message.len r.mtu

    some : (ps : List Part) → 0 < length ps → is_some (slice_get (map (packet_in r) ps) 0) ≡ true
    some [] h = absurd (omega arith)
    some (p ∷ ps) h = refl

    go : (b : Bool) → r.waits ≡ b → b ≡ is_some (slice_get (cond b (map (packet_in r) (drop r.gone parts)) []) 0)
    go false e = refl
    go true e = sym (some (drop r.gone parts) (omega (arith, length-drop r.gone parts, left e)))

-- two messages with the same header fields and bytes have the same packets
pub same_parts : (source id id' destination destination' mtu mtu' n : ℕ) (xs body : List ℕ) → id ≡ id'
    → destination ≡ destination' → mtu ≡ mtu' → xs ≡ body → n ≡ length body
    → map (part_packet source id destination xs) (cuts n mtu) ≡ part_packets source id' destination' body mtu'
same_parts source id id' destination destination' mtu mtu' n xs body at to by is long =
    ap (λ k. map (part_packet source k destination xs) (cuts n mtu)) at
    ∙ ap (λ k. map (part_packet source id' k xs) (cuts n mtu)) to
    ∙ ap (λ k. map (part_packet source id' destination' xs) (cuts n k)) by
    ∙ ap (λ (zs : List ℕ). map (part_packet source id' destination' zs) (cuts n mtu')) is
    ∙ ap (λ k. map (part_packet source id' destination' body) (cuts k mtu')) long

-- the header and its part of the message are the packet
pub shared : (r : Reply) (s : Share) → 20 + s.size ≡ 20 + length (take s.size (drop s.offset (message_in r)))
    → head_bytes (share_head r s) ++ take s.size (drop s.offset (message_in r)) ≡ packet_in r (part_seen s)
unfolding head_bytes packet
shared r s e =
    ap (λ n. head_bytes (record (share_head r s) { total = n }) ++ take s.size (drop s.offset (message_in r))) e
