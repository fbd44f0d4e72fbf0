-- The bytes of packets, put together.
use Rattle.std.proofs.Common.{◌≡◌, ℕ, ◌+◌, Bool, true, false, List, [], ◌++◌, length, take, refl, sym, ◌∙◌, ap, Some, None, cond}
use Rattle.std.specs.Prelude.{nat_lt, ◌==◌, not}
use Rattle.std.proofs.lemmas.List.{append-nil}
use Rattle.flat_model.specs.Packets.Checksum.{checksum, folded_sum}
use Rattle.flat_model.specs.Packets.Header.{Head, packet, udp, udp_fault, front_bytes, two_bytes, address_bytes, pseudo_header, not_zero, u16_at}
use Rattle.flat_model.specs.declared.counters.Why.TheVariants.{UdpBadSum}

pub packet_is : (h : Head) (t blank full : List ℕ) (sum : ℕ)
    → blank ≡ front_bytes h (length t) ++ two_bytes 0 ++ address_bytes h.source h.destination → sum ≡ checksum blank
    → full ≡ front_bytes h (length t) ++ two_bytes sum ++ address_bytes h.source h.destination → full ++ t ≡ packet h t
unfolding packet
packet_is h t blank full sum b s f =
    ap (λ xs. xs ++ t) f ∙ ap (λ k. front_bytes h (length t) ++ two_bytes k ++ address_bytes h.source h.destination
    ++ t) (s ∙ ap checksum b)

pub udp_is : (source destination port to : ℕ) (t pseudo blank covered front : List ℕ) (sum : ℕ)
    → pseudo ≡ pseudo_header source destination (8 + length t)
    → blank ≡ two_bytes port ++ two_bytes to ++ two_bytes (8 + length t) ++ two_bytes 0 → covered ≡ pseudo ++ blank ++ t
    → sum ≡ not_zero (checksum covered)
    → front ≡ two_bytes port ++ two_bytes to ++ two_bytes (8 + length t) ++ two_bytes sum
    → front ++ [] ++ t ≡ udp source destination port to t
unfolding udp
udp_is source destination port to t pseudo blank covered front sum p b c s f =
    ap (λ xs. xs ++ t) (append-nil front)
    ∙ ap (λ xs. xs ++ t) f
    ∙ ap (λ k. two_bytes port ++ two_bytes to ++ two_bytes (8 + length t) ++ two_bytes k ++ t)
    (s ∙ ap (λ xs. not_zero (checksum xs))
    (c ∙ ap (λ xs. xs ++ blank ++ t) p ∙ ap (λ xs. pseudo_header source destination (8 + length t) ++ xs ++ t) b))

pub fault_is : (source destination n : ℕ) (bytes covered pseudo front : List ℕ) (b : Bool)
    → nat_lt (length bytes) 8 ≡ false → n ≡ u16_at 4 bytes → nat_lt (length bytes) n ≡ false → nat_lt n 8 ≡ false
    → (u16_at 6 bytes == 0) ≡ false → pseudo ≡ pseudo_header source destination n → front ≡ take n bytes
    → covered ≡ pseudo ++ front ++ [] → (folded_sum covered == 65535) ≡ b
    → cond b None (Some UdpBadSum) ≡ udp_fault source destination bytes
fault_is source destination n bytes covered pseudo front b e1 en e2 e3 e4 ep ef ec es =
    sym (rw (e1, e2', e3', e4, e5) (last b))
  where
    e2' : nat_lt (length bytes) (u16_at 4 bytes) ≡ false
    e2' = ap (λ k. nat_lt (length bytes) k) (sym en) ∙ e2

    e3' : nat_lt (u16_at 4 bytes) 8 ≡ false
    e3' = ap (λ k. nat_lt k 8) (sym en) ∙ e3

    whole : covered ≡ pseudo_header source destination (u16_at 4 bytes) ++ take (u16_at 4 bytes) bytes
    whole =
        ec ∙ append-nil (pseudo ++ front) ∙ ap (λ xs. xs ++ front) ep
        ∙ ap (λ xs. pseudo_header source destination n ++ xs) ef
        ∙ ap (λ k. pseudo_header source destination k ++ take k bytes) en

    e5 : (folded_sum (pseudo_header source destination (u16_at 4 bytes) ++ take (u16_at 4 bytes) bytes) == 65535) ≡ b
    e5 = ap (λ xs. folded_sum xs == 65535) (sym whole) ∙ es

    last : (b : Bool) → cond (not b) (Some UdpBadSum) None ≡ cond b None (Some UdpBadSum)
    last true = refl
    last false = refl
