-- What a machine reads in a packet that was sent.
use Rattle.std.proofs.Common.{◌≡◌, ◌≢◌, ℕ, ◌+◌, ◌<◌, ◌≤◌, true, false, length, take, drop, refl, ◌∙◌, ap, ◌⊎◌, inl, inr, arith}
use Rattle.std.specs.Prelude.{Contains, ◌||◌, ◌==◌}
use Rattle.std.proofs.lemmas.List.{take_all, length-take, length-drop}
use Rattle.std.proofs.lemmas.Bool.{or_cases, eqb-true}
use Rattle.flat_model.specs.Fragments.Cuts.{Part, cuts}
use Rattle.flat_model.specs.Packets.Header.{head_of, total_of}
use Rattle.flat_model.specs.Fragments.Overlay.{Fragment, fragment_end}
use Rattle.flat_model.specs.Amounts.Weight.{nothing}
use Rattle.flat_model.specs.Runs.Laws.{bytes_of_part}
use Rattle.flat_model.specs.Machine.State.{loopback, limited_broadcast}
use Rattle.flat_model.specs.declared.config.Config.{Config}
use Rattle.flat_model.specs.Machine.Calls.{is_ours}
use Rattle.flat_model.specs.Machine.Sending.{Sending, datagram, packet_for, head_for}
use Rattle.flat_wire.proofs.Sendable.{IsSendable}
use Rattle.flat_model.proofs.Laws.{length-udp}
use Rattle.flat_wire.proofs.Grid.{part_steps, part_inside}
use Rattle.flat_wire.proofs.Maps.{IsStretch}
use Rattle.flat_wire.proofs.Stretch.{part_is_stretch}
use Rattle.flat_wire.proofs.Decode.{IsHead, head_read, carried_read}

module _ (mtu : ℕ) (low : 28 ≤ mtu) (x : Sending) (p : Part) (is : IsSendable mtu x)
    (in_cuts : Contains (cuts (length (datagram x)) mtu) p) where
  size_of_datagram : length (datagram x) ≡ 8 + length x.bytes
  size_of_datagram = length-udp x.source x.to.ip x.port x.to.port x.bytes

  is_head : IsHead (head_for x p) (length (bytes_of_part (datagram x) p))
  is_head = record {
    id = is.id;
    steps = part_steps (length (datagram x)) mtu p low in_cuts;
    offset =
        let inside : p.offset < length (datagram x) =
        part_inside (length (datagram x)) mtu p (omega (arith, size_of_datagram)) low in_cuts in
        omega (arith, size_of_datagram, is.short);
    source = is.source;
    destination = is.ip;
    total =
        omega (
          arith,
          length-take p.size (drop p.offset (datagram x)),
          length-drop p.offset (datagram x),
          size_of_datagram,
          is.short,
        );
  }

  pub read_head : head_of (packet_for x p) ≡ head_for x p
  read_head = head_read (head_for x p) (bytes_of_part (datagram x) p) is_head

  pub read_carried : drop 20 (take (total_of (packet_for x p)) (packet_for x p)) ≡ bytes_of_part (datagram x) p
  read_carried = carried_read (head_for x p) (bytes_of_part (datagram x) p)

  -- a part that is no fragment is the whole
  pub read_whole : p.offset ≡ 0 → p.more ≡ false → bytes_of_part (datagram x) p ≡ datagram x
  read_whole first last =
      let f : Fragment =
      record { offset = p.offset; bytes = bytes_of_part (datagram x) p; more = p.more; weight = nothing } in
      let s : IsStretch (datagram x) f =
      part_is_stretch (datagram x) mtu p f (omega (arith, size_of_datagram)) low in_cuts refl refl refl in
      let all : fragment_end f ≡ length (datagram x) = s.last last in
      ap (λ k. take p.size (drop k (datagram x))) first
      ∙ take_all p.size (datagram x)
      (omega (arith, length-take p.size (drop p.offset (datagram x)), length-drop p.offset (datagram x)))

-- a destination that this host accepts from the wire is one of its two addresses
pub here_is : (c : Config) (ip : ℕ) → (is_ours c ip || (ip == limited_broadcast)) ≡ true → ip ≢ loopback
    → ip ≢ limited_broadcast → (ip ≡ c.addr) ⊎ (ip ≡ c.bcast)
here_is c ip e not_loopback not_limited_broadcast = outer (or_cases (is_ours c ip) _ e)
  where
    inner : ((ip == c.addr) ≡ true) ⊎ ((ip == c.bcast) ≡ true) → (ip ≡ c.addr) ⊎ (ip ≡ c.bcast)
    inner (inl h) = inl (eqb-true ip c.addr h)
    inner (inr h) = inr (eqb-true ip c.bcast h)

    ours : (((ip == c.addr) || (ip == c.bcast)) ≡ true) ⊎ ((ip == loopback) ≡ true) → (ip ≡ c.addr) ⊎ (ip ≡ c.bcast)
    ours (inl h) = inner (or_cases (ip == c.addr) _ h)
    ours (inr h) = absurd (not_loopback (eqb-true ip loopback h))

    outer : (is_ours c ip ≡ true) ⊎ ((ip == limited_broadcast) ≡ true) → (ip ≡ c.addr) ⊎ (ip ≡ c.bcast)
    outer (inl h) = ours (or_cases ((ip == c.addr) || (ip == c.bcast)) _ h)
    outer (inr h) = absurd (not_limited_broadcast (eqb-true ip limited_broadcast h))
