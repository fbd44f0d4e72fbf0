use Rattle.std.proofs.Common.{◌≡◌, ℕ, ◌-◌, List, length, map, ap, sym, ◌∙◌, arith}
use Rattle.std.specs.Prelude.{filter}
use Rattle.std.proofs.lemmas.List.{length-map}
use Rattle.flat_model.specs.Machine.Count.{more_by}
use Rattle.flat_ether.specs.Claims.{claim_ticks}
use Rattle.flat_ether.specs.declared.claim.Claim.{Claim}
use Rattle.flat_ether.specs.declared.sizes.TheConstants.{ERRORS_A_TICK}
use Rattle.flat_ether.specs.Links.{WaitingPacket, LinkState, neighbour_aged, is_resolvable, neighbour_stays}
use Rattle.flat_ether.specs.declared.neighbour.Neighbour.{Neighbour}
use Rattle.ether_host.specs.Inside.{link_seen}
use Rattle.ether_host.specs.Buffers.{is_resolvable_in, held_in}
use Rattle.ether_host.specs.declared.buffer.PacketBuffer.{PacketBuffer}
use Rattle.ether_host.proofs.Tables.{held_filter}
use Rattle.ether_host.proofs.layer.LinkLayer.remove_expired.Goals as goal

pub returns : goal.returns
returns c =
    let s : LinkState =
    record (link_seen c.args.self.now) { claim = claim_ticks c.args.self.now.claim; errors_left = ERRORS_A_TICK } in
    let ps : List PacketBuffer = c.args.self.now.held.items in
    let ns : List Neighbour = filter neighbour_stays (map neighbour_aged s.neighbours) in
    let later : List WaitingPacket = filter (is_resolvable ns) s.held in
    let known : c.age-self.result.items ≡ ns =
    c.age-self.ensures ∙ ap (λ (xs : List Neighbour). filter neighbour_stays (map neighbour_aged xs))
    c.as_slice.ensures.value in
    let kept : map held_in c.keep.new.held.items ≡ later =
    ap (map held_in) c.keep.ensures.kept
    ∙ ap (λ (xs : List Neighbour). map held_in (filter (is_resolvable_in xs) ps)) (c.as_slice-2.ensures.value ∙ known)
    ∙ held_filter ns ps in
    let before : length s.held ≡ length ps = length-map ps held_in in
    let after : length later ≡ length c.keep.new.held.items =
    ap length (sym kept) ∙ length-map c.keep.new.held.items held_in in
    let lost : c.saturating_sub-lost.result ≡ length s.held - length later =
    omega (arith, c.args.self.now.held.ok.0, c.keep.new.held.ok.0) in
    let more : c.saturating_add-self.result ≡ more_by (length s.held - length later) s.tallies.unresolved =
    c.saturating_add-self.ensures ∙ ap (λ (n : ℕ). more_by n s.tallies.unresolved) lost in
    ap (λ (k : Claim). record s {
      claim = k;
      neighbours = c.age-self.result.items;
      held =
          map held_in c.keep.new.held.items;
      tallies =
          record s.tallies { unresolved = c.saturating_add-self.result };
    }) c.ticked-self.ensures
    ∙ ap (λ (xs : List Neighbour). record s {
      neighbours = xs;
      held = map held_in c.keep.new.held.items;
      tallies = record s.tallies { unresolved = c.saturating_add-self.result };
    }) known
    ∙ ap (λ (hs : List WaitingPacket). record s
    { neighbours = ns; held = hs; tallies = record s.tallies { unresolved = c.saturating_add-self.result } }) kept
    ∙ ap (λ (n : ℕ). record s { neighbours = ns; held = later; tallies = record s.tallies { unresolved = n } }) more
