use Rattle.std.proofs.Common.{◌≡◌, Bool, None, Some, cond, ap, sym, refl, ◌∙◌, take, true, false, eq-eqb}
use Rattle.std.specs.Prelude.{◌==◌}
use Rattle.std.proofs.lemmas.Bool.{le-ltb, ne_eqb}
use Rattle.flat_model.specs.Packets.Checksum.{folded_sum}
use Rattle.flat_model.specs.Packets.Header.{udp_fault}
use Rattle.flat_model.specs.declared.counters.Why.TheVariants.{UdpBadSum}
use Rattle.flat_plain.proofs.Heading.{fault_is}
use Rattle.flat_plain.proofs.headers.udp_fault.Goals.{After-fold}
use Rattle.flat_plain.proofs.headers.udp_fault.Goals as goal

-- the sum decides
by_sum : (c : After-fold) (good : Bool) → (c.fold.result == 65535) ≡ good
    → cond good None (Some UdpBadSum) ≡ udp_fault c.args.source c.args.destination c.args.bytes.now
by_sum c good is =
    fault_is c.args.source c.args.destination c.u16_at-n.result c.args.bytes.now c.in_ok-covered.covered.items
    c.pseudo_header.result (take c.u16_at-n.result c.args.bytes.now) good
    (le-ltb _ _ c.if-bytes.false) c.u16_at-n.ensures (le-ltb _ _ c.if-bytes-n.false) (le-ltb _ _ c.if-n.false)
    (ap (λ k. k == 0) (sym c.u16_at.ensures) ∙ ne_eqb c.u16_at.result 0 c.if-u16_at-eq0.false) c.pseudo_header.ensures
    refl c.in_ok-covered.ensures (ap (λ k. k == 65535) (sym (c.fold.ensures ∙ ap folded_sum c.deref.ensures.value)) ∙ is)

pub returns-then-fold : goal.returns-then-fold
returns-then-fold c = by_sum (goal.at.returns-then-fold c).After-fold false (ne_eqb c.fold.result 65535 c.if-fold.true)

pub returns : goal.returns
returns c = by_sum (goal.at.returns c).After-fold true (eq-eqb c.fold.result 65535 c.if-fold.false)
