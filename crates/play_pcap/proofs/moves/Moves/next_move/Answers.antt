use Rattle.std.proofs.Common.{◌<◌, length, sym, ◌∙◌, arith}
use Rattle.std.proofs.lemmas.List.{length-map}
use Rattle.capture.specs.Seen.{captured}
use Rattle.play_pcap.proofs.Moving.{fewer, moved, none_left, skipped}
use Rattle.play_pcap.proofs.moves.Moves.next_move.Goals as goal

pub returns-in_default-clause-is : goal.returns-in_default-clause-is
returns-in_default-clause-is c = (
  sym c.records.invariant.same ∙ none_left c.records.self.course c.records.self.number c.records.self.passed c.records.self.rest.now
      (omega (arith, c.in_default.len_below)),
  c.records.invariant.passed,
)

pub records-preserved : goal.records-preserved
records-preserved c =
    let some : 0 < length c.records.self.rest.now = omega (arith, c.in-len1-up.len_at_least) in
    let less = fewer c.records.self.rest.now some in
    let most = c.records.invariant.len in record {
      same =
          skipped c.records.self.course c.records.self.number c.saturating_add-next.result c.records.self.passed
          c.records.self.rest.now _ some (sym c.in-None.ensures.is) c.saturating_add-next.ensures
          ∙ c.records.invariant.same;
      course = c.records.invariant.course;
      passed = c.records.invariant.passed;
      len = omega (arith, less, most);
    }

pub returns-in-Some-clause-is : goal.returns-in-Some-clause-is
returns-in-Some-clause-is c =
    let some : 0 < length c.records.self.rest.now = omega (arith, c.in-len1-up.len_at_least) in
    let less = fewer c.records.self.rest.now some in
    let most = c.records.invariant.len in
    let passed = c.records.invariant.passed in
    let old = length-map c.args.self.now.rest.now captured in
    let ticks = c.saturating_sub-ticks.ensures in
    let new = c.max-self.ensures in (
      sym c.records.invariant.same
          ∙ moved c.records.self.course c.records.self.number c.saturating_add-next.result c.records.self.passed
          c.records.self.rest.now _ c.place-place.result c.in-Some.packet.now c.due-due.result
          c.saturating_sub-ticks.result c.max-self.result some (sym c.in-Some.ensures.is) c.saturating_add-next.ensures
          c.place-place.ensures c.due-due.ensures.is ticks new,
      c.in-Some.ensures.short,
      omega (arith, passed, ticks, new),
      rw (old, length-map _ captured) (omega (arith, less, most)),
    )
