use Rattle.std.proofs.Common.{◌≡◌, Option, Some, None, Result, Ok, Err, refl, subst, arith}
use Rattle.capture.specs.Places.{FindsIn, Place, Reading, StepGives, Steps, place_of}
use Rattle.capture.specs.declared.blocks.Found.{Found}
use Rattle.capture.specs.declared.fault.Fault.{Fault}
use Rattle.capture.specs.declared.fault.FaultAt.{FaultAt}
use Rattle.capture.specs.declared.records.Record.{Record}
use Rattle.capture.proofs.Stepping.{moved, none_of, stepped}
use Rattle.capture.proofs.records.Records.next_record.Goals as goal
use Rattle.capture.proofs.records.Records.next_record.Goals.{After-find}

-- the place in the file before the step, and after it
abbrev before : (g : _) (c : After-find g) → Place
before g c =
    let old = c.self.inside.course in
    place_of old.format old.blocks old.number old.offset (g.S.Read.remaining old.feed.source)

abbrev after : (g : _) (c : After-find g) → Place
after g c =
    let new = c.find.new.course in
    place_of new.format new.blocks new.number new.offset (g.S.Read.remaining new.feed.source)

abbrev Finds : (g : _) (c : After-find g) → Result (Option Found) FaultAt → Type 0
Finds g c = FindsIn c.self.inside.course.format (before g c) (after g c) c.find.new.course.feed.buffer

faultless : (g : _) (c : After-find g) → c.self.inside.fault ≡ None
faultless g c = none_of c.self.inside.fault c.in_default.not-Some

-- a step: what was found, and the result that is returned for it
step : (g : _) (c : After-find g) (out : Result (Option Found) FaultAt) (new : Reading)
    (result : Result (Option Record) Fault) → Finds g c out → c.find.new.course.number ≡ c.self.inside.course.number
    → StepGives (after g c) c.find.new.course.feed.buffer out result new → Steps c.args.self.now new result
step g c out new result finds number gives =
    stepped c.args.self.now (before g c) c.self.inside.fault _ new result (after g c) c.find.new.course.feed.buffer out
    c.self.view_is (faultless g c) finds number gives

pub returns-in-Ok-None : goal.returns-in-Ok-None
returns-in-Ok-None g c =
    let at = (goal.at.returns-in-Ok-None g c).After-find in
    step g at (Ok None) _ _
    (subst (λ (o : Option Found). Finds g at (Ok o)) c.in-Ok-None.field-0-is c.in-Ok-None.ensures.finds)
    c.in-Ok-None.ensures.number (refl, refl, faultless g at, refl)

pub returns-in-Ok-Some : goal.returns-in-Ok-Some
returns-in-Ok-Some g c =
    let at = (goal.at.returns-in-Ok-Some g c).After-find in
    let found = c.in-Ok-Some.found in
    let shown : Record = record {
      number = c.saturating_add-self-inside.result;
      time = found.time;
      original_len = found.original_len;
      link_number = found.link_number;
      link = found.link;
    } in
    let place = moved (after g at) c.find.new.course.feed.buffer c.saturating_add-self-inside.result
    c.saturating_add-self-inside-in-Ok-Some.result (omega arith) (omega arith) in
    step g at (Ok (Some found)) _ _
    (subst (λ (o : Option Found). Finds g at (Ok o)) c.in-Ok-Some.field-0-is c.in-Ok-Some.ensures.finds)
    c.in-Ok-Some.ensures.number (shown, refl, refl, refl, place, faultless g at)

pub returns-in-Err : goal.returns-in-Err
returns-in-Err g c =
    let fault : Fault = record { why = c.in-Err.error.why; offset = c.saturating_add.result } in
    step g (goal.at.returns-in-Err g c).After-find (Err c.in-Err.error) _ _ c.in-Err.ensures.finds
    c.in-Err.ensures.number (fault, refl, refl, omega arith, refl, refl, refl)
