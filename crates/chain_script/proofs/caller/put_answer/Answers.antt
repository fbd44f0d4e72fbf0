use Rattle.std.proofs.Common.{◌≡◌, length, Some, None, refl, arith}
use Rattle.chain_script.specs.Inside.Calls.{request_of}
use Rattle.chain_script.specs.Steps.{chain_answer_text}
use Rattle.chain_script.proofs.SlotLemmas.{take-written}
use Rattle.chain_script.proofs.caller.put_answer.Goals as goal

pub returns-in-Some-clause-says : goal.returns-in-Some-clause-says
returns-in-Some-clause-says c =
    let called = c.make_call.ensures.step in
    let len : length c.call_of.new.buffer ≡ c.args.buffers.now.bytes.len = omega arith in
    let same = take-written _ c.call_of.new.buffer c.args.buffers.now.bytes.items len in (
      chain_answer_text (Some called.0),
      (
        Some called.0,
        (request_of c.in-Some.call c.call_of.new.buffer, c.in-Some.ensures.call, rw same at called.1),
        refl,
      ),
      called.2,
    )

pub returns-in-None-clause-says : goal.returns-in-None-clause-says
returns-in-None-clause-says c =
    (chain_answer_text None, (None, (c.in-None.ensures.call, refl), refl), c.append.ensures.items)
