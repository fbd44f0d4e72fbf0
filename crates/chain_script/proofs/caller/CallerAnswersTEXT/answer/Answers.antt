use Rattle.std.proofs.Common.{◌≡◌, length, arith}
use Rattle.arrayvec.specs.ArrayVec.{array_vec_len}
use Rattle.chain_script.proofs.SlotLemmas.{take-written}
use Rattle.chain_script.proofs.caller.CallerAnswersTEXT.answer.Goals as goal

pub returns : goal.returns
returns c =
    let len : length c.put_answer.new.chains ≡ array_vec_len c.args.self.now.chains = omega (arith, c.put_answer.ensures.slots.count) in
    rw (take-written _ c.put_answer.new.chains c.args.self.now.chains.items len)
    (rw c.as_mut_slice.ensures.value at c.put_answer.ensures.says)
