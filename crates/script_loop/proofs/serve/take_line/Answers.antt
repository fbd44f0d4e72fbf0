use Rattle.std.proofs.Common.{◌++◌}
use Rattle.std.proofs.lemmas.Result.{err_from_is_err_and}
use Rattle.script_loop.proofs.ChunkLemmas.{Takes-no_room, Takes-too_far, Takes-too_far-cut}
use Rattle.script_loop.proofs.serve.take_line.Goals as goal

pub returns-in_err-make_room-in-Some-clause-taken : goal.returns-in_err-make_room-in-Some-clause-taken
returns-in_err-make_room-in-Some-clause-taken g c = λ begin seen written h.
    let p = err_from_is_err_and c.from_residual.result c.from_residual.ensures.1 in
    rw (p.1, p.2)
    (Takes-no_room g.A.Answers.may_answer begin _ seen c.take_end.new.line c.in-Some.now written c.args.text.now
    c.take_end.new.text c.make_room.new.text
    c.make_room.new.text c.take_end.new.line _ _ _ _
    (c.in-Some.ensures.taken begin seen (written ++ c.args.text.now) h) c.in_err-make_room-in-Some.ensures.flushed)

pub returns-in_err-flush-in-None-clause-taken : goal.returns-in_err-flush-in-None-clause-taken
returns-in_err-flush-in-None-clause-taken g c = λ begin seen written h.
    let p =
    err_from_is_err_and c.from_residual-in_err-flush-in-None.result c.from_residual-in_err-flush-in-None.ensures.1 in
    rw (p.1, p.2)
    (Takes-too_far-cut g.A.Answers.may_answer begin _ seen c.take_end.new.line written c.args.text.now
    c.take_end.new.text
    c.flush.new.text c.take_end.new.line _ _ _ _ h.within
    (c.in-None.ensures.taken begin seen (written ++ c.args.text.now) h) c.in_err-flush-in-None.ensures.sent)

pub returns-in_ok-flush-in-None-clause-taken : goal.returns-in_ok-flush-in-None-clause-taken
returns-in_ok-flush-in-None-clause-taken g c = λ begin seen written h.
    Takes-too_far g.A.Answers.may_answer begin _ seen c.take_end.new.line written c.args.text.now c.take_end.new.text
    c.flush.new.text c.take_end.new.line _ _ _ h.within
    (c.in-None.ensures.taken begin seen (written ++ c.args.text.now) h) c.in_ok-flush-in-None.ensures.sent

pub returns-in_err-make_room-in-Some-clause-within : goal.returns-in_err-make_room-in-Some-clause-within
returns-in_err-make_room-in-Some-clause-within g c =
    rw (err_from_is_err_and c.from_residual.result c.from_residual.ensures.1).1 tt

pub returns-in_err-make_room-in-Some-clause-room : goal.returns-in_err-make_room-in-Some-clause-room
returns-in_err-make_room-in-Some-clause-room g c =
    rw (err_from_is_err_and c.from_residual.result c.from_residual.ensures.1).1 tt

pub returns-in_err-make_room-in-Some-clause-fewer : goal.returns-in_err-make_room-in-Some-clause-fewer
returns-in_err-make_room-in-Some-clause-fewer g c =
    rw (err_from_is_err_and c.from_residual.result c.from_residual.ensures.1).1 tt

pub returns-in_err-flush-in-None-clause-within : goal.returns-in_err-flush-in-None-clause-within
returns-in_err-flush-in-None-clause-within g c =
    rw (err_from_is_err_and c.from_residual-in_err-flush-in-None.result
    c.from_residual-in_err-flush-in-None.ensures.1).1 tt

pub returns-in_err-flush-in-None-clause-room : goal.returns-in_err-flush-in-None-clause-room
returns-in_err-flush-in-None-clause-room g c =
    rw (err_from_is_err_and c.from_residual-in_err-flush-in-None.result
    c.from_residual-in_err-flush-in-None.ensures.1).1 tt

pub returns-in_err-flush-in-None-clause-fewer : goal.returns-in_err-flush-in-None-clause-fewer
returns-in_err-flush-in-None-clause-fewer g c =
    rw (err_from_is_err_and c.from_residual-in_err-flush-in-None.result
    c.from_residual-in_err-flush-in-None.ensures.1).1 tt
