use Rattle.std.proofs.Common.{◌≡◌, ◌<◌, [], length, arith, refl, append-nil}
use Rattle.std.proofs.lemmas.Result.{err_from_is_err_and}
use Rattle.script_loop.proofs.ServeLemmas.{Answered-start, Moves-then, Serves-stop, Serves-last, chunk-fault}
use Rattle.script_loop.proofs.Laws.{Moves-none}
use Rattle.script_loop.proofs.StreamLemmas.{MoreBy-none, MoreBy-then}
use Rattle.script_loop.proofs.serve.serve_within.Goals as goal

pub chunks-init : goal.chunks-init
chunks-init g c = record {
  empty = c.requires.text;
  within = record { count = omega arith; short = rw c.requires.line (omega arith) };
  read = MoreBy-none _;
  wrote = MoreBy-none _;
  served = ([], [], Moves-none _ _, rw c.requires.line (Answered-start _ _));
}

pub returns-in_err-count-in-Ok-clause-served : goal.returns-in_err-count-in-Ok-clause-served
returns-in_err-count-in-Ok-clause-served g c =
    let p = err_from_is_err_and c.from_residual.result c.from_residual.ensures.1 in
    let kept = c.chunks.invariant.served in
    rw (p.1, p.2)
    (Serves-stop _ _ _ _ _ _ _ _ _ _ _ _ c.take_chunk.new.line _ kept.2 c.in-Ok.ensures.bytes.0
    (c.in_err-count-in-Ok.ensures.taken _ _ _ kept.3))

pub chunks-preserved : goal.chunks-preserved
chunks-preserved g c =
    let kept = c.chunks.invariant.served in
    let taken = c.in_ok-count-in-Ok.ensures.taken _ _ _ kept.3 in record {
      empty = c.in_ok-count-in-Ok.ensures.empty;
      within = c.in_ok-count-in-Ok.ensures.within;
      read = MoreBy-then 0 0 0 _ _ _ (omega arith) c.chunks.invariant.read c.in-Ok.ensures.count;
      wrote = MoreBy-then 0 0 0 _ _ _ (omega arith) c.chunks.invariant.wrote c.in_ok-count-in-Ok.ensures.counted;
      served =
          (_, _, Moves-then _ _ _ _ _ _ _ _ _ _ kept.2 c.in-Ok.ensures.bytes.0 taken.1, rw (append-nil _) at taken.2);
    }

pub returns-clause-served : goal.returns-clause-served
returns-clause-served g c =
    let kept = c.chunks.invariant.served in
    let zero : c.in-Ok-eq0.field-0 ≡ 0 = omega arith in
    let read = rw zero at c.in-Ok-eq0.ensures.bytes in
    let room : 0 < length c.read_some.new.buf = omega arith in
    let sent = c.answer_line.ensures.sent in
    Serves-last _ _ _ _ _ _ _ _ _ _ _ c.chunks.line _ _ sent.0 _ kept.2 read.0 (read.1 refl room) kept.3
    (λ e. cc (c.if-is_empty.ensures.1 e))
    (rw c.as_slice.ensures at sent.1) sent.2

pub returns-in_err-count-in-Ok-clause-read : goal.returns-in_err-count-in-Ok-clause-read
returns-in_err-count-in-Ok-clause-read g c =
    let p = err_from_is_err_and c.from_residual.result c.from_residual.ensures.1 in
    let fault =
    chunk-fault _ _ _ _ _ _ _ _ c.take_chunk.new.line _
    (c.in_err-count-in-Ok.ensures.taken _ _ _ c.chunks.invariant.served.3) in
    rw (p.1, p.2, fault.0) (MoreBy-then 0 0 0 _ _ _ (omega arith) c.chunks.invariant.read c.in-Ok.ensures.count)

pub returns-in_err-count-in-Ok-clause-wrote : goal.returns-in_err-count-in-Ok-clause-wrote
returns-in_err-count-in-Ok-clause-wrote g c =
    let p = err_from_is_err_and c.from_residual.result c.from_residual.ensures.1 in
    rw (p.1, p.2) (MoreBy-then 0 _ _ _ _ _ (omega arith) c.chunks.invariant.wrote c.in_err-count-in-Ok.ensures.counted)

pub returns-in_err-count-in-Ok-clause-started : goal.returns-in_err-count-in-Ok-clause-started
returns-in_err-count-in-Ok-clause-started g c =
    let p = err_from_is_err_and c.from_residual.result c.from_residual.ensures.1 in
    let fault =
    chunk-fault _ _ _ _ _ _ _ _ c.take_chunk.new.line _
    (c.in_err-count-in-Ok.ensures.taken _ _ _ c.chunks.invariant.served.3) in
    rw (p.1, p.2) fault.1
