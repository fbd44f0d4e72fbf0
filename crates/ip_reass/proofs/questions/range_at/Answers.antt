use Rattle.std.proofs.Common.{◌≡◌, ◌<◌, List, length, Some, ap, ◌∙◌, sym, arith}
use Rattle.flat_model.specs.Fragments.Overlay.{Fragment}
use Rattle.ip_reass.specs.Fragments.{fragments}
use Rattle.ip_reass.specs.Inside.Walks.{fragment_at}
use Rattle.ip_reass.specs.declared.questions.HeldRange.{HeldRange}
use Rattle.ip_reass.proofs.Ranges.{held_by, nth_past, nth_is}
use Rattle.ip_reass.proofs.Walks.{fragment_is, length-fragments, starts_at, more_at}
use Rattle.ip_reass.proofs.questions.range_at.Goals as goal

pub returns-then-k-len : goal.returns-then-k-len
returns-then-k-len c =
    let fs : List Fragment = fragments c.args.pool.now c.args.train.now in
    sym (nth_past fs c.args.k c.requires.apart c.requires.small
    (omega (
      arith,
      length-fragments c.args.pool.now c.args.train.now c.requires.held,
      c.len.ensures,
      c.if-k-len.true,
    )))

pub returns : goal.returns
returns c =
    let fs : List Fragment = fragments c.args.pool.now c.args.train.now in
    let within : c.args.k < c.args.train.now.len = omega (arith, c.len.ensures, c.if-k-len.false) in
    let offset =
    c.offset.ensures ∙ starts_at c.args.pool.now c.args.train.now c.args.k c.tag.result c.requires.held within
    c.tag.ensures in
    let len =
    c.chain_len.ensures ∙ ap (λ (f : Fragment). length f.bytes)
    (sym (fragment_is c.args.pool.now c.args.train.now c.args.k c.requires.held within)) in
    let more =
    c.more.ensures ∙ more_at c.args.pool.now c.args.train.now c.args.k c.tag.result c.requires.held within
    c.tag.ensures in
    let reported : HeldRange = record { offset = c.offset.result; len = c.chain_len.result; more = c.more.result } in
    let same : reported ≡ held_by (fragment_at fs c.args.k) =
    λ i. record { offset = offset i; len = len i; more = more i } in
    ap Some same ∙ sym (nth_is fs c.args.k c.requires.apart c.requires.small
    (omega (arith, within, length-fragments c.args.pool.now c.args.train.now c.requires.held)))
