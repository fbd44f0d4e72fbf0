use Rattle.std.proofs.Common.{◌≡◌, ℕ, ◌+◌, ◌-◌, ◌≤◌, ◌++◌, List, length, drop, replicate, arith, ap, sym, ◌∙◌, append-nil}
use Rattle.std.proofs.lemmas.List.{length-append, length-drop, length-replicate}
use Rattle.std.proofs.lemmas.Result.{err_from_is_err_and}
use Rattle.mbuf_chain.specs.Chain.{Entry, ChainView, PoolView, chain_of, flat_bytes}
use Rattle.mbuf_chain.proofs.Laws.Owners.{shown_with, kept_with}
use Rattle.mbuf_chain.proofs.Laws.Steps.{live_shown}
use Rattle.chain_ops.specs.Writes.{is_writable, overlaid, in_plain, tail_of}
use Rattle.chain_ops.proofs.Laws.Makes.{makes_new, makes_in_place, makes_kept}
use Rattle.mbuf_chain.proofs.Laws.Two.{two_new, two_first, two_linked}
use Rattle.chain_ops.proofs.Writes.{in_plain-none, in_plain_bytes, plain_counts, copied_back_bytes}
use Rattle.chain_ops.proofs.copyback.m_copyback.Goals as goal

-- if the range is within the chain, there is no tail
inside : (n off : ℕ) (xs : List ℕ) → off + length xs ≤ n → length (tail_of n off xs) ≡ 0
inside n off xs h =
    omega (
      arith,
      h,
      length-append (replicate (off - n) 0) (drop (n - off) xs),
      length-replicate {A = ℕ} (off - n) 0,
      length-drop (n - off) xs,
    )

pub returns-then-end-len-clause-ok : goal.returns-then-end-len-clause-ok
returns-then-end-len-clause-ok c =
    let v : ChainView = chain_of c.args.pool.now c.args.chain.now in
    let es : List Entry = overlaid v.entries c.args.off c.args.bytes.now in
    let m =
    makes_in_place c.args.pool.now c.overlay.new.pool c.args.chain.now (record v { entries = es }) c.overlay.ensures in
    record {
      adds = m.adds;
      front = m.front;
      entries = m.entries ∙ sym (append-nil es)
          ∙ ap (λ (fs : List Entry). es ++ fs)
          (sym (in_plain-none _ (inside (length (flat_bytes v.entries)) c.args.off c.args.bytes.now
          (omega (arith, c.if-end-len.true, c.len-len.ensures)))));
    }

pub returns-then-end-len-clause-string : goal.returns-then-end-len-clause-string
returns-then-end-len-clause-string c =
    ap flat_bytes (returns-then-end-len-clause-ok c).entries ∙ copied_back_bytes _ c.args.off c.args.bytes.now

pub overlay-requires-2-clause-live : goal.overlay-requires-2-clause-live
overlay-requires-2-clause-live c = let two = two_new c.args.chain.now c.requires.live c.in_ok-tail.ensures.ok.adds in
    two.live_first

pub overlay-requires-2-clause-writable : goal.overlay-requires-2-clause-writable
overlay-requires-2-clause-writable c =
    let rest : List ℕ = replicate c.saturating_sub-2.result 0 ++ c.after-rest.result.now in
    (λ j. is_writable (λ n. plain_counts rest n c.in_ok-tail.ensures.ok j)
    (makes_kept c.args.chain.now c.in_ok-tail.ensures.ok c.requires.live j).entries c.args.off
    (length c.args.bytes.now))
    ∙ c.requires.writable

pub last-last-requires : goal.last-last-requires
last-last-requires c = live_shown _ _ _ _ c.overlay-2.ensures

pub link_counted-requires-clause-back : goal.link_counted-requires-clause-back
link_counted-requires-clause-back c =
    let two =
    two_first c.overlay-2.new.pool _ (two_new c.args.chain.now c.requires.live c.in_ok-tail.ensures.ok.adds)
    c.overlay-2.ensures in
    two.live_second

pub link_counted-requires-clause-len : goal.link_counted-requires-clause-len
link_counted-requires-clause-len c =
    let two = two_new c.args.chain.now c.requires.live c.in_ok-tail.ensures.ok.adds in
    let xs : List ℕ = c.after-rest.result.now in
    let z : ℕ = c.saturating_sub-2.result in
    let kept =
    kept_with c.new_tail.new.pool c.overlay-2.new.pool c.args.chain.now _ c.in_ok-tail.tail c.overlay-2.ensures
    (λ e. two.apart (sym e)) in
    let bytes =
    ap (λ (v : ChainView). length (flat_bytes v.entries)) kept
    ∙ ap (λ (es : List Entry). length (flat_bytes es)) c.in_ok-tail.ensures.ok.entries
    ∙ ap (λ (ys : List ℕ). length ys) (in_plain_bytes (replicate z 0 ++ xs)) in
    omega (
      arith,
      bytes,
      length-append (replicate z 0) xs,
      length-replicate {A = ℕ} z 0,
      ap (λ (ys : List ℕ). length ys) c.after-rest.ensures,
      length-drop c.saturating_sub.result c.args.bytes.now,
      c.saturating_sub.ensures,
      c.saturating_sub-2.ensures,
      c.if-end-len.false,
    )

pub returns-clause-ok : goal.returns-clause-ok
returns-clause-ok c =
    let k : ℕ = c.args.chain.now in
    let v : ChainView = chain_of c.args.pool.now k in
    let q : PoolView = c.new_tail.new.pool in
    let r : PoolView = c.overlay-2.new.pool in
    let s : PoolView = c.link_counted.new.self in
    let d : ℕ = c.in_ok-tail.tail in
    let off : ℕ = c.args.off in
    let xs : List ℕ = c.args.bytes.now in
    let two = two_new k c.requires.live c.in_ok-tail.ensures.ok.adds in
    let two' = two_first r _ two c.overlay-2.ensures in
    let m = makes_new (two_linked s _ two' c.link_counted.ensures.change) in
    let shown = shown_with _ s _ _ c.link_counted.ensures.change in
    let front = shown_with q r k _ c.overlay-2.ensures in
    let was = makes_kept k c.in_ok-tail.ensures.ok c.requires.live in
    let back = kept_with q r k _ d c.overlay-2.ensures (λ e. two.apart (sym e)) in
    let gap : c.saturating_sub-2.result ≡ off - length (flat_bytes v.entries) =
    c.saturating_sub-2.ensures ∙ ap (λ (n : ℕ). off - n) c.len-len.ensures in
    let rest : c.after-rest.result.now ≡ drop (length (flat_bytes v.entries) - off) xs =
    c.after-rest.ensures ∙ ap (λ (n : ℕ). drop n xs)
    (c.saturating_sub.ensures ∙ ap (λ (n : ℕ). n - off) c.len-len.ensures) in
    record {
      adds = m.adds;
      front =
          ap (λ (x : ChainView). x.front) shown ∙ ap (λ (x : ChainView). x.front) front
          ∙ ap (λ (x : ChainView). x.front) was;
      entries = ap (λ (x : ChainView). x.entries) shown
          ∙ (λ j. (front j).entries ++ (back j).entries)
          ∙ (λ j. overlaid (was j).entries off xs ++ c.in_ok-tail.ensures.ok.entries j)
          ∙ (λ j. overlaid v.entries off xs ++ in_plain (replicate (gap j) 0 ++ rest j));
    }

pub returns-clause-string : goal.returns-clause-string
returns-clause-string c =
    ap flat_bytes (returns-clause-ok c).entries ∙ copied_back_bytes _ c.args.off c.args.bytes.now

pub returns-in_err-tail-clause-ok : goal.returns-in_err-tail-clause-ok
returns-in_err-tail-clause-ok c = rw (err_from_is_err_and c.from_residual.result c.from_residual.ensures.1).1 tt

pub returns-in_err-tail-clause-string : goal.returns-in_err-tail-clause-string
returns-in_err-tail-clause-string c = rw (err_from_is_err_and c.from_residual.result c.from_residual.ensures.1).1 tt

pub returns-in_err-tail-clause-enough : goal.returns-in_err-tail-clause-enough
returns-in_err-tail-clause-enough c = rw (err_from_is_err_and c.from_residual.result c.from_residual.ensures.1).1 tt
