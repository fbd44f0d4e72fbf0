use Rattle.std.proofs.Common.{◌≡◌, ℕ, ◌-◌, ◌<◌, Bool, true, false, length, is_some, arith, ap, sym, refl, ◌∙◌}
use Rattle.std.proofs.lemmas.Result.{IfOk-weaker}
use Rattle.mbuf_chain.specs.declared.place.Segment.{Segment}
use Rattle.mbuf_chain.specs.Chain.{Adds, ChainView, Entry, PoolView, alone, entry_in}
use Rattle.chain_ops.specs.Makes.{Makes}
use Rattle.chain_ops.specs.Splits.{rest_of}
use Rattle.chain_ops.proofs.Laws.Makes.{makes_new, makes_as}
use Rattle.chain_ops.proofs.Splits.{rest-empty, rest-shared, rest-copy, rest-end}
use Rattle.chain_ops.proofs.split.new_head.Goals as goal
use Rattle.chain_ops.proofs.split.new_head.Goals.{After-segment-segment}

header_is : (h : Bool) (off len n : ℕ) → (h ≡ false → off < len) → n ≡ len - off → n ≡ 0 → h ≡ true
header_is true off len n some is z = refl
header_is false off len n some is z = absurd (omega (arith, some refl))

cluster_is : (x : Segment) (start len : ℕ) (o : Rattle.std.proofs.Common.Option ℕ) (b t : Bool)
    → x ≡ record { start = start; len = len; cluster = o } → b ≡ is_some x.cluster → b ≡ t → is_some o ≡ t
cluster_is x start len o b t is test now = ap (λ (y : Segment). is_some y.cluster) (sym is) ∙ sym test ∙ now

-- the bytes of the mbuf that are left
left : (c : After-segment-segment) → c.segment-segment.result.len - c.args.off
    ≡ length (entry_in c.args.pool.now c.args.chain.now c.args.at).bytes - c.args.off
left c = ap (λ (x : Segment). x.len - c.args.off) c.segment-segment.ensures.value

-- a new chain is the one that is wanted, if it has these entries with the packet header that is asked for
made : {p q : PoolView} {d : ℕ} {v : ChainView} (h b : Bool) (e : Entry) (off : ℕ) → h ≡ b → Adds p q d v
    → v.front ≡ alone b → rest_of b e off ≡ v.entries → Makes p q d (alone h) (rest_of h e off)
made {p} h b e off is a front entries =
    makes_as p (alone h) (rest_of h e off) (makes_new a) refl (front ∙ ap alone (sym is))
    (sym (ap (λ (x : Bool). rest_of x e off) is ∙ entries))

pub returns-then-n-eq0-clause-ok : goal.returns-then-n-eq0-clause-ok
returns-then-n-eq0-clause-ok c =
    let is = left (goal.at.returns-then-n-eq0-clause-ok c).After-segment-segment in
    IfOk-weaker c.new_chain.result _ _
    (λ d a. made c.args.header true _ c.args.off
    (header_is c.args.header c.args.off _ _ c.requires.some is c.if-n-eq0.true) a refl
    (rest-empty _ c.args.off _ is c.if-n-eq0.true)) c.new_chain.ensures.ok

pub returns-then-is_some-clause-ok : goal.returns-then-is_some-clause-ok
returns-then-is_some-clause-ok c =
    IfOk-weaker c.new_shared.result _ _
    (λ d a. made c.args.header c.args.header _ c.args.off refl a refl
    (rest-shared _ c.args.off _ (left (goal.at.returns-then-is_some-clause-ok c).After-segment-segment) c.args.header
    (omega (arith, c.if-n-eq0.false))
    (cluster_is _ _ _ _ _ true c.segment-segment.ensures.value c.is_some.ensures c.if-is_some.true)))
    c.new_shared.ensures.ok

pub returns-then-not-header-clause-ok : goal.returns-then-not-header-clause-ok
returns-then-not-header-clause-ok c =
    IfOk-weaker c.new_copy.result _ _
    (λ d a. made c.args.header false _ c.args.off c.if-not-header.true a refl
    (rest-copy _ c.args.off _ (left (goal.at.returns-then-not-header-clause-ok c).After-segment-segment)
    (omega (arith, c.if-n-eq0.false))
    (cluster_is _ _ _ _ _ false c.segment-segment.ensures.value c.is_some.ensures c.if-is_some.false)))
    c.new_copy.ensures.ok

pub returns-then-n-le-MHLEN-clause-ok : goal.returns-then-n-le-MHLEN-clause-ok
returns-then-n-le-MHLEN-clause-ok c =
    IfOk-weaker c.new_end.result _ _
    (λ d a. made c.args.header true _ c.args.off c.if-not-header.false a refl
    (rest-end _ c.args.off _ (left (goal.at.returns-then-n-le-MHLEN-clause-ok c).After-segment-segment)
    (omega (arith, c.if-n-eq0.false))
    (cluster_is _ _ _ _ _ false c.segment-segment.ensures.value c.is_some.ensures c.if-is_some.false)
    c.if-n-le-MHLEN.true)) c.new_end.ensures.ok
