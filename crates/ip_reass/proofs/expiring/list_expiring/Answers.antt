use Rattle.std.proofs.Common.{◌≡◌, ◌+◌, ◌<◌, ◌≤◌, List, [], ◌∷◌, set, length, sym, ap, subst, ◌∙◌, arith}
use Rattle.flat_model.specs.Machine.State.{Unfinished}
use Rattle.ip_reass.specs.Expiring.{IsListed, to_expired}
use Rattle.ip_reass.specs.Table.{unfinished_of}
use Rattle.ip_reass.specs.declared.expiring.Expired.{Expired}
use Rattle.ip_reass.proofs.Expiries.{listed_none, listed_one, listed_past, none_expired, one_expired}
use Rattle.ip_reass.proofs.expiring.list_expiring.Goals as goal

pub has_first-requires : goal.has_first-requires
has_first-requires c = c.requires.pieces.queue

pub returns-then-datagram-gt1 : goal.returns-then-datagram-gt1
returns-then-datagram-gt1 c =
    let u : Unfinished = unfinished_of c.args.pool.now c.args.datagram.now in
    subst (λ (xs : List Expired). IsListed c.args.list.now c.args.count xs c.args.list.now c.args.count)
    (sym (none_expired u (omega (arith, c.if-datagram-gt1.true)))) (listed_none c.args.list.now c.args.count)

pub returns-then-count-list : goal.returns-then-count-list
returns-then-count-list c =
    let u : Unfinished = unfinished_of c.args.pool.now c.args.datagram.now in
    subst (λ (xs : List Expired). IsListed c.args.list.now c.args.count xs c.args.list.now (c.args.count + 1))
    (sym (one_expired u (omega (arith, c.if-datagram-gt1.false))))
    (listed_past c.args.list.now c.args.count (to_expired u) (omega (arith, c.if-count-list.true)))

pub returns : goal.returns
returns c =
    let u : Unfinished = unfinished_of c.args.pool.now c.args.datagram.now in
    let x : Expired = record { key = u.key; has_first = c.has_first.result } in
    let same : x ≡ to_expired u = λ i. record { key = u.key; has_first = c.has_first.ensures i } in
    let within : c.args.count < length c.args.list.now = omega (arith, c.if-count-list.false) in
    subst (λ (xs : List Expired). IsListed c.args.list.now c.args.count xs (set c.args.list.now c.args.count x)
    (c.args.count + 1))
    (sym (one_expired u (omega (arith, c.if-datagram-gt1.false)) ∙ ap (λ (y : Expired). y ∷ []) (sym same)))
    (listed_one c.args.list.now c.args.count x within)
