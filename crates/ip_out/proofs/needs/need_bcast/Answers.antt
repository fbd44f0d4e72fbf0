use Rattle.std.proofs.Common.{◌≡◌, ◌*◌, arith, ap}
use Rattle.flat_model.specs.declared.need.Need.{Need}
use Rattle.flat_model.specs.Amounts.Layout.{need_bcast}
use Rattle.ip_out.proofs.Counting.{need_whole}
use Rattle.ip_out.proofs.needs.need_bcast.Goals as goal

pub returns : goal.returns
returns c =
    let mbufs : 2 * c.count-need.result.mbufs ≡ (need_bcast c.args.n).mbufs =
    omega (arith, ap (λ (x : Need). x.mbufs) c.count-need.ensures.need, need_whole c.args.n c.requires) in
    let clusters : c.count-need.result.clusters ≡ (need_bcast c.args.n).clusters =
    ap (λ (x : Need). x.clusters) c.count-need.ensures.need in
    λ i. record { mbufs = mbufs i; clusters = clusters i }
