use Rattle.std.proofs.Common.{◌≡◌, length}
use Rattle.flat_ether.specs.Links.{reports_expired}
use Rattle.ether_host.specs.Expired.{told_keys}
use Rattle.ether_host.specs.Inside.{link_seen}
use Rattle.ether_host.proofs.layer.LinkLayer.report_expired.Given as goal

abbrev pub invariant-loop-rest : goal.invariant-loop-rest
invariant-loop-rest l =
    reports_expired (told_keys l.rest) (link_seen l.self)
    ≡ reports_expired (told_keys l.expired) (link_seen l.fn.self)

abbrev pub decreases-loop-rest : goal.decreases-loop-rest
decreases-loop-rest l = length l.rest
