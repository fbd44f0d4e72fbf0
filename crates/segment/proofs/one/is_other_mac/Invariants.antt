use Rattle.std.proofs.Common.{◌≡◌, length, map}
use Rattle.std.specs.List.{list_all}
use Rattle.ether_host.specs.Inside.{link_seen}
use Rattle.segment.specs.Frames.{other_mac}
use Rattle.segment.proofs.one.is_other_mac.Given as goal

abbrev pub invariant-loop-rest : goal.invariant-loop-rest
invariant-loop-rest l =
    list_all (other_mac l.mac) (map link_seen l.rest) ≡ list_all (other_mac l.mac) (map link_seen l.links)

abbrev pub decreases-loop-rest : goal.decreases-loop-rest
decreases-loop-rest l = length l.rest
