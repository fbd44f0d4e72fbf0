use Rattle.std.proofs.Common.{List, subst}
use Rattle.flat_ether.specs.Hosts.{HostAct}
use Rattle.flat_ether.specs.Laws.{AreAmongHosts}
use Rattle.segment.specs.EtherLaw.{acts_of}
use Rattle.segment.specs.Segment.{no_hosts}
use Rattle.segment.proofs.EtherHosts.{among}
use Rattle.segment.proofs.laws.hosts_on_an_ether_segment.Goals as goal

pub returns-clause-received : goal.returns-clause-received
returns-clause-received a room i j first second s t acts last done before after fd most sender bytes w is from =
    let both = among room i j first second s t acts last done w in (
      both.0,
      both.1,
      a.any_hosts_on_an_ethernet.ensures.received first second both.0 both.1 (acts_of i (no_hosts room) acts last done)
          before after s t fd most sender bytes
          (subst (λ (came : List HostAct). AreAmongHosts first second both.0 both.1
          (acts_of i (no_hosts room) acts last done) came s t) is both.2) from,
    )

pub returns-clause-waits : goal.returns-clause-waits
returns-clause-waits a room i j first second s t acts last done socket datagram w in_sockets in_queue from =
    let both = among room i j first second s t acts last done w in (
      both.0,
      a.any_hosts_on_an_ethernet.ensures.waits first second both.0 both.1 (acts_of i (no_hosts room) acts last done)
          (acts_of j (no_hosts room) acts last done) s t socket datagram both.2 in_sockets in_queue from,
    )
