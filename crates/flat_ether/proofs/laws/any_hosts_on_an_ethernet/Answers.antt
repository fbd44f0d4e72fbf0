use Rattle.flat_ether.proofs.Others.{on_ethernet}
use Rattle.flat_ether.proofs.laws.any_hosts_on_an_ethernet.Goals as goal

pub returns-clause-received : goal.returns-clause-received
returns-clause-received a c d l m sent before after s t fd most sender bytes w from =
    a.hosts_on_an_ethernet.ensures.received c d l m sent before after s t fd most sender bytes
    (on_ethernet c d l m sent _ s t w) from

pub returns-clause-waits : goal.returns-clause-waits
returns-clause-waits a c d l m sent came s t socket datagram w in_sockets in_queue from =
    a.hosts_on_an_ethernet.ensures.waits c d l m sent came s t socket datagram
    (on_ethernet c d l m sent came s t w) in_sockets in_queue from
