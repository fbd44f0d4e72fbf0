-- paced_hosts
-- Sends that are paced are near.
use Rattle.flat_ether.specs.Ever.{turns_of_acts}
use Rattle.callers.proofs.laws_on_a_wire.paced_hosts.Goals as goal

pub returns : goal.returns
returns a c d l m sent came s t born made life pace socket datagram w in_sockets in_queue from =
    a.hosts_on_an_ethernet_for_ever.ensures.waits c d l m sent came s t born socket datagram (record {
      first_boots = w.first_boots;
      second_boots = w.second_boots;
      first_acts = w.first_acts;
      second_acts = w.second_acts;
      not_addr = w.not_addr;
      not_bcast = w.not_bcast;
      wire = w.wire;
      near = a.pace_law.ensures c.addr (turns_of_acts d m.mac came) born made life pace w.paced;
    }) in_sockets in_queue from
