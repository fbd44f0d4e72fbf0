-- The meaning of C's structs (this project's own).
use Rattle.std.specs.Prelude.{ℕ, Bool, if◌then◌else◌, unwrap_or, Option, Some, None, Result, Ok, Err}
use Rattle.flat_model.specs.declared.address.Addr.{Addr}
use Rattle.flat_model.specs.declared.config.Config.{Config}
use Rattle.flat_model.specs.declared.counters.Why.{Why}
use Rattle.flat_model.specs.declared.fate.Fate.{Fate}
use Rattle.flat_model.specs.declared.fate.Fate.TheVariants.{Delivered, Kept, Completed, Dropped}
use Rattle.flat_model.specs.declared.fate.Reached.{Reached}
use Rattle.flat_model.specs.declared.usage.Mbstat.{Mbstat}
use Rattle.flat_model.specs.Machine.Count.{counter_of, counter_place}
use Rattle.ip_reass.specs.declared.questions.HeldRange.{HeldRange}
use Rattle.ip_reass.specs.declared.questions.UnfinishedDatagram.{UnfinishedDatagram}
use Rattle.sock_calls.specs.declared.questions.SocketName.{SocketName}
use Rattle.sock_calls.specs.declared.questions.NextDatagram.{NextDatagram}
use Rattle.libbsdudp.specs.declared.plain.CAddr.{CAddr}
use Rattle.libbsdudp.specs.declared.plain.CConfig.{CConfig}
use Rattle.libbsdudp.specs.declared.plain.CFate.{CFate}
use Rattle.libbsdudp.specs.declared.plain.CMbstat.{CMbstat}
use Rattle.libbsdudp.specs.declared.plain.CName.{CName}
use Rattle.libbsdudp.specs.declared.plain.CNext.{CNext}
use Rattle.libbsdudp.specs.declared.plain.CRange.{CRange}
use Rattle.libbsdudp.specs.declared.plain.CUnfinished.{CUnfinished}

abbrev pub config_of : CConfig → Config
config_of c =
    record {
      addr = c.addr;
      bcast = c.bcast;
      mtu = c.mtu;
      mbufs = c.mbufs;
      clusters = c.clusters;
      first_id = c.first_id;
    }

abbrev pub addr_of : CAddr → Addr
addr_of a = record { ip = a.ip; port = a.port }

abbrev pub whom : Addr → CAddr
whom a = record { ip = a.ip; port = a.port }

abbrev pub c_usage : Mbstat → CMbstat
c_usage m =
    record {
      free_mbufs = m.free_mbufs;
      mbufs = m.mbufs;
      free_clusters = m.free_clusters;
      clusters = m.clusters;
      refs = m.refs;
      most = m.most;
    }

-- 1 for yes
abbrev pub flag_number : Bool → ℕ
flag_number b = if b then 1 else 0

-- 0 for a field that is unset
abbrev pub c_name : SocketName → CName
c_name n =
    let peer : Addr = unwrap_or n.peer (record { ip = 0; port = 0 }) in
    record {
      local_ip = unwrap_or n.local 0;
      peer_ip = peer.ip;
      local_port = unwrap_or n.port 0;
      peer_port = peer.port;
      broadcast = flag_number n.broadcast;
      reuse_port = flag_number n.reuse_port;
    }

abbrev pub c_next : NextDatagram → CNext
c_next n = record { ip = n.sender.ip; port = n.sender.port; len = n.len; waiting = n.waiting }

abbrev pub c_unfinished : UnfinishedDatagram → CUnfinished
c_unfinished d =
    record {
      source = d.key.source;
      destination = d.key.destination;
      bytes = d.bytes;
      ranges = d.ranges;
      id = d.key.id;
      protocol = d.key.protocol;
      ticks = d.ticks;
    }

abbrev pub c_range : HeldRange → CRange
c_range r = record { offset = r.offset; len = r.len; more = flag_number r.more }

-- this kind, without sockets and without a cause
abbrev pub c_plain : ℕ → CFate
c_plain kind = record { got = 0; lost = 0; cause = 0; kind = kind; completed = 0 }

-- What became of a whole datagram: it was delivered (1) with the sockets that got it and lost it, or dropped (3) with
-- the number of the counter of its cause. The first number says whether a fragment completed it.
abbrev pub c_whole : ℕ → Result Reached Why → CFate
c_whole completed (Ok reached) =
    record { got = reached.got; lost = reached.lost; cause = 0; kind = 1; completed = completed }
c_whole completed (Err why) =
    record { got = 0; lost = 0; cause = counter_place (counter_of why); kind = 3; completed = completed }

-- what became of a packet; a fragment that is kept is 2
abbrev pub c_fate : Fate → CFate
c_fate (Delivered reached) = c_whole 0 (Ok reached)
c_fate Kept = c_plain 2
c_fate (Completed whole) = c_whole 1 whole
c_fate (Dropped why) = c_whole 0 (Err why)

-- what became of the packet in a frame; 0 if the stack got none
abbrev pub c_frame_fate : Option Fate → CFate
c_frame_fate None = c_plain 0
c_frame_fate (Some fate) = c_fate fate
