-- The counters (`ipstat` and `udpstat` of volume 2, chapters 8 and 23, in this project's own selection). They have 64
-- bits. A counter at its greatest value stays there.
use Rattle.std.specs.Prelude.{ℕ, ◌+◌, ◌-◌, ◌^◌, ◌==◌, if◌then◌else◌, min, List, [], ◌∷◌, map, replicate, slice_index, codes}
use denote.Enum.Declared.{tag_of}
use Rattle.flat_model.specs.contracts.counter.Counter.{the_type}
use Rattle.flat_model.specs.declared.counter.TheConstants.{COUNTERS}
use Rattle.flat_model.specs.declared.counter.Counter.{Counter}
use Rattle.flat_model.specs.declared.counter.Counter.TheVariants.{IpTotal, IpToosmall, IpBadvers, IpBadhlen, IpOptions, IpBadsum, IpBadlen, IpTooshort, IpCantforward, IpBadfrag, IpFragments, IpFragdropped, IpFragtimeout, IpReclaimed, IpReassembled, IpNoproto, UdpHdrops, UdpBadlen, UdpBadsum, UdpNoport, UdpNoportbcast, UdpFullsock, IpLocalout, IpFragmented, OutDropped, Nobufs}
use Rattle.flat_model.specs.declared.counters.Counters.{Counters}
use Rattle.flat_model.specs.declared.counters.Why.{Why}
use Rattle.flat_model.specs.declared.counters.Why.TheVariants.{TooSmall, BadVersion, BadHeaderLength, Options, BadSum, BadLength, TooShort, CantForward, BadFragment, FragmentDropped, NoProtocol, UdpHeaderDrops, UdpBadLength, UdpBadSum, UdpNoPort, UdpNoPortBroadcast, UdpFullSocket, NoBufs}

-- a counter that counts k more
abbrev pub more_by : ℕ → ℕ → ℕ
more_by k n = min (n + k) (2 ^ 64 - 1)

-- ---- the counters

-- each counter with the name by which it is printed, in the order of printing
abbrev pub named_counters : List (Counter × List ℕ)
named_counters =
    (IpTotal, codes "ip.total")
    ∷ (IpToosmall, codes "ip.toosmall")
    ∷ (IpBadvers, codes "ip.badvers")
    ∷ (IpBadhlen, codes "ip.badhlen")
    ∷ (IpOptions, codes "ip.options")
    ∷ (IpBadsum, codes "ip.badsum")
    ∷ (IpBadlen, codes "ip.badlen")
    ∷ (IpTooshort, codes "ip.tooshort")
    ∷ (IpCantforward, codes "ip.cantforward")
    ∷ (IpBadfrag, codes "ip.badfrag")
    ∷ (IpFragments, codes "ip.fragments")
    ∷ (IpFragdropped, codes "ip.fragdropped")
    ∷ (IpFragtimeout, codes "ip.fragtimeout")
    ∷ (IpReclaimed, codes "ip.reclaimed")
    ∷ (IpReassembled, codes "ip.reassembled")
    ∷ (IpNoproto, codes "ip.noproto")
    ∷ (UdpHdrops, codes "udp.hdrops")
    ∷ (UdpBadlen, codes "udp.badlen")
    ∷ (UdpBadsum, codes "udp.badsum")
    ∷ (UdpNoport, codes "udp.noport")
    ∷ (UdpNoportbcast, codes "udp.noportbcast")
    ∷ (UdpFullsock, codes "udp.fullsock")
    ∷ (IpLocalout, codes "ip.localout")
    ∷ (IpFragmented, codes "ip.fragmented")
    ∷ (OutDropped, codes "out.dropped")
    ∷ (Nobufs, codes "nobufs")
    ∷ []

-- in the order of printing
abbrev pub all_counters : List Counter
all_counters = map (λ entry. entry.0) named_counters

-- the index of a counter in the order of the type's declaration
abbrev pub counter_place : Counter → ℕ
counter_place = tag_of the_type

-- the name of a counter in a list
abbrev pub name_in : List (Counter × List ℕ) → Counter → List ℕ
name_in [] counter = []
name_in (entry ∷ entries) counter =
    if counter_place entry.0 == counter_place counter then entry.1 else name_in entries counter

abbrev pub counter_name : Counter → List ℕ
counter_name = name_in named_counters

-- ---- their values

-- all counters are 0
abbrev pub no_counts : Counters
no_counts = record { values = replicate COUNTERS 0 }

-- the value of a counter
abbrev pub value_of : Counter → Counters → ℕ
value_of counter c = slice_index c.values (counter_place counter)

-- the counter grows by k, and every other counter keeps its value
abbrev pub counts_more : Counter → ℕ → Counters → Counters
counts_more counter k c = record {
  values =
      map (λ other. if counter_place other == counter_place counter then more_by k (value_of other c)
      else value_of other c)
      all_counters;
}

-- ---- the causes with which a packet ends

abbrev pub counter_of : Why → Counter
counter_of TooSmall = IpToosmall
counter_of BadVersion = IpBadvers
counter_of BadHeaderLength = IpBadhlen
counter_of Options = IpOptions
counter_of BadSum = IpBadsum
counter_of BadLength = IpBadlen
counter_of TooShort = IpTooshort
counter_of CantForward = IpCantforward
counter_of BadFragment = IpBadfrag
counter_of FragmentDropped = IpFragdropped
counter_of NoProtocol = IpNoproto
counter_of UdpHeaderDrops = UdpHdrops
counter_of UdpBadLength = UdpBadlen
counter_of UdpBadSum = UdpBadsum
counter_of UdpNoPort = UdpNoport
counter_of UdpNoPortBroadcast = UdpNoportbcast
counter_of UdpFullSocket = UdpFullsock
counter_of NoBufs = Nobufs

-- one more packet, or one receiver's copy of one, ended for this cause
unfoldable pub counted : Why → Counters → Counters
counted why c = counts_more (counter_of why) 1 c
