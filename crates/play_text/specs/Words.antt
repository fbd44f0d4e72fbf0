-- Why a packet was dropped, in words (this project's own).
use Rattle.std.specs.Prelude.{ℕ, Bool, List, [], ◌∷◌, codes, nat_lt}
use Rattle.flat_model.specs.Machine.Count.{value_of}
use Rattle.flat_model.specs.declared.counter.Counter.{Counter}
use Rattle.flat_model.specs.declared.counters.Counters.{Counters}
use Rattle.flat_model.specs.declared.counters.Why.{Why}
use Rattle.flat_model.specs.declared.counters.Why.TheVariants.{TooSmall, BadVersion, BadHeaderLength, Options, BadSum, BadLength, TooShort, CantForward, BadFragment, FragmentDropped, NoProtocol, UdpHeaderDrops, UdpBadLength, UdpBadSum, UdpNoPort, UdpNoPortBroadcast, UdpFullSocket, NoBufs}

abbrev pub cause_words : Why → List ℕ
cause_words TooSmall = codes "packet shorter than a header"
cause_words BadVersion = codes "wrong version"
cause_words BadHeaderLength = codes "header length too small"
cause_words Options = codes "options are not taken"
cause_words BadSum = codes "wrong header checksum"
cause_words BadLength = codes "total length too small"
cause_words TooShort = codes "packet shorter than its total length"
cause_words CantForward = codes "not addressed to this machine"
cause_words BadFragment = codes "malformed fragment"
cause_words FragmentDropped = codes "fragment held already"
cause_words NoProtocol = codes "unknown protocol"
cause_words UdpHeaderDrops = codes "datagram shorter than a header"
cause_words UdpBadLength = codes "wrong datagram length"
cause_words UdpBadSum = codes "wrong datagram checksum"
cause_words UdpNoPort = codes "no socket has the port"
cause_words UdpNoPortBroadcast = codes "no socket has the port of the broadcast"
cause_words UdpFullSocket = codes "receive queue full"
cause_words NoBufs = codes "no buffer space available"

-- in the order of the tests
abbrev pub all_causes : List Why
all_causes =
    TooSmall
    ∷ BadVersion
    ∷ BadHeaderLength
    ∷ Options
    ∷ BadSum
    ∷ BadLength
    ∷ TooShort
    ∷ CantForward
    ∷ BadFragment
    ∷ FragmentDropped
    ∷ NoProtocol
    ∷ UdpHeaderDrops
    ∷ UdpBadLength
    ∷ UdpBadSum
    ∷ UdpNoPort
    ∷ UdpNoPortBroadcast
    ∷ UdpFullSocket
    ∷ NoBufs
    ∷ []

-- a counter went up
abbrev pub rose : Counter → Counters → Counters → Bool
rose counter before after = nat_lt (value_of counter before) (value_of counter after)
