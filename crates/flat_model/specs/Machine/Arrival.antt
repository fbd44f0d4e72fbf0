-- What happens to a packet that arrives, from the wire or by loopback: `ipintr` (volume 2, chapter 8), `ip_reass`
-- (chapter 10), and `udp_input` (chapter 23). Every test of the ledger counts the state and also what the step holds:
-- the current item, and `held`.
use Rattle.std.specs.Prelude.{◌≡◌, ◌⊎◌, ℕ, ◌+◌, ◌≤◌, ◌%◌, Bool, ◌==◌, nat_lt, nat_le, ◌&&◌, ◌||◌, not, if◌then◌else◌, List, [], ◌∷◌, ◌++◌, take, drop, length, Some, option_to_list, map, Option, None}
use Rattle.params.specs.declared.TheConstants.{IP_HEADER, IP_MAX_DATA, PROTOCOL_UDP, FRAGMENT_UNIT, MINCLSIZE, MAX_PROTOCOL_HEADER}
use Rattle.flat_model.specs.declared.lookup_key.LookupKey.{LookupKey}
use Rattle.flat_model.specs.Amounts.Choice.{Choice, Case}
use Rattle.flat_model.specs.Amounts.Weight.{Weight, Item, Covers, IsSubBag, mbuf, ◌⊕◌, all_of}
use Rattle.flat_model.specs.Packets.Header.{Head, head_of, head_fault, total_of, udp_fault, udp_bytes, u16_at}
use Rattle.flat_model.specs.Fragments.Overlay.{Map, Fragment, overlay, is_covered}
use Rattle.flat_model.specs.Fragments.Whole.{IsWhole, bytes_below, weight_of_pieces}
use Rattle.flat_model.specs.Sockets.Lookup.{best, receivers}
use Rattle.flat_model.specs.Sockets.Fits.{fits, memory_of}
use Rattle.flat_model.specs.Machine.Count.{counts_more}
use Rattle.flat_model.specs.Machine.State.{State, Socket, Datagram, Key, Unfinished, limited_broadcast, change_socket, unfinished_at, begun, begin_unfinished, set_bytes, end_unfinished, ends}
use Rattle.flat_model.specs.declared.config.Config.{Config}
use Rattle.flat_model.specs.Machine.Calls.{is_ours}
use Rattle.flat_model.specs.Machine.Ledger.{Ledger, HasBuffers, need_mbufs}
use Rattle.flat_model.specs.declared.address.Addr.{Addr}
use Rattle.flat_model.specs.declared.counter.Counter.TheVariants.{IpTotal, IpFragments, IpReassembled}
use Rattle.flat_model.specs.declared.counters.Why.{Why}
use Rattle.flat_model.specs.declared.counters.Why.TheVariants.{CantForward, BadFragment, FragmentDropped, NoProtocol, UdpNoPort, UdpNoPortBroadcast, UdpFullSocket, NoBufs}

-- the origin of a packet; for one from the wire, the number of bytes received, even if the packet is trimmed later
pub data Origin : Type 0 where
  By_wire : (received : ℕ) → Origin
  Looped : Origin

-- one of the two broadcast addresses
abbrev pub is_broadcast : Config → ℕ → Bool
is_broadcast c ip = (ip == c.bcast) || (ip == limited_broadcast)

-- ---- the effects of a delivery

-- a socket with one more datagram in its queue
abbrev pub with_datagram : Datagram → Socket → Socket
with_datagram d socket = record socket { queue = socket.queue ++ d ∷ [] }

-- the sockets that receive a datagram: any number for a broadcast, otherwise one
abbrev pub matching_sockets : State → ℕ → LookupKey → List Socket
matching_sockets s destination q =
    if is_broadcast s.config destination then receivers q s.sockets else option_to_list (best q s.sockets)

-- the cause that is counted for a datagram that no socket receives
abbrev pub no_port : State → ℕ → Why
no_port s destination = if is_broadcast s.config destination then UdpNoPortBroadcast else UdpNoPort

-- ---- the contents of a fragment, and what happens to it

-- the key of a fragment
abbrev pub key_of : Head → Key
key_of h = record { source = h.source; destination = h.destination; id = h.id; protocol = h.protocol }

-- An impossible fragment of n bytes: without a byte; not the last, and no multiple of 8 long; or past the end of the
-- longest datagram.
abbrev pub is_bad_fragment : Head → ℕ → Bool
is_bad_fragment h n = (n == 0) || (h.more && not (n % FRAGMENT_UNIT == 0)) || nat_lt IP_MAX_DATA (h.offset + n)

-- one more fragment passed these tests
abbrev pub counts_fragment : State → State
counts_fragment s = record s { counters = counts_more IpFragments 1 s.counters }

-- The weight after the header is moved to one plain mbuf (`m_pullup` of volume 2, chapter 2, which moves 40 bytes): a
-- packet of at most 40 bytes leaves its cluster, a longer one takes one more mbuf.
abbrev pub pulled_up : ℕ → Weight → Weight
pulled_up total w =
    if nat_lt MAX_PROTOCOL_HEADER total then record w { mbufs = w.mbufs + 1 } else record w { bag = drop 1 w.bag }

-- How far a join may reduce the weight of the pieces (`m_cat` of volume 2, chapter 2, moves what fits): the result
-- takes no more than before, refers to no other cluster, and has space for all n bytes.
pub record IsJoin (pieces joined : Weight) (n : ℕ) : Type 0 where
  pub mbufs : joined.mbufs ≤ pieces.mbufs
  pub bag : IsSubBag joined.bag pieces.bag
  pub covers : Covers joined n

-- one more datagram is reassembled
abbrev pub counts_reassembled : State → State
counts_reassembled s = record s { counters = counts_more IpReassembled 1 s.counters }

-- ---- the contents of a packet

-- one more packet reached the input
abbrev pub counts_packet : State → State
counts_packet s = record s { counters = counts_more IpTotal 1 s.counters }

-- an address whose packets this host accepts
abbrev pub is_for_us : Config → ℕ → Bool
is_for_us c ip = is_ours c ip || (ip == limited_broadcast)

-- more fragments follow it, or some precede it
abbrev pub is_fragment : Head → Bool
is_fragment h = h.more || nat_lt 0 h.offset

-- the data of a packet after its header, trimmed to its total length; trimming leaves its weight
abbrev pub carried : Item → Item
carried item = record item { bytes = drop IP_HEADER (take (total_of item.bytes) item.bytes) }

-- ---- the steps of an arrival, for any ledger of the buffers

-- ---- the ends of a packet

-- where the rules leave a packet, with what they say of it
pub data End : Type 0 where
  -- it ends for this cause
  Ended : (why : Why) → End
  -- A datagram goes to these sockets, and `fd` is one of them: it has the datagram, or its copy ended for a cause.
  Offered : (receivers : List ℕ) (fd : ℕ) (lack : Option Why) → End
  -- a fragment waits for the others with its key
  Stored : End
  -- a fragment completed its datagram, and that is left here
  Reassembled : (whole : End) → End

-- what is said of a packet's end, of the state after it, and of the state to which the rules lead there
abbrev pub Saying : Type 1
Saying = End → State → State → Type 0

-- nothing but the state
abbrev pub silent : Saying
silent = λ end new is. new ≡ is

module _ (L : Ledger) where
  -- A test for n mbufs. If it passes, Then continues from the state that the test leaves; otherwise the current item
  -- ends there for lack of buffers, and Fails is said of the state.
  pub record TestsAs (old : State) (held : Weight) (n : ℕ) (Fails : State → Type 0) (Then : State → Type 0)
      : Type 0 where
    pub answer : Bool
    pub mid : State
    pub has_buffers : HasBuffers L old held (need_mbufs n) answer mid
    pub goes_on : Choice answer (Then mid) (Fails (ends NoBufs mid))

  abbrev pub Tests : State → Weight → ℕ → State → (State → Type 0) → Type 0
  Tests old held n new Then = TestsAs old held n (λ is. new ≡ is) Then

  -- ---- delivery

  -- the datagram is appended to a socket's queue, with an mbuf for the sender's address, if both fit
  abbrev pub AppendsAs : (Option Why → State → State → Type 0) → Weight → Addr → Item → Socket → State → State → Type 0
  AppendsAs Says held sender item to old new =
      Choice (fits to.limit to.queue (length item.bytes) (memory_of item.weight))
      (TestsAs old (held ⊕ item.weight) 1 (Says (Some NoBufs) new) (λ mid.
      Says None new (change_socket to.fd (with_datagram
      (record { sender = sender; item = record item { weight = mbuf ⊕ item.weight } })) mid)))
      (Says (Some UdpFullSocket) new (ends UdpFullSocket old))

  -- Each receiver but the last gets a copy of the same weight. If a receiver lacks space or buffers, only its own copy
  -- ends.
  abbrev pub DeliversAs : (ℕ → Option Why → State → State → Type 0) → Weight → Addr → Item → List Socket → State → State
      → Type 0
  DeliversAs Says held sender item [] old new = ⊥
  DeliversAs Says held sender item (last ∷ []) old new = AppendsAs (Says last.fd) held sender item last old new
  DeliversAs Says held sender item (to ∷ next ∷ more) old new =
      (after : State)
      × TestsAs old (held ⊕ item.weight) item.weight.mbufs (Says to.fd (Some NoBufs) after)
      (λ mid. AppendsAs (Says to.fd) (held ⊕ item.weight) sender item to mid after)
      × DeliversAs Says held sender item (next ∷ more) after new

  abbrev pub Appends : Weight → Addr → Item → Socket → State → State → Type 0
  Appends = AppendsAs (λ lack new is. new ≡ is)

  abbrev pub Delivers : Weight → Addr → Item → List Socket → State → State → Type 0
  Delivers = DeliversAs (λ fd lack new is. new ≡ is)

module _ (L : Ledger) (Says : Saying) where
  -- a datagram goes to the sockets that receive it
  abbrev pub GoesToAs : Weight → Addr → Item → ℕ → List Socket → State → State → Type 0
  GoesToAs held sender item destination [] old new =
      Says (Ended (no_port old destination)) new (ends (no_port old destination) old)
  GoesToAs held sender item destination (to ∷ more) old new =
      DeliversAs L (λ fd lack. Says (Offered (map (λ (socket : Socket). socket.fd) (to ∷ more)) fd lack))
      held sender item (to ∷ more) old new

  -- A complete datagram, without its IP header, with this source, destination and protocol.
  abbrev pub WholeArrivesAs : Weight → ℕ → ℕ → ℕ → Item → State → State → Type 0
  WholeArrivesAs held source destination protocol item old new =
      Choice (protocol == PROTOCOL_UDP)
      (Case (udp_fault source destination item.bytes)
      (let sender : Addr = record { ip = source; port = u16_at 0 item.bytes } in
      let q : LookupKey = record { local = Some destination; port = Some (u16_at 2 item.bytes); peer = Some sender } in
      GoesToAs held sender (record item { bytes = udp_bytes item.bytes }) destination
      (matching_sockets old destination q) old new)
      (λ why. Says (Ended why) new (ends why old)))
      (Says (Ended NoProtocol) new (ends NoProtocol old))

module _ (L : Ledger) (Says : Saying) where
  -- ---- fragments

  -- These bytes are now stored under a key. If they are complete, the datagram continues as one item of less weight,
  -- and its key is removed; otherwise they wait.
  abbrev pub SettlesAs : Weight → Key → Map → State → State → Type 0
  SettlesAs held k bytes old new =
      ((n : ℕ) × IsWhole bytes n × (joined : Weight) × IsJoin (weight_of_pieces bytes) joined n
      × WholeArrivesAs L (λ end. Says (Reassembled end)) held k.source k.destination k.protocol
      (record { bytes = bytes_below bytes n; weight = joined }) (counts_reassembled (end_unfinished k old)) new)
      ⊎ (((n : ℕ) → ¬ IsWhole bytes n) × Says Stored new (set_bytes k bytes old))

  -- the fragment is inserted into the bytes under its key, or ends if pieces that begin no later have all its bytes
  abbrev pub InsertsAs : Weight → Key → Fragment → Unfinished → State → State → Type 0
  InsertsAs held k f u old new =
      Choice (is_covered u.bytes f)
      (Says (Ended FragmentDropped) new (ends FragmentDropped old))
      (SettlesAs held k (overlay u.bytes f) old new)

  -- the fragment joins the others with its key; a new key takes an mbuf
  abbrev pub JoinsAs : Weight → Key → Fragment → State → State → Type 0
  JoinsAs held k f old new = Case (unfinished_at k old)
      (TestsAs L old (held ⊕ f.weight) 1 (Says (Ended NoBufs) new)
      (λ mid. InsertsAs held k f (begun k) (begin_unfinished k mid) new))
      (λ u. InsertsAs held k f u old new)

  -- A fragment that came from the wire into a cluster is pulled up, which takes an mbuf. This happens before the lookup
  -- of its key.
  abbrev pub PullsUpAs : Origin → Weight → Weight → ℕ → State → State → (Weight → State → Type 0) → Type 0
  PullsUpAs Looped held w total old new Then = Then w old
  PullsUpAs (By_wire received) held w total old new Then =
      Choice (nat_le MINCLSIZE received)
      (TestsAs L old (held ⊕ w) 1 (Says (Ended NoBufs) new) (λ mid. Then (pulled_up total w) mid)) (Then w old)

  -- a fragment, without its IP header
  abbrev pub FragmentArrivesAs : Origin → Weight → Head → Item → State → State → Type 0
  FragmentArrivesAs origin held h item old new =
      Choice (is_bad_fragment h (length item.bytes))
      (Says (Ended BadFragment) new (ends BadFragment old))
      (PullsUpAs origin held item.weight (IP_HEADER + length item.bytes) (counts_fragment old) new (λ w mid.
      JoinsAs held (key_of h) (record { offset = h.offset; bytes = item.bytes; more = h.more; weight = w }) mid new))

  -- ---- packets

  -- a packet whose header passed the tests
  abbrev pub PassesAs : Origin → Weight → Item → State → State → Type 0
  PassesAs origin held item old new =
      let h : Head = head_of item.bytes in
      Choice (is_for_us old.config h.destination)
      (Choice (is_fragment h)
      (FragmentArrivesAs origin held h (carried item) old new)
      (WholeArrivesAs L Says held h.source h.destination h.protocol (carried item) old new))
      (Says (Ended CantForward) new (ends CantForward old))

  -- a packet arrives, while the step also holds `held`
  abbrev pub ArrivesAs : Origin → Weight → Item → State → State → Type 0
  ArrivesAs origin held item old new =
      Case (head_fault item.bytes) (PassesAs origin held item (counts_packet old) new)
      (λ why. Says (Ended why) new (ends why (counts_packet old)))

-- ---- the same without a word of the ends

module _ (L : Ledger) where
  abbrev pub GoesTo : Weight → Addr → Item → ℕ → List Socket → State → State → Type 0
  GoesTo = GoesToAs L silent

  abbrev pub WholeArrives : Weight → ℕ → ℕ → ℕ → Item → State → State → Type 0
  WholeArrives = WholeArrivesAs L silent

  abbrev pub Settles : Weight → Key → Map → State → State → Type 0
  Settles = SettlesAs L silent

  abbrev pub Inserts : Weight → Key → Fragment → Unfinished → State → State → Type 0
  Inserts = InsertsAs L silent

  abbrev pub Joins : Weight → Key → Fragment → State → State → Type 0
  Joins = JoinsAs L silent

  abbrev pub PullsUp : Origin → Weight → Weight → ℕ → State → State → (Weight → State → Type 0) → Type 0
  PullsUp = PullsUpAs L silent

  abbrev pub FragmentArrives : Origin → Weight → Head → Item → State → State → Type 0
  FragmentArrives = FragmentArrivesAs L silent

  abbrev pub Passes : Origin → Weight → Item → State → State → Type 0
  Passes = PassesAs L silent

  abbrev pub Arrives : Origin → Weight → Item → State → State → Type 0
  Arrives = ArrivesAs L silent

  -- the packets that came back arrive in order, and the step holds those that are still to come
  abbrev pub AllArrive : List Item → State → State → Type 0
  AllArrive [] old new = new ≡ old
  AllArrive (item ∷ items) old new =
      (mid : State) × Arrives Looped (all_of (λ later. later.weight) items) item old mid × AllArrive items mid new
