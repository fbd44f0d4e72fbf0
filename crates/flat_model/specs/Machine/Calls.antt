-- The socket calls except sends: the errors of each, in order, and its effects (`socket`, `close` and `setsockopt`:
-- volume 2, chapters 15 and 17; `bind` and `connect`: `in_pcbbind` and `in_pcbconnect` of chapter 22; `recvfrom`:
-- chapter 16). If an order or a list is this project's own, its definition says so.
use Rattle.std.specs.Prelude.{◌≡◌, ℕ, zero, suc, ◌+◌, ◌-◌, ◌<◌, ◌≤◌, ◌%◌, ◌/◌, ◌^◌, Bool, true, false, ◌==◌, nat_lt, ◌&&◌, ◌||◌, not, if◌then◌else◌, List, [], ◌∷◌, take, length, filter, Option, Some, None, is_some, IsSome, IsNone, unwrap_or}
use Rattle.params.specs.declared.TheConstants.{FIRST_MULTICAST, LOOPBACK, FIRST_EPHEMERAL_PORT, LAST_EPHEMERAL_PORT, FIRST_DESCRIPTOR}
use Rattle.flat_model.specs.declared.lookup_key.LookupKey.{LookupKey}
use Rattle.flat_model.specs.Amounts.Choice.{Choice, Case}
use Rattle.flat_model.specs.Packets.Header.{first_fault}
use Rattle.flat_model.specs.Machine.Event.{Reply, Done, Opened, Received, Refused}
use Rattle.flat_model.specs.declared.errno.Errno.{Errno}
use Rattle.flat_model.specs.declared.option.Opt.{Opt}
use Rattle.flat_model.specs.declared.errno.Errno.TheVariants.{BadDescriptor, Invalid, TooManyFiles, WouldBlock, AddressInUse, AddressNotAvailable, HostUnreachable}
use Rattle.flat_model.specs.declared.option.Opt.TheVariants.{Broadcast, ReusePort}
use Rattle.flat_model.specs.Machine.State.{State, Socket, Datagram, loopback, limited_broadcast, socket_at, change_socket}
use Rattle.flat_model.specs.declared.config.Config.{Config}
use Rattle.flat_model.specs.Sockets.Lookup.{best, exact}
use Rattle.flat_model.specs.declared.address.Addr.{Addr}

-- ---- errors

-- the call fails, and changes nothing
abbrev pub Refuses : Errno → State → Reply → State → Type 0
Refuses errno old reply new = (reply ≡ Refused errno) × (new ≡ old)

-- the call fails with the first error whose test is true, and then nothing changes; otherwise it goes on
abbrev pub Unless : List (Bool × Errno) → State → Reply → State → Type 0 → Type 0
Unless faults old reply new goes_on = Case (first_fault faults) goes_on (λ errno. Refuses errno old reply new)

-- a call on a descriptor: it fails if no such socket is open, otherwise `Call` of the socket
abbrev pub OnSocket : ℕ → State → Reply → State → (Socket → Type 0) → Type 0
OnSocket fd old reply new Call = Case (socket_at fd old) (Refuses BadDescriptor old reply new) Call

-- ---- addresses

-- 0.0.0.0 means this host's address, 255.255.255.255 its broadcast address
abbrev pub read_address : Config → ℕ → ℕ
read_address c ip = if ip == 0 then c.addr else (if ip == limited_broadcast then c.bcast else ip)

-- the same for an address with a port
abbrev pub read_addr : Config → Addr → Addr
read_addr c a = record a { ip = read_address c a.ip }

-- An interface leads there. The only link interface leads everywhere except to 0/8, to 127/8 and to 224.0.0.0 and
-- above; 127.0.0.1 is reached by loopback. For an address after `read_address` (this project's own).
abbrev pub is_reached : ℕ → Bool
is_reached ip =
    (ip == loopback) || (not (ip / 2 ^ 24 == 0) && not (ip / 2 ^ 24 == LOOPBACK / 2 ^ 24) && nat_lt ip FIRST_MULTICAST)

-- one of the three addresses of this host
abbrev pub is_ours : Config → ℕ → Bool
is_ours c ip = (ip == c.addr) || (ip == c.bcast) || (ip == loopback)

-- the address that a socket sends from: its own, or if it has none, the one of the interface that leads to the
-- destination
abbrev pub source_for : Config → Socket → ℕ → ℕ
source_for c me ip = unwrap_or me.local (if ip == loopback then loopback else c.addr)

-- 0 means "not given"
abbrev pub unless_zero : ℕ → Option ℕ
unless_zero zero = None
unless_zero (suc n) = Some (suc n)

-- ---- ports

-- whether a lookup with wildcards finds a socket with this local address and port
abbrev pub is_in_use : State → Option ℕ → ℕ → Bool
is_in_use s local port = is_some (best (record { local = local; port = Some port; peer = None }) s.sockets)

-- the number of ports in the circle: 3,977
abbrev pub ephemeral_ports : ℕ
ephemeral_ports = LAST_EPHEMERAL_PORT - FIRST_EPHEMERAL_PORT + 1

-- the k-th port after the last one chosen, in the circle 1024 .. 5000
abbrev pub port_after : Option ℕ → ℕ → ℕ
port_after None k = FIRST_EPHEMERAL_PORT + k % ephemeral_ports
port_after (Some last) k = FIRST_EPHEMERAL_PORT + (last - (FIRST_EPHEMERAL_PORT - 1) + k) % ephemeral_ports

-- The next ephemeral port: the first in the circle that is not in use. There always is one, because fewer sockets can
-- be open than the circle has ports.
pub record IsNextPort (s : State) (local : Option ℕ) (port : ℕ) : Type 0 where
  pub turns : ℕ
  pub within : turns < ephemeral_ports
  pub here : port ≡ port_after s.last_port turns
  pub free : is_in_use s local port ≡ false
  pub passed : (k : ℕ) → k < turns → is_in_use s local (port_after s.last_port k) ≡ true

-- the requested port; without one, the next ephemeral port, which is then recorded as chosen
abbrev pub GetsPort : State → Option ℕ → Option ℕ → ℕ → State → Type 0
GetsPort old local (Some asked) port new = (port ≡ asked) × (new ≡ old)
GetsPort old local None port new = IsNextPort old local port × (new ≡ record old { last_port = Some port })

-- ---- socket and close; descriptors are 3 to 66, and a new socket gets the lowest free one (this project's own)

-- a new socket
abbrev pub new_socket : ℕ → Socket
new_socket fd =
    record {
      fd = fd;
      local = None;
      port = None;
      peer = None;
      broadcast = false;
      reuse_port = false;
      limit = 0;
      queue = [];
    }

-- the least descriptor from 3 on that no socket has
pub record IsLowestFree (s : State) (fd : ℕ) : Type 0 where
  pub least : FIRST_DESCRIPTOR ≤ fd
  pub free : IsNone (socket_at fd s)
  pub passed : (k : ℕ) → FIRST_DESCRIPTOR ≤ k → k < fd → IsSome (socket_at k s)

-- A new socket, which becomes the youngest, if fewer than the maximum are open.
abbrev pub Opens : ℕ → State → Reply → State → Type 0
Opens most old reply new =
    Choice (nat_lt (length old.sockets) most)
    ((fd : ℕ) × IsLowestFree old fd × (reply ≡ Opened fd)
    × (new ≡ record old { sockets = new_socket fd ∷ old.sockets }))
    (Refuses TooManyFiles old reply new)

-- The socket and its queue are removed. Packets that it sent stay, and so do unfinished datagrams for it.
abbrev pub Closes : ℕ → State → Reply → State → Type 0
Closes fd old reply new =
    (reply ≡ Done) × (new ≡ record old { sockets = filter (λ socket. not (socket.fd == fd)) old.sockets })

-- ---- bind

-- a socket was found, and it lacks the option
abbrev pub lacks_reuse_port : Option Socket → Bool
lacks_reuse_port None = false
lacks_reuse_port (Some found) = not found.reuse_port

-- Whether another socket prevents a bind to this address and port: any that a lookup with wildcards finds; or, if this
-- socket has ReusePort, the one that a lookup without wildcards finds, if it lacks the option.
abbrev pub is_taken : State → Socket → Option ℕ → ℕ → Bool
is_taken s me local port =
    let q : LookupKey = record { local = local; port = Some port; peer = None } in
    if me.reuse_port then lacks_reuse_port (exact q s.sockets) else is_some (best q s.sockets)

-- the errors of a bind
abbrev pub bind_faults : State → Socket → Addr → List (Bool × Errno)
bind_faults s me a =
    (is_some me.port || is_some me.local, Invalid)
    ∷ (not ((a.ip == 0) || is_ours s.config a.ip), AddressNotAvailable)
    ∷ (not (a.port == 0) && is_taken s me (unless_zero a.ip) a.port, AddressInUse)
    ∷ []

-- a socket is bound; port 0 means the next ephemeral one
abbrev pub Binds : ℕ → Addr → Socket → State → Reply → State → Type 0
Binds fd a me old reply new = Unless (bind_faults old me a) old reply new (
    (port : ℕ) × (chosen : State)
    × GetsPort old (unless_zero a.ip) (unless_zero a.port) port chosen
    × (reply ≡ Done)
    × (new ≡ change_socket fd (λ socket. record socket { local = unless_zero a.ip; port = Some port }) chosen))

-- ---- connect

-- a connected socket that loses its peer also loses its local address, and keeps its port
abbrev pub disconnected : Socket → Socket
disconnected me = if is_some me.peer then record me { local = None; peer = None } else me

-- the errors of a connect to an address after `read_address`; the position of the test for a route is this project's
-- own
abbrev pub connect_faults : State → Socket → Addr → List (Bool × Errno)
connect_faults s me a =
    (a.port == 0, AddressNotAvailable)
    ∷ (not (is_reached a.ip), HostUnreachable)
    ∷ (
      is_some (exact (record { local = Some (source_for s.config me a.ip); port = me.port; peer = Some a }) s.sockets),
      AddressInUse,
    )
    ∷ []

-- an unconnected socket is connected to an address after `read_address`, and gets a port and a local address if it has
-- none
abbrev pub ConnectsTo : ℕ → Addr → Socket → State → Reply → State → Type 0
ConnectsTo fd to me old reply new = Unless (connect_faults old me to) old reply new (
    (port : ℕ) × (chosen : State)
    × GetsPort old me.local me.port port chosen
    × (reply ≡ Done)
    × (new ≡ change_socket fd (λ socket. record socket {
      local = Some (source_for old.config me to.ip);
      port = Some port;
      peer = Some to;
    }) chosen))

-- the socket is first disconnected, and stays disconnected if the call fails
abbrev pub Connects : ℕ → Addr → Socket → State → Reply → State → Type 0
Connects fd a connected before reply new =
    ConnectsTo fd (read_addr before.config a) (disconnected connected) (change_socket fd disconnected before) reply new

-- ---- recvfrom and setsockopt

-- The oldest datagram is removed, and the call returns at most `most` bytes of it; the rest is lost. With an empty
-- queue the call fails.
abbrev pub Receives : ℕ → ℕ → List Datagram → State → Reply → State → Type 0
Receives fd most [] old reply new = Refuses WouldBlock old reply new
Receives fd most (d ∷ later) old reply new =
    (reply ≡ Received d.sender (take most d.item.bytes))
    × (new ≡ change_socket fd (λ socket. record socket { queue = later }) old)

-- the socket with the option set or cleared
abbrev pub set_option : Opt → Bool → Socket → Socket
set_option Broadcast on socket = record socket { broadcast = on }
set_option ReusePort on socket = record socket { reuse_port = on }

-- the call that does it
abbrev pub SetsOption : ℕ → Opt → Bool → State → Reply → State → Type 0
SetsOption fd option on old reply new = (reply ≡ Done) × (new ≡ change_socket fd (set_option option on) old)

-- The call that sets the limit of a socket's receive queue (`sbreserve` of chapter 16), which keeps its datagrams, also
-- if they are more than the new limit. 0 is no limit of its own.
abbrev pub SetsLimit : ℕ → ℕ → State → Reply → State → Type 0
SetsLimit fd limit old reply new =
    (reply ≡ Done) × (new ≡ change_socket fd (λ socket. record socket { limit = limit }) old)
