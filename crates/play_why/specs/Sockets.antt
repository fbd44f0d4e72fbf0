-- The sockets of a judge's machine: one for each port to which the datagrams of a capture go (this project's own).
use Rattle.std.specs.Prelude.{◌≡◌, ℕ, ◌%◌, ◌==◌, ◌||◌, ◌&&◌, Bool, false, not, nat_lt, Option, Some, None}
use Rattle.std.specs.List.{filter}
use Rattle.std.specs.Prelude.{List, [], ◌∷◌, ◌++◌, length, slice_index, if◌then◌else◌}
use Rattle.params.specs.declared.TheConstants.{IP_MAX_PACKET, IP_UDP_HEADERS, PROTOCOL_UDP}
use Rattle.flat_model.specs.Amounts.Choice.{Choice}
use Rattle.flat_model.specs.Machine.Event.{Reply, Bind, Close, Done, Open, Opened, Receive, Refused}
use Rattle.flat_model.specs.Machine.State.{State}
use Rattle.flat_model.specs.Packets.Header.{u16_at}
use Rattle.flat_model.specs.declared.errno.Errno.{Errno}
use Rattle.stack_call.specs.Moves.{StackSteps}
use Rattle.play_why.specs.declared.ports.TheConstants.{MOST_PORTS}
use Rattle.play_why.specs.declared.ports.Bound.{Bound}
use Rattle.play_why.specs.declared.ports.Ports.{Ports}

-- ---- which port to bind

-- the destination port at the front of a UDP datagram, after an IP header without options
abbrev pub front_port : List ℕ → Option ℕ
front_port p =
    if nat_lt (length p) IP_UDP_HEADERS || (not (slice_index p 0 == 69) || (not (slice_index p 9 == PROTOCOL_UDP)
    || not (u16_at 6 p % 8192 == 0))) then None
    else Some (u16_at 22 p)

-- a socket is bound to the port
abbrev pub is_bound : ℕ → List Bound → Bool
is_bound port [] = false
is_bound port (b ∷ bs) = (b.port == port) || is_bound port bs

-- the only port that may be bound, or any port if there is none
abbrev pub may_bind : Option ℕ → ℕ → Bool
may_bind (Some only) port = only == port
may_bind None port = not (port == 0)

abbrev pub wanted_of : Ports → Option ℕ → Option ℕ
wanted_of ports None = None
wanted_of ports (Some port) =
    if may_bind ports.only port && not (is_bound port ports.bound.items) then Some port else None

-- the port that a packet wants to be bound, if it isn't yet
abbrev pub wanted_port : Ports → List ℕ → Option ℕ
wanted_port ports p = wanted_of ports (front_port p)

-- ---- how a port is bound

-- no port is bound yet
pub record IsUnbound (port : Option ℕ) (ports : Ports) : Type 0 where
  pub bound : ports.bound.items ≡ []
  pub only : ports.only ≡ port

-- a socket is closed, whatever the machine replies
abbrev pub ClosesSocket : ℕ → State → State → Type 0
ClosesSocket fd old new = (reply : Reply) × StackSteps old (Close fd) reply new

-- a new socket is bound to the port
pub record BindsTo (port : ℕ) (b : Bound) (old new : State) : Type 0 where
  pub between : State
  pub port_is : b.port ≡ port
  pub opens : StackSteps old Open (Opened b.fd) between
  pub binds : StackSteps between (Bind b.fd (record { ip = 0; port = port })) Done new

-- the machine returns an error for a socket, or for binding it; then the socket is closed
pub data CantBind (port : ℕ) (old new : State) : Type 0 where
  No_socket : (errno : Errno) → StackSteps old Open (Refused errno) new → CantBind port old new
  Not_bound : (fd : ℕ) (errno : Errno) (opened kept : State) → StackSteps old Open (Opened fd) opened
      → StackSteps opened (Bind fd (record { ip = 0; port = port })) (Refused errno) kept → ClosesSocket fd kept new
      → CantBind port old new

abbrev pub TriesToBind : ℕ → Option Bound → State → State → Type 0
TriesToBind port (Some b) old new = BindsTo port b old new
TriesToBind port None old new = CantBind port old new

-- space for one more socket: if 60 are bound, the one that was bound first is closed
abbrev pub are_all_bound : Ports → Bool
are_all_bound ports = not (nat_lt (length ports.bound.items) MOST_PORTS)

pub record ClosesOldest (bound later : List Bound) (old new : State) : Type 0 where
  pub oldest : Bound
  pub is : bound ≡ oldest ∷ later
  pub closes : ClosesSocket oldest.fd old new

pub record MakesSpace (ports later : Ports) (old new : State) : Type 0 where
  pub only : later.only ≡ ports.only
  pub closes :
      Choice (are_all_bound ports) (ClosesOldest ports.bound.items later.bound.items old new)
      ((later.bound.items ≡ ports.bound.items) × (new ≡ old))

-- the sockets, with the new one
abbrev pub bound_after : List Bound → Option Bound → List Bound
bound_after bound None = bound
bound_after bound (Some b) = bound ++ b ∷ []

-- a socket is bound to the port, unless the machine returns an error
pub record BindsFor (ports : Ports) (port : ℕ) (later : Ports) (old new : State) : Type 0 where
  pub fewer : Ports
  pub bound : Option Bound
  pub freed : State
  pub makes : MakesSpace ports fewer old freed
  pub tries : TriesToBind port bound freed new
  pub bound_is : later.bound.items ≡ bound_after fewer.bound.items bound
  pub only : later.only ≡ ports.only

-- the wanted port is bound; without one, nothing changes
abbrev pub BindsIf : Ports → Option ℕ → Ports → State → State → Type 0
BindsIf ports None later old new = (later ≡ ports) × (new ≡ old)
BindsIf ports (Some port) later old new = BindsFor ports port later old new

-- ---- a packet that the host refused

abbrev pub descriptor_of : ℕ → List Bound → Option ℕ
descriptor_of port [] = None
descriptor_of port (b ∷ bs) = if b.port == port then Some b.fd else descriptor_of port bs

pub record FreesPort (fd port : ℕ) (ports later : Ports) (old new : State) : Type 0 where
  pub closes : ClosesSocket fd old new
  pub bound : later.bound.items ≡ filter (λ (b : Bound). not (b.port == port)) ports.bound.items
  pub only : later.only ≡ ports.only

abbrev pub ClosesBy : Option ℕ → ℕ → Ports → Ports → State → State → Type 0
ClosesBy None port ports later old new = (later ≡ ports) × (new ≡ old)
ClosesBy (Some fd) port ports later old new = FreesPort fd port ports later old new

-- the socket that is bound to its port is closed, if there is one
abbrev pub ClosesFor : Option ℕ → Ports → Ports → State → State → Type 0
ClosesFor None ports later old new = (later ≡ ports) × (new ≡ old)
ClosesFor (Some port) ports later old new =
    ClosesBy (descriptor_of port ports.bound.items) port ports later old new

-- the port that a packet wants is bound; if the host refused the packet, its port is closed
abbrev pub Prepares : Option ℕ → List ℕ → Ports → Ports → State → State → Type 0
Prepares None p ports later old new = BindsIf ports (wanted_port ports p) later old new
Prepares (Some number) p ports later old new = ClosesFor (front_port p) ports later old new

-- ---- how the sockets are read

-- the next datagram of a socket is read, if it has one
abbrev pub ReadsSocket : ℕ → ℕ → State → State → Type 0
ReadsSocket fd most old new = (reply : Reply) × StackSteps old (Receive fd most) reply new

-- each is read once, into a buffer for any datagram
abbrev pub Drains : List Bound → State → State → Type 0
Drains [] old new = new ≡ old
Drains (b ∷ bs) old new = (mid : State) × ReadsSocket b.fd IP_MAX_PACKET old mid × Drains bs mid new
