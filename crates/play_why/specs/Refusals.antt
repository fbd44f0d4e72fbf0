-- The ICMP errors by which a host says that a port of it is closed (RFC 792; RFC 1122, sections 3.2.2.1 and 4.1.3.1).
use Rattle.std.specs.Prelude.{◌≡◌, ℕ, ◌%◌, ◌==◌, ◌&&◌, Bool, false, not, nat_le, nat_lt, List, [], ◌∷◌, ◌++◌, length, slice_index, if◌then◌else◌, Option, Some, None}
use Rattle.std.specs.List.{filter}
use Rattle.params.specs.declared.TheConstants.{PROTOCOL_UDP}
use Rattle.flat_model.specs.Packets.Header.{u16_at, u32_at}
use Rattle.play_why.specs.Sockets.{front_port}
use Rattle.play_why.specs.declared.refusals.Closed.{Closed}
use Rattle.play_why.specs.declared.refusals.Heard.{Heard}
use Rattle.play_why.specs.declared.refusals.Refusal.{Refusal}
use Rattle.play_why.specs.declared.refusals.Refusals.{Refusals}
use Rattle.play_why.specs.declared.refusals.TheConstants.{MOST_REFUSALS}

-- An ICMP message (protocol 1) of type 3 and code 3, not in fragments, which quotes the header of a UDP datagram after
-- an IP header without options. The datagram went from the receiver of the message to its sender.
abbrev pub is_refusal : List ℕ → Bool
is_refusal p =
    (nat_le 56 (length p) && ((slice_index p 0 == 69) && ((slice_index p 9 == 1) && (u16_at 6 p % 16_384 == 0)))
    && ((u16_at 20 p == 0x0303) && ((slice_index p 28 == 69) && (slice_index p 37 == PROTOCOL_UDP))))
    && ((u16_at 34 p % 8192 == 0) && ((u32_at 40 p == u32_at 16 p) && (u32_at 44 p == u32_at 12 p)))

abbrev pub refusal_of : List ℕ → Option Refusal
refusal_of p =
    if not (is_refusal p) then None
    else Some (record {
      host = u32_at 12 p;
      port = u16_at 50 p;
      peer = u32_at 16 p;
      peer_port = u16_at 48 p;
      id = u16_at 32 p;
    })

-- ---- the datagram

abbrev pub quotes_to : Option ℕ → Refusal → List ℕ → Bool
quotes_to None r p = false
quotes_to (Some port) r p =
    ((port == r.port) && ((u32_at 16 p == r.host) && (u32_at 12 p == r.peer)))
    && ((u16_at 20 p == r.peer_port) && (u16_at 4 p == r.id))

-- the error is for the datagram that begins in this packet
abbrev pub quotes : Refusal → List ℕ → Bool
quotes r p = quotes_to (front_port p) r p

-- the first one after a record
abbrev pub first_after : ℕ → List ℕ → List Heard → Option ℕ
first_after number p [] = None
first_after number p (it ∷ its) =
    if nat_lt number it.number && quotes it.refusal p then Some it.number else first_after number p its

-- ---- closed ports

abbrev pub is_port : ℕ → ℕ → Closed → Bool
is_port host port it = (it.host == host) && (it.port == port)

abbrev pub others : ℕ → ℕ → List Closed → List Closed
others host port = filter (λ (it : Closed). not (is_port host port it))

abbrev pub closed_by : ℕ → ℕ → List Closed → Option ℕ
closed_by host port [] = None
closed_by host port (it ∷ its) = if is_port host port it then Some it.number else closed_by host port its

abbrev pub closed_at : Option ℕ → List ℕ → List Closed → Option ℕ
closed_at None p closed = None
closed_at (Some port) p closed = closed_by (u32_at 16 p) port closed

-- the port to which a packet goes
abbrev pub closed_for : List ℕ → List Closed → Option ℕ
closed_for p closed = closed_at (front_port p) p closed

-- ---- all of a capture

pub record KnowsNone (r : Refusals) : Type 0 where
  pub heard : r.heard.items ≡ []
  pub closed : r.closed.items ≡ []

abbrev pub heard_by : ℕ → Option Refusal → List Heard → List Heard
heard_by number None heard = heard
heard_by number (Some refusal) heard =
    if nat_lt (length heard) MOST_REFUSALS then heard ++ record { refusal = refusal; number = number } ∷ [] else heard

pub record ReadsAhead (number : ℕ) (p : List ℕ) (old new : Refusals) : Type 0 where
  pub heard : new.heard.items ≡ heard_by number (refusal_of p) old.heard.items
  pub closed : new.closed.items ≡ old.closed.items

abbrev pub closed_with : Closed → List Closed → List Closed
closed_with it closed = if nat_lt (length closed) MOST_REFUSALS then closed ++ it ∷ [] else closed

-- a host refused one of its ports
pub record MarksClosed (number : ℕ) (r : Refusal) (old new : Refusals) : Type 0 where
  pub heard : new.heard.items ≡ old.heard.items
  pub closed :
      new.closed.items
      ≡ closed_with (record { host = r.host; port = r.port; number = number }) (others r.host r.port old.closed.items)

-- a host sent a datagram from one of its ports
abbrev pub opened_by : Option ℕ → List ℕ → List Closed → List Closed
opened_by None p closed = closed
opened_by (Some port) p closed = others (u32_at 12 p) (u16_at 20 p) closed

pub record OpensPort (p : List ℕ) (old new : Refusals) : Type 0 where
  pub heard : new.heard.items ≡ old.heard.items
  pub closed : new.closed.items ≡ opened_by (front_port p) p old.closed.items

abbrev pub PassesBy : ℕ → Option Refusal → List ℕ → Refusals → Refusals → Type 0
PassesBy number None p old new = OpensPort p old new
PassesBy number (Some refusal) p old new = MarksClosed number refusal old new

abbrev pub PassesRecord : ℕ → List ℕ → Refusals → Refusals → Type 0
PassesRecord number p old new = PassesBy number (refusal_of p) p old new

abbrev pub first_or : Option ℕ → Option ℕ → Option ℕ
first_or None other = other
first_or (Some number) other = Some number

-- the record with which a host refused the packet of a record
abbrev pub record_for : ℕ → List ℕ → Refusals → Option ℕ
record_for number p r = first_or (first_after number p r.heard.items) (closed_for p r.closed.items)
