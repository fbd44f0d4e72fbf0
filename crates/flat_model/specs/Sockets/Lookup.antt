-- Which socket a packet or a call finds (`in_pcblookup` of volume 2, chapter 22). Lists of sockets begin with the
-- youngest, in the order of their `socket` calls.
use Rattle.std.specs.Prelude.{ℕ, ◌+◌, Bool, true, false, ◌==◌, ◌&&◌, not, if◌then◌else◌, List, [], ◌∷◌, filter, find, Option, Some, None}
use Rattle.std.specs.Option.{option_or}
use Rattle.flat_model.specs.Machine.State.{Socket}
use Rattle.flat_model.specs.declared.address.Addr.{Addr}
use Rattle.flat_model.specs.declared.lookup_key.LookupKey.{LookupKey}

-- the same address and port
abbrev pub is_addr : Addr → Addr → Bool
is_addr a b = (a.ip == b.ip) && (a.port == b.port)

-- both are set and equal
abbrev pub are_same : Option ℕ → Option ℕ → Bool
are_same (Some p) (Some q) = p == q
are_same _ _ = false

-- they are equal if both are set
abbrev pub agree : {X : Type 0} → (X → X → Bool) → Option X → Option X → Bool
agree eq (Some x) (Some y) = eq x y
agree eq _ _ = true

-- 1 if exactly one of the two is set
abbrev pub one_sided : {X : Type 0} → Option X → Option X → ℕ
one_sided (Some x) (Some y) = 0
one_sided None None = 0
one_sided _ _ = 1

-- The socket has the port of the lookup, and every field that is set on both sides is equal. A socket without a port is
-- never found.
abbrev pub matches : LookupKey → Socket → Bool
matches q socket = are_same socket.port q.port && agree ◌==◌ socket.local q.local && agree is_addr socket.peer q.peer

-- for how many of the two endpoints, local and foreign, exactly one of lookup and socket is set: 0, 1 or 2
abbrev pub wildcards : LookupKey → Socket → ℕ
wildcards q socket = one_sided socket.local q.local + one_sided socket.peer q.peer

-- the score of a socket: its wildcards, if it matches
abbrev pub score : LookupKey → Socket → Option ℕ
score q socket = if matches q socket then Some (wildcards q socket) else None

-- the youngest that matches with this number of wildcards
abbrev pub youngest : ℕ → LookupKey → List Socket → Option Socket
youngest k q sockets = find (λ socket. matches q socket && (wildcards q socket == k)) sockets

-- the one that is found: the youngest of those with the fewest wildcards
abbrev pub best : LookupKey → List Socket → Option Socket
best q sockets = option_or (youngest 0 q sockets) (option_or (youngest 1 q sockets) (youngest 2 q sockets))

-- the youngest that matches with no wildcard
abbrev pub exact : LookupKey → List Socket → Option Socket
exact = youngest 0

-- the elements up to the first that passes, which is included
abbrev pub up_to_first : {X : Type 0} → (X → Bool) → List X → List X
up_to_first passes [] = []
up_to_first passes (x ∷ xs) = if passes x then x ∷ [] else x ∷ up_to_first passes xs

-- All sockets that receive a broadcast (the loop of `udp_input`, volume 2, chapter 23): those that match, the youngest
-- first, up to the first one without the option ReusePort, which is the last.
abbrev pub receivers : LookupKey → List Socket → List Socket
receivers q sockets = up_to_first (λ socket. not socket.reuse_port) (filter (matches q) sockets)
