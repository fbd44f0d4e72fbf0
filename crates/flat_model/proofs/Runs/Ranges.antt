-- The numbers in a line's request are in their ranges.
use Rattle.std.proofs.Common.{◌≡◌, ℕ, ◌<◌, ◌≤◌, List, length, get_or, Some, None, inl, inr, arith, rules}
use Rattle.std.proofs.lemmas.List.{get_or_default}
use Rattle.hex.proofs.HexLemmas.{decode_of-ok}
use Rattle.params.specs.declared.TheConstants.{IP_MAX_PACKET}
use Rattle.flat_model.specs.declared.address.Addr.{Addr}
use Rattle.flat_model.specs.Machine.Event.{Event, IsEvent, IsAddr, IsBytes, Open, Bind, Connect, Send, Receive, Close, Set_option, Set_limit, Comes, Transmit, Tick, Ask_counters, Ask_usage}
use Rattle.flat_model.specs.Scripts.Grammar.{IsLine, IsEnd, IsHex}

bytes-all : (xs : List ℕ) → ((i : ℕ) → get_or xs i 0 < 256) → IsBytes xs
bytes-all xs small = λ k d below. let same : get_or xs k d ≡ get_or xs k 0 = get_or_default xs k d 0 below in
    rw same (small k)

hex-bytes : (word bytes : List ℕ) → IsHex word bytes → IsBytes bytes × (length bytes ≤ IP_MAX_PACKET)
hex-bytes word bytes (inl dash) = rw dash.1 (search rules, omega arith)
hex-bytes word bytes (inr some) = (bytes-all bytes (decode_of-ok word bytes some.2).3, omega (arith, some.1))

end-range : (a p : List ℕ) (end : Addr) → IsEnd a p end → IsAddr end
end-range a p end h = record { ip = h.0.0; port = omega (arith, h.1.0) }

pub in_range : (line : List ℕ) (event : Event) → IsLine line event → IsEvent event
in_range line Open h = tt
in_range line (Bind fd address) h = end-range _ _ address h.arguments.5
in_range line (Connect fd address) h = end-range _ _ address h.arguments.5
in_range line (Send fd (Some to) bytes) h = (end-range _ _ to h.arguments.6, (hex-bytes _ bytes h.arguments.7).0)
in_range line (Send fd None bytes) h = (search rules, (hex-bytes _ bytes h.arguments.4).0)
in_range line (Receive fd most) h = tt
in_range line (Close fd) h = tt
in_range line (Set_option fd option on) h = tt
in_range line (Set_limit fd limit) h = absurd h.arguments
in_range line (Comes packet) h = let range = hex-bytes _ packet h.arguments.2 in (range.0, range.1)
in_range line Transmit h = tt
in_range line Tick h = tt
in_range line Ask_counters h = tt
in_range line Ask_usage h = tt
