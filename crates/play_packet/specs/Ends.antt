-- The two endpoints of a packet: `10.0.0.2:5000` for a datagram, otherwise an address without a port (this project's
-- own).
use Rattle.std.specs.Prelude.{ℕ, ◌+◌, ◌-◌, ◌*◌, ◌^◌, ◌==◌, List, [], ◌∷◌, take, drop, position, if◌then◌else◌, bytes_eq, nat_lt, Option, Some, None, Result, Ok, Err}
use Rattle.flat_model.specs.Scripts.Grammar.{address_text}
use Rattle.flat_model.specs.declared.address.Addr.{Addr}
use Rattle.play_line.specs.declared.fault.Fault.{Fault}
use Rattle.play_line.specs.declared.fault.Fault.TheVariants.{NoAddress, NoEnd, NoPort}
use Rattle.play_packet.specs.Numbers.{number_in}
use Rattle.play_packet.specs.declared.mark.Payload.{Payload}
use Rattle.play_packet.specs.declared.mark.Payload.TheVariants.{Udp, Raw}

abbrev pub first_place : ℕ → List ℕ → Option ℕ
first_place sought text = position (λ byte. byte == sought) text

-- the number for octets with dots between them, given the octets before and the digits of the next one
abbrev pub octets_value : ℕ → ℕ → List ℕ → ℕ
octets_value front octet [] = 256 * front + octet
octets_value front octet (byte ∷ bytes) =
    if byte == 46 then octets_value (256 * front + octet) 0 bytes
    else octets_value front (10 * octet + (byte - 48)) bytes

-- the address that a word is the printed form of
abbrev pub address_in : List ℕ → Option ℕ
address_in word =
    let ip : ℕ = octets_value 0 0 word in
    if bytes_eq word (address_text ip) then (if nat_lt ip (2 ^ 32) then Some ip else None) else None

abbrev pub end_of : Option ℕ → Option ℕ → Result Addr Fault
end_of None port = Err NoEnd
end_of (Some ip) None = Err NoPort
end_of (Some ip) (Some port) = Ok (record { ip = ip; port = port })

abbrev pub end_at : List ℕ → Option ℕ → Result Addr Fault
end_at word None = Err NoEnd
end_at word (Some at) = end_of (address_in (take at word)) (number_in 65535 (drop (at + 1) word))

-- the address and the port of a word, with a colon between them
abbrev pub end_in : List ℕ → Result Addr Fault
end_in word = end_at word (first_place 58 word)

abbrev pub without_port : Option ℕ → Result Addr Fault
without_port None = Err NoAddress
without_port (Some ip) = Ok (record { ip = ip; port = 0 })

-- an endpoint of a packet with this payload
abbrev pub end_as : Payload → List ℕ → Result Addr Fault
end_as Udp word = end_in word
end_as Raw word = without_port (address_in word)

-- the fault if it is missing
abbrev pub missing_end : Payload → Fault
missing_end Udp = NoEnd
missing_end Raw = NoAddress
