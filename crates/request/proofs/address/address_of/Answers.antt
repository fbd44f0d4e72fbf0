use Rattle.std.specs.Net.Addr.{ipv4_bits}
use Rattle.request.proofs.AddressLemmas.{IsAddress-of, IsAddress-dotted}
use Rattle.request.proofs.address.address_of.Goals as goal

pub returns-in-Ok : goal.returns-in-Ok
unfolding ipv4_bits
returns-in-Ok c = IsAddress-of _ _ _ c.in-Ok.ensures c.to_bits.ensures

pub returns-in-Err : goal.returns-in-Err
returns-in-Err c = λ ip h. c.in-Err.ensures (record { octets = _ }) (IsAddress-dotted _ ip h)
