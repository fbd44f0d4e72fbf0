-- How long a datagram is.
use Rattle.std.proofs.Common.{◌≡◌, ℕ, ◌+◌, List, ◌∷◌, ◌++◌, length}
use Rattle.std.proofs.lemmas.List.{length-append}
use Rattle.flat_model.specs.Packets.Checksum.{checksum}
use Rattle.flat_model.specs.Packets.Header.{udp, two_bytes, pseudo_header, not_zero}

module _ (source destination port to : ℕ) (s : List ℕ) where
  udp_header : List ℕ
  udp_header =
      let front : List ℕ = two_bytes port ++ two_bytes to ++ two_bytes (8 + length s) in
      front ++ two_bytes (not_zero (checksum (pseudo_header source destination (8 + length s) ++ front ++ 0 ∷ 0 ∷ s)))

  pub length-udp : length (udp source destination port to s) ≡ 8 + length s
  unfolding udp udp_header
  length-udp = length-append udp_header s
