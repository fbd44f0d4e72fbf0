-- Type of service and time to live of a packet that leaves (RFC 791, section 3.1; that a caller sets them afterwards is
-- this project's own).
use Rattle.std.specs.Prelude.{◌≡◌, ℕ, ℤ, pos, ◌<◌, ◌≤◌, List, [], ◌∷◌, length, take, None, Some}
use Rattle.params.specs.declared.TheConstants.{IP_HEADER, IP_MAX_PACKET}
use Rattle.flat_model.specs.Packets.Checksum.{checksum}
use Rattle.flat_model.specs.Packets.Header.{head_fault, two_bytes}
use Rattle.flat_model.specs.declared.counters.Why.{Why}
use Rattle.ip_out.specs.Bytes.{written}
use Rattle.libbsdudp.specs.Answers.{invalid}

-- the packet with these fields, and 0 as the checksum of its header
abbrev pub blanked : ℕ → ℕ → List ℕ → List ℕ
blanked ttl tos packet = written (written (written packet 1 (tos ∷ [])) 8 (ttl ∷ [])) 10 (two_bytes 0)

-- the packet with these fields and the checksum of its header
abbrev pub marked : ℕ → ℕ → List ℕ → List ℕ
marked ttl tos packet =
    written (blanked ttl tos packet) 10 (two_bytes (checksum (take IP_HEADER (blanked ttl tos packet))))

-- If the header has a fault, or the packet is too long, the result is -EINVAL and nothing changes. Otherwise only the
-- fields and the checksum change, and the header has no fault.
pub record IsMarked (ttl tos : ℕ) (answer : ℤ) (old new : List ℕ) : Type 0 where
  pub long : IP_MAX_PACKET < length old → (answer ≡ invalid) × (new ≡ old)
  pub faulty : (why : Why) → head_fault old ≡ Some why → (answer ≡ invalid) × (new ≡ old)
  pub marks : length old ≤ IP_MAX_PACKET → head_fault old ≡ None
      → (answer ≡ pos 0) × (new ≡ marked ttl tos old) × (head_fault new ≡ None)
