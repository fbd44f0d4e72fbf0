-- To which addresses the datagrams of a capture go (this project's own).
use Rattle.std.specs.Prelude.{ℕ, ◌==◌, ◌&&◌, Bool, nat_le, nat_lt, List, [], ◌∷◌, ◌++◌, length, slice_index, position, slice_get, slice_set, if◌then◌else◌, Option, Some, None}
use Rattle.params.specs.declared.TheConstants.{FIRST_MULTICAST, IP_HEADER, PROTOCOL_UDP}
use Rattle.flat_model.specs.Machine.Count.{more_by}
use Rattle.flat_model.specs.Packets.Header.{u32_at}
use Rattle.play_why.specs.declared.addresses.Busiest.{Busiest}
use Rattle.play_why.specs.declared.addresses.Share.{Share}
use Rattle.play_why.specs.declared.addresses.TheConstants.{MOST_ADDRESSES}

-- it carries UDP to the address of a host, which is below 224.0.0.0
abbrev pub goes_to_host : List ℕ → Bool
goes_to_host p =
    nat_le IP_HEADER (length p) && (slice_index p 9 == PROTOCOL_UDP && nat_lt (u32_at 16 p) FIRST_MULTICAST)

-- one more datagram for the address at an index
abbrev pub raised : List Share → ℕ → Option Share → List Share
raised shares at None = shares
raised shares at (Some share) = slice_set shares at (record share { count = more_by 1 share.count })

-- or the first datagram for a new address, if there are fewer than 256
abbrev pub share_counted : ℕ → List Share → Option ℕ → List Share
share_counted address shares (Some at) = raised shares at (slice_get shares at)
share_counted address shares None =
    if nat_lt (length shares) MOST_ADDRESSES then shares ++ record { address = address; count = 1 } ∷ [] else shares

abbrev pub share_place : ℕ → List Share → Option ℕ
share_place address shares = position (λ (share : Share). share.address == address) shares

-- after a packet
abbrev pub shares_after : List ℕ → List Share → List Share
shares_after p shares =
    if goes_to_host p then share_counted (u32_at 16 p) shares (share_place (u32_at 16 p) shares) else shares

abbrev pub all_after : List ℕ → ℕ → ℕ
all_after p all = if goes_to_host p then more_by 1 all else all

-- ---- the address to which most go; if there are several, the first

abbrev pub count_in : Option Busiest → ℕ
count_in None = 0
count_in (Some b) = b.count

abbrev pub busier : ℕ → Option Busiest → Share → Option Busiest
busier all most share =
    if nat_lt (count_in most) share.count
    then Some (record { address = share.address; count = share.count; all = all })
    else most

abbrev pub busiest_after : ℕ → Option Busiest → List Share → Option Busiest
busiest_after all most [] = most
busiest_after all most (share ∷ shares) = busiest_after all (busier all most share) shares
