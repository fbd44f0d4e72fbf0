-- The claim of a host to its address (RFC 5227).
use Rattle.std.specs.Prelude.{◌-◌, nat_lt, Bool, true, false, ◌==◌, ◌&&◌, ◌||◌, not, if◌then◌else◌, max}
use Rattle.flat_ether.specs.declared.claim.AddressState.{AddressState}
use Rattle.flat_ether.specs.declared.claim.AddressState.TheVariants.{Probing, Conflict, InUse}
use Rattle.flat_ether.specs.declared.claim.Claim.{Claim}
use Rattle.flat_ether.specs.declared.claim.ClaimFrame.{ClaimFrame}
use Rattle.flat_ether.specs.declared.claim.ClaimFrame.TheVariants.{Probe, Announcement, Nothing}
use Rattle.flat_ether.specs.declared.sizes.TheConstants.{ANNOUNCE_TICKS, ANNOUNCEMENTS, ARP_PROBES, DEFEND_TICKS, PROBE_TICKS}

-- with probes first, or without
abbrev pub claim_up : Bool → Claim
claim_up probe =
    record {
      probes = if probe then ARP_PROBES else 0;
      announcements = ANNOUNCEMENTS;
      wait = 0;
      defence = 0;
      lost = false;
    }

-- The address is in use: no probe is left to send, and the wait after the last one is over (section 2.1.1). Once an
-- announcement was sent, it stays so.
abbrev pub is_claimed : Claim → Bool
is_claimed k = not k.lost && ((k.probes == 0) && ((k.wait == 0) || nat_lt k.announcements ANNOUNCEMENTS))

abbrev pub address_state : Claim → AddressState
address_state k = if k.lost then Conflict else if is_claimed k then InUse else Probing

-- what is to be sent now
abbrev pub claim_due : Claim → ClaimFrame
claim_due k =
    if k.lost || nat_lt 0 k.wait
    then Nothing
    else if nat_lt 0 k.probes then Probe else if nat_lt 0 k.announcements then Announcement else Nothing

-- the due frame was sent
abbrev pub claim_sent : Claim → Claim
claim_sent k =
    if nat_lt 0 k.probes
    then record k { probes = k.probes - 1; wait = if k.probes == 1 then ANNOUNCE_TICKS else PROBE_TICKS }
    else record k { announcements = k.announcements - 1; wait = ANNOUNCE_TICKS }

abbrev pub claim_ticks : Claim → Claim
claim_ticks k = record k { wait = k.wait - 1; defence = k.defence - 1 }

-- one more announcement, at most once in ten seconds (section 2.4)
abbrev pub defends : Claim → Claim
defends k = if nat_lt 0 k.defence then k else record k { announcements = max k.announcements 1; defence = DEFEND_TICKS }

-- another host has the address, or probes for it at the same time: if it isn't in use yet, it's given up (section
-- 2.1.1)
abbrev pub conflicts : Claim → Claim
conflicts k = if is_claimed k then defends k else record k { lost = true }
