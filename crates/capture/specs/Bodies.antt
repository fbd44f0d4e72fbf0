-- What the bodies of blocks say (draft-ietf-opsawg-pcapng, sections 3.5 and 4.1 to 4.4).
use Rattle.std.specs.Prelude.{ℕ, zero, suc, ◌+◌, ◌-◌, ◌*◌, ◌/◌, ◌^◌, List, length, take, drop, get_or, Result, Ok, Err, nat_lt, not, ◌==◌, ◌&&◌, ◌||◌, if◌then◌else◌}
use Rattle.std.specs.Int.{w16, w32}
use Rattle.capture.specs.File.{number_of}
use Rattle.capture.specs.Types.{link_type_of}
use Rattle.capture.specs.declared.pcap.header.Order.{Order}
use Rattle.capture.specs.declared.pcapng.body.Section.{Section}
use Rattle.capture.specs.declared.pcapng.body.Interface.{Interface}
use Rattle.capture.specs.declared.pcapng.fault.BodyFault.{BodyFault}
use Rattle.capture.specs.declared.pcapng.fault.BodyFault.TheVariants.{BodyCut, BadVersion, OptionCut, BadResolution}

-- section 4.1: the magic number, the version and the section's length, which is ignored
abbrev pub section_in : Order → List ℕ → Result Section BodyFault
section_in o body =
    if nat_lt (length body) 16 then Err BodyCut else
    if (number_of o w16 (drop 4 body) == 1)
    && ((number_of o w16 (drop 6 body) == 0) || (number_of o w16 (drop 6 body) == 2))
    then Ok (record { major = number_of o w16 (drop 4 body); minor = number_of o w16 (drop 6 body) })
    else Err BadVersion

-- ---- the options of an interface (sections 3.5 and 4.2)

-- a length, filled up to a multiple of 4
abbrev pub padded : ℕ → ℕ
padded n = (n + 3) / 4 * 4

-- The ticks of a second by the option if_tsresol: one byte, the exponent of 10, or of 2 if its high bit is set. With an
-- exponent above 19 or 63, a 64-bit number of ticks would overflow within seconds.
abbrev pub ticks_given : ℕ → Result ℕ BodyFault
ticks_given n =
    if nat_lt n 20 then Ok (10 ^ n) else
    if (nat_lt n 128) || (not (nat_lt n 192)) then Err BadResolution else Ok (2 ^ (n - 128))

-- the bytes after the first option, if a later option may give the ticks; otherwise the result of the options
abbrev pub passed : Order → List ℕ → Result (List ℕ) (Result ℕ BodyFault)
passed o bytes =
    if nat_lt (length bytes) 4 then Err (Ok 1_000_000) else
    if number_of o w16 bytes == 0 then Err (Ok 1_000_000) else
    if nat_lt (length bytes) (4 + padded (number_of o w16 (drop 2 bytes))) then Err (Err OptionCut) else
    if not (number_of o w16 bytes == 9) then Ok (drop (4 + padded (number_of o w16 (drop 2 bytes))) bytes) else
    if number_of o w16 (drop 2 bytes) == 1 then Err (ticks_given (get_or bytes 4 0)) else Err (Err BadResolution)

abbrev pub following : (List ℕ → Result ℕ BodyFault) → Result (List ℕ) (Result ℕ BodyFault) → Result ℕ BodyFault
following others (Ok rest) = others rest
following others (Err said) = said

-- the ticks of a second that one of the first `n` options gives; a million if none does
unfoldable pub ticks_by : ℕ → Order → List ℕ → Result ℕ BodyFault
ticks_by zero o bytes = Ok 1_000_000
ticks_by (suc n) o bytes = following (ticks_by n o) (passed o bytes)

-- an interface with its ticks
abbrev pub with_ticks : Order → List ℕ → Result ℕ BodyFault → Result Interface BodyFault
with_ticks o body (Err f) = Err f
with_ticks o body (Ok ticks) = Ok (record {
  link_number = number_of o w16 body;
  link = link_type_of (number_of o w16 body);
  snap_len = number_of o w32 (drop 4 body);
  ticks_per_second = ticks;
})

-- section 4.2: the link type, the most bytes that are kept of a packet, and options
abbrev pub interface_in : Order → List ℕ → Result Interface BodyFault
interface_in o body =
    if nat_lt (length body) 8 then Err BodyCut else with_ticks o body (ticks_by (length body) o (drop 8 body))

-- ---- packets

-- an enhanced packet: its interface, its time, its length, and the bytes that were captured
pub record Enhanced : Type 0 where
  pub interface : ℕ
  pub ticks : ℕ
  pub original : ℕ
  pub bytes : List ℕ

-- section 4.3
abbrev pub enhanced_in : Order → List ℕ → Result Enhanced BodyFault
enhanced_in o body =
    if nat_lt (length body) 20 then Err BodyCut else
    if nat_lt (length body - 20) (number_of o w32 (drop 12 body)) then Err BodyCut else
    Ok (record {
      interface = number_of o w32 body;
      ticks = number_of o w32 (drop 4 body) * 2 ^ 32 + number_of o w32 (drop 8 body);
      original = number_of o w32 (drop 16 body);
      bytes = take (number_of o w32 (drop 12 body)) (drop 20 body);
    })

pub record Plain : Type 0 where
  pub original : ℕ
  pub bytes : List ℕ

-- how much of a packet is kept; 0 is no limit
abbrev pub kept : ℕ → ℕ → ℕ
kept snap_len original = if (snap_len == 0) || nat_lt original snap_len then original else snap_len

-- section 4.4: a packet of the first interface, without a time
abbrev pub plain_in : ℕ → Order → List ℕ → Result Plain BodyFault
plain_in snap_len o body =
    if nat_lt (length body) 4 then Err BodyCut else
    if nat_lt (length body - 4) (kept snap_len (number_of o w32 body)) then Err BodyCut else
    Ok (record {
      original = number_of o w32 body;
      bytes = take (kept snap_len (number_of o w32 body)) (drop 4 body);
    })
