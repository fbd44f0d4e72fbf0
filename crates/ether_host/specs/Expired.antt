-- The datagrams that the stack dropped in a tick (this project's own).
use Rattle.std.specs.Prelude.{if◌then◌else◌, List, filter_map, Option, Some, None}
use Rattle.flat_model.specs.Machine.State.{Key}
use Rattle.ip_reass.specs.declared.expiring.Expired.{Expired}

-- the key of one whose first byte had arrived
abbrev pub key_told : Expired → Option Key
key_told e = if e.has_first then Some e.key else None

abbrev pub told_keys : List Expired → List Key
told_keys es = filter_map key_told es
