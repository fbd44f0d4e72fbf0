-- What the handle of a link owns: the box that it holds, if any (this project's own).
use base.Fml.{Fml, ftrue}
use base.Stored.{Coded}
use denote.RawPtr.{Ptr}
use Rattle.std.specs.Prelude.{◌≡◌, Bool, true, false, Option, Some, None}
use Rattle.std.specs.Box.Ownership.{box_owns}
use Rattle.std.specs.Coded.{coded_option}
use Rattle.std.specs.Global.{Global}
use Rattle.std_heap.specs.contracts.GlobalAllocator.TheImpl.{ghosts}
use Rattle.libbsdudp.specs.contracts.link_owned.OwnedLink.{the_row}

-- what a box holds
abbrev pub LinkBoxed : Type 0
LinkBoxed = the_row.Denot

-- what a handle keeps of a box, if it has one
abbrev pub LinkKept : Type 0
LinkKept = Option the_row.Denot

-- the box at p, if there is one: the value in it, and the right to free its block
abbrev pub link_kept_owns : Global → Ptr → LinkKept → Fml
link_kept_owns alloc p None = ftrue
link_kept_owns alloc p (Some v) = box_owns (ghosts.dealloc_token alloc) the_row p v

abbrev pub link_kept_coded : Coded LinkKept
link_kept_coded = coded_option the_row.coded

abbrev pub has_link_box : LinkKept → Bool
has_link_box None = false
has_link_box (Some v) = true

-- there is a box
abbrev pub IsLinkFull : LinkKept → Type 0
IsLinkFull kept = has_link_box kept ≡ true
