-- What a handle owns: the box that it holds, if any (this project's own).
use base.Fml.{Fml, ftrue}
use base.Stored.{Coded}
use denote.RawPtr.{Ptr}
use Rattle.std.specs.Prelude.{◌≡◌, Bool, true, false, Option, Some, None}
use Rattle.std.specs.Box.Ownership.{box_owns}
use Rattle.std.specs.Coded.{coded_option}
use Rattle.std.specs.Global.{Global}
use Rattle.std_heap.specs.contracts.GlobalAllocator.TheImpl.{ghosts}
use Rattle.libbsdudp.specs.contracts.owned.Owned.{the_row}

-- what a box holds
abbrev pub Boxed : Type 0
Boxed = the_row.Denot

-- what a handle keeps of a box, if it has one
abbrev pub Kept : Type 0
Kept = Option the_row.Denot

-- the box at p, if there is one: the value in it, and the right to free its block
abbrev pub kept_owns : Global → Ptr → Kept → Fml
kept_owns alloc p None = ftrue
kept_owns alloc p (Some v) = box_owns (ghosts.dealloc_token alloc) the_row p v

abbrev pub kept_coded : Coded Kept
kept_coded = coded_option the_row.coded

abbrev pub has_box : Kept → Bool
has_box None = false
has_box (Some v) = true

-- there is a box
abbrev pub IsFull : Kept → Type 0
IsFull kept = has_box kept ≡ true
