-- What the parts of a block of raw memory own and lend (this project's own).
use Rattle.std.specs.Prelude.{ℕ, ◌+◌, ◌^◌, List, length}
use Rattle.std.specs.Borrow.{u8}
use base.Fml.{Lft, Fml, ffalse, fsep, flt, froom}
use mir.Syntax.{Ty, w8, ty_int, ty_array}
use types.SemTy.{cells}
use denote.Memory.{mem}
use denote.RawPtr.{Ptr, block_ptr, null_ptr}
use denote.Sharing.{said, beside}
use denote.Slice.{elements_shared}

-- n bytes, as the type that a block is allocated for
abbrev pub block_type : ℕ → Ty
block_type n = ty_array (ty_int w8) n

-- the bytes xs, and after them space for n more, fewer than 2 ^ 63 in all
abbrev pub bytes_owned : Ptr → List ℕ → ℕ → Fml
bytes_owned (block_ptr b o) xs n =
    fsep (flt (length xs + n) (2 ^ 63)) (fsep (cells (mem u8) xs b o) (froom (block_type n) b (o + length xs)))
bytes_owned null_ptr xs n = ffalse

-- the bytes xs, readable
abbrev pub bytes_lent : Ptr → List ℕ → ℕ → Lft → Fml
bytes_lent (block_ptr b o) xs n = beside (said (flt (length xs + n) (2 ^ 63))) (elements_shared u8 xs b o)
bytes_lent null_ptr xs n = said ffalse
