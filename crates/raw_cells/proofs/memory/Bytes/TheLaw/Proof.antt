-- A `&` to a block's bytes lends each byte that was written, and none that wasn't. Assumes `Logic`.
use Rattle.std.proofs.Common.{◌≡◌, ℕ, ◌+◌, ◌^◌, List, [], ◌∷◌, length, refl, ap, subst}
use seplogic.Ra.Ura.{Ura}
use base.Fraction.{full_share}
use base.Fml.{Lft, Fml, ffalse, fsep, flt, froom}
use types.Logic.{Logic}
use types.SemTy.{cells}
use types.Share.{parts}
use denote.Builtin.{u8}
use denote.Memory.{mem, shares as shares_of, part_at, shared_of}
use denote.Plain.{uint_row_laws}
use denote.RawPtr.{Ptr, block_ptr, null_ptr}
use denote.Copied.{uint_Copied}
use denote.Shares.{shares_each}
use denote.Sharing.{ShrLaws, said}
use denote.SharingLaws.{beside_shr_laws, said_shr_laws}
use denote.Slice.{elements_shared, elements_shr_laws}
use denote.Struct.Lending.{Lends, Lends-both, Lends-first, Lends-said, Lends-false, of_Lends}
use Rattle.std.proofs.Common.{w8}
use Rattle.raw_cells.specs.Inside.Memory.{bytes_owned, bytes_lent, block_type}
use Rattle.raw_cells.specs.contracts.memory.Bytes as C
use Rattle.raw_cells.proofs.memory.Bytes.TheLaw.Statement.{statement}

lent_laws : (p : Ptr) (xs : List ℕ) (n : ℕ) → ShrLaws (bytes_lent p xs n)
lent_laws (block_ptr b o) xs n =
    beside_shr_laws (said (flt (length xs + n) (2 ^ 63))) (elements_shared u8 xs b o)
    (said_shr_laws (flt (length xs + n) (2 ^ 63)) tt)
    (elements_shr_laws u8 (uint_row_laws w8) xs b o)
lent_laws null_ptr xs n = said_shr_laws ffalse tt

side_by_side : (xs : List ℕ) (b o : ℕ) → parts (mem u8) (shares_of u8) full_share xs b o ≡ cells (mem u8) xs b o
side_by_side [] b o = refl
side_by_side (x ∷ xs) b o = ap (fsep (part_at u8 full_share x b o)) (side_by_side xs b (o + (mem u8).size))

module _ {M : Type 1} {𝓤 : Ura M} (𝓛 : Logic 𝓤) (l : Lft) where
  lends_cells : (xs : List ℕ) (b o : ℕ) → Lends 𝓛 (cells (mem u8) xs b o) (elements_shared u8 xs b o) l
  lends_cells xs b o =
      subst (λ (P : Fml). Lends 𝓛 P (elements_shared u8 xs b o) l) (side_by_side xs b o)
      (λ κ ts inc sp. shares_each 𝓛 u8 (shared_of u8) l ((uint_Copied 𝓛 w8).shares full_share l) xs κ ts b o inc sp)

  lends_bytes : (p : Ptr) (xs : List ℕ) (n : ℕ) → Lends 𝓛 (bytes_owned p xs n) (bytes_lent p xs n) l
  lends_bytes (block_ptr b o) xs n =
      let fits = flt (length xs + n) (2 ^ 63) in let room = froom (block_type n) b (o + length xs) in
      Lends-both 𝓛 fits (fsep (cells (mem u8) xs b o) room) (said fits) (elements_shared u8 xs b o) l
      (Lends-said 𝓛 fits tt l)
      (Lends-first 𝓛 (cells (mem u8) xs b o) room (elements_shared u8 xs b o) l (lends_cells xs b o))
  lends_bytes null_ptr xs n = Lends-false 𝓛 (said ffalse) l

pub shares : statement
shares =
    of_Lends C.struct C.the_codes C.the_heap C.the_lent (λ d p. lent_laws d.at d.written d.blank) tt
    (λ M 𝓤 𝓛 d p. lends_bytes 𝓛 _ d.at d.written d.blank)
