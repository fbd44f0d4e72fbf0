-- The lines of the chain script, and the request of each (this project's own).
use Rattle.std.specs.Prelude.{◌≡◌, ℕ, suc, ℤ, pos, negsuc, ◌-◌, ◌≤◌, List, [], ◌∷◌, ◌++◌, length, codes, decimal}
use Rattle.params.specs.declared.TheConstants.{IP_MAX_PACKET, LONGEST_REQUEST}
use Rattle.flat_model.specs.Scripts.Grammar.{words, IsNumber, IsHex}
use Rattle.chain_script.specs.declared.caller.TheConstants.{SLOTS}
use Rattle.chain_ops.specs.declared.copym.Extent.{Extent}
use Rattle.chain_ops.specs.declared.copym.Extent.TheVariants.{All, Part}

-- the request of a line; a slot is a number of 0 to 63
pub data Request : Type 0 where
  User : (slot : ℕ) (bytes : List ℕ) → Request
  Wire : (slot : ℕ) (bytes : List ℕ) → Request
  Copy : (to slot : ℕ) (extent : Extent) → Request  -- `copym`
  Prepend : (slot : ℕ) (bytes : List ℕ) → Request
  Pull_up : (slot n : ℕ) → Request
  Adjust : (slot : ℕ) (n : ℤ) → Request
  Split : (to slot at : ℕ) → Request
  Join : (slot other : ℕ) → Request  -- `cat`
  Write_over : (slot off : ℕ) (bytes : List ℕ) → Request  -- `copyback`
  Read_out : (slot off len : ℕ) → Request  -- `copydata`
  Show : (slot : ℕ) → Request
  Free : (slot : ℕ) → Request
  Ask_usage : Request  -- `mbstat`

abbrev pub IsSlot : List ℕ → ℕ → Type 0
IsSlot word slot = IsNumber (SLOTS - 1) word slot

abbrev pub IsOffset : List ℕ → ℕ → Type 0
IsOffset word n = IsNumber IP_MAX_PACKET word n

-- a number, with a leading `-` if it is below 0
abbrev pub IsSigned : List ℕ → ℤ → Type 0
IsSigned word (pos n) = IsOffset word n
IsSigned word (negsuc n) = (suc n ≤ IP_MAX_PACKET) × (word ≡ codes "-" ++ decimal (suc n))

-- the word that a line begins with
abbrev pub chain_keyword : Request → List ℕ
chain_keyword (User slot bytes) = codes "user"
chain_keyword (Wire slot bytes) = codes "wire"
chain_keyword (Copy to slot extent) = codes "copym"
chain_keyword (Prepend slot bytes) = codes "prepend"
chain_keyword (Pull_up slot n) = codes "pullup"
chain_keyword (Adjust slot n) = codes "adj"
chain_keyword (Split to slot at) = codes "split"
chain_keyword (Join slot other) = codes "cat"
chain_keyword (Write_over slot off bytes) = codes "copyback"
chain_keyword (Read_out slot off len) = codes "copydata"
chain_keyword (Show slot) = codes "show"
chain_keyword (Free slot) = codes "free"
chain_keyword Ask_usage = codes "mbstat"

-- the words after the slots of a copy
abbrev pub IsExtentWords : List (List ℕ) → Extent → Type 0
IsExtentWords args All = args ≡ codes "all" ∷ []
IsExtentWords args (Part off len) = (o l : List ℕ) × (args ≡ o ∷ l ∷ []) × IsOffset o off × IsOffset l len

-- the words after the first
abbrev pub HasWords : Request → List (List ℕ) → Type 0
HasWords (User slot bytes) args = (s h : List ℕ) × (args ≡ s ∷ h ∷ []) × IsSlot s slot × IsHex h bytes
HasWords (Wire slot bytes) args = (s h : List ℕ) × (args ≡ s ∷ h ∷ []) × IsSlot s slot × IsHex h bytes
HasWords (Copy to slot extent) args =
    (d s : List ℕ) × (rest : List (List ℕ)) × (args ≡ d ∷ s ∷ rest) × IsSlot d to × IsSlot s slot
    × IsExtentWords rest extent
HasWords (Prepend slot bytes) args = (s h : List ℕ) × (args ≡ s ∷ h ∷ []) × IsSlot s slot × IsHex h bytes
HasWords (Pull_up slot n) args = (s w : List ℕ) × (args ≡ s ∷ w ∷ []) × IsSlot s slot × IsOffset w n
HasWords (Adjust slot n) args = (s w : List ℕ) × (args ≡ s ∷ w ∷ []) × IsSlot s slot × IsSigned w n
HasWords (Split to slot at) args =
    (d s w : List ℕ) × (args ≡ d ∷ s ∷ w ∷ []) × IsSlot d to × IsSlot s slot × IsOffset w at
HasWords (Join slot other) args = (s o : List ℕ) × (args ≡ s ∷ o ∷ []) × IsSlot s slot × IsSlot o other
HasWords (Write_over slot off bytes) args =
    (s o h : List ℕ) × (args ≡ s ∷ o ∷ h ∷ []) × IsSlot s slot × IsOffset o off × IsHex h bytes
HasWords (Read_out slot off len) args =
    (s o l : List ℕ) × (args ≡ s ∷ o ∷ l ∷ []) × IsSlot s slot × IsOffset o off × IsOffset l len
HasWords (Show slot) args = (s : List ℕ) × (args ≡ s ∷ []) × IsSlot s slot
HasWords (Free slot) args = (s : List ℕ) × (args ≡ s ∷ []) × IsSlot s slot
HasWords Ask_usage args = args ≡ []

-- the line makes the request
pub record IsRequest (line : List ℕ) (request : Request) : Type 0 where
  pub short : length line ≤ LONGEST_REQUEST
  pub args : List (List ℕ)
  pub words_are : words line ≡ chain_keyword request ∷ args
  pub arguments : HasWords request args
