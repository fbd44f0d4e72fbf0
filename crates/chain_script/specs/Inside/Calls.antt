-- The request that a call describes. The bytes of a line are at the front of the separate buffer (this project's own).
use Rattle.std.specs.Prelude.{◌≡◌, ℕ, ◌<◌, ◌≤◌, List, take, codes, Option, Some, None}
use Rattle.params.specs.declared.TheConstants.{IP_MAX_PACKET}
use Rattle.chain_script.specs.Lines as lines
use Rattle.chain_script.specs.declared.caller.TheConstants.{SLOTS}
use Rattle.chain_script.specs.declared.keyword.Keyword.{Keyword}
use Rattle.chain_script.specs.declared.keyword.Keyword.TheVariants as word
use Rattle.chain_script.specs.declared.line.Call.{Call}
use Rattle.chain_script.specs.declared.line.Call.TheVariants.{User, Wire, Copy, Prepend, PullUp, Adjust, Split, Join, WriteOver, ReadOut, Show, Free, Usage}

abbrev pub request_of : Call → List ℕ → lines.Request
request_of (User slot len) buffer = lines.User slot (take len buffer)
request_of (Wire slot len) buffer = lines.Wire slot (take len buffer)
request_of (Copy to slot extent) buffer = lines.Copy to slot extent
request_of (Prepend slot len) buffer = lines.Prepend slot (take len buffer)
request_of (PullUp slot n) buffer = lines.Pull_up slot n
request_of (Adjust slot n) buffer = lines.Adjust slot n
request_of (Split to slot at) buffer = lines.Split to slot at
request_of (Join slot other) buffer = lines.Join slot other
request_of (WriteOver slot off len) buffer = lines.Write_over slot off (take len buffer)
request_of (ReadOut slot off len) buffer = lines.Read_out slot off len
request_of (Show slot) buffer = lines.Show slot
request_of (Free slot) buffer = lines.Free slot
request_of Usage buffer = lines.Ask_usage

-- its slots exist, and its numbers are within the limits of a line
abbrev pub IsSlotCall : Call → Type 0
IsSlotCall (User slot len) = (slot < SLOTS) × (len ≤ IP_MAX_PACKET)
IsSlotCall (Wire slot len) = (slot < SLOTS) × (len ≤ IP_MAX_PACKET)
IsSlotCall (Copy to slot extent) = (to < SLOTS) × (slot < SLOTS)
IsSlotCall (Prepend slot len) = (slot < SLOTS) × (len ≤ IP_MAX_PACKET)
IsSlotCall (PullUp slot n) = slot < SLOTS
IsSlotCall (Adjust slot n) = slot < SLOTS
IsSlotCall (Split to slot at) = (to < SLOTS) × (slot < SLOTS)
IsSlotCall (Join slot other) = (slot < SLOTS) × (other < SLOTS)
IsSlotCall (WriteOver slot off len) = (slot < SLOTS) × (off ≤ IP_MAX_PACKET) × (len ≤ IP_MAX_PACKET)
IsSlotCall (ReadOut slot off len) = (slot < SLOTS) × (off ≤ IP_MAX_PACKET) × (len ≤ IP_MAX_PACKET)
IsSlotCall (Show slot) = slot < SLOTS
IsSlotCall (Free slot) = slot < SLOTS
IsSlotCall Usage = Unit {0}

abbrev pub word_of : Keyword → List ℕ
word_of word.User = codes "user"
word_of word.Wire = codes "wire"
word_of word.CopyM = codes "copym"
word_of word.Prepend = codes "prepend"
word_of word.PullUp = codes "pullup"
word_of word.Adj = codes "adj"
word_of word.Split = codes "split"
word_of word.Cat = codes "cat"
word_of word.CopyBack = codes "copyback"
word_of word.CopyData = codes "copydata"
word_of word.Show = codes "show"
word_of word.Free = codes "free"
word_of word.MbStat = codes "mbstat"

-- the words after the keyword make up the request
abbrev pub IsChainForm : List ℕ → List (List ℕ) → lines.Request → Type 0
IsChainForm name args request = (lines.chain_keyword request ≡ name) × lines.HasWords request args

-- the result of parsing the words after the keyword
abbrev pub ReadsChainForm : List ℕ → List (List ℕ) → List ℕ → Option Call → Type 0
ReadsChainForm name args buffer (Some call) = IsChainForm name args (request_of call buffer) × IsSlotCall call
ReadsChainForm name args buffer None = (request : lines.Request) → IsChainForm name args request → ⊥
