-- The machine of the chain script reduced to the strings of its slots (this project's own): what its replies say about
-- bytes, whatever the layouts are.
use Rattle.std.specs.Prelude.{◌≡◌, ℕ, ◌⊎◌, Bool, false, not, nat_lt, List, [], ◌∷◌, ◌++◌, length, take, drop, map, is_some, unwrap_or, Option, Some, None, slice_set, slice_index_or}
use Rattle.flat_model.specs.declared.usage.Mbstat.{Mbstat}
use Rattle.mbuf_chain.specs.Chain.{flat_bytes}
use Rattle.chain_ops.specs.Extents.{extent_bytes}
use Rattle.chain_ops.specs.Trims.{adjusted_bytes}
use Rattle.chain_ops.specs.Writes.{written_bytes}
use Rattle.chain_script.specs.Lines.{Request, IsRequest, User, Wire, Copy, Prepend, Pull_up, Adjust, Split, Join, Write_over, Read_out, Show, Free, Ask_usage}
use Rattle.chain_script.specs.Machines.{Machine, Slot, slots_fit, lengths_fit, is_too_long}
use Rattle.chain_script.specs.Steps.{Shape, ChainReply, Ready, Held, Layout_shown, Shown, Wrong_chain, Wrong_range, Shared, Too_long, Too_short, No_buffers, first_true, chain_answer_text}

-- ---- the strings of a machine
abbrev pub string_in : Option Slot → Option (List ℕ)
string_in None = None
string_in (Some s) = Some (flat_bytes s.entries)

abbrev pub strings_of : Machine → List (Option (List ℕ))
strings_of b = map string_in b.slots

abbrev pub string_at : List (Option (List ℕ)) → ℕ → Option (List ℕ)
string_at ss i = slice_index_or ss i None

-- no bytes if the slot is empty
abbrev pub bytes_at : List (Option (List ℕ)) → ℕ → List ℕ
bytes_at ss i = unwrap_or (string_at ss i) []

abbrev pub has_string : List (Option (List ℕ)) → ℕ → Bool
has_string ss i = is_some (string_at ss i)

-- ---- the faults that the strings determine, in order
abbrev pub has_strings : List (Option (List ℕ)) → Request → Bool
has_strings ss request = slots_fit (has_string ss) request

abbrev pub is_in_strings : List (Option (List ℕ)) → Request → Bool
is_in_strings ss request = lengths_fit (λ slot. length (bytes_at ss slot)) request

abbrev pub is_string_short : List (Option (List ℕ)) → Request → Bool
is_string_short ss (Pull_up slot n) = nat_lt (length (bytes_at ss slot)) n
is_string_short ss request = false

-- the first one that applies
abbrev pub string_fault : List (Option (List ℕ)) → Request → Option ChainReply
string_fault ss request = first_true (
    (not (has_strings ss request), Wrong_chain)
    ∷ (not (is_in_strings ss request), Wrong_range)
    ∷ (is_too_long request, Too_long)
    ∷ (is_string_short ss request, Too_short)
    ∷ [])

-- ---- the effect of a request on the strings
abbrev pub strings_after : List (Option (List ℕ)) → Request → List (Option (List ℕ))
strings_after ss (User slot bytes) = slice_set ss slot (Some bytes)
strings_after ss (Wire slot bytes) = slice_set ss slot (Some bytes)
strings_after ss (Copy to slot extent) = slice_set ss to (Some (extent_bytes extent (bytes_at ss slot)))
strings_after ss (Prepend slot bytes) = slice_set ss slot (Some (bytes ++ bytes_at ss slot))
strings_after ss (Adjust slot n) = slice_set ss slot (Some (adjusted_bytes n (bytes_at ss slot)))
strings_after ss (Split to slot at) =
    slice_set (slice_set ss slot (Some (take at (bytes_at ss slot)))) to (Some (drop at (bytes_at ss slot)))
strings_after ss (Join slot other) =
    slice_set (slice_set ss other None) slot (Some (bytes_at ss slot ++ bytes_at ss other))
strings_after ss (Write_over slot off bytes) = slice_set ss slot (Some (written_bytes (bytes_at ss slot) off bytes))
strings_after ss (Free slot) = slice_set ss slot None
strings_after ss request = ss

-- the reply of a request that is carried out; the strings determine nothing about layouts and the pool
abbrev pub RepliesDone : List (Option (List ℕ)) → Request → ChainReply → Type 0
RepliesDone ss (Read_out slot off len) reply = reply ≡ Held (take len (drop off (bytes_at ss slot)))
RepliesDone ss (Show slot) reply = (shapes : List Shape) × (reply ≡ Layout_shown (length (bytes_at ss slot)) shapes)
RepliesDone ss Ask_usage reply = (usage : Mbstat) × (reply ≡ Shown usage)
RepliesDone ss request reply = reply ≡ Ready

-- it failed for lack of buffers or because of a shared cluster, which the strings don't determine, and nothing changed
abbrev pub IsSilent : List (Option (List ℕ)) → ChainReply → List (Option (List ℕ)) → Type 0
IsSilent old reply new = ((reply ≡ No_buffers) ⊎ (reply ≡ Shared)) × (new ≡ old)

abbrev pub RepliesUnless : Option ChainReply → List (Option (List ℕ)) → Request → ChainReply → List (Option (List ℕ))
    → Type 0
RepliesUnless (Some fault) old request reply new = (reply ≡ fault) × (new ≡ old)
RepliesUnless None old request reply new =
    IsSilent old reply new ⊎ (RepliesDone old request reply × (new ≡ strings_after old request))

-- from the strings old a request may have this reply and lead to the strings new
abbrev pub StringStep : List (Option (List ℕ)) → Request → ChainReply → List (Option (List ℕ)) → Type 0
StringStep old request reply new = RepliesUnless (string_fault old request) old request reply new

-- ---- lines
abbrev pub StringAnswers : List (Option (List ℕ)) → List ℕ → Option ChainReply → List (Option (List ℕ)) → Type 0
StringAnswers old line (Some reply) new =
    (request : Request) × IsRequest line request × StringStep old request reply new
StringAnswers old line None new = ((request : Request) → ¬ IsRequest line request) × (new ≡ old)

abbrev pub StringSays : List (Option (List ℕ)) → List ℕ → List ℕ → List (Option (List ℕ)) → Type 0
StringSays old line text new =
    (answer : Option ChainReply) × StringAnswers old line answer new × (text ≡ chain_answer_text answer)
