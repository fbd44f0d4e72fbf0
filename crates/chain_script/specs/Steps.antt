-- The replies of the machine of the chain script, and their text (this project's own).
use Rattle.std.specs.Prelude.{◌≡◌, ℕ, Bool, true, false, not, List, [], ◌∷◌, ◌++◌, length, take, drop, map, flat_map, count_by, codes, decimal, Option, Some, None, if◌then◌else◌}
use Rattle.params.specs.declared.TheConstants.{CLUSTER_LEADING_SPACE}
use Rattle.flat_model.specs.Amounts.Layout.{user, wire, is_cluster}
use Rattle.flat_model.specs.Scripts.Texts.{hex_text, usage_text}
use Rattle.flat_model.specs.declared.usage.Mbstat.{Mbstat}
use Rattle.mbuf_chain.specs.Chain.{Entry, flat_bytes}
use Rattle.chain_ops.specs.Extents.{extent_header, extent_copied}
use Rattle.chain_ops.specs.Trims.{adjusted}
use Rattle.chain_ops.specs.Joins.{cat}
use Rattle.chain_ops.specs.Pulls.{entries_pulled}
use Rattle.chain_ops.specs.Prepends.{prepended}
use Rattle.chain_ops.specs.Splits.{split_front, split_back}
use Rattle.chain_ops.specs.Stored.{stored_first}
use Rattle.chain_ops.specs.Writes.{copied_back}
use Rattle.chain_script.specs.Lines.{Request, IsRequest, User, Wire, Copy, Prepend, Pull_up, Adjust, Split, Join, Write_over, Read_out, Show, Free, Ask_usage}
use Rattle.chain_script.specs.Machines.{Machine, with_slot, emptied, entries_at, header_at, view_at, length_at, times_referred, AreFreeIn, slots_usage, has_slots, is_in_range, hits_shared, is_too_long, is_too_short, lacks_buffers}

-- an mbuf: its length, and the reference count of its cluster if it has one
pub record Shape : Type 0 where
  pub size : ℕ
  pub count : Option ℕ

pub data ChainReply : Type 0 where
  Ready : ChainReply
  Held : (bytes : List ℕ) → ChainReply
  Layout_shown : (len : ℕ) (shapes : List Shape) → ChainReply
  Shown : (usage : Mbstat) → ChainReply
  Wrong_chain : ChainReply
  Wrong_range : ChainReply
  Shared : ChainReply
  Too_long : ChainReply
  Too_short : ChainReply
  No_buffers : ChainReply

-- ---- a step
abbrev pub first_true : List (Bool × ChainReply) → Option ChainReply
first_true [] = None
first_true (test ∷ tests) = if test.0 then Some test.1 else first_true tests

-- the first fault that applies
abbrev pub request_fault : Machine → Request → Option ChainReply
request_fault b request = first_true (
    (not (has_slots b request), Wrong_chain)
    ∷ (not (is_in_range b request), Wrong_range)
    ∷ (hits_shared b request, Shared)
    ∷ (is_too_long request, Too_long)
    ∷ (is_too_short b request, Too_short)
    ∷ (lacks_buffers b request, No_buffers)
    ∷ [])

abbrev pub count_in : (ℕ → ℕ) → Option ℕ → Option ℕ
count_in counts None = None
count_in counts (Some c) = Some (counts c)

abbrev pub shape_of : (ℕ → ℕ) → Entry → Shape
shape_of counts e = record { size = length e.bytes; count = count_in counts e.cluster }

-- the shapes of these entries, if the clusters have these counts
abbrev pub shapes_of : (ℕ → ℕ) → List Entry → List Shape
shapes_of counts es = map (shape_of counts) es

-- the request is carried out; the choice of free clusters is unspecified
abbrev pub DoesRequest : Machine → Request → ChainReply → Machine → Type 0
DoesRequest b (User slot bytes) reply new =
    (reply ≡ Ready) × (cs : List ℕ) × AreFreeIn b cs × (length cs ≡ count_by is_cluster (user (length bytes)))
    × (new ≡ with_slot b slot true (stored_first CLUSTER_LEADING_SPACE true cs (user (length bytes)) bytes))
DoesRequest b (Wire slot bytes) reply new =
    (reply ≡ Ready) × (cs : List ℕ) × AreFreeIn b cs × (length cs ≡ count_by is_cluster (wire (length bytes)))
    × (new ≡ with_slot b slot true (stored_first 0 false cs (wire (length bytes)) bytes))
DoesRequest b (Copy to slot extent) reply new =
    (reply ≡ Ready) × (new ≡ with_slot b to (extent_header extent (header_at b slot))
    (extent_copied extent (header_at b slot) (entries_at b slot)))
DoesRequest b (Prepend slot bytes) reply new =
    (reply ≡ Ready) × (new ≡ with_slot b slot (header_at b slot) (prepended (view_at b slot) bytes))
DoesRequest b (Pull_up slot n) reply new =
    (reply ≡ Ready) × (new ≡ with_slot b slot (header_at b slot) (entries_pulled (view_at b slot) n))
DoesRequest b (Adjust slot n) reply new =
    (reply ≡ Ready) × (new ≡ with_slot b slot (header_at b slot) (adjusted n (entries_at b slot)))
DoesRequest b (Split to slot at) reply new =
    (reply ≡ Ready)
    × (new ≡ with_slot (with_slot b slot (header_at b slot) (split_front (entries_at b slot) at)) to (header_at b slot)
    (split_back (header_at b slot) (entries_at b slot) at))
DoesRequest b (Join slot other) reply new =
    (reply ≡ Ready) × (new ≡ with_slot (emptied b other) slot (header_at b slot)
    (cat (entries_at b slot) (entries_at b other)))
DoesRequest b (Write_over slot off bytes) reply new =
    (reply ≡ Ready)
    × (new ≡ with_slot b slot (header_at b slot) (copied_back (entries_at b slot) off bytes))
DoesRequest b (Read_out slot off len) reply new =
    (reply ≡ Held (take len (drop off (flat_bytes (entries_at b slot))))) × (new ≡ b)
DoesRequest b (Show slot) reply new =
    (reply ≡ Layout_shown (length_at b slot) (shapes_of (times_referred b) (entries_at b slot))) × (new ≡ b)
DoesRequest b (Free slot) reply new = (reply ≡ Ready) × (new ≡ emptied b slot)
DoesRequest b Ask_usage reply new = (reply ≡ Shown (slots_usage b)) × (new ≡ b)

abbrev pub DoesUnless : Option ChainReply → Machine → Request → ChainReply → Machine → Type 0
DoesUnless None b request reply new = DoesRequest b request reply new
DoesUnless (Some fault) b request reply new = (reply ≡ fault) × (new ≡ b)

-- from old the machine may give this reply to a request and go on to new; a fault changes nothing
abbrev pub ChainStep : Machine → Request → ChainReply → Machine → Type 0
ChainStep old request reply new = DoesUnless (request_fault old request) old request reply new

-- ---- texts
abbrev pub mbuf_text : ℕ → Option ℕ → List ℕ
mbuf_text n None = codes " P" ++ decimal n
mbuf_text n (Some k) = codes " C" ++ decimal n ++ codes "x" ++ decimal k

abbrev pub shape_text : Shape → List ℕ
shape_text s = mbuf_text s.size s.count

abbrev pub chain_reply_text : ChainReply → List ℕ
chain_reply_text Ready = codes "ok"
chain_reply_text (Held bytes) = codes "data " ++ hex_text bytes
chain_reply_text (Layout_shown len shapes) = codes "len " ++ decimal len ++ flat_map shape_text shapes
chain_reply_text (Shown usage) = usage_text usage
chain_reply_text Wrong_chain = codes "? chain"
chain_reply_text Wrong_range = codes "? range"
chain_reply_text Shared = codes "shared"
chain_reply_text Too_long = codes "toolong"
chain_reply_text Too_short = codes "tooshort"
chain_reply_text No_buffers = codes "nobufs"

-- as the script loop needs it: the text that a line may get on the way from old to new
abbrev pub AnswersLine : Machine → List ℕ → Option ChainReply → Machine → Type 0
AnswersLine old line (Some reply) new = (request : Request) × IsRequest line request × ChainStep old request reply new
AnswersLine old line None new = ((request : Request) → ¬ IsRequest line request) × (new ≡ old)

abbrev pub chain_answer_text : Option ChainReply → List ℕ
chain_answer_text (Some reply) = chain_reply_text reply ++ codes "\n"
chain_answer_text None = codes "? line\n"

abbrev pub Says : Machine → List ℕ → List ℕ → Machine → Type 0
Says old line text new =
    (answer : Option ChainReply) × AnswersLine old line answer new × (text ≡ chain_answer_text answer)
