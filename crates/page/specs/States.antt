-- The mbufs of a stack as the page gets them: JSON objects, one per line (this project's own; the fields are those of
-- TCP/IP Illustrated, volume 2, chapters 2, 3, 10 and 16).
use Rattle.std.specs.Prelude.{◌++◌, ◌+◌, ◌-◌, ◌==◌, ℕ, zero, suc, List, [], ◌∷◌, length, take, codes, decimal, unwrap_or, if◌then◌else◌, Option, Some, None, Result, Ok, Err}
use Rattle.std.specs.Result.{result_ok}
use Rattle.hex.specs.Hex.{encode_lower}
use Rattle.params.specs.declared.TheConstants.{FIRST_DESCRIPTOR, MAX_SOCKETS}
use Rattle.flat_model.specs.declared.errno.Errno.{Errno}
use Rattle.mbuf_pool.specs.Cells.{PacketHeader}
use Rattle.mbuf_chain.specs.Chain.{PoolView, chain_of}
use Rattle.mbuf_chain.specs.Heads.{heads, nth_heads}
use Rattle.mbuf_chain.specs.declared.mbuf_head.MbufHead.{MbufHead}
use Rattle.ip_reass.specs.Questions.{nth_unfinished}
use Rattle.ip_reass.specs.declared.questions.UnfinishedDatagram.{UnfinishedDatagram}
use Rattle.sock_calls.specs.Questions.{bytes_queued_at, memory_queued_at, receive_limit_at}
use Rattle.net_stack.specs.Questions.{chains_held, nth_references}
use Rattle.net_stack.specs.Stack.{StackView, state_of}
use Rattle.net_stack.specs.declared.questions.Holder.{Holder}
use Rattle.net_stack.specs.declared.questions.Holder.TheVariants.{Socket, Output, Unfinished}
use Rattle.page.specs.declared.mbufs.TheConstants.{SHOWN}

-- ---- an mbuf

abbrev pub number_text : Option ℕ → List ℕ
number_text None = codes "null"
number_text (Some n) = decimal n

abbrev pub len_in : Option PacketHeader → Option ℕ
len_in None = None
len_in (Some packet) = Some packet.len

abbrev pub tag_in : Option PacketHeader → Option ℕ
tag_in None = None
tag_in (Some packet) = Some packet.arrival

-- its number and its links
abbrev pub link_fields : MbufHead → List ℕ
link_fields m =
    codes "{\"mbuf\":" ++ decimal m.number
    ++ codes ",\"next\":" ++ number_text m.next
    ++ codes ",\"nextpkt\":" ++ number_text m.next_packet

-- the number of its bytes, and their offset
abbrev pub place_fields : MbufHead → List ℕ
place_fields m = codes ",\"len\":" ++ decimal m.len ++ codes ",\"data\":" ++ decimal m.start

-- its packet header and its cluster
abbrev pub header_fields : MbufHead → List ℕ
header_fields m =
    codes ",\"pkthdr\":" ++ number_text (len_in m.packet)
    ++ codes ",\"rcvif\":" ++ number_text (tag_in m.packet)
    ++ codes ",\"cluster\":" ++ number_text m.cluster

-- all of that, and the digits of its first bytes
abbrev pub mbuf_object : MbufHead → List ℕ → List ℕ
mbuf_object m bytes =
    link_fields m ++ place_fields m ++ header_fields m
    ++ codes ",\"bytes\":\"" ++ encode_lower (take SHOWN bytes) ++ codes "\"}\n"

abbrev pub mbuf_objects : List (MbufHead × List ℕ) → List ℕ
mbuf_objects [] = []
mbuf_objects (m ∷ ms) = mbuf_object m.0 m.1 ++ mbuf_objects ms

-- the mbufs of all these chains
abbrev pub chain_objects : PoolView → List ℕ → List ℕ
chain_objects p [] = []
chain_objects p (c ∷ cs) = mbuf_objects (heads (chain_of p c)) ++ chain_objects p cs

-- ---- their holders

abbrev pub first_number : Option (List (MbufHead × List ℕ)) → Option ℕ
first_number None = None
first_number (Some []) = None
first_number (Some (m ∷ ms)) = Some m.0.number

-- the number of the first mbuf of a holder's chain at an index, if there is one
abbrev pub first_held : StackView → Holder → ℕ → Option ℕ
first_held s holder i = first_number (nth_heads s.pool (chains_held s holder) i)

-- the end of a holder's line, and all mbufs that it holds: the chain at index `i` is the first that the line names
abbrev pub held_objects : StackView → Holder → ℕ → List ℕ
held_objects s holder i =
    codes ",\"first\":" ++ number_text (first_held s holder i) ++ codes "}\n"
    ++ chain_objects s.pool (chains_held s holder)

-- a socket with the result of `bytes_queued`, and its queue; nothing if no such socket is open
abbrev pub socket_text : StackView → ℕ → Result ℕ Errno → List ℕ
socket_text s fd (Err refused) = []
socket_text s fd (Ok cc) =
    codes "{\"socket\":" ++ decimal fd
    ++ codes ",\"cc\":" ++ decimal cc
    ++ codes ",\"mbcnt\":" ++ number_text (result_ok (memory_queued_at fd (state_of s)))
    ++ codes ",\"limit\":" ++ number_text (result_ok (receive_limit_at fd (state_of s)))
    ++ held_objects s (Socket fd) 0

abbrev pub socket_objects : StackView → ℕ → List ℕ
socket_objects s place =
    socket_text s (FIRST_DESCRIPTOR + place) (bytes_queued_at (FIRST_DESCRIPTOR + place) (state_of s))

-- the output queue: the number of its packets, and the first mbufs of the last and the first packet
abbrev pub output_objects : StackView → List ℕ
output_objects s =
    codes "{\"output\":" ++ decimal (length (state_of s).output)
    ++ codes ",\"last\":" ++ number_text (first_held s Output (length (state_of s).output - 1))
    ++ held_objects s Output 0

-- the mbuf of the key of an unfinished datagram
abbrev pub holder_field : StackView → ℕ → List ℕ
holder_field s place = codes "{\"unfinished\":" ++ number_text (first_held s (Unfinished place) 0)

-- its key, and its remaining ticks
abbrev pub key_fields : UnfinishedDatagram → List ℕ
key_fields d =
    codes ",\"id\":" ++ decimal d.key.id
    ++ codes ",\"source\":" ++ decimal d.key.source
    ++ codes ",\"ticks\":" ++ decimal d.ticks

-- an unfinished datagram, and the mbufs that it holds: the line names its first fragment
abbrev pub late_text : StackView → ℕ → Option UnfinishedDatagram → List ℕ
late_text s place None = []
late_text s place (Some d) = holder_field s place ++ (key_fields d ++ held_objects s (Unfinished place) 1)

abbrev pub unfinished_objects : StackView → ℕ → List ℕ
unfinished_objects s place = late_text s place (nth_unfinished place (state_of s).unfinished)

abbrev pub references_text : ℕ → ℕ → List ℕ
references_text cluster count =
    (codes "{\"cluster\":" ++ decimal cluster) ++ ((codes ",\"references\":" ++ decimal count) ++ codes "}\n")

-- a cluster, if it has references
abbrev pub counted_text : ℕ → ℕ → List ℕ
counted_text cluster count = if count == 0 then [] else references_text cluster count

abbrev pub cluster_object : StackView → ℕ → List ℕ
cluster_object s cluster = counted_text cluster (unwrap_or (nth_references s.pool cluster) 0)

-- ---- all

-- the lines at all indices below n
abbrev pub below : (ℕ → List ℕ) → ℕ → List ℕ
below lines zero = []
below lines (suc n) = below lines n ++ lines n

-- the sockets of all descriptors
unfoldable pub all_sockets : StackView → List ℕ
all_sockets s = below (socket_objects s) MAX_SOCKETS
