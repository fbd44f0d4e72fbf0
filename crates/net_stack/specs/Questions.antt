-- The results of queries about the mbufs of a stack, and of one that reads a datagram without taking it (this project's
-- own; the latter is MSG_PEEK of `soreceive`, volume 2, chapter 16).
use Rattle.std.specs.Prelude.{ℕ, nat_lt, if◌then◌else◌, List, [], ◌∷◌, ◌++◌, Option, None, Some}
use Rattle.flat_model.specs.Machine.Event.{Event, Reply}
use Rattle.flat_model.specs.Machine.State.{State}
use Rattle.flat_model.specs.Machine.Step.{Step}
use Rattle.mbuf_chain.specs.Chain.{PoolView, references}
use Rattle.mbuf_chain.specs.Train.{numbers}
use Rattle.mbuf_chain.specs.declared.mbuf_head.MbufHead.{MbufHead}
use Rattle.sockbuf.specs.SockBuf.{chains_of}
use Rattle.ip_reass.specs.Questions.{nth_held}
use Rattle.sock_calls.specs.Sockets.{queue_at}
use Rattle.net_stack.specs.Stack.{StackView}
use Rattle.net_stack.specs.declared.questions.Holder.{Holder}
use Rattle.net_stack.specs.declared.questions.Holder.TheVariants.{Socket, Output, Unfinished}

-- the numbers of a holder's chains, in order
abbrev pub chains_held : StackView → Holder → List ℕ
chains_held s (Socket fd) = chains_of s.pool (queue_at s.socks.queues fd)
chains_held s Output = numbers s.pool s.output
chains_held s (Unfinished place) = nth_held s.pool s.reass.datagrams place

-- how many mbufs refer to a cluster, if the pool has this cluster
abbrev pub nth_references : PoolView → ℕ → Option ℕ
nth_references p cluster = if nat_lt cluster p.clusters then Some (references p cluster) else None

-- the bytes of these mbufs, in order
abbrev pub bytes_in_mbufs : List (MbufHead × List ℕ) → List ℕ
bytes_in_mbufs [] = []
bytes_in_mbufs (m ∷ ms) = m.1 ++ bytes_in_mbufs ms

-- the machine in this state would reply so to the event
abbrev pub WouldReply : State → Event → Reply → Type 0
WouldReply s event reply = (n : State) × Step s event reply n
