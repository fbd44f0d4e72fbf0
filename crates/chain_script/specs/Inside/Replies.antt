-- The replies for the outcomes of calls (this project's own).
use Rattle.std.specs.Prelude.{ℕ, List, Result, Ok, Err}
use Rattle.chain_script.specs.Steps.{ChainReply, Ready, Held, Wrong_chain, Wrong_range, Shared, Too_long, Too_short, No_buffers}
use Rattle.chain_script.specs.declared.fault.Fault.{Fault}
use Rattle.chain_script.specs.declared.fault.Fault.TheVariants as fault

abbrev pub fault_reply : Fault → ChainReply
fault_reply fault.Chain = Wrong_chain
fault_reply fault.Range = Wrong_range
fault_reply fault.Shared = Shared
fault_reply fault.TooLong = Too_long
fault_reply fault.TooShort = Too_short
fault_reply fault.NoBufs = No_buffers

abbrev pub chain_done_reply : Result Unit Fault → ChainReply
chain_done_reply (Ok done) = Ready
chain_done_reply (Err f) = fault_reply f

abbrev pub held_reply : Result Unit Fault → List ℕ → ChainReply
held_reply (Ok done) buffer = Held buffer
held_reply (Err f) buffer = fault_reply f
