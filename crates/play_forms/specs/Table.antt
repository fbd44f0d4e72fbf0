-- One table of all lines: the word that each begins with, how it's written, and what its words are (this project's
-- own).
use Rattle.std.specs.Prelude.{◌≡◌, ◌⊎◌, ℕ, ◌||◌, Bool, false, List, [], ◌∷◌, codes, bytes_eq, Option, Some, None, IsTrue}
use Rattle.flat_model.specs.Scripts.Grammar.{IsAddress, IsNumber}
use Rattle.play_forms.specs.declared.argument.Argument.{Argument}
use Rattle.play_forms.specs.declared.argument.Argument.TheVariants as argument
use Rattle.play_forms.specs.declared.command.Command.{Command}
use Rattle.play_forms.specs.declared.command.Command.TheVariants as command

-- the word that a line begins with, and the arguments after it; `None` if the arguments aren't checked one by one
pub record Line : Type 0 where
  pub name : List ℕ
  pub arguments : Option (List Argument)

abbrev row : List ℕ → List Argument → Line
row name arguments = record { name = name; arguments = Some arguments }

abbrev own : List ℕ → Line
own name = record { name = name; arguments = None }

abbrev pub line_of : Command → Line
line_of command.Socket = row (codes "socket") []
line_of command.Bind = row (codes "bind") (argument.Fd ∷ argument.Addr ∷ argument.Port ∷ [])
line_of command.Connect = row (codes "connect") (argument.Fd ∷ argument.Addr ∷ argument.Port ∷ [])
line_of command.SendTo = row (codes "sendto") (argument.Fd ∷ argument.Addr ∷ argument.Port ∷ argument.Bytes ∷ [])
line_of command.Send = row (codes "send") (argument.Fd ∷ argument.Bytes ∷ [])
line_of command.RecvFrom = row (codes "recvfrom") (argument.Fd ∷ argument.Len ∷ [])
line_of command.Close = row (codes "close") (argument.Fd ∷ [])
line_of command.SetSockOpt = row (codes "setsockopt") (argument.Fd ∷ argument.Option ∷ argument.Switch ∷ [])
line_of command.SetRcvBuf = row (codes "setsockopt") (argument.Fd ∷ argument.Option ∷ argument.Count ∷ [])
line_of command.Rx = row (codes "rx") (argument.Bytes ∷ [])
line_of command.RxPcap = own (codes "rx")
line_of command.RxUdp = own (codes "rx")
line_of command.RxRaw = own (codes "rx")
line_of command.Tx = row (codes "tx") []
line_of command.Tick = row (codes "tick") (argument.Count ∷ [])
line_of command.Stat = row (codes "stat") []
line_of command.MbStat = row (codes "mbstat") []
line_of command.Show = row (codes "show") (argument.Topic ∷ [])
line_of command.Frame = row (codes "frame") (argument.Bytes ∷ [])
line_of command.LastError = row (codes "error") (argument.Fd ∷ [])
line_of command.ShowOfHost = row (codes "show") (argument.HostTopic ∷ [])
line_of command.Host = own (codes "host")
line_of command.Wire = own (codes "wire")
line_of command.Carry = own (codes "carry")
line_of command.Collect = own (codes "collect")
line_of command.Deliver = own (codes "deliver")
line_of command.Loss = own (codes "loss")
line_of command.Repeat = own (codes "repeat")
line_of command.Reorder = own (codes "reorder")
line_of command.Delay = own (codes "delay")
line_of command.Seed = own (codes "seed")
line_of command.Drop = own (codes "drop")
line_of command.Swap = own (codes "swap")
line_of command.ShowWire = own (codes "show")
line_of command.Summary = own (codes "summary")

abbrev pub name_of : Command → List ℕ
name_of asked = (line_of asked).name

abbrev pub arguments_of : Command → Option (List Argument)
arguments_of asked = (line_of asked).arguments

-- requests to a machine
abbrev pub host_commands : List Command
host_commands =
    command.Socket
    ∷ command.Bind
    ∷ command.Connect
    ∷ command.SendTo
    ∷ command.Send
    ∷ command.RecvFrom
    ∷ command.Close
    ∷ command.SetSockOpt
    ∷ command.Rx
    ∷ command.Tx
    ∷ command.Tick
    ∷ command.Stat
    ∷ command.MbStat
    ∷ command.Show
    ∷ []

-- The commands for one host of many: those of a machine, and those for hosts on an Ethernet only. It is written out as
-- the array in src/hosted.rt is, so that both are equal row by row.
abbrev pub hosted_commands : List Command
hosted_commands =
    command.Socket
    ∷ command.Bind
    ∷ command.Connect
    ∷ command.SendTo
    ∷ command.Send
    ∷ command.RecvFrom
    ∷ command.Close
    ∷ command.SetSockOpt
    ∷ command.Rx
    ∷ command.Tx
    ∷ command.Tick
    ∷ command.Stat
    ∷ command.MbStat
    ∷ command.ShowOfHost
    ∷ command.Frame
    ∷ command.LastError
    ∷ []

-- requests to all hosts and their wire
abbrev pub wire_commands : List Command
wire_commands =
    command.Host
    ∷ command.Wire
    ∷ command.Carry
    ∷ command.Collect
    ∷ command.Deliver
    ∷ command.Tick
    ∷ command.Loss
    ∷ command.Repeat
    ∷ command.Reorder
    ∷ command.Delay
    ∷ command.Seed
    ∷ command.Drop
    ∷ command.Swap
    ∷ command.ShowWire
    ∷ command.Summary
    ∷ []

-- ---- arguments

abbrev pub is_topic : List ℕ → Bool
is_topic word =
    bytes_eq word (codes "sockets")
    || (bytes_eq word (codes "unfinished")
    || (bytes_eq word (codes "queue") || (bytes_eq word (codes "counters") || bytes_eq word (codes "pool"))))

abbrev pub is_host_topic : List ℕ → Bool
is_host_topic word = is_topic word || (bytes_eq word (codes "neighbours") || bytes_eq word (codes "link"))

-- a number of 1 to 65,535
abbrev pub IsCount : List ℕ → Type 0
IsCount word = (bytes_eq word (codes "0") ≡ false) × ((n : ℕ) × IsNumber 65535 word n)

-- The word is a valid argument. Bytes aren't checked here: the parser of lines rejects those that it can't parse.
abbrev pub Takes : Argument → List ℕ → Type 0
Takes argument.Fd word = (n : ℕ) × IsNumber 4294967295 word n
Takes argument.Addr word = (ip : ℕ) × IsAddress word ip
Takes argument.Port word = (n : ℕ) × IsNumber 65535 word n
Takes argument.Len word = IsCount word
Takes argument.Count word = IsCount word
Takes argument.Option word = (word ≡ codes "broadcast") ⊎ (word ≡ codes "reuseport") ⊎ (word ≡ codes "rcvbuf")
Takes argument.Switch word = (word ≡ codes "0") ⊎ (word ≡ codes "1")
Takes argument.Bytes word = Unit
Takes argument.Topic word = IsTrue (is_topic word)
Takes argument.HostTopic word = IsTrue (is_host_topic word)
