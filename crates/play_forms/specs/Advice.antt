-- The advice for a line without a request: what its author probably meant (this project's own).
use Rattle.std.specs.Prelude.{◌≡◌, ◌⊎◌, ℕ, Bool, true, false, List, [], ◌∷◌, codes, bytes_eq, if◌then◌else◌, Option, Some, None}
use Rattle.std.specs.List.{find}
use Rattle.flat_model.specs.Scripts.Grammar.{words}
use Rattle.play_forms.specs.Near.{has_name, nearest}
use Rattle.play_forms.specs.Table.{Takes, arguments_of, host_commands, hosted_commands, wire_commands}
use Rattle.play_forms.specs.declared.advice.Player.{Player}
use Rattle.play_forms.specs.declared.advice.Player.TheVariants.{Machine, Host, Wire}
use Rattle.play_forms.specs.declared.argument.Argument.{Argument}
use Rattle.play_forms.specs.declared.command.Command.{Command}
use Rattle.play_forms.specs.declared.command.Command.TheVariants as command

-- What is wrong with a line.
pub data Advice : Type 0 where
  Empty : Advice  -- it has no word
  Unknown : (word : List ℕ) (near : Option Command) → Advice  -- its first word is no command, and this one is near
  OfHost : (asked : Command) → Advice  -- that is asked of a host, and it names none
  Wrong : (word : List ℕ) (wanted : Argument) (asked : Command) → Advice  -- a word that isn't what belongs there
  Missing : (wanted : Argument) (asked : Command) → Advice  -- a word is missing
  More : (word : List ℕ) (asked : Command) → Advice  -- the first word that is too much
  Otherwise : (asked : Command) → Advice  -- it has another form

-- ---- which advice applies

abbrev pub commands_of : Player → List Command
commands_of Machine = host_commands
commands_of Host = hosted_commands
commands_of Wire = wire_commands

abbrev pub of_host : Option Command → Advice → Advice
of_host (Some asked) other = OfHost asked
of_host None other = other

-- the first word isn't a command of the player
abbrev pub unknown : Player → List ℕ → Advice
unknown Machine word = Unknown word (nearest word host_commands)
unknown Host word = Unknown word (nearest word hosted_commands)
unknown Wire word = of_host (find (has_name word) hosted_commands) (Unknown word (nearest word wire_commands))

abbrev pub begins_so : List ℕ → List (List ℕ) → Bool
begins_so word [] = false
begins_so word (first ∷ rest) = bytes_eq first word

-- `rx pcap`, `rx udp` and `rx raw` have forms of their own
abbrev pub arrival_form : List (List ℕ) → Command
arrival_form rest =
    if begins_so (codes "pcap") rest then command.RxPcap
    else if begins_so (codes "udp") rest then command.RxUdp
    else if begins_so (codes "raw") rest then command.RxRaw
    else command.Rx

-- `setsockopt FD rcvbuf` has a form of its own
abbrev pub set_form : List (List ℕ) → Command
set_form [] = command.SetSockOpt
set_form (fd ∷ rest) = if begins_so (codes "rcvbuf") rest then command.SetRcvBuf else command.SetSockOpt

abbrev pub narrowed : Command → List (List ℕ) → Command
narrowed command.Rx rest = arrival_form rest
narrowed command.SetSockOpt rest = set_form rest
narrowed asked rest = asked

-- The words after the command, by its arguments: the first word that is wrong, missing or too much.
abbrev pub AdvisesAfter : Command → List Argument → List (List ℕ) → Advice → Type 0
AdvisesAfter asked [] [] advice = advice ≡ Otherwise asked
AdvisesAfter asked [] (word ∷ rest) advice = advice ≡ More word asked
AdvisesAfter asked (wanted ∷ more) [] advice = advice ≡ Missing wanted asked
AdvisesAfter asked (wanted ∷ more) (word ∷ rest) advice =
    (Takes wanted word × AdvisesAfter asked more rest advice)
    ⊎ ((¬ Takes wanted word) × (advice ≡ Wrong word wanted asked))

abbrev pub AdvisesArguments : Command → Option (List Argument) → List (List ℕ) → Advice → Type 0
AdvisesArguments asked (Some arguments) rest advice = AdvisesAfter asked arguments rest advice
AdvisesArguments asked None rest advice = advice ≡ Otherwise asked

abbrev pub AdvisesOn : Player → List ℕ → List (List ℕ) → Option Command → Advice → Type 0
AdvisesOn player word rest (Some asked) advice =
    AdvisesArguments (narrowed asked rest) (arguments_of (narrowed asked rest)) rest advice
AdvisesOn player word rest None advice = advice ≡ unknown player word

abbrev pub AdvisesWords : Player → List (List ℕ) → Advice → Type 0
AdvisesWords player [] advice = advice ≡ Empty
AdvisesWords player ([] ∷ rest) advice = advice ≡ Empty
AdvisesWords player ((byte ∷ bytes) ∷ rest) advice =
    AdvisesOn player (byte ∷ bytes) rest (find (has_name (byte ∷ bytes)) (commands_of player)) advice

-- what is wrong with a plain line, which has one space between each two words
abbrev pub Advises : Player → List ℕ → Advice → Type 0
Advises player plain advice = AdvisesWords player (words plain) advice
