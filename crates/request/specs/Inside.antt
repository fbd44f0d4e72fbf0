-- Parsing a keyword and the words after it (this project's own).
use Rattle.std.specs.Prelude.{◌≡◌, ℕ, ◌≤◌, List, Option, Some, None, codes}
use Rattle.params.specs.declared.TheConstants.{IP_MAX_PACKET}
use Rattle.flat_model.specs.Machine.Event.{Event}
use Rattle.flat_model.specs.Scripts.Grammar.{keyword, HasArguments}
use Rattle.request.specs.declared.keyword.Keyword.{Keyword}
use Rattle.request.specs.declared.keyword.Keyword.TheVariants as line
use Rattle.request.specs.declared.request.Request.{Request}
use Rattle.request.specs.Requests.{event_of, room_of}

abbrev pub word_of : Keyword → List ℕ
word_of line.Socket = codes "socket"
word_of line.Bind = codes "bind"
word_of line.Connect = codes "connect"
word_of line.SendTo = codes "sendto"
word_of line.Send = codes "send"
word_of line.RecvFrom = codes "recvfrom"
word_of line.Close = codes "close"
word_of line.SetSockOpt = codes "setsockopt"
word_of line.Rx = codes "rx"
word_of line.Tx = codes "tx"
word_of line.Tick = codes "tick"
word_of line.Stat = codes "stat"
word_of line.MbStat = codes "mbstat"

-- the keyword and the words after it request the event
abbrev pub IsForm : Keyword → List (List ℕ) → Event → Type 0
IsForm word args event = (keyword event ≡ word_of word) × HasArguments event args

-- r is the result of parsing them; the bytes of a request fit in a packet
abbrev pub ReadsForm : Keyword → List (List ℕ) → Option Request → Type 0
ReadsForm word args (Some request) = IsForm word args (event_of request) × (room_of request ≤ IP_MAX_PACKET)
ReadsForm word args None = (event : Event) → IsForm word args event → ⊥
