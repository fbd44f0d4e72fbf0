-- Which keyword an event has.
use Rattle.std.proofs.Common.{◌≡◌, ℕ, ◌+◌, ◌<◌, if◌then◌else◌, List, codes, bytes_eq, slice_index_or, Option, Some, None, refl, sym, ap, ◌∙◌, arith}
use Rattle.flat_model.specs.declared.address.Addr.{Addr}
use Rattle.flat_model.specs.Machine.Event.{Event, Open, Bind, Connect, Send, Receive, Close, Set_option, Set_limit, Comes, Transmit, Tick, Ask_counters, Ask_usage}
use Rattle.flat_model.specs.Scripts.Grammar.{keyword}
use Rattle.request.specs.declared.keyword.Keyword.{Keyword}
use Rattle.request.specs.declared.keyword.Keyword.TheVariants as line
use Rattle.request.specs.declared.keyword.TheConstants.{KEYWORDS}
use Rattle.request.specs.Inside.{word_of}

-- a number for each keyword
pub place : List ℕ → ℕ
place word =
    if bytes_eq word (codes "socket") then 0
    else if bytes_eq word (codes "bind") then 1
    else if bytes_eq word (codes "connect") then 2
    else if bytes_eq word (codes "recvfrom") then 3
    else if bytes_eq word (codes "close") then 4
    else if bytes_eq word (codes "setsockopt") then 5
    else if bytes_eq word (codes "rx") then 6
    else if bytes_eq word (codes "tx") then 7
    else if bytes_eq word (codes "tick") then 8
    else if bytes_eq word (codes "stat") then 9
    else if bytes_eq word (codes "mbstat") then 10
    else if bytes_eq word (codes "sendto") then 11
    else 12

-- sends come last, so that their numbers are 11 and more
abbrev pub send_index : Option Addr → ℕ
send_index (Some to) = 0
send_index None = 1

abbrev pub index : Event → ℕ
index Open = 0
index (Bind fd address) = 1
index (Connect fd address) = 2
index (Receive fd most) = 3
index (Close fd) = 4
index (Set_option fd option on) = 5
index (Set_limit fd limit) = 5
index (Comes packet) = 6
index Transmit = 7
index Tick = 8
index Ask_counters = 9
index Ask_usage = 10
index (Send fd to bytes) = 11 + send_index to

pub place-keyword : (event : Event) → place (keyword event) ≡ index event
unfolding place
place-keyword Open = refl
place-keyword (Bind fd address) = refl
place-keyword (Connect fd address) = refl
place-keyword (Send fd (Some to) bytes) = refl
place-keyword (Send fd None bytes) = refl
place-keyword (Receive fd most) = refl
place-keyword (Close fd) = refl
place-keyword (Set_option fd option on) = refl
place-keyword (Set_limit fd limit) = refl
place-keyword (Comes packet) = refl
place-keyword Transmit = refl
place-keyword Tick = refl
place-keyword Ask_counters = refl
place-keyword Ask_usage = refl

abbrev pub index_of : Keyword → ℕ
index_of line.Socket = 0
index_of line.Bind = 1
index_of line.Connect = 2
index_of line.RecvFrom = 3
index_of line.Close = 4
index_of line.SetSockOpt = 5
index_of line.Rx = 6
index_of line.Tx = 7
index_of line.Tick = 8
index_of line.Stat = 9
index_of line.MbStat = 10
index_of line.SendTo = 11
index_of line.Send = 12

place-word : (word : Keyword) → place (word_of word) ≡ index_of word
unfolding place
place-word line.Socket = refl
place-word line.Bind = refl
place-word line.Connect = refl
place-word line.SendTo = refl
place-word line.Send = refl
place-word line.RecvFrom = refl
place-word line.Close = refl
place-word line.SetSockOpt = refl
place-word line.Rx = refl
place-word line.Tx = refl
place-word line.Tick = refl
place-word line.Stat = refl
place-word line.MbStat = refl

-- an event whose keyword is this word
pub index-word : (event : Event) (word : Keyword) → keyword event ≡ word_of word → index event ≡ index_of word
index-word event word same = sym (place-keyword event) ∙ ap place same ∙ place-word word

-- the table has the keyword of each event
listed : (event : Event) → (k : ℕ) × (k < 13) × (word_of (slice_index_or KEYWORDS k line.Socket) ≡ keyword event)
listed Open = (6, omega arith, refl)
listed (Bind fd address) = (7, omega arith, refl)
listed (Connect fd address) = (8, omega arith, refl)
listed (Send fd (Some to) bytes) = (3, omega arith, refl)
listed (Send fd None bytes) = (4, omega arith, refl)
listed (Receive fd most) = (2, omega arith, refl)
listed (Close fd) = (9, omega arith, refl)
listed (Set_option fd option on) = (10, omega arith, refl)
listed (Set_limit fd limit) = (10, omega arith, refl)
listed (Comes packet) = (0, omega arith, refl)
listed Transmit = (1, omega arith, refl)
listed Tick = (5, omega arith, refl)
listed Ask_counters = (11, omega arith, refl)
listed Ask_usage = (12, omega arith, refl)

pub keyword-none : (word : List ℕ)
    → ((k : ℕ) → k < 13 → word_of (slice_index_or KEYWORDS k line.Socket) ≡ word → ⊥)
    → (event : Event) → keyword event ≡ word → ⊥
keyword-none word none event same =
    let at = listed event in
    none at.0 at.1 (at.2 ∙ same)
