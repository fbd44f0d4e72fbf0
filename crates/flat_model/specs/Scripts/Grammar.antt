-- The script lines that request an event, and what each requests (this project's own).
use Rattle.std.specs.Prelude.{◌≡◌, ℕ, ◌<◌, ◌≤◌, ◌^◌, ◌/◌, ◌%◌, ◌==◌, ◌⊎◌, Bool, true, false, List, [], ◌∷◌, length, codes, decimal, Some, None, Ok}
use Rattle.std.specs.List.{slice_split}
use Rattle.std.specs.Net.Text.{dotted_text}
use Rattle.hex.specs.Hex.{decode_of}
use Rattle.params.specs.declared.TheConstants.{IP_MAX_PACKET, LONGEST_REQUEST}
use Rattle.flat_model.specs.declared.address.Addr.{Addr}
use Rattle.flat_model.specs.declared.option.Opt.{Opt}
use Rattle.flat_model.specs.declared.option.Opt.TheVariants.{Broadcast, ReusePort}
use Rattle.flat_model.specs.Machine.Event.{Event, Open, Bind, Connect, Send, Receive, Close, Set_option, Set_limit, Comes, Transmit, Tick, Ask_counters, Ask_usage}

-- ---- words

-- the parts of a line between its spaces, with one space between each two
abbrev pub words : List ℕ → List (List ℕ)
words line = slice_split (λ byte. byte == 32) line

-- the digits of a number of at most `most`, without leading zeros
abbrev pub IsNumber : ℕ → List ℕ → ℕ → Type 0
IsNumber most word n = (n ≤ most) × (word ≡ decimal n)

abbrev pub WritesDescriptor : List ℕ → ℕ → Type 0
WritesDescriptor word fd = IsNumber 4294967295 word fd

abbrev pub IsPort : List ℕ → ℕ → Type 0
IsPort word port = IsNumber 65535 word port

-- an address as four numbers of 0 to 255 with dots between them
abbrev pub address_text : ℕ → List ℕ
address_text ip = dotted_text (ip / 2 ^ 24) (ip / 2 ^ 16 % 256) (ip / 2 ^ 8 % 256) (ip % 256)

abbrev pub IsAddress : List ℕ → ℕ → Type 0
IsAddress word ip = (ip < 2 ^ 32) × (word ≡ address_text ip)

-- a dash for no bytes, or two hexadecimal digits of either case for each of 1 to 65,535 bytes
abbrev pub IsHex : List ℕ → List ℕ → Type 0
IsHex word bytes = ((word ≡ codes "-") × (bytes ≡ []))
    ⊎ ((0 < length bytes) × (length bytes ≤ IP_MAX_PACKET) × (decode_of word ≡ Ok bytes))

abbrev pub option_name : Opt → List ℕ
option_name Broadcast = codes "broadcast"
option_name ReusePort = codes "reuseport"

abbrev pub switch_name : Bool → List ℕ
switch_name false = codes "0"
switch_name true = codes "1"

-- ---- lines

-- the word that a line begins with
abbrev pub keyword : Event → List ℕ
keyword Open = codes "socket"
keyword (Bind fd address) = codes "bind"
keyword (Connect fd address) = codes "connect"
keyword (Send fd (Some to) bytes) = codes "sendto"
keyword (Send fd None bytes) = codes "send"
keyword (Receive fd most) = codes "recvfrom"
keyword (Close fd) = codes "close"
keyword (Set_option fd option on) = codes "setsockopt"
keyword (Set_limit fd limit) = codes "setsockopt"
keyword (Comes packet) = codes "rx"
keyword Transmit = codes "tx"
keyword Tick = codes "tick"
keyword Ask_counters = codes "stat"
keyword Ask_usage = codes "mbstat"

-- two words for an address and a port
abbrev pub IsEnd : List ℕ → List ℕ → Addr → Type 0
IsEnd a p address = IsAddress a address.ip × IsPort p address.port

-- the words after the first
abbrev pub HasArguments : Event → List (List ℕ) → Type 0
HasArguments Open args = args ≡ []
HasArguments (Bind fd address) args =
    (f a p : List ℕ) × (args ≡ f ∷ a ∷ p ∷ []) × WritesDescriptor f fd × IsEnd a p address
HasArguments (Connect fd address) args =
    (f a p : List ℕ) × (args ≡ f ∷ a ∷ p ∷ []) × WritesDescriptor f fd × IsEnd a p address
HasArguments (Send fd (Some to) bytes) args =
    (f a p h : List ℕ) × (args ≡ f ∷ a ∷ p ∷ h ∷ []) × WritesDescriptor f fd × IsEnd a p to × IsHex h bytes
HasArguments (Send fd None bytes) args = (f h : List ℕ) × (args ≡ f ∷ h ∷ []) × WritesDescriptor f fd × IsHex h bytes
HasArguments (Receive fd most) args =
    (f m : List ℕ) × (args ≡ f ∷ m ∷ []) × WritesDescriptor f fd × IsNumber IP_MAX_PACKET m most × (0 < most)
HasArguments (Close fd) args = (f : List ℕ) × (args ≡ f ∷ []) × WritesDescriptor f fd
HasArguments (Set_option fd option on) args =
    (f : List ℕ) × (args ≡ f ∷ option_name option ∷ switch_name on ∷ []) × WritesDescriptor f fd
HasArguments (Set_limit fd limit) args = ⊥  -- only a program sets a limit, no line does
HasArguments (Comes packet) args = (h : List ℕ) × (args ≡ h ∷ []) × IsHex h packet
HasArguments Transmit args = args ≡ []
HasArguments Tick args = args ≡ []
HasArguments Ask_counters args = args ≡ []
HasArguments Ask_usage args = args ≡ []

-- the line requests the event
pub record IsLine (line : List ℕ) (event : Event) : Type 0 where
  pub short : length line ≤ LONGEST_REQUEST
  pub args : List (List ℕ)
  pub words_are : words line ≡ keyword event ∷ args
  pub arguments : HasArguments event args
