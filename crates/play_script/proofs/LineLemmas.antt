-- A line has at most one request.
use Rattle.std.proofs.Common.{◌≡◌, ℕ, suc, ◌+◌, ◌*◌, ◌<◌, ◌^◌, true, false, List, [], ◌∷◌, length, get_or, codes, Some, None, inl, inr, sym, ap, ap₂, ◌∙◌, arith, subst}
use Rattle.std.proofs.lemmas.Bool.{false≢true}
use Rattle.std.proofs.lemmas.Fmt.{decimal_injective}
use Rattle.flat_model.specs.Machine.Event.{Event, Open, Bind, Connect, Send, Receive, Close, Set_option, Set_limit, Comes, Transmit, Tick, Ask_counters, Ask_usage}
use Rattle.flat_model.specs.declared.option.Opt.{Opt}
use Rattle.flat_model.specs.declared.option.Opt.TheVariants.{Broadcast, ReusePort}
use Rattle.flat_model.specs.Scripts.Grammar.{HasArguments, IsLine, IsNumber, keyword, option_name, switch_name, words}
use Rattle.flat_model.specs.Scripts.Script as script
use Rattle.flat_model.specs.Scripts.Script.{all_events}
use Rattle.play_pcap.specs.Asks.{IsAsked}
use Rattle.play_pcap.specs.declared.ask.Details.{Details}
use Rattle.play_script.specs.Settings.{has_dashes}
use Rattle.play_script.proofs.DashLemmas.{first_dash}
use Rattle.play_show.specs.Topics.{topic_asked}
use Rattle.play_show.specs.declared.topic.Topic.{Topic}
use Rattle.play_show.proofs.Laws.{begins_with_show}
use Rattle.play_script.specs.Asks.{Ask, Call, Ticks, Show, Capture, Settings, AsksFor, Calls, IsLimit, IsTicks, Writes}
use Rattle.play_script.proofs.DetailLemmas.{name-same, capture-same}

-- the first two bytes of a word, and of the first word
abbrev front_of : List ℕ → ℕ
front_of word = get_or word 0 0 * 256 + get_or word 1 0

abbrev first_of : List (List ℕ) → ℕ
first_of [] = 0
first_of (word ∷ more) = front_of word

-- ---- the first word

-- no keyword begins with `sh`, and none with a dash
not-show : (event : Event) → front_of (keyword event) ≡ 29544 → ⊥
not-show Open h = omega (arith, h)
not-show (Bind fd address) h = omega (arith, h)
not-show (Connect fd address) h = omega (arith, h)
not-show (Send fd (Some to) bytes) h = omega (arith, h)
not-show (Send fd None bytes) h = omega (arith, h)
not-show (Receive fd most) h = omega (arith, h)
not-show (Close fd) h = omega (arith, h)
not-show (Set_option fd option on) h = omega (arith, h)
not-show (Set_limit fd limit) h = omega (arith, h)
not-show (Comes packet) h = omega (arith, h)
not-show Transmit h = omega (arith, h)
not-show Tick h = omega (arith, h)
not-show Ask_counters h = omega (arith, h)
not-show Ask_usage h = omega (arith, h)

no-dash : (event : Event) → get_or (keyword event) 0 0 ≡ 45 → ⊥
no-dash Open h = omega (arith, h)
no-dash (Bind fd address) h = omega (arith, h)
no-dash (Connect fd address) h = omega (arith, h)
no-dash (Send fd (Some to) bytes) h = omega (arith, h)
no-dash (Send fd None bytes) h = omega (arith, h)
no-dash (Receive fd most) h = omega (arith, h)
no-dash (Close fd) h = omega (arith, h)
no-dash (Set_option fd option on) h = omega (arith, h)
no-dash (Set_limit fd limit) h = omega (arith, h)
no-dash (Comes packet) h = omega (arith, h)
no-dash Transmit h = omega (arith, h)
no-dash Tick h = omega (arith, h)
no-dash Ask_counters h = omega (arith, h)
no-dash Ask_usage h = omega (arith, h)

-- one word follows `rx`, and none follows `tick`
after-rx : (event : Event) (args : List (List ℕ)) → front_of (keyword event) ≡ 29304 → HasArguments event args
    → length args ≡ 1
after-rx Open args h has = absurd (omega (arith, h))
after-rx (Bind fd address) args h has = absurd (omega (arith, h))
after-rx (Connect fd address) args h has = absurd (omega (arith, h))
after-rx (Send fd (Some to) bytes) args h has = absurd (omega (arith, h))
after-rx (Send fd None bytes) args h has = absurd (omega (arith, h))
after-rx (Receive fd most) args h has = absurd (omega (arith, h))
after-rx (Close fd) args h has = absurd (omega (arith, h))
after-rx (Set_option fd option on) args h has = absurd (omega (arith, h))
after-rx (Set_limit fd limit) args h has = absurd has
after-rx (Comes packet) args h has = ap length has.1
after-rx Transmit args h has = absurd (omega (arith, h))
after-rx Tick args h has = absurd (omega (arith, h))
after-rx Ask_counters args h has = absurd (omega (arith, h))
after-rx Ask_usage args h has = absurd (omega (arith, h))

after-tick : (event : Event) (args : List (List ℕ)) → front_of (keyword event) ≡ 29801 → HasArguments event args
    → length args ≡ 0
after-tick Open args h has = absurd (omega (arith, h))
after-tick (Bind fd address) args h has = absurd (omega (arith, h))
after-tick (Connect fd address) args h has = absurd (omega (arith, h))
after-tick (Send fd (Some to) bytes) args h has = absurd (omega (arith, h))
after-tick (Send fd None bytes) args h has = absurd (omega (arith, h))
after-tick (Receive fd most) args h has = absurd (omega (arith, h))
after-tick (Close fd) args h has = absurd (omega (arith, h))
after-tick (Set_option fd option on) args h has = absurd (omega (arith, h))
after-tick (Set_limit fd limit) args h has = absurd has
after-tick (Comes packet) args h has = absurd (omega (arith, h))
after-tick Transmit args h has = absurd (omega (arith, h))
after-tick Tick args h has = ap length has
after-tick Ask_counters args h has = absurd (omega (arith, h))
after-tick Ask_usage args h has = absurd (omega (arith, h))

-- an option and a switch follow the descriptor after `setsockopt`, the only keyword whose third letter is a `t`
after-set : (event : Event) (args : List (List ℕ)) → get_or (keyword event) 2 0 ≡ 116 → HasArguments event args
    → (f : List ℕ) × (option : Opt) × (on : List ℕ) × (args ≡ f ∷ option_name option ∷ on ∷ [])
after-set Open args h has = absurd (omega (arith, h))
after-set (Bind fd address) args h has = absurd (omega (arith, h))
after-set (Connect fd address) args h has = absurd (omega (arith, h))
after-set (Send fd (Some to) bytes) args h has = absurd (omega (arith, h))
after-set (Send fd None bytes) args h has = absurd (omega (arith, h))
after-set (Receive fd most) args h has = absurd (omega (arith, h))
after-set (Close fd) args h has = absurd (omega (arith, h))
after-set (Set_option fd option on) args h has = (has.0, option, switch_name on, has.1)
after-set (Set_limit fd limit) args h has = absurd has
after-set (Comes packet) args h has = absurd (omega (arith, h))
after-set Transmit args h has = absurd (omega (arith, h))
after-set Tick args h has = absurd (omega (arith, h))
after-set Ask_counters args h has = absurd (omega (arith, h))
after-set Ask_usage args h has = absurd (omega (arith, h))

-- ---- two requests that a line can't have at the same time

not-rcvbuf : (option : Opt) → option_name option ≡ codes "rcvbuf" → ⊥
not-rcvbuf Broadcast e = let same : 9 ≡ 6 = ap length e in omega (arith, same)
not-rcvbuf ReusePort e = let same : 9 ≡ 6 = ap length e in omega (arith, same)

call-limit : (plain : List ℕ) (event : Event) (fd limit : ℕ) → script.Asks all_events plain event
    → IsLimit plain fd limit → ⊥
call-limit plain event fd limit asks is =
    let all : keyword event ∷ asks.form.args ≡ codes "setsockopt" ∷ is.0 ∷ codes "rcvbuf" ∷ is.1 ∷ [] =
    sym asks.form.words_are ∙ is.2 in
    let name : keyword event ≡ codes "setsockopt" = cc all in
    let args : asks.form.args ≡ is.0 ∷ codes "rcvbuf" ∷ is.1 ∷ [] = cc all in
    let set = after-set event asks.form.args (ap (λ (w : List ℕ). get_or w 2 0) name) asks.form.arguments in
    let both : set.0 ∷ option_name set.1 ∷ set.2 ∷ [] ≡ is.0 ∷ codes "rcvbuf" ∷ is.1 ∷ [] = sym set.3 ∙ args in
    not-rcvbuf set.1 (cc both)

call-ticks : (plain : List ℕ) (event : Event) (n : ℕ) → Calls plain event → IsTicks plain n → ⊥
call-ticks plain event n (inl asks) ticks =
    let all : keyword event ∷ asks.form.args ≡ codes "tick" ∷ ticks.0 ∷ [] = sym asks.form.words_are ∙ ticks.1 in
    let name : keyword event ≡ codes "tick" = cc all in
    let args : asks.form.args ≡ ticks.0 ∷ [] = cc all in
    let none : length asks.form.args ≡ 0 = after-tick event asks.form.args (ap front_of name) asks.form.arguments in
    let one : length asks.form.args ≡ 1 = ap length args in
    omega (arith, none, one)
call-ticks plain event n (inr limit) ticks =
    let apart : 29801 ≡ 29541 = sym (ap first_of ticks.1) ∙ ap first_of limit.3.2 in omega (arith, apart)

pub call-show : (plain : List ℕ) (event : Event) (topic : Topic) → Calls plain event
    → topic_asked plain ≡ Some topic → ⊥
call-show plain event topic (inl asks) is =
    let shows = begins_with_show plain topic is in
    not-show event (sym (ap first_of asks.form.words_are) ∙ ap first_of shows.1)
call-show plain event topic (inr limit) is =
    let shows = begins_with_show plain topic is in
    let apart : 29541 ≡ 29544 = sym (ap first_of limit.3.2) ∙ ap first_of shows.1 in omega (arith, apart)

pub call-capture : (plain : List ℕ) (event : Event) (name : List ℕ) (d : Details) → Calls plain event
    → IsAsked plain name d → ⊥
call-capture plain event name d (inl asks) asked =
    let all : keyword event ∷ asks.form.args ≡ codes "rx" ∷ codes "pcap" ∷ name ∷ asked.0 =
    sym asks.form.words_are ∙ asked.1 in
    let first : keyword event ≡ codes "rx" = cc all in
    let args : asks.form.args ≡ codes "pcap" ∷ name ∷ asked.0 = cc all in
    let one : length asks.form.args ≡ 1 = after-rx event asks.form.args (ap front_of first) asks.form.arguments in
    let two : length asks.form.args ≡ suc (suc (length asked.0)) = ap length args in
    omega (arith, one, two)
call-capture plain event name d (inr limit) asked =
    let apart : 29304 ≡ 29541 = sym (ap first_of asked.1) ∙ ap first_of limit.3.2 in omega (arith, apart)

pub ticks-show : (plain : List ℕ) (n : ℕ) (topic : Topic) → IsTicks plain n → topic_asked plain ≡ Some topic → ⊥
ticks-show plain n topic ticks is =
    let shows = begins_with_show plain topic is in
    let apart : 29801 ≡ 29544 = sym (ap first_of ticks.1) ∙ ap first_of shows.1 in omega (arith, apart)

pub ticks-capture : (plain : List ℕ) (n : ℕ) (name : List ℕ) (d : Details) → IsTicks plain n → IsAsked plain name d → ⊥
ticks-capture plain n name d ticks asked =
    let apart : 29801 ≡ 29304 = sym (ap first_of ticks.1) ∙ ap first_of asked.1 in omega (arith, apart)

show-capture : (plain : List ℕ) (topic : Topic) (name : List ℕ) (d : Details) → topic_asked plain ≡ Some topic
    → IsAsked plain name d → ⊥
show-capture plain topic name d is asked =
    let shows = begins_with_show plain topic is in
    let apart : 29304 ≡ 29544 = sym (ap first_of asked.1) ∙ ap first_of shows.1 in omega (arith, apart)

-- ---- settings

pub call-settings : (plain : List ℕ) (event : Event) → has_dashes plain ≡ true → Calls plain event → ⊥
call-settings plain event is (inl h) =
    no-dash event (first_dash plain (keyword event) h.form.args is h.form.words_are)
call-settings plain event is (inr h) =
    let same : get_or (codes "setsockopt") 0 0 ≡ 45 = first_dash plain (codes "setsockopt") _ is h.3.2 in
    omega (arith, same)

pub ticks-settings : (plain : List ℕ) (n : ℕ) → has_dashes plain ≡ true → IsTicks plain n → ⊥
ticks-settings plain n is h =
    let same : get_or (codes "tick") 0 0 ≡ 45 = first_dash plain (codes "tick") (h.0 ∷ []) is h.1 in
    omega (arith, same)

show-settings : (plain : List ℕ) (topic : Topic) → has_dashes plain ≡ true → topic_asked plain ≡ Some topic → ⊥
show-settings plain topic is h =
    let shows = begins_with_show plain topic h in
    let same : get_or (codes "show") 0 0 ≡ 45 = first_dash plain (codes "show") shows.0 is shows.1 in
    omega (arith, same)

capture-settings : (plain name : List ℕ) (d : Details) → has_dashes plain ≡ true → IsAsked plain name d → ⊥
capture-settings plain name d is h =
    let same : get_or (codes "rx") 0 0 ≡ 45 = first_dash plain (codes "rx") (codes "pcap" ∷ name ∷ h.0) is h.1 in
    omega (arith, same)

-- the only request of a line of settings
settings_alone : (plain : List ℕ) (ask : Ask) → has_dashes plain ≡ true → Writes plain ask
    → ask ≡ Settings (words plain)
settings_alone plain (Call event) is h = absurd (call-settings plain event is h)
settings_alone plain (Ticks n) is h = absurd (ticks-settings plain n is h)
settings_alone plain (Show topic) is h = absurd (show-settings plain topic is h)
settings_alone plain (Capture name d) is h = absurd (capture-settings plain name d is h)
settings_alone plain (Settings named) is h = ap Settings h.1

-- ---- at most one request

number_same : (most m n : ℕ) (word : List ℕ) → most < 2 ^ 64 → IsNumber most word m → IsNumber most word n → m ≡ n
number_same most m n word small h k =
    decimal_injective m n (omega (arith, h.0, small)) (omega (arith, k.0, small)) (sym h.1 ∙ k.1)

limit_same : (plain : List ℕ) (e f : Event) (fd limit fd' limit' : ℕ) → e ≡ Set_limit fd limit
    → f ≡ Set_limit fd' limit' → IsLimit plain fd limit → IsLimit plain fd' limit' → e ≡ f
limit_same plain e f fd limit fd' limit' is was h k =
    let all : codes "setsockopt" ∷ h.0 ∷ codes "rcvbuf" ∷ h.1 ∷ [] ≡ codes "setsockopt" ∷ k.0 ∷ codes "rcvbuf" ∷ k.1 ∷ []
    = sym h.2 ∙ k.2 in
    let first : h.0 ≡ k.0 = cc all in
    let last : h.1 ≡ k.1 = cc all in
    let fds = number_same 4294967295 fd fd' k.0 (omega arith)
    (subst (λ (w : List ℕ). IsNumber 4294967295 w fd) first h.3) k.3 in
    let limits = number_same 65535 limit limit' k.1 (omega arith)
    (subst (λ (w : List ℕ). IsNumber 65535 w limit) last h.4) k.4 in
    is ∙ ap₂ (λ (a b : ℕ). Set_limit a b) fds limits ∙ sym was

one_count : (plain : List ℕ) (m n : ℕ) → IsTicks plain m → IsTicks plain n → m ≡ n
one_count plain m n h k =
    let all : codes "tick" ∷ h.0 ∷ [] ≡ codes "tick" ∷ k.0 ∷ [] = sym h.1 ∙ k.1 in
    let word : h.0 ≡ k.0 = cc all in
    decimal_injective m n (omega (arith, h.2.0)) (omega (arith, k.2.0)) (sym h.2.1 ∙ word ∙ k.2.1)

topic-same : (topic other : Topic) → Some topic ≡ Some other → topic ≡ other
topic-same topic other e = cc e

-- a law of the crate `request`: a line is at most one event
abbrev pub OneEvent : Type 0
OneEvent = (line : List ℕ) (a b : Event) → IsLine line a → IsLine line b → a ≡ b

pub one_ask : OneEvent → (plain : List ℕ) (a b : Ask) → Writes plain a → Writes plain b → a ≡ b
one_ask one plain (Call e) (Call f) (inl h) (inl k) = ap Call (one plain e f h.form k.form)
one_ask one plain (Call e) (Call f) (inr h) (inr k) =
    ap Call (limit_same plain e f h.0 h.1 k.0 k.1 h.2 k.2 h.3 k.3)
one_ask one plain (Call e) (Call f) (inl h) (inr k) = absurd (call-limit plain e k.0 k.1 h k.3)
one_ask one plain (Call e) (Call f) (inr h) (inl k) = absurd (call-limit plain f h.0 h.1 k h.3)
one_ask one plain (Call e) (Ticks n) h k = absurd (call-ticks plain e n h k)
one_ask one plain (Call e) (Show topic) h k = absurd (call-show plain e topic h k)
one_ask one plain (Call e) (Capture name d) h k = absurd (call-capture plain e name d h k)
one_ask one plain (Call e) (Settings named) h k = settings_alone plain (Call e) k.0 h ∙ ap Settings (sym k.1)
one_ask one plain (Ticks n) (Call e) h k = absurd (call-ticks plain e n k h)
one_ask one plain (Ticks m) (Ticks n) h k = ap Ticks (one_count plain m n h k)
one_ask one plain (Ticks n) (Show topic) h k = absurd (ticks-show plain n topic h k)
one_ask one plain (Ticks n) (Capture name d) h k = absurd (ticks-capture plain n name d h k)
one_ask one plain (Ticks n) (Settings named) h k = settings_alone plain (Ticks n) k.0 h ∙ ap Settings (sym k.1)
one_ask one plain (Show topic) (Call e) h k = absurd (call-show plain e topic k h)
one_ask one plain (Show topic) (Ticks n) h k = absurd (ticks-show plain n topic k h)
one_ask one plain (Show topic) (Show other) h k = ap Show (topic-same topic other (sym h ∙ k))
one_ask one plain (Show topic) (Capture name d) h k = absurd (show-capture plain topic name d h k)
one_ask one plain (Show topic) (Settings named) h k = settings_alone plain (Show topic) k.0 h ∙ ap Settings (sym k.1)
one_ask one plain (Capture name d) (Call e) h k = absurd (call-capture plain e name d k h)
one_ask one plain (Capture name d) (Ticks n) h k = absurd (ticks-capture plain n name d k h)
one_ask one plain (Capture name d) (Show topic) h k = absurd (show-capture plain topic name d k h)
one_ask one plain (Capture name d) (Capture name' e) h k =
    ap₂ Capture (name-same plain name name' d e h k) (capture-same plain name name' d e h k)
one_ask one plain (Capture name d) (Settings named) h k =
    settings_alone plain (Capture name d) k.0 h ∙ ap Settings (sym k.1)
one_ask one plain (Settings named) b h k = ap Settings h.1 ∙ sym (settings_alone plain b h.0 k)

-- a line without a request
pub asks_nothing : (plain : List ℕ) → ((event : Event) → ¬ script.Asks all_events plain event)
    → ((fd limit : ℕ) → ¬ IsLimit plain fd limit)
    → ((n : ℕ) → ¬ IsTicks plain n)
    → None ≡ topic_asked plain → ((name : List ℕ) (d : Details) → ¬ IsAsked plain name d) → has_dashes plain ≡ false
    → AsksFor plain None
asks_nothing plain no_call no_limit no_ticks no_topic no_capture no_dashes (Call event) (inl h) = no_call event h
asks_nothing plain no_call no_limit no_ticks no_topic no_capture no_dashes (Call event) (inr h) = no_limit h.0 h.1 h.3
asks_nothing plain no_call no_limit no_ticks no_topic no_capture no_dashes (Ticks n) h = no_ticks n h
asks_nothing plain no_call no_limit no_ticks no_topic no_capture no_dashes (Show topic) h = cc
asks_nothing plain no_call no_limit no_ticks no_topic no_capture no_dashes (Capture name d) h = no_capture name d h
asks_nothing plain no_call no_limit no_ticks no_topic no_capture no_dashes (Settings named) h =
    absurd (false≢true (sym no_dashes ∙ h.0))
