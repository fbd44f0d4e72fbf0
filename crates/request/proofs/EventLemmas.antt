-- A line requests at most one event.
use Rattle.std.proofs.Common.{◌≡◌, ℕ, ◌/◌, ◌%◌, ◌<◌, ◌^◌, Bool, true, false, List, [], ◌∷◌, get_or, codes, bytes_eq, Some, None, Ok, refl, sym, ap, ◌∙◌, subst, inl, inr, arith}
use Rattle.std.proofs.lemmas.Bool.{false≢true}
use Rattle.std.proofs.lemmas.Fmt.{decimal_injective}
use Rattle.std.proofs.lemmas.Slice.Eq.{bytes_eq-Decides}
use Rattle.std.specs.declared.net.ipv4_addr.Ipv4Addr.{Ipv4Addr}
use Rattle.std.proofs.NetLemmas.Theorems.{IsIpv4Text_unique}
use Rattle.hex.specs.Hex.{decode_of}
use Rattle.hex.proofs.HexLemmas.{decode_of-ok, decode_of-same}
use Rattle.flat_model.specs.declared.address.Addr.{Addr}
use Rattle.flat_model.specs.declared.option.Opt.{Opt}
use Rattle.flat_model.specs.declared.option.Opt.TheVariants.{Broadcast, ReusePort}
use Rattle.flat_model.specs.Machine.Event.{Event, Open, Bind, Connect, Send, Receive, Close, Set_option, Set_limit, Comes, Transmit, Tick, Ask_counters, Ask_usage}
use Rattle.flat_model.specs.Scripts.Grammar.{keyword, HasArguments, IsLine, IsNumber, IsAddress, IsEnd, IsHex, option_name, switch_name}
use Rattle.request.proofs.AddressLemmas.{IsAddress-dotted}
use Rattle.request.proofs.KeywordLemmas.{place, index, place-keyword}

-- ---- words that write one value

number-same : (most m n : ℕ) (a b : List ℕ) → most < 2 ^ 64 → a ≡ b → IsNumber most a m → IsNumber most b n → m ≡ n
number-same most m n a b small same first second =
    decimal_injective m n (omega (arith, first.0)) (omega (arith, second.0)) (sym first.1 ∙ same ∙ second.1)

address-same : (m n : ℕ) (a b : List ℕ) → a ≡ b → IsAddress a m → IsAddress b n → m ≡ n
address-same m n a b same first second =
    let here = IsAddress-dotted b m (subst (λ (t : List ℕ). IsAddress t m) same first) in
    let octets =
    ap (λ (x : Ipv4Addr). x.octets)
    (IsIpv4Text_unique b (record { octets = _ }) (record { octets = _ }) here (IsAddress-dotted b n second)) in
    let first_octet : m / 16777216 ≡ n / 16777216 = ap (λ (t : List ℕ). get_or t 0 0) octets in
    let second_octet : m / 65536 % 256 ≡ n / 65536 % 256 = ap (λ (t : List ℕ). get_or t 1 0) octets in
    let third_octet : m / 256 % 256 ≡ n / 256 % 256 = ap (λ (t : List ℕ). get_or t 2 0) octets in
    let fourth_octet : m % 256 ≡ n % 256 = ap (λ (t : List ℕ). get_or t 3 0) octets in
    omega arith

end-same : (x y : Addr) (a b p q : List ℕ) → a ≡ b → p ≡ q → IsEnd a p x → IsEnd b q y → x ≡ y
end-same x y a b p q ips ports first second =
    let ip = address-same x.ip y.ip a b ips first.0 second.0 in
    let port = number-same 65535 x.port y.port p q (omega arith) ports first.1 second.1 in
    ap (λ (n : ℕ). record { ip = n; port = x.port }) ip ∙ ap (λ (n : ℕ). record { ip = y.ip; port = n }) port

-- a dash is no pair of digits
dash-odd : (bytes : List ℕ) → decode_of (codes "-") ≡ Ok bytes → ⊥
dash-odd bytes e = let even = (decode_of-ok (codes "-") bytes e).0 in omega (arith, even)

hex-same : (x y a b : List ℕ) → a ≡ b → IsHex a x → IsHex b y → x ≡ y
hex-same x y a b same (inl first) (inl second) = first.1 ∙ sym second.1
hex-same x y a b same (inr first) (inr second) = decode_of-same b x y (ap decode_of (sym same) ∙ first.2) second.2
hex-same x y a b same (inl first) (inr second) = absurd (dash-odd y (ap decode_of (sym first.0 ∙ same) ∙ second.2))
hex-same x y a b same (inr first) (inl second) = absurd (dash-odd x (ap decode_of (sym second.0 ∙ sym same) ∙ first.2))

apart : (a b : List ℕ) → bytes_eq a b ≡ false → a ≡ b → ⊥
apart a b differ same = false≢true (sym differ ∙ (bytes_eq-Decides a b).1 same)

option-same : (x y : Opt) → option_name x ≡ option_name y → x ≡ y
option-same Broadcast Broadcast e = refl
option-same ReusePort ReusePort e = refl
option-same Broadcast ReusePort e = absurd (apart (codes "broadcast") (codes "reuseport") refl e)
option-same ReusePort Broadcast e = absurd (apart (codes "reuseport") (codes "broadcast") refl e)

switch-same : (x y : Bool) → switch_name x ≡ switch_name y → x ≡ y
switch-same true true e = refl
switch-same false false e = refl
switch-same true false e = absurd (apart (codes "1") (codes "0") refl e)
switch-same false true e = absurd (apart (codes "0") (codes "1") refl e)

-- ---- lines

events-same : (a b : Event) (args : List (List ℕ)) → HasArguments a args → HasArguments b args → index a ≡ index b
    → a ≡ b
events-same Open Open args h k e = refl
events-same (Bind fd address) (Bind fd' address') args h k e =
    let words : h.0 ∷ h.1 ∷ h.2 ∷ [] ≡ k.0 ∷ k.1 ∷ k.2 ∷ [] = sym h.3 ∙ k.3 in
    ap (λ (n : ℕ). Bind n address) (number-same 4294967295 fd fd' h.0 k.0 (omega arith) (cc words) h.4 k.4)
    ∙ ap (λ (x : Addr). Bind fd' x) (end-same address address' h.1 k.1 h.2 k.2 (cc words) (cc words) h.5 k.5)
events-same (Connect fd address) (Connect fd' address') args h k e =
    let words : h.0 ∷ h.1 ∷ h.2 ∷ [] ≡ k.0 ∷ k.1 ∷ k.2 ∷ [] = sym h.3 ∙ k.3 in
    ap (λ (n : ℕ). Connect n address) (number-same 4294967295 fd fd' h.0 k.0 (omega arith) (cc words) h.4 k.4)
    ∙ ap (λ (x : Addr). Connect fd' x) (end-same address address' h.1 k.1 h.2 k.2 (cc words) (cc words) h.5 k.5)
events-same (Send fd (Some to) bytes) (Send fd' (Some to') bytes') args h k e =
    let words : h.0 ∷ h.1 ∷ h.2 ∷ h.3 ∷ [] ≡ k.0 ∷ k.1 ∷ k.2 ∷ k.3 ∷ [] = sym h.4 ∙ k.4 in
    ap (λ (n : ℕ). Send n (Some to) bytes) (number-same 4294967295 fd fd' h.0 k.0 (omega arith) (cc words) h.5 k.5)
    ∙ ap (λ (x : Addr). Send fd' (Some x) bytes) (end-same to to' h.1 k.1 h.2 k.2 (cc words) (cc words) h.6 k.6)
    ∙ ap (λ (t : List ℕ). Send fd' (Some to') t) (hex-same bytes bytes' h.3 k.3 (cc words) h.7 k.7)
events-same (Send fd None bytes) (Send fd' None bytes') args h k e =
    let words : h.0 ∷ h.1 ∷ [] ≡ k.0 ∷ k.1 ∷ [] = sym h.2 ∙ k.2 in
    ap (λ (n : ℕ). Send n None bytes) (number-same 4294967295 fd fd' h.0 k.0 (omega arith) (cc words) h.3 k.3)
    ∙ ap (λ (t : List ℕ). Send fd' None t) (hex-same bytes bytes' h.1 k.1 (cc words) h.4 k.4)
events-same (Send fd (Some to) bytes) (Send fd' None bytes') args h k e = absurd (omega arith)
events-same (Send fd None bytes) (Send fd' (Some to') bytes') args h k e = absurd (omega arith)
events-same (Receive fd most) (Receive fd' most') args h k e =
    let words : h.0 ∷ h.1 ∷ [] ≡ k.0 ∷ k.1 ∷ [] = sym h.2 ∙ k.2 in
    ap (λ (n : ℕ). Receive n most) (number-same 4294967295 fd fd' h.0 k.0 (omega arith) (cc words) h.3 k.3)
    ∙ ap (λ (n : ℕ). Receive fd' n) (number-same 65535 most most' h.1 k.1 (omega arith) (cc words) h.4 k.4)
events-same (Close fd) (Close fd') args h k e =
    let words : h.0 ∷ [] ≡ k.0 ∷ [] = sym h.1 ∙ k.1 in
    ap Close (number-same 4294967295 fd fd' h.0 k.0 (omega arith) (cc words) h.2 k.2)
events-same (Set_option fd option on) (Set_option fd' option' on') args h k e =
    let words : h.0 ∷ option_name option ∷ switch_name on ∷ [] ≡ k.0 ∷ option_name option' ∷ switch_name on' ∷ [] =
    sym h.1 ∙ k.1 in
    ap (λ (n : ℕ). Set_option n option on) (number-same 4294967295 fd fd' h.0 k.0 (omega arith) (cc words) h.2 k.2)
    ∙ ap (λ (o : Opt). Set_option fd' o on) (option-same option option' (cc words))
    ∙ ap (λ (b : Bool). Set_option fd' option' b) (switch-same on on' (cc words))
events-same (Set_limit fd limit) b args h k e = absurd h
events-same a (Set_limit fd limit) args h k e = absurd k
events-same (Comes packet) (Comes packet') args h k e =
    let words : h.0 ∷ [] ≡ k.0 ∷ [] = sym h.1 ∙ k.1 in
    ap Comes (hex-same packet packet' h.0 k.0 (cc words) h.2 k.2)
events-same Transmit Transmit args h k e = refl
events-same Tick Tick args h k e = refl
events-same Ask_counters Ask_counters args h k e = refl
events-same Ask_usage Ask_usage args h k e = refl
events-same a b args h k e = absurd (omega arith)

pub one_event : (line : List ℕ) (a b : Event) → IsLine line a → IsLine line b → a ≡ b
one_event line a b h k =
    let words : keyword a ∷ h.args ≡ keyword b ∷ k.args = sym h.words_are ∙ k.words_are in
    let names : keyword a ≡ keyword b = cc words in
    let args : k.args ≡ h.args = cc (sym words) in
    events-same a b h.args h.arguments (subst (λ (t : List (List ℕ)). HasArguments b t) args k.arguments)
    (sym (place-keyword a) ∙ ap place names ∙ place-keyword b)
