-- The request of a line to the wire.
use Rattle.std.proofs.Common.{◌≡◌, ◌<◌, ◌^◌, ℕ, Bool, true, false, if◌then◌else◌, List, [], ◌∷◌, ◌++◌, codes, Option, Some, None, inl, inr, refl, sym, ap, ap₂, ◌∙◌, subst, arith}
use Rattle.std.proofs.lemmas.Bool.{false≢true}
use Rattle.std.proofs.lemmas.Fmt.{decimal_injective, decimal_is_IsNumeral}
use Rattle.std.specs.Prelude.{◌↔◌, IsTrue}
use Rattle.std.specs.List.{find}
use Rattle.std.specs.Str.Parse.{IsNumeral, digits_value, without_leading_plus}
use Rattle.flat_model.specs.Scripts.Grammar.{words, IsNumber}
use Rattle.play_wire.specs.Inside.{ReadsAfter, wire_asks}
use Rattle.play_wire.specs.Verbs.{IsOneNumber, IsTickCount}
use Rattle.play_wire.specs.Wires.{WireAsk, Host, Wire, Carry, Collect, Deliver, Tick, Seed, Drop, Repeat, Swap, Impair, Show, Summary, AsksAfter, AsksWire, IsBound, IsSeed, WritesWire}
use Rattle.play_wire.specs.declared.carries.Bound.{Bound}
use Rattle.play_wire.specs.declared.carries.Bound.TheVariants.{Times, Quiet}
use Rattle.play_forms.specs.Near.{has_name}
use Rattle.play_forms.specs.Table.{wire_commands}
use Rattle.play_forms.specs.declared.command.Command.{Command}
use Rattle.play_forms.specs.declared.command.Command.TheVariants as command
use Rattle.play_wire.specs.declared.wire_ask.WireAsk.{WireAsk as Asked}

-- ---- the first word

-- the request of a command and the words after it is that of the line
pub asks_as : (plain word : List ℕ) (c : Command) (args : List (List ℕ)) (asked : Option Asked)
    → words plain ≡ word ∷ args → find (has_name word) wire_commands ≡ Some c → ReadsAfter c args asked
    → AsksWire plain (wire_asks asked)
asks_as plain word c args (Some ask) cut is reads = (c, word, args, cut, is, reads)
asks_as plain word c args None cut is none = λ ask h.
    let all : h.1 ∷ h.2 ≡ word ∷ args = sym h.3 ∙ cut in
    let first : h.1 ≡ word = cc all in
    let rest : h.2 ≡ args = cc all in
    let both : Some h.0 ≡ Some c = sym h.4 ∙ ap (λ (w : List ℕ). find (has_name w) wire_commands) first ∙ is in
    let same : h.0 ≡ c = cc both in
    none ask (subst (λ (x : Command). AsksAfter x args ask) same
    (subst (λ (xs : List (List ℕ)). AsksAfter h.0 xs ask) rest h.5))

-- a line that begins with no command has no request
pub asks_none : (plain word : List ℕ) (args : List (List ℕ)) → words plain ≡ word ∷ args
    → find (has_name word) wire_commands ≡ None → AsksWire plain None
asks_none plain word args cut none = λ ask h.
    let all : h.1 ∷ h.2 ≡ word ∷ args = sym h.3 ∙ cut in
    let first : h.1 ≡ word = cc all in
    let both : Some h.0 ≡ None = sym h.4 ∙ ap (λ (w : List ℕ). find (has_name w) wire_commands) first ∙ none in
    cc both

-- a line that describes a packet has no request to the wire either
pub packet_asks_none : (named : Bool) (packet line : List ℕ) → named ≡ true
    → AsksWire (if named then codes "rx " ++ packet else line) None
packet_asks_none true packet line e = asks_none (codes "rx " ++ packet) (codes "rx") (words packet) refl refl
packet_asks_none false packet line e = absurd (never e)
  where
    never : false ≡ true → ⊥
    never f = cc

-- ---- at most one request

number-same : (most m n : ℕ) (a b : List ℕ) → most < 2 ^ 64 → a ≡ b → IsNumber most a m → IsNumber most b n → m ≡ n
number-same most m n a b small same h k =
    decimal_injective m n (omega (arith, h.0)) (omega (arith, k.0)) (sym h.1 ∙ same ∙ k.1)

one-same : (most m n : ℕ) (args : List (List ℕ)) → most < 2 ^ 64 → IsOneNumber most args m → IsOneNumber most args n
    → m ≡ n
one-same most m n args small h k =
    let both : h.0 ∷ [] ≡ k.0 ∷ [] = sym h.1 ∙ k.1 in
    number-same most m n h.0 k.0 small (cc both) h.2 k.2

nothing-left : (word : List ℕ) (more : List (List ℕ)) → [] ≡ word ∷ more → ⊥
nothing-left word more e = cc

ticks-same : (m n : ℕ) (args : List (List ℕ)) → IsTickCount args m → IsTickCount args n → m ≡ n
ticks-same m n args (inl h) (inl k) = h.1 ∙ sym k.1
ticks-same m n args (inr h) (inr k) = one-same 65535 m n args (omega arith) h.0 k.0
ticks-same m n args (inl h) (inr k) = absurd (nothing-left k.0.0 [] (sym h.0 ∙ k.0.1))
ticks-same m n args (inr h) (inl k) = absurd (nothing-left h.0.0 [] (sym k.0 ∙ h.0.1))

-- `all` isn't a number
not_all : (n : ℕ) (word : List ℕ) → word ≡ codes "all" → IsNumber 1000000 word n → ⊥
not_all n word is h =
    let small : n < 2 ^ 64 = omega (arith, h.0) in
    let numeral : IsNumeral 10 (codes "all") =
    subst (IsNumeral 10) (sym h.1 ∙ is) (decimal_is_IsNumeral n small).0 in
    omega (arith, numeral.1.0)

all_or_once : (m n : ℕ) (args : List (List ℕ)) → IsBound args (Times m) → IsBound args (Quiet n) → ⊥
all_or_once m n args (inl h) (inl k) = nothing-left (codes "all") [] (sym h.0 ∙ k.0)
all_or_once m n args (inl h) (inr k) = nothing-left (codes "all") (k.0 ∷ []) (sym h.0 ∙ k.1)
all_or_once m n args (inr h) (inl k) =
    let both : h.0 ∷ [] ≡ codes "all" ∷ [] = sym h.1 ∙ k.0 in not_all m h.0 (cc both) h.2
all_or_once m n args (inr h) (inr k) =
    let both : h.0 ∷ [] ≡ codes "all" ∷ k.0 ∷ [] = sym h.1 ∙ k.1 in
    let rest : [] ≡ k.0 ∷ [] = cc both in nothing-left k.0 [] rest

bound-same : (a b : Bound) (args : List (List ℕ)) → IsBound args a → IsBound args b → a ≡ b
bound-same (Times m) (Times n) args (inl h) (inl k) = ap Times (h.1 ∙ sym k.1)
bound-same (Times m) (Times n) args (inr h) (inr k) = ap Times (one-same 1000000 m n args (omega arith) h k)
bound-same (Times m) (Times n) args (inl h) (inr k) = absurd (nothing-left k.0 [] (sym h.0 ∙ k.1))
bound-same (Times m) (Times n) args (inr h) (inl k) = absurd (nothing-left h.0 [] (sym k.0 ∙ h.1))
bound-same (Times m) (Quiet n) args h k = absurd (all_or_once m n args h k)
bound-same (Quiet m) (Times n) args h k = absurd (all_or_once n m args k h)
bound-same (Quiet m) (Quiet n) args (inl h) (inl k) = ap Quiet (h.1 ∙ sym k.1)
bound-same (Quiet m) (Quiet n) args (inr h) (inr k) =
    let both : codes "all" ∷ h.0 ∷ [] ≡ codes "all" ∷ k.0 ∷ [] = sym h.1 ∙ k.1 in
    ap Quiet (number-same 1000000 m n h.0 k.0 (omega arith) (cc both) h.2 k.2)
bound-same (Quiet m) (Quiet n) args (inl h) (inr k) =
    let both : codes "all" ∷ [] ≡ codes "all" ∷ k.0 ∷ [] = sym h.0 ∙ k.1 in
    let rest : [] ≡ k.0 ∷ [] = cc both in absurd (nothing-left k.0 [] rest)
bound-same (Quiet m) (Quiet n) args (inr h) (inl k) =
    let both : codes "all" ∷ [] ≡ codes "all" ∷ h.0 ∷ [] = sym k.0 ∙ h.1 in
    let rest : [] ≡ h.0 ∷ [] = cc both in absurd (nothing-left h.0 [] rest)

seed-same : (m n : ℕ) (args : List (List ℕ)) → IsSeed args m → IsSeed args n → m ≡ n
seed-same m n args h k =
    let both : h.0 ∷ [] ≡ k.0 ∷ [] = sym h.1 ∙ k.1 in
    let word : h.0 ≡ k.0 = cc both in
    h.4 ∙ ap (λ (w : List ℕ). digits_value 10 (without_leading_plus w)) word ∙ sym k.4

-- ---- words that aren't a request

pub not_end : (args : List (List ℕ)) (b : Bool) → (IsTrue b ↔ (args ≡ [])) → b ≡ false → args ≡ [] → ⊥
not_end args b is off none = false≢true (sym off ∙ is.1 none)

pub no_ticks : (args : List (List ℕ)) (count : ℕ) → (args ≡ [] → ⊥) → IsOneNumber 65535 args count → count ≡ 0
    → (n : ℕ) → IsTickCount args n → ⊥
no_ticks args count some is zero' n (inl h) = some h.0
no_ticks args count some is zero' n (inr h) =
    let same : n ≡ count = one-same 65535 n count args (omega arith) h.0 is in omega (arith, same, zero', h.1)

pub no_tick_number : (args : List (List ℕ)) → (args ≡ [] → ⊥) → ((n : ℕ) → IsOneNumber 65535 args n → ⊥)
    → (n : ℕ) → IsTickCount args n → ⊥
no_tick_number args some none n (inl h) = some h.0
no_tick_number args some none n (inr h) = none n h.0

pub no_tick : (args : List (List ℕ)) → ((n : ℕ) → IsTickCount args n → ⊥) → (ask : WireAsk)
    → AsksAfter command.Tick args ask → ⊥
no_tick args none (Tick n) h = none n h
no_tick args none ask h = h

pub no_seed : (args : List (List ℕ)) → ((n : ℕ) → IsSeed args n → ⊥) → (ask : WireAsk)
    → AsksAfter command.Seed args ask → ⊥
no_seed args none (Seed n) h = none n h
no_seed args none ask h = h

pub no_drop : (args : List (List ℕ)) → ((n : ℕ) → IsOneNumber 65535 args n → ⊥) → (ask : WireAsk)
    → AsksAfter command.Drop args ask → ⊥
no_drop args none (Drop n) h = none n h
no_drop args none ask h = h

-- words after `carry` that neither begin with `all` nor are a number
pub no_bound : (args : List (List ℕ)) (word : List ℕ) (more : List (List ℕ)) → args ≡ word ∷ more
    → (word ≡ codes "all" → ⊥) → ((n : ℕ) → IsOneNumber 1000000 args n → ⊥) → (bound : Bound) → IsBound args bound → ⊥
no_bound args word more cut other none (Times n) (inl h) = nothing-left word more (sym h.0 ∙ cut)
no_bound args word more cut other none (Times n) (inr h) = none n h
no_bound args word more cut other none (Quiet n) (inl h) =
    let both : word ∷ more ≡ codes "all" ∷ [] = sym cut ∙ h.0 in other (cc both)
no_bound args word more cut other none (Quiet n) (inr h) =
    let both : word ∷ more ≡ codes "all" ∷ h.0 ∷ [] = sym cut ∙ h.1 in other (cc both)

-- words after `carry all` that aren't a number
pub no_most : (args : List (List ℕ)) (word : List ℕ) (more : List (List ℕ)) → args ≡ word ∷ more
    → (more ≡ [] → ⊥) → ((n : ℕ) → IsOneNumber 1000000 more n → ⊥) → (bound : Bound) → IsBound args bound → ⊥
no_most args word more cut some none (Times n) (inl h) = nothing-left word more (sym h.0 ∙ cut)
no_most args word more cut some none (Times n) (inr h) =
    let both : word ∷ more ≡ h.0 ∷ [] = sym cut ∙ h.1 in some (cc both)
no_most args word more cut some none (Quiet n) (inl h) =
    let both : word ∷ more ≡ codes "all" ∷ [] = sym cut ∙ h.0 in some (cc both)
no_most args word more cut some none (Quiet n) (inr h) =
    let both : word ∷ more ≡ codes "all" ∷ h.0 ∷ [] = sym cut ∙ h.1 in
    let rest : more ≡ h.0 ∷ [] = cc both in none n (h.0, rest, h.2)

-- ---- at most one request

one_after : (v : Command) (args : List (List ℕ)) (a b : WireAsk) → AsksAfter v args a → AsksAfter v args b → a ≡ b
one_after command.Host args (Host m s) (Host n t) h k = ap₂ Host (h.0 ∙ sym k.0) (h.1 ∙ sym k.1)
one_after command.Host args (Host m s) b h k = absurd k
one_after command.Host args a b h k = absurd h
one_after command.Wire args (Wire m) (Wire n) h k = ap Wire (h ∙ sym k)
one_after command.Wire args (Wire m) b h k = absurd k
one_after command.Wire args a b h k = absurd h
one_after command.Carry args (Carry m) (Carry n) h k = ap Carry (bound-same m n args h k)
one_after command.Carry args (Carry m) b h k = absurd k
one_after command.Carry args a b h k = absurd h
one_after command.Collect args Collect Collect h k = refl
one_after command.Collect args Collect b h k = absurd k
one_after command.Collect args a b h k = absurd h
one_after command.Deliver args Deliver Deliver h k = refl
one_after command.Deliver args Deliver b h k = absurd k
one_after command.Deliver args a b h k = absurd h
one_after command.Tick args (Tick m) (Tick n) h k = ap Tick (ticks-same m n args h k)
one_after command.Tick args (Tick m) b h k = absurd k
one_after command.Tick args a b h k = absurd h
one_after command.Seed args (Seed m) (Seed n) h k = ap Seed (seed-same m n args h k)
one_after command.Seed args (Seed m) b h k = absurd k
one_after command.Seed args a b h k = absurd h
one_after command.Drop args (Drop m) (Drop n) h k = ap Drop (one-same 65535 m n args (omega arith) h k)
one_after command.Drop args (Drop m) b h k = absurd k
one_after command.Drop args a b h k = absurd h
one_after command.Swap args (Swap l m) (Swap n o) h k =
    let both : h.0 ∷ h.1 ∷ [] ≡ k.0 ∷ k.1 ∷ [] = sym h.2 ∙ k.2 in
    ap₂ Swap (number-same 65535 l n h.0 k.0 (omega arith) (cc both) h.3 k.3)
    (number-same 65535 m o h.1 k.1 (omega arith) (cc both) h.4 k.4)
one_after command.Swap args (Swap l m) b h k = absurd k
one_after command.Swap args a b h k = absurd h
one_after command.Loss args (Impair l u) (Impair m w) h k = ap₂ Impair (h.0 ∙ sym k.0) (h.1 ∙ sym k.1)
one_after command.Loss args (Impair l u) b h k = absurd k
one_after command.Loss args a b h k = absurd h
one_after command.Reorder args (Impair l u) (Impair m w) h k = ap₂ Impair (h.0 ∙ sym k.0) (h.1 ∙ sym k.1)
one_after command.Reorder args (Impair l u) b h k = absurd k
one_after command.Reorder args a b h k = absurd h
one_after command.Delay args (Impair l u) (Impair m w) h k = ap₂ Impair (h.0 ∙ sym k.0) (h.1 ∙ sym k.1)
one_after command.Delay args (Impair l u) b h k = absurd k
one_after command.Delay args a b h k = absurd h
one_after command.ShowWire args Show Show h k = refl
one_after command.ShowWire args Show b h k = absurd k
one_after command.ShowWire args a b h k = absurd h
one_after command.Summary args Summary Summary h k = refl
one_after command.Summary args Summary b h k = absurd k
one_after command.Summary args a b h k = absurd h
one_after command.Repeat args (Repeat m) (Repeat n) h k = ap Repeat (one-same 65535 m n args (omega arith) h k)
one_after command.Repeat args (Repeat m) (Impair l u) h k = absurd (k.0 m h)
one_after command.Repeat args (Repeat m) b h k = absurd k
one_after command.Repeat args (Impair l u) (Repeat m) h k = absurd (h.0 m k)
one_after command.Repeat args (Impair l u) (Impair m w) h k = ap₂ Impair (h.1 ∙ sym k.1) (h.2 ∙ sym k.2)
one_after command.Repeat args (Impair l u) b h k = absurd k
one_after command.Repeat args a b h k = absurd h
one_after _ args a b h k = absurd h

pub one_ask : (plain : List ℕ) (a b : WireAsk) → WritesWire plain a → WritesWire plain b → a ≡ b
one_ask plain a b h k =
    let all : h.1 ∷ h.2 ≡ k.1 ∷ k.2 = sym h.3 ∙ k.3 in
    let first : h.1 ≡ k.1 = cc all in
    let rest : h.2 ≡ k.2 = cc all in
    let both : Some h.0 ≡ Some k.0 =
    sym h.4 ∙ ap (λ (w : List ℕ). find (has_name w) wire_commands) first ∙ k.4 in
    let same : h.0 ≡ k.0 = cc both in
    one_after k.0 k.2 a b (subst (λ (x : Command). AsksAfter x k.2 a) same
    (subst (λ (xs : List (List ℕ)). AsksAfter h.0 xs a) rest h.5)) k.5
