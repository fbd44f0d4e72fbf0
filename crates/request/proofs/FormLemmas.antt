-- From the words of a line to its request.
use Rattle.std.proofs.Common.{◌≡◌, ℕ, ◌≤◌, List, ◌∷◌, length, Option, Some, None, refl, sym, ap, ◌∙◌, arith, subst}
use Rattle.std.specs.Prelude.{IfSome, MatchOption}
use Rattle.flat_model.specs.declared.address.Addr.{Addr}
use Rattle.flat_model.specs.Machine.Event.{Event, Send, Receive, Comes}
use Rattle.flat_model.specs.Scripts.Grammar.{words, keyword, HasArguments}
use Rattle.flat_model.specs.Scripts.Script.{Asks, all_events}
use Rattle.request.specs.declared.keyword.Keyword.{Keyword}
use Rattle.request.specs.declared.keyword.Keyword.TheVariants as line
use Rattle.request.specs.Inside.{IsForm, ReadsForm, word_of}
use Rattle.request.specs.Requests.{event_of, room_of}
use Rattle.request.specs.declared.request.Request.{Request}
use Rattle.request.proofs.KeywordLemmas.{index-word}

-- a line requests what its keyword and the words after it request
pub Asks-form : (text name : List ℕ) (word : Keyword) (args : List (List ℕ)) (r : Option Request)
    → length text ≤ 131200 → words text ≡ name ∷ args → name ≡ word_of word → ReadsForm word args r
    → MatchOption r ((event : Event) → Asks all_events text event → ⊥)
    (λ request. Asks all_events text (event_of request))
Asks-form text name word args (Some request) short cut same form = record {
  form = record {
    short = short;
    args = args;
    words_are = cut ∙ ap (λ (n : List ℕ). n ∷ args) (same ∙ sym form.0.0);
    arguments = form.0.1;
  };
  served = refl;
}
Asks-form text name word args None short cut same form = λ event h.
    let begins : keyword event ≡ name = cc (sym h.form.words_are ∙ cut) in
    let rest : h.form.args ≡ args = cc (sym h.form.words_are ∙ cut) in
    form event (begins ∙ same, subst (λ (t : List (List ℕ)). HasArguments event t) rest h.form.arguments)

-- the bytes of a request fit in a packet
pub fits_form : (word : Keyword) (args : List (List ℕ)) (r : Option Request) → ReadsForm word args r
    → IfSome r (λ request. room_of request ≤ 65535)
fits_form word args (Some request) form = form.1
fits_form word args None form = tt

-- a line that begins with no keyword requests nothing
pub Asks-none : (text name : List ℕ) (args : List (List ℕ)) → words text ≡ name ∷ args
    → ((event : Event) → keyword event ≡ name → ⊥)
    → (event : Event) → Asks all_events text event → ⊥
Asks-none text name args cut none event h =
    let begins : keyword event ≡ name = cc (sym h.form.words_are ∙ cut) in
    none event begins

-- ---- each keyword has one form

pub SendTo-only : (args : List (List ℕ))
    → ((fd : ℕ) (to : Addr) (bytes : List ℕ) → HasArguments (Send fd (Some to) bytes) args → ⊥)
    → (event : Event) → IsForm line.SendTo args event → ⊥
SendTo-only args none (Send fd (Some to) bytes) h = none fd to bytes h.1
SendTo-only args none (Send fd None bytes) h =
    absurd (omega (arith, index-word (Send fd None bytes) line.SendTo h.0))
SendTo-only args none event h = absurd (omega (arith, index-word event line.SendTo h.0))

pub Send-only : (args : List (List ℕ)) → ((fd : ℕ) (bytes : List ℕ) → HasArguments (Send fd None bytes) args → ⊥)
    → (event : Event) → IsForm line.Send args event → ⊥
Send-only args none (Send fd None bytes) h = none fd bytes h.1
Send-only args none (Send fd (Some to) bytes) h =
    absurd (omega (arith, index-word (Send fd (Some to) bytes) line.Send h.0))
Send-only args none event h = absurd (omega (arith, index-word event line.Send h.0))

pub Receive-only : (args : List (List ℕ)) → ((fd most : ℕ) → HasArguments (Receive fd most) args → ⊥)
    → (event : Event) → IsForm line.RecvFrom args event → ⊥
Receive-only args none (Receive fd most) h = none fd most h.1
Receive-only args none event h = absurd (omega (arith, index-word event line.RecvFrom h.0))

pub Comes-only : (args : List (List ℕ)) → ((packet : List ℕ) → HasArguments (Comes packet) args → ⊥)
    → (event : Event) → IsForm line.Rx args event → ⊥
Comes-only args none (Comes packet) h = none packet h.1
Comes-only args none event h = absurd (omega (arith, index-word event line.Rx h.0))
