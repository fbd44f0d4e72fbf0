-- From the words after a keyword to the request: each keyword has one form. `place` and `index` have the form of those
-- in proofs/KeywordLemmas of request, but number other words and another type, so neither serves both.
use Rattle.std.proofs.Common.{◌≡◌, ℕ, ◌≤◌, ◌<◌, List, ◌∷◌, length, if◌then◌else◌, codes, bytes_eq, slice_index_or, refl, Option, Some, None, sym, ap, ◌∙◌, subst, arith}
use Rattle.std.specs.Prelude.{MatchOption, IfSome}
use Rattle.flat_model.specs.Scripts.Grammar.{words}
use Rattle.chain_script.specs.Lines.{Request, User, Wire, Copy, Prepend, Pull_up, Adjust, Split, Join, Write_over, Read_out, Show, Free, Ask_usage, chain_keyword, HasWords, IsRequest}
use Rattle.chain_script.specs.Inside.Calls.{request_of, word_of, IsSlotCall, IsChainForm, ReadsChainForm}
use Rattle.chain_script.specs.declared.keyword.Keyword.TheVariants as word
use Rattle.chain_script.specs.declared.keyword.TheConstants.{KEYWORDS}
use Rattle.chain_script.specs.declared.line.Call.{Call}

place : List ℕ → ℕ
place word =
    if bytes_eq word (codes "user") then 0
    else if bytes_eq word (codes "wire") then 1
    else if bytes_eq word (codes "copym") then 2
    else if bytes_eq word (codes "prepend") then 3
    else if bytes_eq word (codes "pullup") then 4
    else if bytes_eq word (codes "adj") then 5
    else if bytes_eq word (codes "split") then 6
    else if bytes_eq word (codes "cat") then 7
    else if bytes_eq word (codes "copyback") then 8
    else if bytes_eq word (codes "copydata") then 9
    else if bytes_eq word (codes "show") then 10
    else if bytes_eq word (codes "free") then 11
    else 12

abbrev index : Request → ℕ
index (User slot bytes) = 0
index (Wire slot bytes) = 1
index (Copy to slot extent) = 2
index (Prepend slot bytes) = 3
index (Pull_up slot n) = 4
index (Adjust slot n) = 5
index (Split to slot at) = 6
index (Join slot other) = 7
index (Write_over slot off bytes) = 8
index (Read_out slot off len) = 9
index (Show slot) = 10
index (Free slot) = 11
index Ask_usage = 12

-- a request whose keyword has another index is another request
place-keyword : (r : Request) (name : List ℕ) → chain_keyword r ≡ name → index r ≡ place name
unfolding place
place-keyword (User slot bytes) name e = ap place e
place-keyword (Wire slot bytes) name e = ap place e
place-keyword (Copy to slot extent) name e = ap place e
place-keyword (Prepend slot bytes) name e = ap place e
place-keyword (Pull_up slot n) name e = ap place e
place-keyword (Adjust slot n) name e = ap place e
place-keyword (Split to slot at) name e = ap place e
place-keyword (Join slot other) name e = ap place e
place-keyword (Write_over slot off bytes) name e = ap place e
place-keyword (Read_out slot off len) name e = ap place e
place-keyword (Show slot) name e = ap place e
place-keyword (Free slot) name e = ap place e
place-keyword Ask_usage name e = ap place e

pub User-only : (args : List (List ℕ)) → ((slot : ℕ) (bytes : List ℕ) → HasWords (User slot bytes) args → ⊥)
    → (r : Request) → IsChainForm (codes "user") args r → ⊥
unfolding place
User-only args none (User slot bytes) h = none slot bytes h.1
User-only args none r h = absurd (let e : index r ≡ 0 = place-keyword r (codes "user") h.0 in omega arith)

pub Wire-only : (args : List (List ℕ)) → ((slot : ℕ) (bytes : List ℕ) → HasWords (Wire slot bytes) args → ⊥)
    → (r : Request) → IsChainForm (codes "wire") args r → ⊥
unfolding place
Wire-only args none (Wire slot bytes) h = none slot bytes h.1
Wire-only args none r h = absurd (let e : index r ≡ 1 = place-keyword r (codes "wire") h.0 in omega arith)

pub Prepend-only : (args : List (List ℕ)) → ((slot : ℕ) (bytes : List ℕ) → HasWords (Prepend slot bytes) args → ⊥)
    → (r : Request) → IsChainForm (codes "prepend") args r → ⊥
unfolding place
Prepend-only args none (Prepend slot bytes) h = none slot bytes h.1
Prepend-only args none r h = absurd (let e : index r ≡ 3 = place-keyword r (codes "prepend") h.0 in omega arith)

pub Write_over-only : (args : List (List ℕ))
    → ((slot off : ℕ) (bytes : List ℕ) → HasWords (Write_over slot off bytes) args → ⊥) → (r : Request)
    → IsChainForm (codes "copyback") args r → ⊥
unfolding place
Write_over-only args none (Write_over slot off bytes) h = none slot off bytes h.1
Write_over-only args none r h = absurd (let e : index r ≡ 8 = place-keyword r (codes "copyback") h.0 in omega arith)

-- the table has the keyword of each request
listed : (r : Request) → (k : ℕ) × (k < 13) × (word_of (slice_index_or KEYWORDS k word.User) ≡ chain_keyword r)
listed (User slot bytes) = (0, omega arith, refl)
listed (Wire slot bytes) = (1, omega arith, refl)
listed (Copy to slot extent) = (2, omega arith, refl)
listed (Prepend slot bytes) = (3, omega arith, refl)
listed (Pull_up slot n) = (4, omega arith, refl)
listed (Adjust slot n) = (5, omega arith, refl)
listed (Split to slot at) = (6, omega arith, refl)
listed (Join slot other) = (7, omega arith, refl)
listed (Write_over slot off bytes) = (8, omega arith, refl)
listed (Read_out slot off len) = (9, omega arith, refl)
listed (Show slot) = (10, omega arith, refl)
listed (Free slot) = (11, omega arith, refl)
listed Ask_usage = (12, omega arith, refl)

pub keyword-none : (name : List ℕ)
    → ((k : ℕ) → k < 13 → word_of (slice_index_or KEYWORDS k word.User) ≡ name → ⊥)
    → (r : Request) → chain_keyword r ≡ name → ⊥
keyword-none name none r same =
    let at = listed r in
    none at.0 at.1 (at.2 ∙ same)

-- ---- whole lines
-- a form that begins with its keyword is the line's
pub call_form : (line name kw : List ℕ) (args : List (List ℕ)) (room : List ℕ) (r : Option Call) → length line ≤ 131200
    → words line ≡ name ∷ args → name ≡ kw
    → ReadsChainForm kw args room r → MatchOption r ((request : Request) → IsRequest line request → ⊥)
    (λ call. IsRequest line (request_of call room))
call_form line name kw args room (Some call) short cut same form = record {
  short = short;
  args = args;
  words_are = cut ∙ ap (λ (n : List ℕ). n ∷ args) (same ∙ sym form.0.0);
  arguments = form.0.1;
}
call_form line name kw args room None short cut same form = λ request h.
    let begins : chain_keyword request ≡ kw = cc (sym h.words_are ∙ cut ∙ ap (λ (n : List ℕ). n ∷ args) same) in
    let rest : h.args ≡ args = cc (sym h.words_are ∙ cut) in
    form request (begins, subst (λ (t : List (List ℕ)). HasWords request t) rest h.arguments)

pub form_fits : (kw : List ℕ) (args : List (List ℕ)) (room : List ℕ) (r : Option Call) → ReadsChainForm kw args room r
    → IfSome r (λ call. IsSlotCall call)
form_fits kw args room (Some call) form = form.1
form_fits kw args room None form = tt

-- a line that begins with no keyword makes no request
pub call_none : (line name : List ℕ) (args : List (List ℕ)) → words line ≡ name ∷ args
    → ((request : Request) → chain_keyword request ≡ name → ⊥) → (request : Request) → IsRequest line request → ⊥
call_none line name args cut none request h =
    let begins : chain_keyword request ≡ name = cc (sym h.words_are ∙ cut) in
    none request begins
