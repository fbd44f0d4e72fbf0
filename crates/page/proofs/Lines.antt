-- The lines of a stack's mbufs, one holder and one chain after another.
use Rattle.std.proofs.Common.{◌≡◌, ℕ, zero, suc, ◌+◌, ◌<◌, ◌≤◌, ◌++◌, Bool, true, false, cond, List, [], ◌∷◌, drop, Option, Some, None, inl, inr, refl, sym, ap, ◌∙◌, append_assoc, add-one, arith, subst}
use Rattle.std.specs.Prelude.{nat_lt, IfOk, IfSome, Result, Ok, Err}
use Rattle.std.specs.Result.{result_ok}
use Rattle.std.proofs.lemmas.Bool.{ltb-false, ltb-true}
use Rattle.std.proofs.lemmas.Option.{none-some, same_Some}
use Rattle.params.specs.declared.TheConstants.{MAX_SOCKETS}
use Rattle.flat_model.specs.Machine.Event.{Event, Reply}
use Rattle.flat_model.specs.Machine.State.{State, boot}
use Rattle.flat_model.specs.Machine.Step.{Step}
use Rattle.flat_model.specs.declared.config.Config.{Config}
use Rattle.mbuf_chain.specs.Chain.{PoolView, chain_of, references}
use Rattle.mbuf_chain.specs.Heads.{heads, nth_heads}
use Rattle.mbuf_chain.specs.declared.mbuf_head.MbufHead.{MbufHead}
use Rattle.net_stack.specs.Questions.{nth_references}
use Rattle.net_stack.specs.Stack.{IsStack, StackView, state_of}
use Rattle.link_script.specs.Boots.{IsRunUnbooted}
use Rattle.link_script.specs.Says.{SaysBy}
use Rattle.play_script.specs.Asks.{Calls, IsLimit}
use Rattle.script_loop.specs.Serves.{Serves}
use Rattle.script_loop.specs.declared.fault.RunFault.{RunFault}
use Rattle.script_loop.specs.declared.fault.RunFault.TheVariants.{Read, Write, Memory, TooManyLines, BadSizes, BadConfig}
use Rattle.script_loop.proofs.Laws.{Moves-none}
use Rattle.page.specs.Pictured.{IsStateText, stack_objects}
use Rattle.page.specs.Says.{SaysLine}
use Rattle.page.specs.States.{all_sockets, below, chain_objects, mbuf_objects, socket_objects}

-- ---- the chains of a holder
pub next_chain : (p : PoolView) (cs : List ℕ) (i : ℕ) (ms : List (MbufHead × List ℕ)) → Some ms ≡ nth_heads p cs i
    → chain_objects p (drop i cs) ≡ mbuf_objects ms ++ chain_objects p (drop (i + 1) cs)
next_chain p [] zero ms is = absurd (none-some ms (sym is))
next_chain p [] (suc i) ms is = absurd (none-some ms (sym is))
next_chain p (c ∷ cs) zero ms is =
    ap (λ (ns : List (MbufHead × List ℕ)). mbuf_objects ns ++ chain_objects p cs)
    (same_Some (heads (chain_of p c)) ms (sym is))
next_chain p (c ∷ cs) (suc i) ms is = search (arith, next_chain p cs i ms is)

pub no_chain : (p : PoolView) (cs : List ℕ) (i : ℕ) → None ≡ nth_heads p cs i → chain_objects p (drop i cs) ≡ []
no_chain p [] zero is = refl
no_chain p [] (suc i) is = refl
no_chain p (c ∷ cs) zero is = absurd (none-some (heads (chain_of p c)) is)
no_chain p (c ∷ cs) (suc i) is = no_chain p cs i is

-- ---- the clusters
pub next_cluster : (p : PoolView) (cluster n : ℕ) → Some n ≡ nth_references p cluster → cluster < p.clusters
next_cluster p cluster n is = go (nat_lt cluster p.clusters) refl is
  where
    go : (b : Bool) → nat_lt cluster p.clusters ≡ b → Some n ≡ cond b (Some (references p cluster)) None
        → cluster < p.clusters
    go true e h = ltb-true cluster p.clusters e
    go false e h = absurd (none-some n (sym h))

pub no_cluster : (p : PoolView) (cluster : ℕ) → None ≡ nth_references p cluster → p.clusters ≤ cluster
no_cluster p cluster is = go (nat_lt cluster p.clusters) refl is
  where
    go : (b : Bool) → nat_lt cluster p.clusters ≡ b → None ≡ cond b (Some (references p cluster)) None
        → p.clusters ≤ cluster
    go true e h = absurd (none-some (references p cluster) h)
    go false e h = ltb-false cluster p.clusters e

-- ---- one after the other
pub below_more : (lines : ℕ → List ℕ) (n : ℕ) → below lines (n + 1) ≡ below lines n ++ lines n
below_more lines n = ap (below lines) (add-one n)

-- the text that was appended first, and the text after it
pub put_then : (before mid after first more : List ℕ) → mid ≡ before ++ first → after ≡ mid ++ more
    → after ≡ before ++ (first ++ more)
put_then before mid after first more e f = f ∙ ap (λ (t : List ℕ). t ++ more) e ∙ append_assoc before first more

-- one more line
pub more_below : (lines : ℕ → List ℕ) (n : ℕ) (before mid after : List ℕ) → mid ≡ before ++ below lines n
    → after ≡ mid ++ lines n → after ≡ before ++ below lines (n + 1)
more_below lines n before mid after e f =
    put_then before mid after (below lines n) (lines n) e f
    ∙ ap (λ (xs : List ℕ). before ++ xs) (sym (below_more lines n))

pub sockets_are : (s : StackView) → below (socket_objects s) MAX_SOCKETS ≡ all_sockets s
unfolding all_sockets
sockets_are s = refl

-- ---- the run
pub is_text : (s : StackView) (text : List ℕ) → IsStack s → text ≡ stack_objects s → IsStateText (state_of s) text
unfolding IsStateText
is_text s text ok is = (s, ok, refl, is)

-- a line that doesn't set the size of a receive queue has the reply of `bsdudp run`
pub line_says : (step : State → Event → Reply → State → Type 0) (old : State) (line text : List ℕ) (new : State)
    → ((fd limit : ℕ) → ¬ IsLimit line fd limit) → SaysBy step old line text new → SaysLine step old line text new
line_says step old line text new no_limit (Some reply, (event, asks, stepped), is) =
    (Some reply, (event, inl asks, stepped), is)
line_says step old line text new no_limit (None, (none, same), is) = (None, (neither, same), is)
  where
    neither : (event : Event) → Calls line event → ⊥
    neither event (inl asks) = none event asks
    neither event (inr (fd, limit, at, sets)) = no_limit fd limit sets

-- what holds for a text holds for it as an option
pub text_kept : {A E : Type 0} (F : A → Type 0) (r : Result A E) → IfOk r F → IfSome (result_ok r) F
text_kept F (Ok text) is = is
text_kept F (Err fault) is = tt

pub unbooted : (c : Config) (fault : RunFault) (a w : Option (List ℕ)) → IsRunUnbooted c fault
    → (new : State) × Serves (SaysLine Step) (boot c) new a a w w (Err fault)
unbooted c Memory a w h = (boot c, (Moves-none a w, refl))
unbooted c BadSizes a w h = (boot c, (Moves-none a w, refl))
unbooted c BadConfig a w h = (boot c, (Moves-none a w, refl))
unbooted c Read a w h = absurd h
unbooted c Write a w h = absurd h
unbooted c TooManyLines a w h = absurd h

-- a script that is served on a stack in its first state
pub served_from : (first begun new : State) (a b w v : Option (List ℕ)) (r : Result Unit RunFault) → first ≡ begun
    → Serves (SaysLine Step) first new a b w v r → (x : State) × Serves (SaysLine Step) begun x a b w v r
served_from first begun new a b w v r same h =
    (new, subst (λ (s : State). Serves (SaysLine Step) s new a b w v r) same h)

-- the same, with this outcome
pub served_as : (first begun new : State) (a b w v : Option (List ℕ)) (r q : Result Unit RunFault) → first ≡ begun
    → r ≡ q → Serves (SaysLine Step) first new a b w v r → (x : State) × Serves (SaysLine Step) begun x a b w v q
served_as first begun new a b w v r q same is h =
    served_from first begun new a b w v q same
    (subst (λ (o : Result Unit RunFault). Serves (SaysLine Step) first new a b w v o) is h)
