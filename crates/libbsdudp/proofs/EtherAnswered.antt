-- The effect of a call on the stack and the link of two boxes is its effect on those of the handles.
use Rattle.std.proofs.Common.{◌≡◌, ◌==◌, if◌then◌else◌, true, false, Bool, ℤ, ◌∙◌, Option, None, Some, option_map, ap, refl, sym, subst}
use mir.Syntax.{w32}
use mir.Val.{SFits, of_z, to_z}
use Rattle.std.proofs.lemmas.Int.{to_z-of_z}
use Rattle.flat_ether.specs.Links.{LinkState}
use Rattle.net_stack.specs.Stack.{StackView}
use Rattle.ether_host.specs.View.{HostView}
use Rattle.ether_host.specs.Inside.{link_seen}
use Rattle.libbsdudp.specs.declared.handle.Handle.{Handle}
use Rattle.libbsdudp.specs.declared.link_handle.LinkHandle.{LinkHandle}
use Rattle.libbsdudp.specs.Answers.{no_stack}
use Rattle.libbsdudp.specs.Calls.{stack_in}
use Rattle.libbsdudp.specs.Ether.{AnswersHost, AnswersLink, IsLinkAsked, both, handle_link, no_link}
use Rattle.libbsdudp.specs.HandleLends.{with_value}
use Rattle.libbsdudp.specs.Held.{Boxed}
use Rattle.libbsdudp.specs.LinkHandleLends.{with_layer}
use Rattle.libbsdudp.specs.LinkHeld.{LinkBoxed}
use Rattle.libbsdudp.proofs.Answered.{has_new, held_stack, no_stack_in}

pub host_answered : {s_before s_after : Option StackView} {l_before l_after : Option LinkState} (answer : ℤ)
    (idle : Type 0)
    (call : HostView → HostView → Type 0) (s s2 : StackView) (l l2 : LinkState) → s_before ≡ Some s → l_before ≡ Some l
    → s_after ≡ Some s2 → l_after ≡ Some l2 → call (both s l) (both s2 l2)
    → AnswersHost s_before l_before answer s_after l_after idle call
host_answered {s_after = s_after} {l_before = l_before} {l_after = l_after} answer idle call s s2 l l2 s_is l_is s_will
    l_will did =
    subst (λ (b : Option StackView). AnswersHost b l_before answer s_after l_after idle call) (sym s_is)
    (subst (λ (b : Option LinkState). AnswersHost (Some s) b answer s_after l_after idle call) (sym l_is)
    (both s2 l2, s_will, l_will, did))

pub link_answered : {before after : Option LinkState} (answer : ℤ) (idle : Type 0)
    (call : LinkState → LinkState → Type 0)
    (l n : LinkState) → before ≡ Some l → after ≡ Some n → call l n → AnswersLink before answer after idle call
link_answered {after = after} answer idle call l n is will did =
    subst (λ (b : Option LinkState). AnswersLink b answer after idle call) (sym is) (n, will, did)

pub link_asked : {before after : Option LinkState} (answer : ℤ) (idle : Type 0) (Says : LinkState → Type 0)
    (l : LinkState)
    → before ≡ Some l → after ≡ Some l → Says l → AnswersLink before answer after idle (IsLinkAsked Says)
link_asked answer idle Says l is will says =
    link_answered answer idle (IsLinkAsked Says) l l is will (record { same = refl; says = says })

-- the same for both halves, for a result code as the machine passes it
pub host_answered_by : {s_before s_after : Option StackView} {l_before l_after : Option LinkState} (answer : ℤ)
    (idle : Type 0)
    (Call : ℤ → HostView → HostView → Type 0) (s s2 : StackView) (l l2 : LinkState) → SFits w32 answer
    → s_before ≡ Some s
    → l_before ≡ Some l → s_after ≡ Some s2 → l_after ≡ Some l2 → Call answer (both s l) (both s2 l2)
    → AnswersHost s_before l_before (to_z w32 (of_z w32 answer)) s_after l_after idle
    (Call (to_z w32 (of_z w32 answer)))
host_answered_by {s_before = s_before} {s_after = s_after} {l_before = l_before} {l_after = l_after} answer idle Call s
    s2 l l2 fits s_is l_is s_will l_will did =
    subst (λ (z : ℤ). AnswersHost s_before l_before z s_after l_after idle (Call z)) (sym (to_z-of_z w32 answer fits))
    (host_answered answer idle (Call answer) s s2 l l2 s_is l_is s_will l_will did)

-- one with a link has the new value of its link after a call
pub has_new_link : (k : LinkHandle) (v : LinkBoxed) → (k.live == 1651731563) ≡ true
    → handle_link (with_layer k v) ≡ Some (link_seen v.layer)
has_new_link k v live = ap (λ (b : Bool). if b then Some (link_seen v.layer) else None) live

pub host_called : (h : Handle) (w : Boxed) (k : LinkHandle) (v : LinkBoxed) {up linked : Bool} (answer : ℤ)
    (idle : Type 0) (Call : ℤ → HostView → HostView → Type 0) (s : StackView) (l : LinkState) → SFits w32 answer
    → up ≡ true → up ≡ (h.live == 1651729525) → linked ≡ true → linked ≡ (k.live == 1651731563)
    → stack_in h ≡ Some s → handle_link k ≡ Some l → Call answer (both s l) (both w.stack (link_seen v.layer))
    → AnswersHost (stack_in h) (handle_link k) (to_z w32 (of_z w32 answer)) (stack_in (with_value h w))
    (handle_link (with_layer k v)) idle (Call (to_z w32 (of_z w32 answer)))
host_called h w k v answer idle Call s l fits there up near linked s_is l_is did =
    host_answered_by answer idle Call s w.stack l (link_seen v.layer) fits s_is l_is (has_new h w (sym up ∙ there))
    (has_new_link k v (sym linked ∙ near)) did

pub link_called : (k : LinkHandle) (v : LinkBoxed) {linked : Bool} (answer : ℤ) (idle : Type 0)
    (Call : ℤ → LinkState → LinkState → Type 0) (l : LinkState) → SFits w32 answer → linked ≡ true
    → linked ≡ (k.live == 1651731563) → handle_link k ≡ Some l → Call answer l (link_seen v.layer)
    → AnswersLink (handle_link k) (to_z w32 (of_z w32 answer)) (handle_link (with_layer k v)) idle
    (Call (to_z w32 (of_z w32 answer)))
link_called k v answer idle Call l fits there linked is did =
    subst (λ (z : ℤ). AnswersLink (handle_link k) z (handle_link (with_layer k v)) idle (Call z))
    (sym (to_z-of_z w32 answer fits))
    (link_answered answer idle (Call answer) l (link_seen v.layer) is (has_new_link k v (sym linked ∙ there)) did)

pub link_questioned : (k : LinkHandle) (v : LinkBoxed) {linked : Bool} (answer : ℤ) (idle : Type 0)
    (Says : ℤ → LinkState → Type 0) → SFits w32 answer → linked ≡ true → linked ≡ (k.live == 1651731563)
    → handle_link k ≡ Some (link_seen v.layer) → Says answer (link_seen v.layer)
    → AnswersLink (handle_link k) (to_z w32 (of_z w32 answer)) (handle_link (with_layer k v)) idle
    (IsLinkAsked (Says (to_z w32 (of_z w32 answer))))
link_questioned k v answer idle Says fits there linked is says =
    link_called k v answer idle (λ z. IsLinkAsked (Says z)) (link_seen v.layer) fits there linked is
    (record { same = refl; says = says })

pub no_link_in : (k : LinkHandle) → (k.live == 1651731563) ≡ false → handle_link k ≡ None
no_link_in k dead = ap (λ (b : Bool). if b then option_map (λ x. link_seen x.layer) k.held.kept else None) dead

-- a call without a stack, and one with a stack and without a link
pub lacks_stack : (h : Handle) (k : LinkHandle) (idle : Type 0) (call : HostView → HostView → Type 0)
    → (h.live == 1651729525) ≡ false → idle
    → AnswersHost (stack_in h) (handle_link k) no_stack (stack_in h) (handle_link k) idle call
lacks_stack h k idle call dead rest =
    subst (λ (s : Option StackView). AnswersHost s (handle_link k) no_stack s (handle_link k) idle call)
    (sym (no_stack_in h dead)) (refl, refl, refl, rest)

pub lacks_link : (h : Handle) (k : LinkHandle) (idle : Type 0) (call : HostView → HostView → Type 0)
    → (h.live == 1651729525) ≡ true → (k.live == 1651731563) ≡ false → idle
    → AnswersHost (stack_in h) (handle_link k) no_link (stack_in h) (handle_link k) idle call
lacks_link h k idle call live dead rest =
    let s = held_stack h live in
    subst (λ (x : Option StackView). AnswersHost x (handle_link k) no_link x (handle_link k) idle call) (sym s.1)
    (subst (λ (l : Option LinkState). AnswersHost (Some s.0) l no_link (Some s.0) l idle call)
    (sym (no_link_in k dead)) (refl, refl, refl, rest))
