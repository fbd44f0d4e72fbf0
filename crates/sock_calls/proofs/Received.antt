-- The machine after a receive.
use Rattle.std.proofs.Common.{◌≡◌, ℕ, cond, List, [], ◌∷◌, length, take, Option, None, Some, is_some, refl, sym, ap, ◌∙◌, subst, arith, inl, inr}
use Rattle.std.specs.Option.{ok_or}
use Rattle.std.proofs.lemmas.Bool.{cases_eq}
use Rattle.flat_model.specs.Machine.State.{State, Socket, Datagram}
use Rattle.flat_model.specs.Machine.Event.{Received, Refused, Receive}
use Rattle.flat_model.specs.Machine.Calls.{Receives}
use Rattle.flat_model.specs.Machine.Replies.{received_reply}
use Rattle.flat_model.specs.Machine.Step.{Step}
use Rattle.flat_model.specs.declared.address.Addr.{Addr}
use Rattle.flat_model.specs.declared.errno.Errno.TheVariants.{BadDescriptor, WouldBlock}
use Rattle.pcb_table.specs.declared.block.Block.{Block}
use Rattle.flat_model.specs.declared.errno.Errno.{Errno}
use Rattle.pcb_table.specs.Apart.{AreApart}
use Rattle.pcb_table.specs.Table.{Table, Queues, IsDescriptor, block_at, machine}
use Rattle.pcb_table.proofs.Laws.{on_open, not_open, same_machine, queue_changed}
use Rattle.sock_calls.specs.Sockets.{CopiesOldest}
use Rattle.sock_calls.proofs.Copies.{named_at, descriptor_of}

-- what was removed from a queue, and how it was copied
abbrev pub Took : Queues → Queues → ℕ → ℕ → Option (Addr × ℕ) → List ℕ → Type 0
Took f g fd most found room = CopiesOldest (f fd) (g fd) most found room

-- the same for equal queues
pub took_as : {was now before after : List Datagram} (most : ℕ) (found : Option (Addr × ℕ)) (room : List ℕ)
    → before ≡ was → after ≡ now → CopiesOldest was now most found room → CopiesOldest before after most found room
took_as {was} {now} {before} {after} most found room e f h =
    subst (λ (x : List Datagram). CopiesOldest x after most found room) (sym e)
    (subst (λ (y : List Datagram). CopiesOldest was y most found room) (sym f) h)

pub receives : (f g : Queues) (t : Table) (fd most : ℕ) (b : Block) (found : Option (Addr × ℕ)) (room : List ℕ)
    → block_at fd t ≡ Some b → b.fd ≡ fd → Took f g fd most found room → ((k : ℕ) → (k ≡ fd → ⊥) → g k ≡ f k)
    → (rest : State) → Step (machine rest f t) (Receive fd most) (received_reply (ok_or found WouldBlock) room)
    (machine rest g t)
receives f g t fd most b (Some got) room opened named took others rest =
    on_open rest f t fd b (Received got.0 (take got.1 room)) (machine rest g t)
    (λ (me : Socket). Receives fd most me.queue (machine rest f t) (Received got.0 (take got.1 room))
    (machine rest g t)) opened
    (subst (λ (ds : List Datagram). Receives fd most ds (machine rest f t) (Received got.0 (take got.1 room))
    (machine rest g t)) (sym (ap f named ∙ took.1))
    ((λ i. Received (took.2 i) (took.3 i)), queue_changed f g t rest fd (λ ds. g fd) refl others))
receives f g t fd most b None room opened named took others rest =
    on_open rest f t fd b (Refused WouldBlock) (machine rest g t)
    (λ (me : Socket). Receives fd most me.queue (machine rest f t) (Refused WouldBlock) (machine rest g t)) opened
    (subst (λ (ds : List Datagram). Receives fd most ds (machine rest f t) (Refused WouldBlock) (machine rest g t))
    (sym (ap f named ∙ took.0)) (
      refl,
      same_machine g f t rest (λ k at. elim (cases_eq k fd) [
        | inl e ↦ ap g e ∙ (took.1 ∙ sym took.0) ∙ ap f (sym e)
        | inr ne ↦ others k ne
      ]),
    ))

-- the block of an open socket
pub record Found (fd : ℕ) (t : Table) : Type 0 where
  pub block : Block
  pub at : block_at fd t ≡ Some block
  pub named : block.fd ≡ fd

-- if a datagram waits, the socket is open
pub waits_open : (f : Queues) (t : Table) (fd : ℕ) (d : Datagram) (ds : List Datagram)
    → (block_at fd t ≡ None → f fd ≡ []) → f fd ≡ d ∷ ds → Found fd t
waits_open f t fd d ds closed waits = go (block_at fd t) refl
  where
    go : (o : Option Block) → block_at fd t ≡ o → Found fd t
    go None none = absurd (omega (arith, ap length (sym (closed none) ∙ waits)))
    go (Some b) is = record { block = b; at = is; named = named_at t fd b is }

-- a number that isn't a descriptor has no block
pub not_descriptor : (t : Table) (fd : ℕ) → AreApart t.blocks → (IsDescriptor fd → ⊥) → block_at fd t ≡ None
not_descriptor t fd apart past = go (block_at fd t) refl
  where
    go : (o : Option Block) → block_at fd t ≡ o → block_at fd t ≡ None
    go None none = none
    go (Some b) is = absurd (past (descriptor_of t fd apart (ap is_some is)))

pub not_open_receives : (f : Queues) (t : Table) (fd most : ℕ) → block_at fd t ≡ None → (rest : State)
    → Step (machine rest f t) (Receive fd most) (Refused BadDescriptor) (machine rest f t)
not_open_receives f t fd most none rest = not_open rest f t fd
    (λ (me : Socket). Receives fd most me.queue (machine rest f t) (Refused BadDescriptor) (machine rest f t)) none

-- a receive from an empty queue
pub receives_none : (f g : Queues) (t : Table) (fd most : ℕ) (errno : Errno)
    → errno ≡ cond (is_some (block_at fd t)) WouldBlock BadDescriptor → (f fd ≡ []) × (g fd ≡ [])
    → ((k : ℕ) → (k ≡ fd → ⊥) → g k ≡ f k)
    → (rest : State) → Step (machine rest f t) (Receive fd most) (Refused errno) (machine rest g t)
receives_none f g t fd most errno is_errno none others rest = go (block_at fd t) refl
  where
    go : (o : Option Block) → block_at fd t ≡ o → Step (machine rest f t) (Receive fd most) (Refused errno)
        (machine rest g t)
    go None is =
        subst (λ (e : Errno). Step (machine rest f t) (Receive fd most) (Refused e) (machine rest g t))
        (sym (is_errno ∙ ap (λ (o : Option Block). cond (is_some o) WouldBlock BadDescriptor) is))
        (subst (λ (s : State). Step (machine rest f t) (Receive fd most) (Refused BadDescriptor) s)
        (same_machine f g t rest (λ k at. elim (cases_eq k fd) [
          | inl e ↦ ap f e ∙ (none.0 ∙ sym none.1) ∙ ap g (sym e)
          | inr ne ↦ sym (others k ne)
        ])) (not_open_receives f t fd most is rest))
    go (Some b) is =
        subst (λ (e : Errno). Step (machine rest f t) (Receive fd most) (Refused e) (machine rest g t))
        (sym (is_errno ∙ ap (λ (o : Option Block). cond (is_some o) WouldBlock BadDescriptor) is))
        (receives f g t fd most b None [] is (named_at t fd b is) none others rest)
