-- Calls that change only the control blocks of the sockets.
use Rattle.std.proofs.Common.{◌≡◌, ℕ, zero, suc, ◌∷◌, ◌++◌, length, subst, arith, false, List, [], Option, None, Some, is_some, refl, sym, ap, ◌∙◌, inl, inr}
use Rattle.std.specs.Prelude.{IsNone, Result, Ok, Err, IfOk, OnErr}
use Rattle.std.proofs.lemmas.Bool.{cases_eq, true≢false}
use Rattle.mbuf_chain.specs.Chain.{PoolView}
use Rattle.flat_model.specs.declared.errno.Errno.{Errno}
use Rattle.flat_model.specs.Machine.State.{State}
use Rattle.pcb_table.specs.Table.{Table, Queues, KeepsOpen, OpensOnly, ClosesOnly, block_at, machine}
use Rattle.pcb_table.specs.Apart.{AreApart}
use Rattle.pcb_table.proofs.Laws.{same_open, opened, opened_others, closed, closed_others, same_machine}
use Rattle.mbuf_chain.specs.Owners.{times_among, IsOwned}
use Rattle.sockbuf.specs.SockBuf.{SockBufView, IsSockBuf, no_datagrams, datagrams, chains_of}
use Rattle.sockbuf.proofs.Laws.{new_ready}
use Rattle.sock_calls.specs.Sockets.{SocksView, IsSocks, StepsAt, from_three, queue_at, queues_of, queued_chains}

pub none_of : {T : Type 0} (o : Option T) → is_some o ≡ false → o ≡ None
none_of None e = refl
none_of (Some x) e = absurd (true≢false e)

-- if each descriptor that is closed now was closed before, the sockets stay valid
pub keeps : (p : PoolView) (v : SocksView) (t : Table) → IsSocks p v → AreApart t.blocks
    → ((fd : ℕ) → block_at fd t ≡ None → block_at fd v.pcbs ≡ None) → IsSocks p (record { pcbs = t; queues = v.queues })
keeps p v t is apart none = record {
  each = is.each;
  owned = is.owned;
  places = is.places;
  apart = apart;
  closed = λ fd e. is.closed fd (none fd e);
}

pub none_before : (old new : Table) → KeepsOpen old new → (fd : ℕ) → block_at fd new ≡ None → block_at fd old ≡ None
none_before old new kept fd e = none_of (block_at fd old) (sym (same_open old new kept fd) ∙ ap is_some e)

pub keeps_open : (p : PoolView) (v : SocksView) (t : Table) → IsSocks p v → AreApart t.blocks → KeepsOpen v.pcbs t
    → IsSocks p (record { pcbs = t; queues = v.queues })
keeps_open p v t is apart kept = keeps p v t is apart (none_before v.pcbs t kept)

-- ---- one more is open
none_beside : (old new : Table) (fd : ℕ) → OpensOnly old fd new → (k : ℕ) → block_at k new ≡ None
    → block_at k old ≡ None
none_beside old new fd opens k e = elim (cases_eq k fd) [
  | inl is ↦ absurd (true≢false (sym (opened old new fd opens) ∙ ap (λ (j : ℕ). is_some (block_at j new)) (sym is)
      ∙ ap is_some e))
  | inr ne ↦ none_of (block_at k old) (sym (opened_others old new fd k opens ne) ∙ ap is_some e)
]

pub keeps_more : (p : PoolView) (v : SocksView) (t : Table) (fd : ℕ) → IsSocks p v → AreApart t.blocks
    → OpensOnly v.pcbs fd t → IsSocks p (record { pcbs = t; queues = v.queues })
keeps_more p v t fd is apart opens = keeps p v t is apart (none_beside v.pcbs t fd opens)

-- nothing waits at a descriptor that is about to be opened
pub none_waits : (p : PoolView) (v : SocksView) (t : Table) (fd : ℕ) → IsSocks p v → OpensOnly v.pcbs fd t
    → queues_of p v.queues fd ≡ []
none_waits p v t fd is opens = is.closed fd (none_of (block_at fd v.pcbs) (none_is (block_at fd v.pcbs) opens.before))
  where
    none_is : {T : Type 0} (o : Option T) → IsNone o → is_some o ≡ false
    none_is None h = refl
    none_is (Some x) h = absurd (true≢false h)

-- a socket was opened, or the call failed
pub keeps_opened : (p : PoolView) (v : SocksView) (t : Table) (result : Result ℕ Errno) → IsSocks p v
    → AreApart t.blocks → IfOk result (λ fd. OpensOnly v.pcbs fd t) → OnErr result (t ≡ v.pcbs)
    → IsSocks p (record { pcbs = t; queues = v.queues })
keeps_opened p v t (Ok fd) is apart opens same = keeps_more p v t fd is apart opens
keeps_opened p v t (Err errno) is apart opens same = keeps p v t is apart (λ fd e. sym (ap (block_at fd) same) ∙ e)

pub none_waits_there : (p : PoolView) (v : SocksView) (t : Table) (result : Result ℕ Errno) → IsSocks p v
    → IfOk result (λ fd. OpensOnly v.pcbs fd t) → IfOk result (λ fd. queues_of p v.queues fd ≡ [])
none_waits_there p v t (Ok fd) is opens = none_waits p v t fd is opens
none_waits_there p v t (Err errno) is opens = tt

-- ---- no socket
abbrev Empty : List SockBufView → Type 0
Empty bs = (fd : ℕ) → queue_at bs fd ≡ no_datagrams

none_queued : (p : PoolView) (bs : List SockBufView) → Empty bs → queued_chains p bs ≡ []
none_queued p [] e = refl
none_queued p (b ∷ bs) e = λ i. chains_of p (e 0 i) ++ none_queued p bs (λ fd. e (suc fd)) i

none_owned : (p : PoolView) (bs : List SockBufView) → Empty bs → IsOwned p (queued_chains p bs)
none_owned p bs e = λ k. omega (arith, ap (times_among k) (none_queued p bs e))

none_apart : AreApart []
none_apart = record {
  fds = λ fd. omega arith;
  least = λ fd h. absurd (omega arith);
  most = λ fd h. absurd (omega arith);
  ports = refl;
  fours = λ local port peer. omega arith;
}

empty_from_three : (bs : List SockBufView) → Empty bs → Empty (from_three bs)
empty_from_three bs e zero = refl
empty_from_three bs e (suc zero) = refl
empty_from_three bs e (suc (suc zero)) = refl
empty_from_three bs e (suc (suc (suc k))) = e k

pub no_sockets : (p : PoolView) (t : Table) (bs : List SockBufView) → t.blocks ≡ [] → Empty bs → length bs ≡ 64
    → IsSocks p (record { pcbs = t; queues = from_three bs })
no_sockets p t bs none e places =
    let all : Empty (from_three bs) = empty_from_three bs e in
    record {
      each = λ fd. subst (IsSockBuf p) (sym (all fd)) (new_ready p);
      owned = none_owned p (from_three bs) all;
      places = omega (arith, places);
      apart = subst AreApart (sym none) none_apart;
      closed = λ fd h. ap (datagrams p) (all fd);
    }

-- ---- a socket was closed, and its queue emptied
pub keeps_closed : (p q : PoolView) (v : SocksView) (t : Table) (cs : List SockBufView) (fd : ℕ) → IsSocks p v
    → AreApart t.blocks → ClosesOnly v.pcbs fd t → StepsAt p [] v.queues fd q [] cs → queues_of q cs fd ≡ []
    → IsSocks q (record { pcbs = t; queues = cs })
keeps_closed p q v t cs fd is apart closes steps empty = record {
  each = steps.each;
  owned = steps.owned;
  places = steps.len ∙ is.places;
  apart = apart;
  closed = λ k e. elim (cases_eq k fd) [
    | inl here ↦ ap (queues_of q cs) here ∙ empty
    | inr ne ↦ steps.others k ne
        ∙ is.closed k (none_of (block_at k v.pcbs) (sym (closed_others v.pcbs t fd k closes ne) ∙ ap is_some e))
  ];
}

-- the queue of a closed descriptor doesn't matter to the machine
pub closed_machine : (f g : Queues) (t old : Table) (fd : ℕ) (rest : State) → ClosesOnly old fd t
    → ((k : ℕ) → (k ≡ fd → ⊥) → g k ≡ f k) → machine rest f t ≡ machine rest g t
closed_machine f g t old fd rest closes others =
    same_machine f g t rest
    (λ k at. sym
    (others k (λ e. absurd (true≢false (sym at ∙ ap (λ (j : ℕ). is_some (block_at j t)) e
    ∙ is_none_none (block_at fd t) (closed old t fd closes))))))
  where
    is_none_none : {T : Type 0} (o : Option T) → IsNone o → is_some o ≡ false
    is_none_none None h = refl
    is_none_none (Some x) h = absurd (true≢false h)
