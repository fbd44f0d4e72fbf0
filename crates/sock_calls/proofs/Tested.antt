-- Sends that test the pool once are the machine's send.
use Rattle.std.proofs.Common.{◌≡◌, ℕ, Bool, true, false, cond, List, [], ◌∷◌, length, Option, Some, None, refl, sym, ap, ◌∙◌, subst, inl, inr}
use Rattle.std.specs.Prelude.{if◌then◌else◌}
use Rattle.std.specs.List.{AllByRecursion as Each}
use Rattle.std.proofs.lemmas.Bool.{true≢false}
use Rattle.std.proofs.lemmas.Option.{none-some, same_Some}
use Rattle.flat_model.specs.Amounts.Weight.{Item, nothing}
use Rattle.flat_model.specs.Packets.Header.{first_fault}
use Rattle.flat_model.specs.Machine.Event.{Reply, Done, Opened, Sent, Received, Given, Counted, Shown, Refused, Send}
use Rattle.flat_model.specs.Machine.State.{State, Socket}
use Rattle.flat_model.specs.Machine.Step.{Step}
use Rattle.flat_model.specs.Machine.Ledger.{exact_ledger, has_enough, HasBuffers, reclaimed}
use Rattle.flat_model.specs.Machine.Arrival.{AllArrive}
use Rattle.flat_model.specs.Amounts.Choice.{Choice}
use Rattle.flat_model.specs.Amounts.Layout.{Need}
use Rattle.flat_model.specs.Machine.Calls.{Refuses}
use Rattle.flat_model.specs.Machine.Send.{Sends, Goes, send_faults, target, need_to}
use Rattle.flat_model.specs.Machine.Puts.{Puts}
use Rattle.flat_model.specs.declared.address.Addr.{Addr}
use Rattle.flat_model.specs.declared.errno.Errno.{Errno}
use Rattle.flat_model.specs.declared.errno.Errno.TheVariants.{NoBufs, BadDescriptor}
use Rattle.flat_model.specs.declared.errno.Lack.TheVariants.{Pool, Queue}
use Rattle.flat_model.proofs.Laws.{put_goes}
use Rattle.sock_calls.specs.Sends.{RefusesAll, SendsBy, SendsOnce}

abbrev Lacks : Reply → Type 0
Lacks reply = reply ≡ Refused (NoBufs Pool)

-- no packet comes back
none_arrive : (looped : List Item) (mid new : State) → looped ≡ [] → AllArrive exact_ledger looped mid new → new ≡ mid
none_arrive looped mid new e arrive = subst (λ (l : List Item). AllArrive exact_ledger l mid new) e arrive

module _ (fd : ℕ) (to : Option Addr) (bytes : List ℕ) where
  -- ---- a send that doesn't fail for lack of buffers
  by_at_once : (me : Socket) (old : State) (reply : Reply) (looped : List Item) (mid new : State) → (Lacks reply → ⊥)
      → SendsBy exact_ledger fd to bytes me old reply looped mid → AllArrive exact_ledger looped mid new
      → Sends exact_ledger fd to bytes me old reply new
  by_at_once me old reply looped mid new enough by arrive = record {
    none = λ e. go (by.none e);
    some = λ errno e. (
      (by.some errno e).0.0,
      none_arrive looped mid new (by.some errno e).1 arrive
          ∙ (by.some errno e).0.1,
    );
  }
    where
      go : ((yes : Bool) × (yes ≡ has_enough old nothing (need_to old.config (target old me to).ip (length bytes)))
          × Choice yes (Puts exact_ledger fd me (target old me to) bytes old reply looped mid)
          (RefusesAll (NoBufs Pool) old reply looped mid))
          → (yes : Bool) × (middle : State) × HasBuffers exact_ledger old nothing
          (need_to old.config (target old me to).ip (length bytes)) yes middle
          × Choice yes (Goes exact_ledger fd me (target old me to) bytes middle reply new)
          (Refuses (NoBufs Pool) middle reply new)
      go (true, has, next) = (
        true,
        old,
        inl (has, refl),
        record {
          yes = λ h. put_goes exact_ledger fd me (target old me to) bytes old reply looped mid new
              (next.yes refl) arrive;
          no = λ h. absurd (true≢false h);
        },
      )
      go (false, has, next) = absurd (enough (next.no refl).0.0)

  pub sends_at_once : (old : State) (reply : Reply) (looped : List Item) (mid new : State)
      → (reply ≡ Refused (NoBufs Pool) → ⊥)
      → SendsOnce exact_ledger fd to bytes old reply looped mid → AllArrive exact_ledger looped mid new
      → Step old (Send fd to bytes) reply new
  sends_at_once old reply looped mid new enough once arrive = record {
    none = λ e. ((once.none e).0.0, none_arrive looped mid new (once.none e).1 arrive ∙ (once.none e).0.1);
    some = λ me e. by_at_once me old reply looped mid new enough (once.some me e) arrive;
  }

-- ---- no fault of a send is a lack of buffers
abbrev is_lack : Errno → Bool
is_lack (NoBufs Pool) = true
is_lack _ = false

abbrev lacks : Reply → Bool
lacks (Refused errno) = is_lack errno
lacks Done = false
lacks (Opened fd) = false
lacks (Sent n) = false
lacks (Received sender bytes) = false
lacks (Given packet) = false
lacks (Counted counters) = false
lacks (Shown usage) = false

abbrev NoLack : List (Bool × Errno) → Type 0
NoLack faults = Each (λ (fault : Bool × Errno). is_lack fault.1 ≡ false) faults

no_lack : (faults : List (Bool × Errno)) (errno : Errno) → NoLack faults → first_fault faults ≡ Some errno
    → is_lack errno ≡ false
no_lack [] errno all e = absurd (none-some errno e)
no_lack (fault ∷ faults) errno all e = go fault.0 e (λ is. no_lack faults errno all.1 is)
  where
    go : (t : Bool) → cond t (Some fault.1) (first_fault faults) ≡ Some errno
        → (first_fault faults ≡ Some errno → is_lack errno ≡ false) → is_lack errno ≡ false
    go true is later = ap is_lack (sym (same_Some fault.1 errno is)) ∙ all.0
    go false is later = later is

send_lacks_not : (s : State) (me : Socket) (to : Option Addr) (n : ℕ) → NoLack (send_faults s me to n)
send_lacks_not s me None n = (refl, (refl, (refl, (refl, tt))))
send_lacks_not s me (Some a) n = (refl, (refl, (refl, (refl, (refl, (refl, (refl, (refl, tt))))))))

not_lack : (errno : Errno) → is_lack errno ≡ false → Refused errno ≡ Refused (NoBufs Pool) → ⊥
not_lack errno e is = true≢false (sym (ap lacks is) ∙ e)

not_queued : (lost : Bool) (n : ℕ) → Refused (NoBufs Pool) ≡ (if lost then Refused (NoBufs Queue) else Sent n) → ⊥
not_queued true n e = true≢false (ap lacks e)
not_queued false n e = true≢false (ap lacks e)

-- ---- a send that does, and is retried without the unfinished datagrams
module _ (fd : ℕ) (to : Option Addr) (bytes : List ℕ) where
  -- the buffers that the send needs
  abbrev pub need_of_send : Socket → State → Need
  need_of_send me old = need_to old.config (target old me to).ip (length bytes)

  -- the outcome of a test of the pool
  abbrev pub Tested : Socket → State → Reply → List Item → State → Type 0
  Tested me old reply looped new =
      (yes : Bool) × (yes ≡ has_enough old nothing (need_of_send me old))
      × Choice yes (Puts exact_ledger fd me (target old me to) bytes old reply looped new)
      (RefusesAll (NoBufs Pool) old reply looped new)

  puts_not : (me : Socket) (old : State) (first : List Item) (same : State)
      → Puts exact_ledger fd me (target old me to) bytes old (Refused (NoBufs Pool)) first same → ⊥
  puts_not me old first same (port, named, clusters, gets, taken, left) = not_queued _ (length bytes) left.answer

  lacked : (me : Socket) (old : State) (first : List Item) (same : State)
      → Tested me old (Refused (NoBufs Pool)) first same → false ≡ has_enough old nothing (need_of_send me old)
  lacked me old first same (false, has, next) = has
  lacked me old first same (true, has, next) = absurd (puts_not me old first same (next.yes refl))

  then_again : (me : Socket) (old : State) (reply : Reply) (looped : List Item) (mid new : State)
      → false ≡ has_enough old nothing (need_of_send me old) → Tested me (reclaimed old) reply looped mid
      → AllArrive exact_ledger looped mid new
      → (yes : Bool) × (middle : State) × HasBuffers exact_ledger old nothing (need_of_send me old) yes middle
      × Choice yes (Goes exact_ledger fd me (target old me to) bytes middle reply new)
      (Refuses (NoBufs Pool) middle reply new)
  then_again me old reply looped mid new was (true, has, next) arrive = (
    true,
    reclaimed old,
    inr (was, refl, has),
    record {
      yes = λ h. put_goes exact_ledger fd me (target old me to) bytes (reclaimed old) reply looped mid new
          (next.yes refl) arrive;
      no = λ h. absurd (true≢false h);
    },
  )
  then_again me old reply looped mid new was (false, has, next) arrive = (
    false,
    reclaimed old,
    (was, refl, has),
    record {
      yes = λ h. absurd (true≢false (sym h));
      no = λ h. ((next.no refl).0.0, none_arrive looped mid new (next.no refl).1 arrive ∙ (next.no refl).0.1);
    },
  )

  by_again : (me : Socket) (old : State) (first : List Item) (same : State) (reply : Reply) (looped : List Item)
      (mid new : State) → SendsBy exact_ledger fd to bytes me old (Refused (NoBufs Pool)) first same
      → SendsBy exact_ledger fd to bytes me (reclaimed old) reply looped mid → AllArrive exact_ledger looped mid new
      → Sends exact_ledger fd to bytes me old reply new
  by_again me old first same reply looped mid new before by arrive = record {
    none = λ e. then_again me old reply looped mid new (lacked me old first same (before.none e)) (by.none e) arrive;
    some = λ errno e. absurd
        (not_lack errno (no_lack (send_faults old me to (length bytes)) errno (send_lacks_not old me to (length bytes))
        e) (sym (before.some errno e).0.0));
  }

  pub sends_again : (old : State) (first : List Item) (same : State) (reply : Reply) (looped : List Item)
      (mid new : State) → SendsOnce exact_ledger fd to bytes old (Refused (NoBufs Pool)) first same
      → SendsOnce exact_ledger fd to bytes (reclaimed old) reply looped mid → AllArrive exact_ledger looped mid new
      → Step old (Send fd to bytes) reply new
  sends_again old first same reply looped mid new before once arrive = record {
    none = λ e. absurd (not_lack BadDescriptor refl (sym (before.none e).0.0));
    some = λ me e. by_again me old first same reply looped mid new (before.some me e) (once.some me e) arrive;
  }
