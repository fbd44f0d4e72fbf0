-- A whole run of the exact machine, worked out: a socket is opened and bound, a packet comes, and its bytes are taken.
-- So the definitions can be met; and so can the premises of the law of receive limits, in a small pool.
use Rattle.std.specs.Prelude.{◌≡◌, refl, ℕ, ◌<◌, Bool, true, false, List, [], ◌∷◌, Some, None}
use Rattle.std.proofs.Common.{arith, inl, sym, ◌∙◌, subst}
use Rattle.std.proofs.lemmas.Option.{none-some, same_Some}
use Rattle.std.proofs.lemmas.List.Elements.{All-from_recursion}
use Rattle.flat_model.specs.Amounts.Choice.{Choice, Case}
use Rattle.flat_model.specs.Runs.Run.{Run, Turn}
use Rattle.flat_model.specs.Amounts.Layout.{filled, entries_on}
use Rattle.flat_model.specs.Fragments.Cuts.{cuts}
use Rattle.flat_model.specs.Machine.Count.{counted, counts_more}
use Rattle.flat_model.specs.declared.counter.Counter.TheVariants.{IpTotal}
use Rattle.flat_model.specs.Machine.Event.{Event, Reply, Open, Bind, Receive, Comes, Set_limit, Done, Opened, Received, IsBytes}
use Rattle.flat_model.specs.Machine.State.{State, Socket, boot}
use Rattle.flat_model.specs.declared.config.Config.{Config}
use Rattle.flat_model.specs.Machine.Calls.{new_socket}
use Rattle.flat_model.specs.Machine.Step.{Step}
use Rattle.flat_model.specs.Machine.Send.{need_to}
use Rattle.flat_model.specs.Runs.Isolation.{LeadsEmpty, PoolHasRoom}

abbrev plain : Config
plain = record { addr = 167772161; bcast = 167772415; mtu = 1500; mbufs = 512; clusters = 64; first_id = 1 }

-- from 10.0.0.2 port 5000 to 10.0.0.1 port 7, with the bytes 104 and 105
abbrev w : List ℕ
w = 69 ∷ 0 ∷ 0 ∷ 30 ∷ 0 ∷ 1 ∷ 0 ∷ 0 ∷ 64 ∷ 17 ∷ 102 ∷ 204 ∷ 10 ∷ 0 ∷ 0 ∷ 2 ∷ 10 ∷ 0 ∷ 0 ∷ 1 ∷ 19 ∷ 136 ∷ 0 ∷ 7 ∷ 0 ∷ 10
    ∷ 111 ∷ 223 ∷ 104 ∷ 105 ∷ []

abbrev s1 : State
s1 = record (boot plain) { sockets = new_socket 3 ∷ [] }

abbrev s2 : State
s2 = record (boot plain) { sockets = record (new_socket 3) { port = Some 7 } ∷ [] }

abbrev turn : Event → Reply → Turn
turn event reply = record { event = event; reply = reply }

fails : {A : Type 0} → true ≡ false → A
fails e = absurd (never e)
  where
    never : true ≡ false → ⊥
    never e = cc

fails' : {A : Type 0} → false ≡ true → A
fails' e = absurd (never e)
  where
    never : false ≡ true → ⊥
    never e = cc

when : {b : Bool} {P Q : Type 0} → b ≡ true → P → Choice b P Q
when {b = b} e p = record { yes = λ _. p; no = λ f. fails (sym e ∙ f) }

unless : {b : Bool} {P Q : Type 0} → b ≡ false → Q → Choice b P Q
unless {b = b} e q = record { yes = λ t. fails' (sym e ∙ t); no = λ _. q }

at_none : {T : Type 0} {P : Type 0} {Q : T → Type 0} → P → Case None P Q
at_none p = record { none = λ _. p; some = λ x e. absurd (none-some x e) }

at_some : {T : Type 0} {P : Type 0} {Q : T → Type 0} (x : T) → Q x → Case (Some x) P Q
at_some {Q = Q} x q = record { none = λ e. absurd (none-some x (sym e)); some = λ y e. subst Q (same_Some x y e) q }

opens : Step (boot plain) Open (Opened 3) s1
opens =
    when refl (3, record { least = omega arith; free = refl; passed = λ k low high. absurd (omega arith) }, refl, refl)

binds : Step s1 (Bind 3 (record { ip = 0; port = 7 })) Done s2
binds = at_some _ (at_none (7, s1, (refl, refl), refl, refl))

s3 : State
s3 = record s2 {
  sockets =
      record (new_socket 3) {
        port = Some 7;
        queue =
            record {
              sender = record { ip = 167772162; port = 5000 };
              item = record { bytes = 104 ∷ 105 ∷ []; weight = record { mbufs = 2; bag = [] } };
            } ∷ [];
      } ∷ [];
  counters = counts_more IpTotal 1 s2.counters;
}

-- the packet is put into the socket's queue
comes : Step s2 (Comes w) Done s3
unfolding filled entries_on counted s3
comes = (
  refl,
  (
    true,
    s2,
    inl (refl, refl),
    when refl (
      [],
      record { number = refl; distinct = λ c. omega arith; free = λ k d h. absurd (omega arith) },
      at_none (when refl (unless refl
          (when refl (at_none (when refl
          (record { answer = true; mid = _; has_buffers = inl (refl, refl); goes_on = when refl refl })))))),
    ),
  ),
)

receives : Step s3 (Receive 3 100) (Received (record { ip = 167772162; port = 5000 }) (104 ∷ 105 ∷ []))
    (record s2 { counters = counts_more IpTotal 1 s2.counters })
unfolding s3
receives = at_some _ (refl, refl)

-- the four turns are a run
a_run : Run plain (turn Open (Opened 3) ∷ turn (Bind 3 (record { ip = 0; port = 7 })) Done ∷ turn (Comes w) Done
    ∷ turn (Receive 3 100) (Received (record { ip = 167772162; port = 5000 }) (104 ∷ 105 ∷ [])) ∷ [])
    (record s2 { counters = counts_more IpTotal 1 s2.counters })
a_run = (
  tt,
  s1,
  opens,
  (
    record { ip = omega arith; port = omega arith },
    s2,
    binds,
    ((small, omega arith), s3, comes, (tt, _, receives, refl)),
  ),
)
  where
    small : IsBytes w
    small = All-from_recursion (λ byte. byte < 256) w (search arith)

-- ---- receive limits in a pool of 40 mbufs and 7 clusters

abbrev small_pool : Config
small_pool = record plain { mbufs = 40; clusters = 7 }

abbrev limited : ℕ → Socket
limited fd = record (new_socket fd) { limit = 512 }

-- a socket is opened, and its limit is set
limits_are_set : LeadsEmpty (boot small_pool) (turn Open (Opened 3) ∷ turn (Set_limit 3 512) Done ∷ [])
    (record (boot small_pool) { sockets = limited 3 ∷ [] })
limits_are_set = (
  tt,
  tt,
  record (boot small_pool) { sockets = new_socket 3 ∷ [] },
  when refl (3, record { least = omega arith; free = refl; passed = λ k low high. absurd (omega arith) }, refl, refl),
  (((λ e. refl), tt), omega arith, record (boot small_pool) { sockets = limited 3 ∷ [] }, at_some _ (refl, refl), refl),
)

-- three such sockets leave room for a send of 1,472 bytes to another host
room_is_left : PoolHasRoom (need_to small_pool 167772162 1472)
    (record (boot small_pool) { sockets = limited 5 ∷ limited 4 ∷ limited 3 ∷ [] })
unfolding filled cuts
room_is_left =
    let mbufs : (need_to small_pool 167772162 1472).mbufs ≡ 2 = refl in
    let clusters : (need_to small_pool 167772162 1472).clusters ≡ 1 = refl in
    record {
      limits = (omega arith, (omega arith, (omega arith, tt)));
      mbufs = omega (arith, mbufs);
      clusters = omega (arith, clusters);
    }
