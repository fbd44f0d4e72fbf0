-- The calls of `src/echo_host.rt` that open a socket with a receive limit.
use Rattle.std.proofs.Common.{◌≡◌, ℕ, ◌+◌, ◌≤◌, Bool, true, false, [], ◌∷◌, refl, sym, ap, ◌∙◌, subst, arith, eq-eqb, Some, None, cond}
use Rattle.std.specs.Prelude.{◌==◌}
use Rattle.flat_model.specs.Amounts.Layout.{Need, need, need_bcast}
use Rattle.flat_model.specs.Fragments.Cuts.{cuts}
use Rattle.flat_model.specs.Machine.Calls as Calls
use Rattle.flat_model.specs.Machine.Event.{Reply, Open, Bind, Set_limit, Done, Opened, Refused}
use Rattle.flat_model.specs.Machine.Send.{need_to}
use Rattle.flat_model.specs.Machine.Sending.{is_looped}
use Rattle.flat_model.specs.Machine.State.{IsConfig, State, Socket, boot, change_socket, socket_at}
use Rattle.flat_model.specs.Machine.Step.{Step}
use Rattle.flat_model.specs.Runs.Isolation.{PoolHasRoom, SetsEmpty}
use Rattle.flat_model.specs.declared.address.Addr.{Addr}
use Rattle.flat_model.specs.declared.errno.Errno.{Errno}
use Rattle.flat_model.proofs.Laws.{by_choice, by_case}
use Rattle.net_stack.specs.Stack.{StackView, state_of}
use Rattle.callers.specs.Limited.{IsOpenedWithLimit}
use Rattle.callers.specs.declared.echo_host.TheConstants.{HOST}

-- a host with one socket
abbrev with_one : Socket → State
with_one x = record (boot HOST) { sockets = x ∷ [] }

abbrev port_7 : Addr
port_7 = record { ip = 0; port = 7 }

done_not_refused : (errno : Errno) → Done ≡ Refused errno → ⊥
done_not_refused errno e = cc

opened_not_refused : (fd : ℕ) (errno : Errno) → Opened fd ≡ Refused errno → ⊥
opened_not_refused fd errno e = cc

abbrev fd_of : Reply → ℕ
fd_of (Opened fd) = fd
fd_of _ = 0

opens : (new : State) (fd : ℕ) → Step (boot HOST) Open (Opened fd) new → new ≡ with_one (Calls.new_socket fd)
opens new fd h = by_choice h
    (λ e (other, least, answer, is). is ∙ ap (λ n. with_one (Calls.new_socket n)) (sym (ap fd_of answer)))
    (λ e r. absurd (opened_not_refused fd _ r.0))

-- the socket is found
found : (x : Socket) (fd : ℕ) → x.fd ≡ fd → socket_at fd (with_one x) ≡ Some x
found x fd e = ap (λ b. cond b (Some x) None) (eq-eqb x.fd fd e)

changed : (x : Socket) (fd : ℕ) (f : Socket → Socket) → x.fd ≡ fd
    → with_one (cond (x.fd == fd) (f x) x) ≡ with_one (f x)
changed x fd f e = ap (λ b. with_one (cond b (f x) x)) (eq-eqb x.fd fd e)

limits : (new : State) (x : Socket) (fd limit : ℕ) → x.fd ≡ fd → Step (with_one x) (Set_limit fd limit) Done new
    → new ≡ with_one (record x { limit = limit })
limits new x fd limit e h =
    let sets = h.some x (found x fd e) in
    sets.1 ∙ changed x fd (λ (y : Socket). record y { limit = limit }) e

binds : (new : State) (x : Socket) (fd : ℕ) → x.fd ≡ fd → Step (with_one x) (Bind fd port_7) Done new
    → (port : ℕ) × (new ≡ with_one (record x { local = None; port = Some port }))
binds new x fd e h = by_case (h.some x (found x fd e))
    (λ none (port, chosen, gets, answer, is). (
      port,
      is
          ∙ ap (λ (s : State). change_socket fd
          (λ (y : Socket). record y { local = None; port = Some port }) s) gets.1
          ∙ changed x fd (λ (y : Socket). record y { local = None; port = Some port }) e,
    ))
    (λ errno some r. absurd (done_not_refused errno r.0))

abbrev by_tests : Bool → Bool → Need
by_tests to_all looped = cond to_all (need_bcast 4) (need 4 (cond looped 1536 1500))

few_mbufs : (b c : Bool) → 64 + 0 + (by_tests b c).mbufs ≤ 512
unfolding cuts
few_mbufs true true = omega arith
few_mbufs true false = omega arith
few_mbufs false true = omega arith
few_mbufs false false = omega arith

few_clusters : (b c : Bool) → 3 + 0 + (by_tests b c).clusters ≤ 64
few_clusters true true = omega arith
few_clusters true false = omega arith
few_clusters false true = omega arith
few_clusters false false = omega arith

-- the socket that is open in the end
abbrev opened_socket : ℕ → ℕ → Socket
opened_socket fd port = record (Calls.new_socket fd) { limit = 4096; local = None; port = Some port }

room : (fd port ip : ℕ) → PoolHasRoom (need_to HOST ip 4) (with_one (opened_socket fd port))
room fd port ip = record {
  limits = (omega arith, tt);
  mbufs = omega (arith, few_mbufs (ip == HOST.bcast) (is_looped HOST ip));
  clusters = omega (arith, few_clusters (ip == HOST.bcast) (is_looped HOST ip));
}

pub opened_with_limit : (a b c d : StackView) (fd : ℕ) → IsConfig HOST → state_of a ≡ boot HOST
    → Step (state_of a) Open (Opened fd) (state_of b)
    → Step (state_of b) (Set_limit fd 4096) Done (state_of c) → Step (state_of c) (Bind fd port_7) Done (state_of d)
    → IsOpenedWithLimit fd d
opened_with_limit a b c d fd boots starts opened limited bound =
    let one : state_of b ≡ with_one (Calls.new_socket fd) =
    opens (state_of b) fd (subst (λ (s : State). Step s Open (Opened fd) (state_of b)) starts opened) in
    let two : state_of c ≡ with_one (record (Calls.new_socket fd) { limit = 4096 }) =
    limits (state_of c) (Calls.new_socket fd) fd 4096 refl
    (subst (λ (s : State). Step s (Set_limit fd 4096) Done (state_of c)) one limited) in
    let three =
    binds (state_of d) (record (Calls.new_socket fd) { limit = 4096 }) fd refl
    (subst (λ (s : State). Step s (Bind fd port_7) Done (state_of d)) two bound) in
    record {
      limited = record {
        boots = boots;
        first = a;
        starts = starts;
        turns =
            record { event = Open; reply = Opened fd } ∷ record { event = Set_limit fd 4096; reply = Done }
            ∷ record { event = Bind fd port_7; reply = Done } ∷ [];
        calls = (
          tt,
          tt,
          b,
          opened,
          (
            subst (SetsEmpty (Set_limit fd 4096)) (sym one) ((λ t. refl), tt),
            omega arith,
            c,
            limited,
            (tt, record { ip = omega arith; port = omega arith }, d, bound, refl),
          ),
        );
      };
      me = opened_socket fd three.0;
      found =
          subst (λ (s : State). socket_at fd s ≡ Some (opened_socket fd three.0)) (sym three.1)
          (found (opened_socket fd three.0) fd refl);
      room = λ ip. subst (λ (s : State). PoolHasRoom (need_to s.config ip 4) s) (sym three.1) (room fd three.0 ip);
    }
