-- Every step of the second machine keeps the invariant that its arrivals keep.
use Rattle.std.proofs.Common.{◌≡◌, ◌≢◌, ℕ, zero, suc, ◌≤◌, Bool, true, false, List, [], ◌∷◌, length, map, take, drop, refl, sym, ◌∙◌, ap, subst, ◌⊎◌, inl, inr, arith, Option, Some, None, cond}
use Rattle.std.specs.Prelude.{◌==◌, ◌||◌, not, find, is_some, unwrap_or, ⊤}
use Rattle.std.specs.List.{AllByRecursion as Each}
use Rattle.std.proofs.lemmas.Bool.{false≢true, or_cases, eq-eqb, eqb-true, not-false}
use Rattle.std.proofs.lemmas.Option.{none-some, same_Some}
use Rattle.flat_model.specs.Amounts.Weight.{Item, nothing}
use Rattle.flat_model.specs.Amounts.Layout.{LayoutEntry}
use Rattle.flat_model.specs.Fragments.Cuts.{Part}
use Rattle.flat_model.specs.Machine.Event.{Event, Reply, Open, Bind, Connect, Send, Receive, Close, Set_option, Set_limit, Comes, Transmit, Tick, Ask_counters, Ask_usage}
use Rattle.flat_model.specs.declared.errno.Errno.{Errno}
use Rattle.flat_model.specs.declared.option.Opt.{Opt}
use Rattle.flat_model.specs.declared.option.Opt.TheVariants.{Broadcast, ReusePort}
use Rattle.flat_model.specs.Machine.State.{State, Socket, Datagram, loopback, socket_at, change_socket}
use Rattle.flat_model.specs.declared.config.Config.{Config}
use Rattle.flat_model.specs.Machine.Calls as Calls
use Rattle.flat_model.specs.Machine.Calls.{Refuses, OnSocket, GetsPort, unless_zero, is_ours, disconnected, set_option, source_for}
use Rattle.flat_model.specs.Machine.Ledger.{Ledger}
use Rattle.flat_model.specs.Machine.Send.{to_self}
use Rattle.flat_model.specs.Machine.Sending.{items, is_looped, head_for, packet_for, datagram, later_weight, parts_of}
use Rattle.flat_model.specs.Machine.Send as Sending
use Rattle.flat_model.specs.Machine.Arrival.{By_wire}
use Rattle.flat_model.specs.Machine.Step.{ComesIn, StepBy, ticked, Transmits}
use Rattle.flat_model.specs.Runs.Run.{Turn, Leads}
use Rattle.flat_model.specs.Machine.Sending as Sent
use Rattle.flat_model.specs.declared.address.Addr.{Addr}
use Rattle.flat_model.proofs.Laws.{by_choice, by_case, each-map, each-filter, each-find, each-both, each-weaker, each-map_to, none_passed}
use Rattle.flat_wire.proofs.Decode.{source_read}
use Rattle.flat_wire.proofs.Second as Second

-- if nothing is found, no element passes
each-not_found : {X : Type 0} (p : X → Bool) (xs : List X) → is_some (find p xs) ≡ false → Each (λ x. p x ≡ false) xs
each-not_found p [] e = tt
each-not_found p (x ∷ xs) e = go (each-not_found p xs) (p x) refl e
  where
    go : (is_some (find p xs) ≡ false → Each (λ x. p x ≡ false) xs) → (b : Bool) → p x ≡ b
        → is_some (cond b (Some x) (find p xs)) ≡ false → Each (λ x. p x ≡ false) (x ∷ xs)
    go rest true t e = absurd (false≢true (sym e))
    go rest false t e = (t, rest e)

module _ (S A B mtu : ℕ) (P : Sent.Sending → Part → Type 0) (Answered : Sent.Sending → Type 0) (M : Ledger)
    (log : Second.IsLog S A B mtu P Answered M) (low : 28 ≤ mtu) (not_A : A ≢ S) (not_B : B ≢ S)
    (not_loopback : loopback ≢ S) where
  abbrev IsGood : (ℕ → Option ℕ) → State → Type 0
  IsGood = Second.IsGood S A B mtu P Answered M

  abbrev IsGoodSocket : (ℕ → Option ℕ) → Socket → Type 0
  IsGoodSocket = Second.IsGoodSocket S A B mtu P Answered M

  abbrev IsGoodDatagram : Option ℕ → Datagram → Type 0
  IsGoodDatagram = Second.IsGoodDatagram S A B mtu P Answered M

  abbrev IsGoodPacket : List ℕ → Type 0
  IsGoodPacket = Second.IsGoodPacket S A B mtu P Answered M

  -- some assignment of ports makes it good
  abbrev pub Good : State → Type 0
  Good s = (ports : ℕ → Option ℕ) × IsGood ports s

  set_port : (ℕ → Option ℕ) → ℕ → Option ℕ → ℕ → Option ℕ
  set_port ports fd port k = cond (k == fd) port (ports k)

  set_port_here : (ports : ℕ → Option ℕ) (fd : ℕ) (port : Option ℕ) (k : ℕ) → (k == fd) ≡ true
      → set_port ports fd port k ≡ port
  unfolding set_port
  set_port_here ports fd port k e = ap (λ b. cond b port (ports k)) e

  set_port_there : (ports : ℕ → Option ℕ) (fd : ℕ) (port : Option ℕ) (k : ℕ) → (k == fd) ≡ false
      → set_port ports fd port k ≡ ports k
  unfolding set_port
  set_port_there ports fd port k e = ap (λ b. cond b port (ports k)) e

  -- the sockets with a descriptor change, and perhaps its port
  changed : (ports : ℕ → Option ℕ) (s : State) (fd : ℕ) (port : Option ℕ) (change : Socket → Socket) → IsGood ports s
      → ((socket : Socket) → IsGoodSocket ports socket → (socket.fd == fd) ≡ true
      → IsGoodSocket (set_port ports fd port) (change socket)) → Good (change_socket fd change s)
  changed ports s fd port change good keeps = (
    set_port ports fd port,
    record {
      addr = good.addr;
      bcast = good.bcast;
      sockets =
          each-map_to (IsGoodSocket (set_port ports fd port)) _ (λ socket g. go socket g (socket.fd == fd) refl)
          s.sockets
          good.sockets;
      unfinished = good.unfinished;
    },
  )
    where
      go : (socket : Socket) → IsGoodSocket ports socket → (b : Bool) → (socket.fd == fd) ≡ b
          → IsGoodSocket (set_port ports fd port) (cond b (change socket) socket)
      go socket g true e = keeps socket g e
      go socket g false e =
          record { port = g.port ∙ sym (set_port_there ports fd port socket.fd e); queue = g.queue; local = g.local }

  -- a queue at a socket without a port has nothing from the first, so it is good for any port
  any_port : (p q : Option ℕ) (queue : List Datagram) → (p ≡ q) ⊎ (p ≡ None) → Each (IsGoodDatagram p) queue
      → Each (IsGoodDatagram q) queue
  any_port p q queue (inl e) g = subst (λ r. Each (IsGoodDatagram r) queue) e g
  any_port p q queue (inr e) g =
      each-weaker (λ d is. record {
        sent = λ from. absurd
            (none-some (is.sent from).sending.to.port (sym e ∙ (is.sent from).receiver));
      }) queue g

  -- a socket gets a port, a local address and a peer
  named : (ports : ℕ → Option ℕ) (s : State) (fd : ℕ) (port : Option ℕ) (change : Socket → Socket) → IsGood ports s
      → (ports fd ≡ port) ⊎ (ports fd ≡ None)
      → ((socket : Socket) → (change socket).fd ≡ socket.fd) → ((socket : Socket) → (change socket).port ≡ port)
      → ((socket : Socket) → (change socket).queue ≡ socket.queue)
      → ((socket : Socket) → IsGoodSocket ports socket → (ip : ℕ) → (change socket).local ≡ Some ip → ip ≢ S)
      → Good (change_socket fd change s)
  named ports s fd port change good kept same_fd new_port same_queue local =
      changed ports s fd port change good λ socket g e.
      let at : socket.fd ≡ fd = eqb-true socket.fd fd e in
      let here : (socket.port ≡ port) ⊎ (socket.port ≡ None) = along socket.port (g.port ∙ ap ports at) kept in
      record {
        port =
            new_port socket ∙ sym (ap (set_port ports fd port) (same_fd socket)
            ∙ set_port_here ports fd port socket.fd e);
        queue = subst (λ p. Each (IsGoodDatagram p) (change socket).queue) (sym (new_port socket))
            (subst (Each (IsGoodDatagram port)) (sym (same_queue socket))
            (any_port socket.port port socket.queue here g.queue));
        local = local socket g;
      }
    where
      along : (p : Option ℕ) → p ≡ ports fd → (ports fd ≡ port) ⊎ (ports fd ≡ None) → (p ≡ port) ⊎ (p ≡ None)
      along p e (inl h) = inl (e ∙ h)
      along p e (inr h) = inr (e ∙ h)

  refused : (old new : State) (errno : Errno) (reply : Reply) → Good old → Refuses errno old reply new → Good new
  refused old new errno reply good h = subst Good (sym h.1) good

  same_rest : (old new : State) → Good old → new.config ≡ old.config → new.sockets ≡ old.sockets
      → new.unfinished ≡ old.unfinished → Good new
  same_rest old new (ports, good) c s u =
      (ports, Second.same_but_counters S A B mtu P Answered M ports old new good c s u)

  gets : (old new : State) (local asked : Option ℕ) (port : ℕ) → (ports : ℕ → Option ℕ) → IsGood ports old
      → GetsPort old local asked port new → IsGood ports new × ((asked ≡ Some port) ⊎ (asked ≡ None))
  gets old new local (Some q) port ports good h = (subst (IsGood ports) (sym h.1) good, inl (ap Some (sym h.0)))
  gets old new local None port ports good h = (
    subst (IsGood ports) (sym h.1)
        (Second.same_but_counters S A B mtu P Answered M ports old (record old { last_port = Some port }) good refl refl
        refl),
    inr refl,
  )

  pub found : (ports : ℕ → Option ℕ) (s : State) (fd : ℕ) (me : Socket) → IsGood ports s → socket_at fd s ≡ Some me
      → IsGoodSocket ports me × (me.port ≡ ports fd)
  found ports s fd me good e =
      let f = each-find (IsGoodSocket ports) (λ socket. socket.fd == fd) s.sockets me good.sockets e in
      (f.0, f.0.port ∙ ap ports (eqb-true me.fd fd f.1))

  ours_not : (c : Config) (ip : ℕ) → c.addr ≡ A → c.bcast ≡ B → is_ours c ip ≡ true → ip ≢ S
  ours_not c ip a b e = go (or_cases ((ip == c.addr) || (ip == c.bcast)) _ e)
    where
      inner : ((ip == c.addr) ≡ true) ⊎ ((ip == c.bcast) ≡ true) → ip ≢ S
      inner (inl h) = λ from. not_A (sym a ∙ sym (eqb-true ip c.addr h) ∙ from)
      inner (inr h) = λ from. not_B (sym b ∙ sym (eqb-true ip c.bcast h) ∙ from)

      go : (((ip == c.addr) || (ip == c.bcast)) ≡ true) ⊎ ((ip == loopback) ≡ true) → ip ≢ S
      go (inl h) = inner (or_cases (ip == c.addr) _ h)
      go (inr h) = λ from. not_loopback (sym (eqb-true ip loopback h) ∙ from)

  pub source_not : (c : Config) (me : Socket) (to : ℕ) → c.addr ≡ A → ((ip : ℕ) → me.local ≡ Some ip → ip ≢ S)
      → source_for c me to ≢ S
  source_not c me to a local = go me.local refl
    where
      default : (b : Bool) → cond b loopback c.addr ≢ S
      default true from = not_loopback from
      default false from = not_A (sym a ∙ from)

      go : (l : Option ℕ) → me.local ≡ l → unwrap_or l (cond (to == loopback) loopback c.addr) ≢ S
      go (Some ip) e = local ip e
      go None e = default (to == loopback)

  eqb-refl : (n : ℕ) → (n == n) ≡ true
  eqb-refl n = eq-eqb n n refl

  -- ---- the calls

  opens : (old new : State) (reply : Reply) → Good old → Calls.Opens 64 old reply new → Good new
  opens old new reply (ports, good) h = by_choice h
      (λ e (fd, least, answer, is). subst Good (sym is) (
        set_port ports fd None,
        record {
          addr = good.addr;
          bcast = good.bcast;
          sockets = (
            record {
              port = sym (set_port_here ports fd None fd (eqb-refl fd));
              queue = tt;
              local = λ ip e. absurd (none-some ip e);
            },
            each-both (λ socket g e. record
                { port = g.port ∙ sym (set_port_there ports fd None socket.fd e); queue = g.queue; local = g.local })
                old.sockets good.sockets (each-not_found (λ socket. socket.fd == fd) old.sockets least.free),
          );
          unfinished = good.unfinished;
        },
      ))
      (λ e r. refused old new _ reply (ports, good) r)

  closes : (fd : ℕ) (old new : State) (reply : Reply) → Good old → Calls.Closes fd old reply new → Good new
  closes fd old new reply (ports, good) h = subst Good (sym h.1) (
    ports,
    record {
      addr = good.addr;
      bcast = good.bcast;
      sockets = each-filter (IsGoodSocket ports) (λ socket. not (socket.fd == fd)) old.sockets good.sockets;
      unfinished = good.unfinished;
    },
  )

  no_port : (port local : Option ℕ) → (is_some port || is_some local) ≡ false → port ≡ None
  no_port None local e = refl
  no_port (Some p) local e = absurd (never e)
    where
      never : true ≡ false → ⊥
      never e = cc

  binds : (fd : ℕ) (a : Addr) (me : Socket) (old new : State) (reply : Reply) → Good old → socket_at fd old ≡ Some me
      → Calls.Binds fd a me old reply new → Good new
  binds fd a me old new reply (ports, good) at h = by_case h
      (λ e (port, chosen, g, answer, is).
      let passed = none_passed (Calls.bind_faults old me a) e in
      let none : me.port ≡ None = no_port me.port me.local passed.0 in
      let got = gets old chosen _ _ port ports good g in
      let me_is = found ports old fd me good at in
      subst Good (sym is) (named ports chosen fd (Some port) _ got.0 (inr (sym me_is.1 ∙ none)) (λ s. refl) (λ s. refl)
      (λ s. refl)
      (λ s g ip e. address ip a.ip (not-false _ passed.1.0) e)))
      (λ errno e r. refused old new errno reply (ports, good) r)
    where
      address : (ip b : ℕ) → ((b == 0) || is_ours old.config b) ≡ true → unless_zero b ≡ Some ip → ip ≢ S
      address ip zero ours e = absurd (none-some ip e)
      address ip (suc b) ours e = go (or_cases (suc b == 0) _ ours)
        where
          same : suc b ≡ ip
          same = same_Some _ _ e

          go : ((suc b == 0) ≡ true) ⊎ (is_ours old.config (suc b) ≡ true) → ip ≢ S
          go (inl z) = absurd (omega (arith, eqb-true (suc b) 0 z))
          go (inr o) = λ from. ours_not old.config (suc b) good.addr good.bcast o (same ∙ from)

  connects : (fd : ℕ) (a : Addr) (me : Socket) (old new : State) (reply : Reply) → Good old → socket_at fd old ≡ Some me
      → Calls.Connects fd a me old reply new → Good new
  unfolding changed set_port
  connects fd a me before new reply (ports, good) at h =
      let d = changed ports before fd (ports fd) disconnected good keeps in
      let me_is = found ports before fd me good at in
      go d.0 d.1 (good_me (is_some me.peer) me_is.0)
      (port_kept me (is_some me.peer) ∙ me_is.1 ∙ sym (set_port_here ports fd (ports fd) fd (eqb-refl fd))) h
    where
      port_kept : (socket : Socket) (b : Bool)
          → (cond b (record socket { local = None; peer = None }) socket).port ≡ socket.port
      port_kept socket true = refl
      port_kept socket false = refl

      keeps : (socket : Socket) → IsGoodSocket ports socket → (socket.fd == fd) ≡ true
          → IsGoodSocket (set_port ports fd (ports fd)) (disconnected socket)
      keeps socket g e = split (is_some socket.peer)
        where
          port : socket.port ≡ set_port ports fd (ports fd) socket.fd
          port = g.port ∙ ap ports (eqb-true socket.fd fd e) ∙ sym (set_port_here ports fd (ports fd) socket.fd e)

          split : (b : Bool) → IsGoodSocket (set_port ports fd (ports fd))
              (cond b (record socket { local = None; peer = None }) socket)
          split true = record { port = port; queue = g.queue; local = λ ip e. absurd (none-some ip e) }
          split false = record { port = port; queue = g.queue; local = g.local }

      to : Addr
      to = Calls.read_addr before.config a

      old : State
      old = change_socket fd disconnected before

      good_me : (b : Bool) → IsGoodSocket ports me → (ip : ℕ)
          → (cond b (record me { local = None; peer = None }) me).local ≡ Some ip → ip ≢ S
      good_me true g ip e = absurd (none-some ip e)
      good_me false g ip e = g.local ip e

      go : (ports' : ℕ → Option ℕ) → IsGood ports' (change_socket fd disconnected before)
          → ((ip : ℕ) → (disconnected me).local ≡ Some ip → ip ≢ S) → (disconnected me).port ≡ ports' fd
          → Calls.ConnectsTo fd (Calls.read_addr before.config a) (disconnected me)
          (change_socket fd disconnected before) reply new → Good new
      go ports' good' local port_is h = by_case h
          (λ e (port, chosen, g, answer, is).
          let got = gets (change_socket fd disconnected before) chosen _ _ port ports' good' g in
          subst Good (sym is) (named ports' chosen fd (Some port) _ got.0
          (along (ports' fd) (disconnected me).port port_is (Some port) got.1) (λ s. refl) (λ s. refl) (λ s. refl)
          (λ s g ip e. subst (λ k. k ≢ S) (same_Some _ ip e)
          (source_not before.config (disconnected me) (Calls.read_addr before.config a).ip good.addr local))))
          (λ errno e r. refused (change_socket fd disconnected before) new errno reply (ports', good') r)
        where
          along : (q p : Option ℕ) → p ≡ q → (r : Option ℕ) → (p ≡ r) ⊎ (p ≡ None) → (q ≡ r) ⊎ (q ≡ None)
          along q p e r (inl h) = inl (sym e ∙ h)
          along q p e r (inr h) = inr (sym e ∙ h)

  receives : (fd most : ℕ) (me : Socket) (old new : State) (reply : Reply) → Good old → socket_at fd old ≡ Some me
      → (queue : List Datagram) → me.queue ≡ queue → Calls.Receives fd most queue old reply new → Good new
  receives fd most me old new reply good at [] e h = refused old new _ reply good h
  receives fd most me old new reply (ports, good) at (d ∷ later) e h =
      let me_is = found ports old fd me good at in
      let rest : Each (IsGoodDatagram me.port) later = (subst (Each (IsGoodDatagram me.port)) e me_is.0.queue).1 in
      subst Good (sym h.1) (changed ports old fd (ports fd) _ good λ socket g t.
      let port : socket.port ≡ ports fd = g.port ∙ ap ports (eqb-true socket.fd fd t) in
      record {
        port = port ∙ sym (set_port_here ports fd (ports fd) socket.fd t);
        queue = subst (λ p. Each (IsGoodDatagram p) later) (me_is.1 ∙ sym port) rest;
        local = g.local;
      })

  sets : (fd : ℕ) (option : Opt) (on : Bool) (old new : State) (reply : Reply) → Good old
      → Calls.SetsOption fd option on old reply new → Good new
  sets fd option on old new reply (ports, good) h =
      subst Good (sym h.1) (changed ports old fd (ports fd) (set_option option on) good (keeps option))
    where
      keeps : (option : Opt) (socket : Socket) → IsGoodSocket ports socket → (socket.fd == fd) ≡ true
          → IsGoodSocket (set_port ports fd (ports fd)) (set_option option on socket)
      keeps Broadcast socket g t =
          record {
            port = g.port ∙ ap ports (eqb-true socket.fd fd t)
                ∙ sym (set_port_here ports fd (ports fd) socket.fd t);
            queue = g.queue;
            local = g.local;
          }
      keeps ReusePort socket g t =
          record {
            port = g.port ∙ ap ports (eqb-true socket.fd fd t)
                ∙ sym (set_port_here ports fd (ports fd) socket.fd t);
            queue = g.queue;
            local = g.local;
          }

  limits : (fd limit : ℕ) (old new : State) (reply : Reply) → Good old → Calls.SetsLimit fd limit old reply new
      → Good new
  limits fd limit old new reply (ports, good) h =
      subst Good (sym h.1) (changed ports old fd (ports fd) (λ socket. record socket { limit = limit }) good
      (λ socket g t. record {
        port = g.port ∙ ap ports (eqb-true socket.fd fd t)
            ∙ sym (set_port_here ports fd (ports fd) socket.fd t);
        queue = g.queue;
        local = g.local;
      }))

  -- ---- sends

  -- a packet whose source isn't the first machine's address is good
  own_packet : (x : Sent.Sending) (p : Part) → x.source ≢ S → IsGoodPacket (packet_for x p)
  own_packet x p not from =
      absurd (not (sym (source_read (head_for x p) (take p.size (drop p.offset (datagram x)))) ∙ from.source))

  own_items : (entries : List LayoutEntry) (bytes : Part → List ℕ) (parts : List Part)
      → ((p : Part) → IsGoodPacket (bytes p))
      → Each {X = Item} (λ item. IsGoodPacket item.bytes) (items entries bytes parts)
  own_items entries bytes [] good = tt
  own_items entries bytes (p ∷ parts) good = (good p, later parts)
    where
      later : (ps : List Part) → Each {X = Item} (λ item. IsGoodPacket item.bytes)
          (map (λ q. record { bytes = bytes q; weight = later_weight entries q }) ps)
      later [] = tt
      later (q ∷ ps) = (good q, later ps)

  own_to_self : (c : Config) (ip : ℕ) (xs : List Item) → Each {X = Item} (λ item. IsGoodPacket item.bytes) xs
      → Each {X = Item} (λ item. IsGoodPacket item.bytes) (to_self c ip xs)
  own_to_self c ip xs good = go (is_looped c ip || (ip == c.bcast))
    where
      go : (b : Bool) → Each {X = Item} (λ item. IsGoodPacket item.bytes) (cond b xs [])
      go true = good
      go false = tt

  goes : (fd : ℕ) (me : Socket) (to : Addr) (bytes : List ℕ) (old new : State) (reply : Reply) (ports : ℕ → Option ℕ)
      → IsGood ports old
      → ((ip : ℕ) → me.local ≡ Some ip → ip ≢ S) → me.port ≡ ports fd → Sending.Goes M fd me to bytes old reply new
      → Good new
  goes fd me to bytes old new reply ports good local port_is (port, chosen, clusters, g, taken, rest) =
      let got = gets old chosen _ _ port ports good g in
      let not : source_for old.config me to.ip ≢ S = source_not old.config me to.ip good.addr local in
      let left = named ports _ fd (Some port) (λ socket. record socket { port = Some port })
      (Second.same_but_counters S A B mtu P Answered M ports chosen
      (Sending.counts_send (parts_of chosen.config
      (record {
        id = old.next_id;
        source = source_for old.config me to.ip;
        to = to;
        port = port;
        bytes = bytes;
      })) chosen) got.0 refl refl refl)
      (along (ports fd) me.port port_is (Some port) got.1) (λ s. refl) (λ s. refl) (λ s. refl)
      (λ s g ip e. g.local ip e) in (
        left.0,
        Second.good_all_arrive S A B mtu P Answered M left.0 log low _ _ new
            (Second.same_but_counters S A B mtu P Answered M left.0 _ _ left.1 refl refl refl)
            (own_to_self chosen.config to.ip _
            (own_items _ _ _ (λ p. own_packet
            (record {
              id = old.next_id;
              source = source_for old.config me to.ip;
              to = to;
              port = port;
              bytes = bytes;
            }) p not)))
            rest.0,
      )
    where
      along : (q p : Option ℕ) → p ≡ q → (r : Option ℕ) → (p ≡ r) ⊎ (p ≡ None) → (q ≡ r) ⊎ (q ≡ None)
      along q p e r (inl h) = inl (sym e ∙ h)
      along q p e r (inr h) = inr (sym e ∙ h)

  sends : (fd : ℕ) (to : Option Addr) (bytes : List ℕ) (me : Socket) (old new : State) (reply : Reply) → Good old
      → socket_at fd old ≡ Some me → Sending.Sends M fd to bytes me old reply new → Good new
  sends fd to bytes me old new reply (ports, good) at h = by_case h
      (λ e (answer, mid, a, c).
      let me_is = found ports old fd me good at in
      let then_good : IsGood ports mid =
      Second.good_has_buffers S A B mtu P Answered M ports old mid nothing _ answer good a in
      by_choice c
      (λ e g. goes fd me _ bytes mid new reply ports then_good me_is.0.local me_is.1 g)
      (λ e r. refused mid new _ reply (ports, then_good) r))
      (λ errno e r. refused old new errno reply (ports, good) r)

  -- ---- the other events

  comes_in : (packet : List ℕ) (old new : State) → Good old → IsGoodPacket packet → ComesIn M packet old new → Good new
  comes_in packet old new (ports, good) is (answer, mid, a, c) =
      let then_good : IsGood ports mid =
      Second.good_has_buffers S A B mtu P Answered M ports old mid nothing _ answer good a in (
        ports,
        by_choice c
            (λ e (clusters, taken, arrives). Second.good_arrives S A B mtu P Answered M ports log low
            (By_wire (length packet)) nothing _ mid new then_good is arrives)
            (λ e r. Second.good_ends S A B mtu P Answered M ports mid then_good new _ r),
      )

  ticks : (old : State) → Good old → Good (ticked old)
  ticks old (ports, good) = (
    ports,
    record {
      addr = good.addr;
      bcast = good.bcast;
      sockets = good.sockets;
      unfinished = each-filter _ _ _ (each-map _ _ (λ u g. g) old.unfinished good.unfinished);
    },
  )

  transmits : (output : List Item) (old new : State) (reply : Reply) → Good old → Transmits output old reply new
      → Good new
  transmits [] old new reply good h = subst Good (sym h.1) good
  transmits (item ∷ later) old new reply good h =
      subst Good (sym h.1) (same_rest old (record old { output = later }) good refl refl refl)

  on_socket : (fd : ℕ) (old new : State) (reply : Reply) (Call : Socket → Type 0) → Good old
      → ((me : Socket) → socket_at fd old ≡ Some me → Call me → Good new) → OnSocket fd old reply new Call → Good new
  on_socket fd old new reply Call good goes h = by_case h (λ e r. refused old new _ reply good r) goes

  -- the first machine sent each packet that comes with its address as the source
  abbrev pub IsGoodEvent : Event → Type 0
  IsGoodEvent (Comes packet) = IsGoodPacket packet
  IsGoodEvent _ = ⊤

  pub steps : (old new : State) (event : Event) (reply : Reply) → Good old → IsGoodEvent event
      → StepBy M old event reply new → Good new
  steps old new Open reply good is h = opens old new reply good h
  steps old new (Bind fd a) reply good is h =
      on_socket fd old new reply _ good (λ me at g. binds fd a me old new reply good at g) h
  steps old new (Connect fd a) reply good is h =
      on_socket fd old new reply _ good (λ me at g. connects fd a me old new reply good at g) h
  steps old new (Send fd to bytes) reply good is h =
      on_socket fd old new reply _ good (λ me at g. sends fd to bytes me old new reply good at g) h
  steps old new (Receive fd most) reply good is h =
      on_socket fd old new reply _ good (λ me at g. receives fd most me old new reply good at me.queue refl g) h
  steps old new (Close fd) reply good is h =
      on_socket fd old new reply _ good (λ me at g. closes fd old new reply good g) h
  steps old new (Set_option fd option on) reply good is h =
      on_socket fd old new reply _ good (λ me at g. sets fd option on old new reply good g) h
  steps old new (Set_limit fd limit) reply good is h =
      on_socket fd old new reply _ good (λ me at g. limits fd limit old new reply good g) h
  steps old new (Comes packet) reply good is h = comes_in packet old new good is h.1
  steps old new Transmit reply good is h = transmits old.output old new reply good h
  steps old new Tick reply good is h = subst Good (sym h.1) (ticks old good)
  steps old new Ask_counters reply good is h = subst Good (sym h.1) good
  steps old new Ask_usage reply good is h = subst Good (sym h.3) good

  pub runs : (old new : State) (turns : List Turn) → Good old → Each (λ turn. IsGoodEvent turn.event) turns
      → Leads M old turns new → Good new
  runs old new [] good is h = subst Good (sym h) good
  runs old new (turn ∷ turns) good is (ranges, mid, step, later) =
      runs mid new turns (steps old mid turn.event turn.reply good is.0 step) is.1 later
