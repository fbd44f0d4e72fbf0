-- The first machine: the packets that its runs transmit.
use Rattle.std.proofs.Common.{◌≡◌, ◌≢◌, ℕ, zero, suc, ◌*◌, ◌^◌, ◌<◌, Bool, true, false, List, [], ◌∷◌, length, refl, sym, ◌∙◌, ap, subst, arith, Option, Some, None, cond}
use Rattle.std.specs.Prelude.{◌==◌, not, is_some, unwrap_or}
use Rattle.std.specs.List.{AllByRecursion as Each}
use Rattle.std.proofs.lemmas.Bool.{eqb-false}
use Rattle.std.proofs.lemmas.Option.{none-some, same_Some}
use Rattle.flat_model.specs.Amounts.Weight.{Item, nothing}
use Rattle.flat_model.specs.Amounts.Layout.{wire, entries_on, weight_of}
use Rattle.flat_model.specs.Machine.Event.{Reply, IsAddr}
use Rattle.flat_model.specs.declared.errno.Errno.{Errno}
use Rattle.flat_model.specs.declared.option.Opt.{Opt}
use Rattle.flat_model.specs.declared.option.Opt.TheVariants.{Broadcast, ReusePort}
use Rattle.flat_model.specs.Machine.Count.{value_of}
use Rattle.flat_model.specs.declared.counter.Counter.TheVariants.{IpLocalout}
use Rattle.flat_model.specs.Machine.State.{IsConfig, State, Socket, Datagram, loopback, limited_broadcast, socket_at, change_socket}
use Rattle.flat_model.specs.declared.config.Config.{Config}
use Rattle.flat_model.specs.Machine.Calls as Calls
use Rattle.flat_model.specs.Machine.Calls.{Refuses, GetsPort, port_after, unless_zero, disconnected, set_option, source_for, read_addr}
use Rattle.flat_model.specs.Machine.Ledger.{Ledger}
use Rattle.flat_model.specs.Machine.Arrival as Arrival
use Rattle.flat_model.specs.Machine.Step.{ComesIn}
use Rattle.flat_model.specs.declared.address.Addr.{Addr}
use Rattle.flat_model.proofs.Laws.{by_choice, by_case, each-map, each-filter, each-find}
use Rattle.flat_wire.proofs.Closed.{IsClosed, kept_has_buffers, kept_arrives, counted-localout}

-- an address to which a socket may send
pub record IsTarget (a : Addr) : Type 0 where
  pub ip : a.ip < 4294967296
  pub known : a.ip ≢ limited_broadcast
  pub port : a.port < 65536

pub record IsSound (socket : Socket) : Type 0 where
  pub local : (ip : ℕ) → socket.local ≡ Some ip → ip < 4294967296
  pub port : (p : ℕ) → socket.port ≡ Some p → p < 65536
  pub peer : (a : Addr) → socket.peer ≡ Some a → IsTarget a

-- what an arrival keeps, by parts, so that a step says only those that it changes
pub record Parts (c own : Config) (out queue : List Item) (next number count sent : ℕ) (ss : List Socket) : Type 0 where
  pub config : own ≡ c
  pub output : queue ≡ out
  pub id : number ≡ next
  pub sends : sent ≡ count
  pub sockets : Each IsSound ss

abbrev pub IsKept : Config → List Item → ℕ → ℕ → State → Type 0
IsKept c out next count s = Parts c s.config out s.output next s.next_id count (value_of IpLocalout s.counters) s.sockets

with_sockets : {c own : Config} {out queue : List Item} {next number count sent : ℕ} {ss ss' : List Socket}
    → Parts c own out queue next number count sent ss → Each IsSound ss'
    → Parts c own out queue next number count sent ss'
with_sockets k sockets =
    record { config = k.config; output = k.output; id = k.id; sends = k.sends; sockets = sockets }

module _ (M : Ledger) (c : Config) (out : List Item) (next count : ℕ) (boots : IsConfig c) where
  abbrev pub K : State → Type 0
  K = IsKept c out next count

  pub closed : IsClosed M (IsKept c out next count)
  closed = record {
    ended =
        λ why s k. record {
          config = k.config;
          output = k.output;
          id = k.id;
          sends = counted-localout why s.counters ∙ k.sends;
          sockets = k.sockets;
        };
    dropped = λ s k. k;
    queued =
        λ fd d s k. with_sockets k
        (each-map IsSound _ (λ socket g. go fd d socket g (socket.fd == fd)) s.sockets k.sockets);
    begins = λ key s k. k;
    sets = λ key bytes s k. k;
    finishes = λ key s k. k;
    fragment = λ s k. k;
    packet = λ s k. k;
  }
    where
      go : (fd : ℕ) (d : Datagram) (socket : Socket) → IsSound socket → (b : Bool)
          → IsSound (cond b (Arrival.with_datagram d socket) socket)
      go fd d socket g true = record { local = g.local; port = g.port; peer = g.peer }
      go fd d socket g false = g

  pub refused : (old new : State) (errno : Errno) (reply : Reply) → K old → Refuses errno old reply new → K new
  refused old new errno reply k h = subst K (sym h.1) k

  pub changes : (fd : ℕ) (change : Socket → Socket) (s : State) → K s
      → ((socket : Socket) → IsSound socket → IsSound (change socket)) → K (change_socket fd change s)
  changes fd change s k sound =
      with_sockets k (each-map IsSound _ (λ socket g. go socket g (socket.fd == fd)) s.sockets k.sockets)
    where
      go : (socket : Socket) → IsSound socket → (b : Bool) → IsSound (cond b (change socket) socket)
      go socket g true = sound socket g
      go socket g false = g

  pub found : (fd : ℕ) (s : State) (me : Socket) → K s → socket_at fd s ≡ Some me → IsSound me
  found fd s me k e = (each-find IsSound (λ socket. socket.fd == fd) s.sockets me k.sockets e).0

  port_small : (last : Option ℕ) (k : ℕ) → port_after last k < 65536
  port_small None k = omega arith
  port_small (Some last) k = omega arith

  pub gets : (old new : State) (local asked : Option ℕ) (port : ℕ) → K old → ((p : ℕ) → asked ≡ Some p → p < 65536)
      → GetsPort old local asked port new → K new × (port < 65536)
  gets old new local (Some q) port k small h = (subst K (sym h.1) k, subst (λ p. p < 65536) (sym h.0) (small q refl))
  gets old new local None port k small h = (
    subst K (sym h.1) k,
    subst (λ p. p < 65536) (sym h.0.here) (port_small old.last_port h.0.turns),
  )

  pub host_small : (ip : ℕ) → ip < 224 * 2 ^ 24 → ip < 4294967296
  host_small ip h = omega arith

  pub source_small : (cc : Config) (me : Socket) (to : ℕ) → cc ≡ c → ((ip : ℕ) → me.local ≡ Some ip → ip < 4294967296)
      → source_for cc me to < 4294967296
  source_small cc me to e local = go me.local refl
    where
      addr : cc.addr < 4294967296
      addr = let at : cc.addr ≡ c.addr = ap (λ (x : Config). x.addr) e in omega (arith, boots.addr.high)

      default : (b : Bool) → cond b loopback cc.addr < 4294967296
      default true = omega arith
      default false = addr

      go : (l : Option ℕ) → me.local ≡ l → unwrap_or l (cond (to == loopback) loopback cc.addr) < 4294967296
      go (Some ip) h = local ip h
      go None h = default (to == loopback)

  pub target_read : (cc : Config) (a : Addr) → cc ≡ c → IsAddr a → IsTarget (read_addr cc a)
  target_read cc a e is =
      record {
        ip = ip (a.ip == 0) (a.ip == limited_broadcast);
        known = known (a.ip == 0) (a.ip == limited_broadcast) refl;
        port = omega (arith, is.port);
      }
    where
      addr : cc.addr < 224 * 2 ^ 24
      addr = let at : cc.addr ≡ c.addr = ap (λ (x : Config). x.addr) e in omega (arith, boots.addr.high)

      bcast : cc.bcast < 224 * 2 ^ 24
      bcast = let at : cc.bcast ≡ c.bcast = ap (λ (x : Config). x.bcast) e in omega (arith, boots.bcast.high)

      ip : (x y : Bool) → cond x cc.addr (cond y cc.bcast a.ip) < 4294967296
      ip true y = host_small cc.addr addr
      ip false true = host_small cc.bcast bcast
      ip false false = omega (arith, is.ip)

      known : (x y : Bool) → (a.ip == limited_broadcast) ≡ y → cond x cc.addr (cond y cc.bcast a.ip) ≢ limited_broadcast
      known true y ey = λ h. absurd (omega (arith, addr))
      known false true ey = λ h. absurd (omega (arith, bcast))
      known false false ey = λ h. eqb-false a.ip limited_broadcast ey h

  zero_small : (a ip : ℕ) (bound : ℕ) → a < bound → unless_zero a ≡ Some ip → ip < bound
  zero_small zero ip bound h e = absurd (none-some ip e)
  zero_small (suc a) ip bound h e = subst (λ k. k < bound) (same_Some _ ip e) h

  pub opens : (old new : State) (reply : Reply) → K old → Calls.Opens 64 old reply new → K new
  opens old new reply k h = by_choice h
      (λ e (fd, least, answer, is). subst K (sym is)
      (with_sockets k (
        record {
          local = λ ip e. absurd (none-some ip e);
          port = λ ip e. absurd (none-some ip e);
          peer = λ a e. absurd (none-some a e);
        },
        k.sockets,
      )))
      (λ e r. refused old new _ reply k r)

  pub binds : (fd : ℕ) (a : Addr) (me : Socket) (old new : State) (reply : Reply) → K old → IsAddr a
      → Calls.Binds fd a me old reply new → K new
  binds fd a me old new reply k is h = by_case h
      (λ e (port, chosen, g, answer, n).
      let got = gets old chosen _ _ port k (λ p e. zero_small a.port p 65536 (omega (arith, is.port)) e) g in
      subst K (sym n) (changes fd _ chosen got.0 (λ socket s. record {
        local = λ ip e. zero_small a.ip ip 4294967296 (omega (arith, is.ip)) e;
        port = λ p e. subst (λ q. q < 65536) (same_Some port p e) got.1;
        peer = s.peer;
      })))
      (λ errno e r. refused old new errno reply k r)

  pub connects : (fd : ℕ) (a : Addr) (me : Socket) (old new : State) (reply : Reply) → K old → IsAddr a → IsSound me
      → Calls.Connects fd a me old reply new → K new
  connects fd a me before new reply k is sound h = by_case h
      (λ e (port, chosen, g, answer, n).
      let got = gets old chosen _ _ port let_go me_is.port g in
      subst K (sym n) (changes fd _ chosen got.0 (λ socket s. record {
        local =
            λ ip e. subst (λ q. q < 4294967296) (same_Some _ ip e)
            (source_small old.config (disconnected me) (read_addr before.config a).ip k.config me_is.local);
        port = λ p e. subst (λ q. q < 65536) (same_Some port p e) got.1;
        peer = λ b e. subst IsTarget (same_Some _ b e) (target_read before.config a k.config is);
      })))
      (λ errno e r. refused old new errno reply let_go r)
    where
      old : State
      old = change_socket fd disconnected before

      apart : (socket : Socket) → IsSound socket → (b : Bool)
          → IsSound (cond b (record socket { local = None; peer = None }) socket)
      apart socket s true =
          record { local = λ ip e. absurd (none-some ip e); port = s.port; peer = λ b e. absurd (none-some b e) }
      apart socket s false = s

      let_go : K old
      let_go = changes fd disconnected before k (λ socket s. apart socket s (is_some socket.peer))

      me_is : IsSound (disconnected me)
      me_is = apart me sound (is_some me.peer)

  pub receives : (fd most : ℕ) (queue : List Datagram) (old new : State) (reply : Reply) → K old
      → Calls.Receives fd most queue old reply new → K new
  receives fd most [] old new reply k h = refused old new _ reply k h
  receives fd most (d ∷ later) old new reply k h =
      subst K (sym h.1) (changes fd _ old k (λ socket s. record { local = s.local; port = s.port; peer = s.peer }))

  pub sets : (fd : ℕ) (option : Opt) (on : Bool) (old new : State) (reply : Reply) → K old
      → Calls.SetsOption fd option on old reply new → K new
  sets fd option on old new reply k h = subst K (sym h.1) (changes fd _ old k (go option))
    where
      go : (option : Opt) (socket : Socket) → IsSound socket → IsSound (set_option option on socket)
      go Broadcast socket s = record { local = s.local; port = s.port; peer = s.peer }
      go ReusePort socket s = record { local = s.local; port = s.port; peer = s.peer }

  pub limits : (fd limit : ℕ) (old new : State) (reply : Reply) → K old → Calls.SetsLimit fd limit old reply new → K new
  limits fd limit old new reply k h =
      subst K (sym h.1) (changes fd _ old k (λ socket s. record { local = s.local; port = s.port; peer = s.peer }))

  pub closes : (fd : ℕ) (old new : State) (reply : Reply) → K old → Calls.Closes fd old reply new → K new
  closes fd old new reply k h =
      subst K (sym h.1)
      (with_sockets k (each-filter IsSound (λ socket. not (socket.fd == fd)) old.sockets k.sockets))

  pub comes_in : (packet : List ℕ) (old new : State) → K old → ComesIn M packet old new → K new
  comes_in packet old new k (answer, mid, a, h) =
      let at : K mid = kept_has_buffers M (IsKept c out next count) closed old mid nothing _ answer k a in
      by_choice h
      (λ e (clusters, taken, arrives). kept_arrives M (IsKept c out next count) closed (Arrival.By_wire (length packet))
      nothing (record { bytes = packet; weight = weight_of (entries_on clusters (wire (length packet))) }) mid new at
      arrives)
      (λ e r. subst K (sym r) (closed.ended _ mid at))
