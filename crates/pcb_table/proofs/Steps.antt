-- The calls on blocks are the flat machine's steps.
use Rattle.std.proofs.Common.{◌≡◌, ℕ, Bool, true, false, ◌&&◌, ◌||◌, ◌==◌, not, cond, List, [], ◌∷◌, map, find, set, Option, Some, None, option_map, is_some, refl, sym, ap, ◌∙◌, subst}
use Rattle.std.proofs.lemmas.Option.{none-some, same_Some}
use Rattle.flat_model.specs.declared.lookup_key.LookupKey.{LookupKey}
use Rattle.flat_model.specs.Packets.Header.{first_fault}
use Rattle.flat_model.specs.Machine.Event.{Reply, Done, Refused, Bind, Close, Connect, Set_limit, Set_option}
use Rattle.flat_model.specs.Sockets.Lookup.{exact}
use Rattle.flat_model.specs.Machine.State.{State, Socket, socket_at, change_socket}
use Rattle.flat_model.specs.Machine.Calls.{Unless, OnSocket, GetsPort, IsNextPort, port_after, is_in_use, is_taken, lacks_reuse_port, bind_faults, connect_faults, disconnected, read_addr, source_for, set_option, unless_zero, is_reached, Connects, ConnectsTo}
use Rattle.flat_model.specs.declared.address.Addr.{Addr}
use Rattle.flat_model.specs.declared.errno.Errno.{Errno}
use Rattle.flat_model.specs.declared.errno.Errno.TheVariants.{BadDescriptor, Invalid, AddressInUse, AddressNotAvailable, HostUnreachable}
use Rattle.flat_model.specs.declared.option.Opt.{Opt}
use Rattle.flat_model.specs.declared.option.Opt.TheVariants.{Broadcast, ReusePort}
use Rattle.pcb_table.specs.declared.block.Block.{Block}
use Rattle.pcb_table.specs.declared.interface.Interface.{Interface}
use Rattle.pcb_table.specs.Table.{Table, Queues, IsCall, block_at, machine, socket_with}
use Rattle.pcb_table.specs.Inside.Search.{youngest_block, best_block, key_port, is_used, is_in_way, lacks_option, IsFreePort, GivesPort, interface_config, block_bind_faults, block_connect_faults}
use Rattle.pcb_table.specs.Apart.{plain, has_fd, AreApart}
use Rattle.pcb_table.specs.Inside.Fields.{IsLocated}
use Rattle.pcb_table.specs.Found.{Changes, EnsuresPort}
use Rattle.std.specs.Prelude.{remove}
use Rattle.pcb_table.specs.Inside.Changed.{block_with_option, limited_block, bound_block, connected_block, disconnected_block}
use Rattle.pcb_table.proofs.Places.{located_found, located_set, located_remove}
use Rattle.pcb_table.proofs.Lifted.{youngest-sockets, best-sockets, sockets-find, sockets_changed, filter-map}

abbrev pub interface_of : Table → Interface
interface_of t = record { addr = t.addr; bcast = t.bcast }

-- a table with the block of a descriptor changed
abbrev pub with_change : ℕ → (Block → Block) → Table → Table
with_change fd f t = record t { blocks = map (λ b. cond (has_fd fd b) (f b) b) t.blocks }

-- ---- errors

pub refused_by : (faults : List (Bool × Errno)) (old : State) (errno : Errno) (G : Type 0)
    → first_fault faults ≡ Some errno → Unless faults old (Refused errno) old G
refused_by faults old errno G e = record {
  none = λ none. absurd (none-some errno (sym none ∙ e));
  some = λ other is. (ap Refused (same_Some errno other (sym e ∙ is)), refl);
}

pub passed_by : (faults : List (Bool × Errno)) (old : State) (reply : Reply) (new : State) (G : Type 0)
    → first_fault faults ≡ None → G → Unless faults old reply new G
passed_by faults old reply new G e g = record {
  none = λ _. g;
  some = λ errno is. absurd (none-some errno (sym e ∙ is));
}

module _ (rest : State) (queues : Queues) (t : Table) (fd : ℕ) where
  pub not_open : (Call : Socket → Type 0) → block_at fd t ≡ None
      → OnSocket fd (machine rest queues t) (Refused BadDescriptor) (machine rest queues t) Call
  not_open Call e = record {
    none = λ _. (refl, refl);
    some =
        λ socket is. absurd (none-some socket
        (sym (sockets-find queues fd t.blocks ∙ ap (option_map (socket_with queues)) e) ∙ is));
  }

  pub on_open : (b : Block) (reply : Reply) (new : State) (Call : Socket → Type 0) → block_at fd t ≡ Some b
      → Call (socket_with queues b) → OnSocket fd (machine rest queues t) reply new Call
  on_open b reply new Call e call =
      let found : socket_at fd (machine rest queues t) ≡ Some (socket_with queues b) =
      sockets-find queues fd t.blocks ∙ ap (option_map (socket_with queues)) e in
      record {
        none = λ none. absurd (none-some (socket_with queues b) (sym none ∙ found));
        some = λ socket is. subst Call (same_Some (socket_with queues b) socket (sym found ∙ is)) call;
      }

  pub changed : (f : Block → Block) (g : Socket → Socket)
      → ((b : Block) → socket_with queues (f b) ≡ g (socket_with queues b))
      → machine rest queues (with_change fd f t) ≡ change_socket fd g (machine rest queues t)
  changed f g same =
      ap (λ (s : List Socket). record (machine rest queues t) { sockets = s })
      (sockets_changed queues fd f g same t.blocks)

-- ---- ports

module _ (rest : State) (queues : Queues) (t : Table) where
  is_in_use-blocks : (local : Option ℕ) (port : ℕ)
      → is_in_use (machine rest queues t) local port ≡ is_used t.blocks local port
  is_in_use-blocks local port =
      ap is_some (best-sockets queues (key_port local port) t.blocks)
      ∙ is_some-map (best_block (key_port local port) t.blocks)
    where
      is_some-map : (o : Option Block) → is_some (option_map (socket_with queues) o) ≡ is_some o
      is_some-map None = refl
      is_some-map (Some b) = refl

  pub next_port : (local : Option ℕ) (port : ℕ) → IsFreePort t.blocks t.last_port local port
      → IsNextPort (machine rest queues t) local port
  next_port local port free = record {
    turns = free.turns;
    within = free.within;
    here = free.here;
    free = is_in_use-blocks local port ∙ free.free;
    passed = λ k lt. is_in_use-blocks local (port_after t.last_port k) ∙ free.passed k lt;
  }

  pub gets_port : (local asked : Option ℕ) (port : ℕ) (later : Option ℕ)
      → GivesPort t.blocks t.last_port local asked port later
      → GetsPort (machine rest queues t) local asked port (machine rest queues (record t { last_port = later }))
  gets_port local (Some asked) port later given =
      (given.0, ap (λ (l : Option ℕ). machine rest queues (record t { last_port = l })) given.1)
  gets_port local None port later given =
      (next_port local port given.0, ap (λ (l : Option ℕ). machine rest queues (record t { last_port = l })) given.1)

  -- ---- faults

  is_taken-blocks : (me : Block) (local : Option ℕ) (port : ℕ)
      → is_taken (machine rest queues t) (socket_with queues me) local port ≡ is_in_way t.blocks me local port
  is_taken-blocks me local port = λ i. cond me.reuse_port (lacks i) (is_in_use-blocks local port i)
    where
      lacks-map : (o : Option Block) → lacks_reuse_port (option_map (socket_with queues) o) ≡ lacks_option o
      lacks-map None = refl
      lacks-map (Some b) = refl

      lacks : lacks_reuse_port (exact (key_port local port) (map (socket_with queues) t.blocks))
          ≡ lacks_option (youngest_block 0 (key_port local port) t.blocks)
      lacks =
          ap lacks_reuse_port (youngest-sockets queues 0 (key_port local port) t.blocks)
          ∙ lacks-map (youngest_block 0 (key_port local port) t.blocks)

  pub bind_faults-blocks : (me : Block) (a : Addr)
      → bind_faults (machine rest queues t) (socket_with queues me) a
      ≡ block_bind_faults (interface_config (interface_of t)) t.blocks me a
  bind_faults-blocks me a = λ i.
      (is_some me.port || is_some me.local, Invalid)
      ∷ (not ((a.ip == 0) || ((a.ip == t.addr) || (a.ip == t.bcast) || (a.ip == 2130706433))), AddressNotAvailable)
      ∷ (not (a.port == 0) && is_taken-blocks me (unless_zero a.ip) a.port i, AddressInUse)
      ∷ []

  pub connect_faults-blocks : (me : Block) (a : Addr)
      → connect_faults (machine rest queues t) (socket_with queues me) a
      ≡ block_connect_faults (interface_config (interface_of t)) t.blocks me a
  connect_faults-blocks me a =
      ap (λ (x : Bool). (a.port == 0, AddressNotAvailable) ∷ (not (is_reached a.ip), HostUnreachable)
      ∷ (x, AddressInUse) ∷ []) found
    where
      q : LookupKey
      q = record {
        local = Some (source_for (interface_config (interface_of t)) (plain me) a.ip);
        port = me.port;
        peer = Some a;
      }

      is_some-map : (o : Option Block) → is_some (option_map (socket_with queues) o) ≡ is_some o
      is_some-map None = refl
      is_some-map (Some b) = refl

      found : is_some (exact q (map (socket_with queues) t.blocks)) ≡ is_some (youngest_block 0 q t.blocks)
      found = ap is_some (youngest-sockets queues 0 q t.blocks) ∙ is_some-map (youngest_block 0 q t.blocks)

-- ---- steps

pub set_option_commutes : (queues : Queues) (option : Opt) (on : Bool) (b : Block)
    → socket_with queues (block_with_option option on b) ≡ set_option option on (socket_with queues b)
set_option_commutes queues Broadcast on b = refl
set_option_commutes queues ReusePort on b = refl

pub limit_commutes : (queues : Queues) (limit : ℕ) (b : Block)
    → ◌≡◌ {A = Socket} (socket_with queues (limited_block limit b)) (record (socket_with queues b) { limit = limit })
limit_commutes queues limit b = refl

pub disconnected_commutes : (queues : Queues) (b : Block)
    → socket_with queues (disconnected_block b) ≡ disconnected (socket_with queues b)
disconnected_commutes queues b = go (is_some b.peer)
  where
    go : (t : Bool) → socket_with queues (cond t (record b { local = None; peer = None }) b)
        ≡ cond t (record (socket_with queues b) { local = None; peer = None }) (socket_with queues b)
    go true = refl
    go false = refl

-- a table by its parts
abbrev pub table_of : Interface → List Block → Option ℕ → Table
table_of i bs last = record { addr = i.addr; bcast = i.bcast; blocks = bs; last_port = last }

module _ (i : Interface) (bs : List Block) (last : Option ℕ) (fd index : ℕ) (b : Block) (apart : AreApart bs)
    (at : IsLocated fd bs index b) where
  pub set_option_step : (new : List Block) (option : Opt) (on : Bool)
      → new ≡ set bs index (block_with_option option on b)
      → IsCall (table_of i bs last) (Set_option fd option on) Done (table_of i new last)
  set_option_step new option on n rest queues =
      on_open rest queues (table_of i bs last) fd b Done (machine rest queues (table_of i new last)) _
      (located_found bs fd index b apart at) (
        refl,
        ap (λ (cs : List Block). machine rest queues (table_of i cs last))
            (n ∙ located_set bs fd index b apart at (block_with_option option on))
            ∙ changed rest queues (table_of i bs last) fd (block_with_option option on) (set_option option on)
            (set_option_commutes queues option on),
      )

  pub set_limit_step : (new : List Block) (limit : ℕ) → new ≡ set bs index (limited_block limit b)
      → IsCall (table_of i bs last) (Set_limit fd limit) Done (table_of i new last)
  set_limit_step new limit n rest queues =
      on_open rest queues (table_of i bs last) fd b Done (machine rest queues (table_of i new last)) _
      (located_found bs fd index b apart at) (
        refl,
        ap (λ (cs : List Block). machine rest queues (table_of i cs last))
            (n ∙ located_set bs fd index b apart at (limited_block limit))
            ∙ changed rest queues (table_of i bs last) fd (limited_block limit)
            (λ socket. record socket { limit = limit }) (limit_commutes queues limit),
      )

  pub close_step : (new : List Block) → new ≡ remove bs index
      → IsCall (table_of i bs last) (Close fd) Done (table_of i new last)
  close_step new n rest queues =
      on_open rest queues (table_of i bs last) fd b Done (machine rest queues (table_of i new last)) _
      (located_found bs fd index b apart at) (
        refl,
        ap (λ (cs : List Block). machine rest queues (table_of i cs last)) (n ∙ located_remove bs fd index b apart at)
            ∙ ap (λ (s : List Socket). record (machine rest queues (table_of i bs last)) { sockets = s })
            (sym (filter-map (socket_with queues) (λ socket. not (socket.fd == fd)) bs)),
      )

  pub bind_refused : (a : Addr) (errno : Errno)
      → first_fault (block_bind_faults (interface_config i) bs b a) ≡ Some errno
      → IsCall (table_of i bs last) (Bind fd a) (Refused errno) (table_of i bs last)
  bind_refused a errno fault rest queues =
      on_open rest queues (table_of i bs last) fd b (Refused errno) (machine rest queues (table_of i bs last)) _
      (located_found bs fd index b apart at)
      (refused_by (bind_faults (machine rest queues (table_of i bs last)) (socket_with queues b) a)
      (machine rest queues (table_of i bs last)) errno _
      (ap first_fault (bind_faults-blocks rest queues (table_of i bs last) b a) ∙ fault))

  pub bind_step : (new : List Block) (a : Addr) (port : ℕ) (later : Option ℕ)
      → first_fault (block_bind_faults (interface_config i) bs b a) ≡ None
      → GivesPort bs last (unless_zero a.ip) (unless_zero a.port) port later
      → new ≡ set bs index (bound_block (unless_zero a.ip) port b)
      → IsCall (table_of i bs last) (Bind fd a) Done (table_of i new later)
  bind_step new a port later none given n rest queues =
      on_open rest queues (table_of i bs last) fd b Done (machine rest queues (table_of i new later)) _
      (located_found bs fd index b apart at)
      (passed_by (bind_faults (machine rest queues (table_of i bs last)) (socket_with queues b) a)
      (machine rest queues (table_of i bs last)) Done (machine rest queues (table_of i new later)) _
      (ap first_fault (bind_faults-blocks rest queues (table_of i bs last) b a) ∙ none) (
        port,
        machine rest queues (table_of i bs later),
        gets_port rest queues (table_of i bs last) (unless_zero a.ip) (unless_zero a.port) port later given,
        refl,
        ap (λ (cs : List Block). machine rest queues (table_of i cs later))
            (n ∙ located_set bs fd index b apart at (bound_block (unless_zero a.ip) port))
            ∙ changed rest queues (table_of i bs later) fd (bound_block (unless_zero a.ip) port)
            (λ socket. record socket { local = unless_zero a.ip; port = Some port }) (λ c. refl),
      ))

  pub disconnect_step : (new : List Block) → new ≡ set bs index (disconnected_block b)
      → Changes (table_of i bs last) fd disconnected (table_of i new last)
  disconnect_step new n rest queues =
      ap (λ (cs : List Block). machine rest queues (table_of i cs last))
      (n ∙ located_set bs fd index b apart at disconnected_block)
      ∙ changed rest queues (table_of i bs last) fd disconnected_block disconnected (disconnected_commutes queues)

  pub ensure_port_step : (new : List Block) (port : ℕ) (later : Option ℕ) → GivesPort bs last b.local b.port port later
      → new ≡ set bs index (bound_block b.local port b)
      → EnsuresPort (table_of i bs last) fd port (table_of i new later)
  ensure_port_step new port later given n = record {
    last = later;
    gets = λ rest queues c e.
        let same : b ≡ c = same_Some b c (sym (located_found bs fd index b apart at) ∙ e) in
        subst (λ (c : Block). GetsPort (machine rest queues (table_of i bs last)) c.local c.port port
        (machine rest queues (table_of i bs later))) same
        (gets_port rest queues (table_of i bs last) b.local b.port port later given);
    changes = λ rest queues.
        ap (λ (cs : List Block). machine rest queues (table_of i cs later))
        (n ∙ located_set bs fd index b apart at (λ c. record c { port = Some port }))
        ∙ changed rest queues (table_of i bs later) fd (λ c. record c { port = Some port })
        (λ socket. record socket { port = Some port }) (λ c. refl);
  }

  -- ---- connect: the block is disconnected, and then connected

  first_disconnects : (rest : State) (queues : Queues) (gone : List Block) (a : Addr) (reply : Reply) (new : State)
      → gone ≡ set bs index (disconnected_block b)
      → ConnectsTo fd (read_addr (interface_config i) a) (socket_with queues (disconnected_block b))
      (machine rest queues (table_of i gone last)) reply new
      → OnSocket fd (machine rest queues (table_of i bs last)) reply new
      (λ me. Connects fd a me (machine rest queues (table_of i bs last)) reply new)
  first_disconnects rest queues gone a reply new g goes =
      on_open rest queues (table_of i bs last) fd b reply new _ (located_found bs fd index b apart at)
      (subst (λ (s : State). ConnectsTo fd (read_addr (interface_config i) a) (disconnected (socket_with queues b)) s
      reply
      new) (disconnect_step gone g rest queues)
      (subst (λ (me : Socket). ConnectsTo fd (read_addr (interface_config i) a) me
      (machine rest queues (table_of i gone last))
      reply new) (disconnected_commutes queues b) goes))

  pub connect_refused : (gone : List Block) (a : Addr) (errno : Errno) → gone ≡ set bs index (disconnected_block b)
      → first_fault (block_connect_faults (interface_config i) gone (disconnected_block b)
      (read_addr (interface_config i) a))
      ≡ Some errno
      → IsCall (table_of i bs last) (Connect fd a) (Refused errno) (table_of i gone last)
  connect_refused gone a errno g fault rest queues =
      first_disconnects rest queues gone a (Refused errno) (machine rest queues (table_of i gone last)) g
      (refused_by (connect_faults (machine rest queues (table_of i gone last))
      (socket_with queues (disconnected_block b)) (read_addr (interface_config i) a)) (machine rest queues
      (table_of i gone last)) errno _
      (ap first_fault (connect_faults-blocks rest queues (table_of i gone last) (disconnected_block b)
      (read_addr (interface_config i) a)) ∙ fault))

  pub connect_step : (gone new : List Block) (a : Addr) (source port : ℕ) (later : Option ℕ)
      → gone ≡ set bs index (disconnected_block b)
      → first_fault (block_connect_faults (interface_config i) gone (disconnected_block b)
      (read_addr (interface_config i) a)) ≡ None
      → source ≡ source_for (interface_config i) (plain (disconnected_block b)) (read_addr (interface_config i) a).ip
      → GivesPort gone last (disconnected_block b).local (disconnected_block b).port port later
      → AreApart gone → IsLocated fd gone index (disconnected_block b)
      → new ≡ set gone index (connected_block source port (read_addr (interface_config i) a) (disconnected_block b))
      → IsCall (table_of i bs last) (Connect fd a) Done (table_of i new later)
  connect_step gone new a source port later g none from given free there n rest queues =
      let to : Addr = read_addr (interface_config i) a in
      let me : Block = disconnected_block b in
      let M : State = machine rest queues (table_of i gone last) in
      first_disconnects rest queues gone a Done (machine rest queues (table_of i new later)) g
      (passed_by (connect_faults M (socket_with queues me) to) M Done (machine rest queues (table_of i new later)) _
      (ap first_fault (connect_faults-blocks rest queues (table_of i gone last) me to) ∙ none) (
        port,
        machine rest queues (table_of i gone later),
        gets_port rest queues (table_of i gone last) me.local me.port port later given,
        refl,
        ap (λ (cs : List Block). machine rest queues (table_of i cs later))
            (n ∙ located_set gone fd index me free there (connected_block source port to))
            ∙ changed rest queues (table_of i gone later) fd (connected_block source port to)
            (λ socket. record socket { local = Some source; port = Some port; peer = Some to }) (λ c. refl)
            ∙ ap (λ k. change_socket fd (λ socket. record socket { local = Some k; port = Some port; peer = Some to })
            (machine rest queues (table_of i gone later))) from,
      ))

-- ---- steps of a table, by the slice of its blocks

pub closed : (i : Interface) (bs : List Block) (last : Option ℕ) (t : Table) (fd : ℕ) → table_of i bs last ≡ t
    → find (has_fd fd) bs ≡ None
    → (rest : State) (queues : Queues) (Call : Socket → Type 0)
    → OnSocket fd (machine rest queues t) (Refused BadDescriptor) (machine rest queues t) Call
closed i bs last t fd is none rest queues Call =
    not_open rest queues t fd Call (subst (λ (u : Table). block_at fd u ≡ None) is none)
