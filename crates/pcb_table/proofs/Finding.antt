-- Lookups, checks and new sockets in the table, as in each machine with these blocks.
use Rattle.std.proofs.Common.{◌≡◌, ℕ, ◌<◌, Bool, true, false, ◌&&◌, not, nat_lt, cond, List, [], ◌∷◌, map, filter, find, length, Option, Some, None, Ok, Err, option_map, is_some, refl, sym, ap, ◌∙◌, subst, arith, All}
use Rattle.std.specs.Prelude.{IsNone, IsSome}
use Rattle.std.proofs.lemmas.Bool.{and_parts, true≢false, lt-ltb}
use Rattle.std.proofs.lemmas.List.{length-map}
use Rattle.std.proofs.lemmas.List.Elements.{All-map}
use Rattle.std.proofs.lemmas.Option.{same_Some}
use Rattle.flat_model.specs.declared.lookup_key.LookupKey.{LookupKey}
use Rattle.flat_model.specs.Packets.Header.{first_fault}
use Rattle.flat_model.specs.Machine.Event.{Opened}
use Rattle.flat_model.specs.Sockets.Lookup.{best, exact, receivers, is_addr}
use Rattle.flat_model.specs.Machine.State.{State}
use Rattle.flat_model.specs.Machine.Calls.{Opens, read_addr}
use Rattle.flat_model.specs.Machine.Send.{address_faults}
use Rattle.flat_model.specs.declared.address.Addr.{Addr}
use Rattle.flat_model.specs.declared.errno.Errno.{Errno}
use Rattle.flat_model.specs.declared.errno.Errno.TheVariants.{IsConnected}
use Rattle.pcb_table.specs.declared.block.Block.{Block}
use Rattle.pcb_table.specs.declared.block.Connection.{Connection}
use Rattle.pcb_table.specs.declared.interface.Interface.{Interface}
use Rattle.pcb_table.specs.Table.{Queues, IsDescriptor, block_at, machine, packet_key, socket_with}
use Rattle.pcb_table.specs.Found.{ChecksDestination, EnsuresPort, Finds, FindsAll}
use Rattle.pcb_table.specs.Inside.Search.{best_block, youngest_block, receiving_blocks, block_connect_faults, interface_config, GivesPort}
use Rattle.pcb_table.specs.Apart.{does_match, AreApart, has_fd}
use Rattle.pcb_table.specs.Inside.Fields.{IsCached, IsLowestUnused}
use Rattle.pcb_table.specs.Inside.Changed.{unbound_block}
use Rattle.pcb_table.proofs.Descriptors.{named_times, up_to_few, filter_few}
use Rattle.pcb_table.proofs.Keeping.{addr_same, cached_is_best}
use Rattle.pcb_table.proofs.Lifted.{best-sockets, youngest-sockets, receivers-sockets, sockets-find}
use Rattle.pcb_table.proofs.Places.{best_by_fd, found_by_fd, receiving_by_fd, receiving_range, only_changes}
use Rattle.pcb_table.proofs.Steps.{table_of, changed, connect_faults-blocks, gets_port}

-- ---- look-ups

module _ (i : Interface) (bs : List Block) (last : Option ℕ) (q : LookupKey) where
  pub best_none : best_block q bs ≡ None → Finds (best q) (table_of i bs last) None
  best_none e queues = best-sockets queues q bs ∙ ap (option_map (socket_with queues)) e

  pub best_some : (b : Block) → AreApart bs → best_block q bs ≡ Some b → Finds (best q) (table_of i bs last) (Some b.fd)
  best_some b apart e =
      (b, refl, best_by_fd q bs b apart e, λ queues. best-sockets queues q bs ∙ ap (option_map (socket_with queues)) e)

  pub exact_none : youngest_block 0 q bs ≡ None → Finds (exact q) (table_of i bs last) None
  exact_none e queues = youngest-sockets queues 0 q bs ∙ ap (option_map (socket_with queues)) e

  pub exact_some : (b : Block) → AreApart bs → youngest_block 0 q bs ≡ Some b
      → Finds (exact q) (table_of i bs last) (Some b.fd)
  exact_some b apart e = (
    b,
    refl,
    found_by_fd _ bs b apart e,
    λ queues. youngest-sockets queues 0 q bs
        ∙ ap (option_map (socket_with queues)) e,
  )

  pub receivers_all : AreApart bs → FindsAll (receivers q) (table_of i bs last) (map (λ b. b.fd) (receiving_blocks q bs))
  receivers_all apart = record {
    found = receiving_blocks q bs;
    named = refl;
    once =
        λ fd. omega (
          arith,
          named_times fd (receiving_blocks q bs),
          up_to_few fd (λ b. not b.reuse_port) (filter (does_match q) bs),
          filter_few fd (does_match q) bs,
          apart.fds fd,
        );
    are_open = receiving_by_fd q bs apart;
    sockets = λ queues. receivers-sockets queues q bs;
  }

pub receivers_range : (q : LookupKey) (bs : List Block) → AreApart bs
    → All IsDescriptor (map (λ b. b.fd) (receiving_blocks q bs))
receivers_range q bs apart = All-map IsDescriptor (λ b. b.fd) (receiving_blocks q bs) (receiving_range q bs apart)

-- a cached connection with the addresses and ports of a packet is the packet's best match
pub cached_best : (bs : List Block) (cache : Option Connection) (k : Connection) (ip port : ℕ) (source : Addr)
    → AreApart bs → IsCached bs cache → cache ≡ Some k
    → is_addr k.local (record { ip = ip; port = port }) && is_addr k.peer source ≡ true
    → (b : Block) × (b.fd ≡ k.fd) × (best_block (packet_key ip port source) bs ≡ Some b)
cached_best bs cache k ip port source apart cached is e =
    let parts = and_parts (is_addr k.local (record { ip = ip; port = port })) (is_addr k.peer source) e in
    let near : k.local ≡ record { ip = ip; port = port } =
    addr_same k.local (record { ip = ip; port = port }) parts.0 in
    let far : k.peer ≡ source = addr_same k.peer source parts.1 in
    let found = cached_is_best bs k apart (subst (IsCached bs) is cached) in (
      found.0,
      found.1,
      ap (λ (l : Addr). best_block (packet_key l.ip l.port source) bs) (sym near)
          ∙ ap (λ (p : Addr). best_block (packet_key k.local.ip k.local.port p) bs) (sym far) ∙ found.2,
    )

-- ---- what the calls on an open descriptor read from its block

module _ (i : Interface) (bs : List Block) (last : Option ℕ) (fd : ℕ) (b : Block) (at : find (has_fd fd) bs ≡ Some b)
  where
    abbrev destination_faults : (a : Addr) (c : Block) → List (Bool × Errno)
    destination_faults a c =
        (is_some c.peer, IsConnected) ∷ block_connect_faults (interface_config i) bs c
        (read_addr (interface_config i) a)

    faults_are : (a : Addr) (rest : State) (queues : Queues) (c : Block) → block_at fd (table_of i bs last) ≡ Some c
        → first_fault (address_faults (machine rest queues (table_of i bs last)) (socket_with queues c) (Some a))
        ≡ first_fault (destination_faults a b)
    faults_are a rest queues c found =
        let same : c ≡ b = same_Some c b (sym found ∙ at) in
        ap (λ (fs : List (Bool × Errno)). first_fault ((is_some c.peer, IsConnected) ∷ fs))
        (connect_faults-blocks rest queues (table_of i bs last) c (read_addr (interface_config i) a))
        ∙ ap (λ (d : Block). first_fault (destination_faults a d)) same

    pub checks_connected : (a : Addr) → is_some b.peer ≡ true
        → ChecksDestination (table_of i bs last) fd a (Err IsConnected)
    checks_connected a e rest queues c found =
        faults_are a rest queues c found
        ∙ ap (λ t. cond t (Some IsConnected)
        (first_fault (block_connect_faults (interface_config i) bs b (read_addr (interface_config i) a)))) e

    pub checks_refused : (a : Addr) (errno : Errno) → is_some b.peer ≡ false
        → first_fault (block_connect_faults (interface_config i) bs b (read_addr (interface_config i) a)) ≡ Some errno
        → ChecksDestination (table_of i bs last) fd a (Err errno)
    checks_refused a errno e fault rest queues c found =
        faults_are a rest queues c found ∙ (λ j. cond (e j) (Some IsConnected) (fault j))

    pub checks_passed : (a to : Addr) → is_some b.peer ≡ false → to ≡ read_addr (interface_config i) a
        → first_fault (block_connect_faults (interface_config i) bs b (read_addr (interface_config i) a)) ≡ None
        → ChecksDestination (table_of i bs last) fd a (Ok to)
    checks_passed a to e is none rest queues c found =
        (faults_are a rest queues c found ∙ (λ j. cond (e j) (Some IsConnected) (none j)), is)

    -- a block that has a port keeps it, and the table stays the same
    pub ensured_same : (port : ℕ) → AreApart bs → b.port ≡ Some port
        → EnsuresPort (table_of i bs last) fd port (table_of i bs last)
    ensured_same port apart has = record {
      last = last;
      gets = λ rest queues c found.
          let same : c ≡ b = same_Some c b (sym found ∙ at) in
          gets_port rest queues (table_of i bs last) c.local c.port port last
          (subst (λ (asked : Option ℕ). GivesPort bs last c.local asked port last)
          (sym (ap (λ (d : Block). d.port) same ∙ has)) (refl, refl));
      changes = λ rest queues.
          ap (λ (cs : List Block). machine rest queues (table_of i cs last))
          (only_changes (has_fd fd) (λ c. record c { port = Some port }) bs b (λ k. record b { port = sym has k }) at
          (apart.fds fd))
          ∙ changed rest queues (table_of i bs last) fd (λ c. record c { port = Some port })
          (λ socket. record socket { port = Some port }) (λ c. refl);
    }

-- ---- a new socket

pub opens : (i : Interface) (bs new : List Block) (last : Option ℕ) (fd : ℕ) → length bs < 64 → IsLowestUnused bs fd
    → new ≡ unbound_block fd ∷ bs
    → (rest : State) (queues : Queues) → queues fd ≡ []
    → Opens 64 (machine rest queues (table_of i bs last)) (Opened fd) (machine rest queues (table_of i new last))
opens i bs new last fd room lowest n rest queues empty =
    let M : State = machine rest queues (table_of i bs last) in
    record {
      yes = λ _. (
        fd,
        record {
          least = lowest.least;
          free = subst IsNone (sym (sockets-find queues fd bs ∙ ap (option_map (socket_with queues)) lowest.free)) refl;
          passed =
              λ k least lt. subst IsSome (sym (sockets-find queues k bs))
              (mapped (find (has_fd k) bs) (lowest.passed k least lt));
        },
        refl,
        ap (λ (cs : List Block). machine rest queues (table_of i cs last)) n
            ∙ ap (λ q. record M {
              sockets = record
                  { fd = fd; local = None; port = None; peer = None; broadcast = false; reuse_port = false; limit = 0; queue = q }
                  ∷ map (socket_with queues) bs;
            }) empty,
      );
      no = λ full. absurd (true≢false
          (sym (ap (λ n. nat_lt n 64) (length-map bs (socket_with queues)) ∙ lt-ltb (length bs) 64 room) ∙ full));
    }
  where
    mapped : (o : Option Block) → IsSome o → IsSome (option_map (socket_with queues) o)
    mapped None h = h
    mapped (Some b) h = h
