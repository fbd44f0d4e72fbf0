-- A send as the machine has it.
use Rattle.std.proofs.Common.{◌≡◌, ℕ, ◌+◌, ◌<◌, Bool, true, false, cond, List, [], ◌∷◌, ◌++◌, length, map, take, Option, Some, None, option_map, refl, sym, ap, ◌∙◌, subst, arith, inl, inr}
use Rattle.std.specs.Prelude.{◌==◌, ◌⊎◌, if◌then◌else◌, nat_lt, Result, Ok, Err, IfErr}
use Rattle.std.specs.List.{AllByRecursion as Each}
use Rattle.std.proofs.lemmas.Bool.{true≢false}
use Rattle.std.proofs.lemmas.Option.{none-some, same_Some}
use Rattle.std.proofs.lemmas.List.Elements.{All-from_recursion}
use Rattle.params.specs.declared.TheConstants.{OUTPUT_QUEUE_PACKETS}
use Rattle.flat_model.specs.Amounts.Weight.{Weight, Item, mbuf, nothing, ◌⊕◌, all_of, times as bag_times}
use Rattle.flat_model.specs.Fragments.Whole.{weight_of_pieces}
use Rattle.flat_model.specs.Machine.State.{State, Socket, Unfinished, socket_at, change_socket}
use Rattle.flat_model.specs.Machine.Event.{Reply, Sent, Refused}
use Rattle.flat_model.specs.Machine.Ledger.{exact_ledger, has_enough, IsFree}
use Rattle.flat_model.specs.Amounts.Layout.{Need}
use Rattle.flat_model.specs.Machine.Puts.{Puts}
use Rattle.flat_model.specs.Machine.Replies.{sent_reply}
use Rattle.flat_model.specs.Machine.Send.{need_to, to_link, to_self}
use Rattle.flat_model.specs.Machine.Sending as flat
use Rattle.flat_model.specs.Machine.Calls.{source_for}
use Rattle.flat_model.specs.declared.address.Addr.{Addr}
use Rattle.flat_model.specs.declared.config.Config.{Config}
use Rattle.flat_model.specs.declared.errno.Errno.{Errno}
use Rattle.flat_model.specs.declared.errno.Errno.TheVariants.{BadDescriptor, NoBufs}
use Rattle.flat_model.specs.declared.errno.Lack.TheVariants.{Pool, Queue}
use Rattle.flat_model.proofs.Laws.{times-both, count_cons, all_of-append}
use Rattle.mbuf_chain.specs.Chain.{PoolView, references}
use Rattle.mbuf_chain.specs.Owners.{times_among, Moves}
use Rattle.mbuf_chain.specs.Frames.{SameAt}
use Rattle.mbuf_chain.specs.Train.{QueuedPacket, queued_packet_of, numbers, IsHeld}
use Rattle.mbuf_chain.proofs.Laws.Owners.{times-append, live_at_most, moves_beside, moves_none, same_beside}
use Rattle.ip_out.specs.Packets.{train_packets, AreBegunPlain}
use Rattle.pcb_table.specs.declared.block.Block.{Block}
use Rattle.pcb_table.specs.Table.{Table, Queues, block_at, machine, socket_with}
use Rattle.pcb_table.specs.Apart.{AreApart}
use Rattle.mbuf_chain.proofs.Laws.Trains.{none_left}
use Rattle.ip_out.proofs.Laws.{none_wait}
use Rattle.pcb_table.proofs.Laws.{same_machine, socket_found}
use Rattle.ledger.specs.Accounts.{item_of, weight_at, weight_owned, IsAccounted}
use Rattle.ledger.specs.Reserve.{are_free}
use Rattle.ledger.proofs.Laws.{accounted_after, test_is}
use Rattle.sockbuf.specs.SockBuf.{SockBufView}
use Rattle.sock_calls.specs.declared.net.Net.{Net}
use Rattle.sock_calls.specs.Sockets.{SocksView, queues_of, queued_chains, with_sockets}
use Rattle.sock_calls.specs.Sends.{SendsBy, SendsOnce}
use Rattle.sock_calls.specs.Outgoing.{SendView, sending, send_state, with_output, weight_of_all, CanSend, IsSent}
use Rattle.sock_calls.specs.Inside.Putting.{send_config, sent_as, counts_sent, IsPut}
use Rattle.sock_calls.specs.Inside.Destination.{ChecksSend}
use Rattle.sock_calls.proofs.Frames.{Kept, kept}
use Rattle.sock_calls.proofs.Keeping.{keeps_open}
use Rattle.sock_calls.proofs.Weights.{queue_weight}

-- ---- a call on a descriptor
pub on_block : (fd : ℕ) (to : Option Addr) (bytes : List ℕ) (t : Table) (f : Queues) (rest : State) (b : Block)
    (reply : Reply) (looped : List Item) (new : State) → block_at fd t ≡ Some b
    → SendsBy exact_ledger fd to bytes (socket_with f b) (machine rest f t) reply looped new
    → SendsOnce exact_ledger fd to bytes (machine rest f t) reply looped new
on_block fd to bytes t f rest b reply looped new at by =
    let found : socket_at fd (machine rest f t) ≡ Some (socket_with f b) = socket_found rest f t fd
    ∙ ap (option_map (socket_with f)) at in
    record {
      none = λ e. absurd (none-some (socket_with f b) (sym e ∙ found));
      some = λ me e. subst (λ (s : Socket). SendsBy exact_ledger fd to bytes s (machine rest f t) reply looped new)
          (same_Some (socket_with f b) me (sym found ∙ e)) by;
    }

-- ---- sends that change nothing
unchanged : {fd : ℕ} {to : Option Addr} {bytes : List ℕ} {errno : Errno} {v : SendView} → CanSend v
    → ((rest : State) → rest.config.mtu ≡ v.net.mtu → IsAccounted v.pool (with_sockets v.pool v.socks rest) nothing
    → SendsOnce exact_ledger fd to bytes (with_sockets v.pool v.socks rest) (Refused errno) []
    (with_sockets v.pool v.socks rest))
    → IsSent fd to bytes v (Err errno) v
unchanged {fd} {to} {bytes} {errno} {v} can step =
    let none : train_packets v.pool v.net.looped ≡ [] = none_wait v.pool v.net.looped can.none in
    record {
      step = λ rest e a. subst (λ (l : List Item). SendsOnce exact_ledger fd to bytes (send_state v rest)
          (Refused errno)
          l (send_state v rest)) (sym none) (step (with_output v.pool v.net rest) e a);
      accounts = λ rest a. subst (λ (l : List Item). IsAccounted v.pool (send_state v rest) (weight_of_all l))
          (sym none)
          a;
      refused = inr refl;
      socks = can.socks;
      out = can.out;
      looped = can.looped;
      plain = subst (λ (xs : List ℕ). AreBegunPlain (map (queued_packet_of v.pool) xs))
          (sym (none_left v.pool v.net.looped can.none)) tt;
      mtu = refl;
      moves = subst (λ (xs : List ℕ). Moves v.pool (numbers v.pool v.net.out ++ queued_chains v.pool v.socks.queues)
          v.pool (xs ++ (numbers v.pool v.net.out ++ queued_chains v.pool v.socks.queues)))
          (sym (none_left v.pool v.net.looped can.none))
          (moves_none v.pool (numbers v.pool v.net.out ++ queued_chains v.pool v.socks.queues));
    }

pub not_open : {fd : ℕ} {to : Option Addr} {bytes : List ℕ} {v : SendView} → CanSend v
    → block_at fd v.socks.pcbs ≡ None → IsSent fd to bytes v (Err BadDescriptor) v
not_open {fd} {to} {bytes} {v} can none = unchanged can (λ rest e a.
    let f : Queues = queues_of v.pool v.socks.queues in
    record {
      none = λ _. ((refl, refl), refl);
      some = λ me e. absurd (none-some me
          (sym (socket_found rest f v.socks.pcbs fd ∙ ap (option_map (socket_with f)) none) ∙ e));
    })

-- ---- refused before the buffers
pub refused_early : {fd : ℕ} {to : Option Addr} {bytes : List ℕ} {errno : Errno} {v : SendView} → CanSend v
    → (b : Block) → block_at fd v.socks.pcbs ≡ Some b
    → ChecksSend v.socks.pcbs v.net.mtu fd to (length bytes) (Err errno) → IsSent fd to bytes v (Err errno) v
refused_early {fd} {to} {bytes} {errno} {v} can b at checks = unchanged can (λ rest e a.
    let f : Queues = queues_of v.pool v.socks.queues in
    let is = checks rest f b at e in
    on_block fd to bytes v.socks.pcbs f rest b (Refused errno) [] (machine rest f v.socks.pcbs) at
    record {
      none = λ none. absurd (none-some errno (sym none ∙ is));
      some = λ other some. ((ap Refused (same_Some errno other (sym is ∙ some)), refl), refl);
    })

-- ---- the test of the pool
need_same : (t : Table) (rest : State) (f : Queues) (ip n mtu : ℕ) → rest.config.mtu ≡ mtu
    → need_to (machine rest f t).config ip n ≡ need_to (send_config t mtu) ip n
need_same t rest f ip n mtu e = ap (λ (m : ℕ). need_to (send_config t m) ip n) e

tested : (p : PoolView) (t : Table) (rest : State) (f : Queues) (ip n mtu : ℕ) (answer : Bool) → rest.config.mtu ≡ mtu
    → IsAccounted p (machine rest f t) nothing
    → are_free p (need_to (send_config t mtu) ip n).mbufs (need_to (send_config t mtu) ip n).clusters ≡ answer
    → answer ≡ has_enough (machine rest f t) nothing (need_to (machine rest f t).config ip n)
tested p t rest f ip n mtu answer e a is =
    sym (ap (has_enough (machine rest f t) nothing) (need_same t rest f ip n mtu e)
    ∙ test_is p (machine rest f t) nothing (need_to (send_config t mtu) ip n) a ∙ is)

pub lacks_buffers : {fd : ℕ} {to : Option Addr} {bytes : List ℕ} {a : Addr} {v : SendView} → CanSend v → (b : Block)
    → block_at fd v.socks.pcbs ≡ Some b → ChecksSend v.socks.pcbs v.net.mtu fd to (length bytes) (Ok a)
    → are_free v.pool (need_to (send_config v.socks.pcbs v.net.mtu) a.ip (length bytes)).mbufs
    (need_to (send_config v.socks.pcbs v.net.mtu) a.ip (length bytes)).clusters ≡ false
    → IsSent fd to bytes v (Err (NoBufs Pool)) v
lacks_buffers {fd} {to} {bytes} {a} {v} can b at checks few = unchanged can (λ rest e accounted.
    let t : Table = v.socks.pcbs in
    let f : Queues = queues_of v.pool v.socks.queues in
    let is = checks rest f b at e in
    on_block fd to bytes t f rest b (Refused (NoBufs Pool)) [] (machine rest f t) at
    record {
      none = λ none. (
        false,
        subst (λ (x : Addr). false ≡ has_enough (machine rest f t) nothing
            (need_to (machine rest f t).config x.ip (length bytes))) is.1
            (tested v.pool t rest f a.ip (length bytes) v.net.mtu false e accounted few),
        record { yes = λ h. absurd (true≢false (sym h)); no = λ h. ((refl, refl), refl) },
      );
      some = λ other some. absurd (none-some other (sym is.0 ∙ some));
    })

-- ---- a send that has its buffers
pub bag_of_times : (c : ℕ) (cs : List ℕ) → bag_times c cs ≡ times_among c cs
bag_of_times c [] = refl
bag_of_times c (x ∷ cs) = omega (arith, count_cons (λ k. k == c) x cs, bag_of_times c cs)

pub free_each : (p : PoolView) (s : State) (cs : List ℕ) → IsAccounted p s nothing → Each (λ c. c < p.clusters) cs
    → Each (λ c. references p c ≡ 0) cs → Each (IsFree s nothing) cs
free_each p s [] a exist free = tt
free_each p s (c ∷ cs) a exist free = (
  record {
    exists = omega (arith, exist.0, a.clusters);
    free = sym (a.references c) ∙ free.0;
  },
  free_each p s cs a exist.1 free.1,
)

abbrev pub sent_or : Bool → ℕ → Reply
sent_or lost n = if lost then Refused (NoBufs Queue) else Sent n

module _ (p q : PoolView) (t u : Table) (bs : List SockBufView) (n m : Net) (fd : ℕ) (to : Addr) (bytes : List ℕ)
    (lost : Bool) (k : IsPut fd to bytes p t n lost q u m) (shows : (j : ℕ) → queues_of q bs j ≡ queues_of p bs j) where
  abbrev pub f : Queues
  f = queues_of p bs

  after_is : (after : State) → machine after (queues_of q bs) u
      ≡ change_socket fd (λ socket. record socket { port = Some k.heading.port })
      (machine after f (record t { last_port = k.port.last }))
  after_is after = same_machine (queues_of q bs) f u after (λ j _. shows j) ∙ k.port.changes after f

  pub puts : (rest : State) (b : Block) → block_at fd t ≡ Some b → rest.config.mtu ≡ n.mtu
      → IsAccounted p (machine (with_output p n rest) f t) nothing
      → Puts exact_ledger fd (socket_with f b) to bytes (machine (with_output p n rest) f t)
      (sent_or lost (length bytes)) (train_packets q m.looped) (machine (with_output q m rest) (queues_of q bs) u)
  puts rest b at e a =
      let before : State = with_output p n rest in
      let old : State = machine before f t in
      let named : State = machine before f (record t { last_port = k.port.last }) in
      let c : Config = send_config t n.mtu in
      let y : flat.Sending = record {
        id = n.next_id;
        source = source_for old.config (socket_with f b) to.ip;
        to = to;
        port = k.heading.port;
        bytes = bytes;
      } in
      let same_x : sent_as k.heading bytes ≡ y =
      λ i. record {
        id = k.id i;
        source = k.source before f b at i;
        to = k.to_is i;
        port = k.heading.port;
        bytes = bytes;
      } in
      let items_are : flat.packets c k.clusters (sent_as k.heading bytes) ≡ flat.packets old.config k.clusters y =
      λ i. flat.packets (send_config t (sym e i)) k.clusters (same_x i) in
      let link_is : to_link c to.ip (flat.packets c k.clusters (sent_as k.heading bytes))
      ≡ to_link old.config to.ip (flat.packets old.config k.clusters y) = ap (to_link c to.ip) items_are in
      let lost_is : lost ≡ nat_lt OUTPUT_QUEUE_PACKETS
      (length (train_packets p n.out ++ to_link old.config to.ip (flat.packets old.config k.clusters y))) = k.is_lost
      ∙ ap (λ (l : List Item). nat_lt OUTPUT_QUEUE_PACKETS (length (train_packets p n.out ++ l))) link_is in
      let cut_is : nat_lt 1 (length (flat.parts_of c (sent_as k.heading bytes)))
      ≡ nat_lt 1 (length (flat.parts_of old.config y)) =
      λ i. nat_lt 1 (length (flat.parts_of (send_config t (sym e i)) (same_x i))) in
      let counts_are : m.counters ≡ counts_sent (nat_lt 1 (length (flat.parts_of old.config y)))
      (nat_lt OUTPUT_QUEUE_PACKETS
      (length (train_packets p n.out ++ to_link old.config to.ip (flat.packets old.config k.clusters y)))) n.counters =
      k.counters ∙ (λ i. counts_sent (cut_is i) (lost_is i) n.counters) in
      let out_is : train_packets q m.out ≡ take OUTPUT_QUEUE_PACKETS
      (train_packets p n.out ++ to_link old.config to.ip (flat.packets old.config k.clusters y)) = k.out
      ∙ ap (λ (l : List Item). take OUTPUT_QUEUE_PACKETS (train_packets p n.out ++ l)) link_is in (
        k.heading.port,
        named,
        k.clusters,
        k.port.gets before f b at,
        record {
          number = k.number ∙ sym (ap (λ (x : Need). x.clusters) (need_same t before f to.ip (length bytes) n.mtu e));
          distinct = λ j. omega (arith, bag_of_times j k.clusters, k.free.once j);
          free = All-from_recursion (IsFree old nothing) k.clusters
              (free_each p old k.clusters a k.free.exist k.free.free);
        },
        record {
          back = k.back ∙ ap (to_self c to.ip) items_are;
          state = after_is (with_output q m rest)
              ∙ (λ i. change_socket fd (λ socket. record socket { port = Some k.heading.port })
              (machine (record rest { output = out_is i; next_id = k.next_id i; counters = counts_are i }) f
              (record t { last_port = k.port.last })));
          answer = ap (λ (l : Bool). sent_or l (length bytes)) lost_is;
        },
      )

  -- ---- the accounts after it
  out_weighs : (r : PoolView) (xs : List ℕ) → weight_owned r xs
      ≡ weight_of_all (map (λ (queued_packet : QueuedPacket). item_of queued_packet.entries)
      (map (queued_packet_of r) xs))
  out_weighs r [] = refl
  out_weighs r (x ∷ xs) = ap (λ (w : Weight). weight_at r x ⊕ w) (out_weighs r xs)

  abbrev weight_sockets : List Socket → Weight
  weight_sockets ss = all_of (λ (socket : Socket). queue_weight socket.queue) ss

  change_keeps : (change : Socket → Socket) → ((s : Socket) → (change s).queue ≡ s.queue) → (ss : List Socket)
      → weight_sockets (map (λ socket. cond (socket.fd == fd) (change socket) socket) ss) ≡ weight_sockets ss
  change_keeps change keeps [] = refl
  change_keeps change keeps (s ∷ ss) = go (s.fd == fd) (change_keeps change keeps ss)
    where
      go : (b : Bool) → weight_sockets (map (λ socket. cond (socket.fd == fd) (change socket) socket) ss)
          ≡ weight_sockets ss
          → queue_weight (cond b (change s) s).queue ⊕ weight_sockets
          (map (λ socket. cond (socket.fd == fd) (change socket) socket) ss)
          ≡ queue_weight s.queue ⊕ weight_sockets ss
      go true rest = λ i. queue_weight (keeps s i) ⊕ rest i
      go false rest = λ i. queue_weight s.queue ⊕ rest i

  pub accounts : IsHeld p n.out → (rest : State) → IsAccounted p (machine (with_output p n rest) f t) nothing
      → IsAccounted q (machine (with_output q m rest) (queues_of q bs) u) (weight_of_all (train_packets q m.looped))
  accounts held rest a =
      let changed = after_is (with_output q m rest) in
      let ss : Weight = weight_sockets (map (socket_with f) t.blocks) in
      let sn : Weight = weight_sockets (map (socket_with (queues_of q bs)) u.blocks) in
      let same : sn ≡ ss = ap (λ (s : State). weight_sockets s.sockets) changed
      ∙ change_keeps (λ socket. record socket { port = Some k.heading.port }) (λ s. refl)
      (map (socket_with f) t.blocks) in
      let us : Weight = all_of (λ (x : Unfinished). mbuf ⊕ weight_of_pieces x.bytes) rest.unfinished in
      let wo = out_weighs p (numbers p n.out) in
      let wn = out_weighs q (numbers q m.out) in
      let wl = out_weighs q (numbers q m.looped) in
      let l : Weight = weight_of_all (train_packets q m.looped) in
      let both : weight_owned q (numbers q m.looped ++ numbers q m.out)
      ≡ weight_owned q (numbers q m.looped) ⊕ weight_owned q (numbers q m.out) =
      all_of-append (weight_at q) (numbers q m.looped) (numbers q m.out) in
      accounted_after a k.moves held.owned (ap (λ (s : State). s.config) changed) (record {
        mbufs = omega (
          arith,
          ap (λ (w : Weight). w.mbufs) wo,
          ap (λ (w : Weight). w.mbufs) wn,
          ap (λ (w : Weight). w.mbufs) wl,
          ap (λ (w : Weight). w.mbufs) same,
          ap (λ (w : Weight). w.mbufs) both,
        );
        bag = λ j. omega (
          arith,
          ap (λ (w : Weight). bag_times j w.bag) wo,
          ap (λ (w : Weight). bag_times j w.bag) wn,
          ap (λ (w : Weight). bag_times j w.bag) wl,
          ap (λ (w : Weight). bag_times j w.bag) same,
          ap (λ (w : Weight). bag_times j w.bag) both,
          times-both j (weight_owned q (numbers q m.looped)) (weight_owned q (numbers q m.out)),
          times-both j (ss ⊕ us ⊕ weight_of_all (train_packets p n.out)) nothing,
          times-both j (ss ⊕ us) (weight_of_all (train_packets p n.out)),
          times-both j ss us,
          times-both j (sn ⊕ us ⊕ weight_of_all (train_packets q m.out)) l,
          times-both j (sn ⊕ us) (weight_of_all (train_packets q m.out)),
          times-both j sn us,
        );
      })

-- ---- all of it

-- only the output queue refuses then
queue_only : (v u : SendView) (result : Result ℕ Errno) → IfErr result (λ errno. errno ≡ NoBufs Queue)
    → IfErr result (λ errno. (errno ≡ NoBufs Queue) ⊎ (u ≡ v))
queue_only v u (Ok n) h = tt
queue_only v u (Err errno) h = inl h

pub sent_is : {p q : PoolView} {t u : Table} {bs : List SockBufView} {n m : Net} {fd : ℕ} {to : Option Addr} {a : Addr}
    {bytes : List ℕ} {lost : Bool} (b : Block) (result : Result ℕ Errno)
    → CanSend (sending p (record { pcbs = t; queues = bs }) n) → IsPut fd a bytes p t n lost q u m → AreApart u.blocks
    → block_at fd t ≡ Some b → ChecksSend t n.mtu fd to (length bytes) (Ok a)
    → are_free p (need_to (send_config t n.mtu) a.ip (length bytes)).mbufs
    (need_to (send_config t n.mtu) a.ip (length bytes)).clusters ≡ true
    → sent_or lost (length bytes) ≡ sent_reply result → IfErr result (λ errno. errno ≡ NoBufs Queue)
    → IsSent fd to bytes (sending p (record { pcbs = t; queues = bs }) n) result
    (sending q (record { pcbs = u; queues = bs }) m)
sent_is {p} {q} {t} {u} {bs} {n} {m} {fd} {to} {a} {bytes} {lost} b result can k apart at checks free reply refused =
    let xs : List ℕ = queued_chains p bs in
    let sums : (j : ℕ) → times_among j (numbers p n.out ++ xs) ≡ times_among j (numbers p n.out) + times_among j xs =
    λ j. times-append j (numbers p n.out) xs in
    let same : SameAt p q xs = same_beside xs k.moves (λ j. omega (arith, can.owned j, sums j))
    (λ j some. omega (arith, can.owned j, sums j, some, live_at_most p j)) in
    let v : SocksView = record { pcbs = t; queues = bs } in
    let s : Kept p q v = kept p q v same can.socks in
    let f : Queues = queues_of p bs in
    record {
      step = λ rest e accounted.
          let old : State = machine (with_output p n rest) f t in
          let new : State = machine (with_output q m rest) (queues_of q bs) u in
          let is = checks (with_output p n rest) f b at e in
          subst (λ (r : Reply). SendsOnce exact_ledger fd to bytes old r (train_packets q m.looped) new) reply
          (on_block fd to bytes t f (with_output p n rest) b (sent_or lost (length bytes)) (train_packets q m.looped)
          new at
          record {
            none = λ none. (
              true,
              subst (λ (x : Addr). true ≡ has_enough old nothing (need_to old.config x.ip (length bytes))) is.1
                  (tested p t (with_output p n rest) f a.ip (length bytes) n.mtu true e accounted free),
              record {
                yes = λ h. subst (λ (x : Addr). Puts exact_ledger fd (socket_with f b) x bytes old
                    (sent_or lost (length bytes)) (train_packets q m.looped) new) is.1
                    (puts p q t u bs n m fd a bytes lost k s.shows rest b at e accounted);
                no = λ h. absurd (true≢false h);
              },
            );
            some = λ other some. absurd (none-some other (sym is.0 ∙ some));
          });
      accounts = λ rest accounted. accounts p q t u bs n m fd a bytes lost k s.shows can.out.held rest accounted;
      refused = queue_only (sending p v n) (sending q (record { pcbs = u; queues = bs }) m) result refused;
      socks = keeps_open q v u s.ready apart k.descriptors;
      out = k.queue;
      looped = k.held;
      plain = k.plain;
      mtu = k.mtu;
      moves = moves_beside (numbers p n.out ++ xs) (numbers q m.looped ++ (numbers q m.out ++ queued_chains q bs)) xs
          k.moves
          (λ j. omega (arith, sums j))
          (λ j. omega (
            arith,
            ap (times_among j) s.chains,
            times-append j (numbers q m.looped) (numbers q m.out ++ queued_chains q bs),
            times-append j (numbers q m.out) (queued_chains q bs),
            times-append j (numbers q m.looped) (numbers q m.out),
          ));
    }
