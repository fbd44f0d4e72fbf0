-- A packet from the wire, and a send, as steps of the stack.
use Rattle.std.proofs.Common.{◌≡◌, ◌<◌, ℕ, suc, [], ◌∷◌, get_or, Fits, w8, ◌/◌, ◌^◌, List, ◌++◌, Option, refl, sym, ap, ◌∙◌, subst, arith}
use Rattle.std.specs.Prelude.{Result}
use Rattle.std.specs.List.{AllByRecursion as Each}
use Rattle.std.proofs.lemmas.List.Elements.{All-from_recursion}
use Rattle.flat_model.specs.Machine.Step.{Step}
use Rattle.flat_model.specs.Machine.State.{boot}
use Rattle.flat_model.specs.Machine.Event.{Comes, Done, IsBytes, IsEvent, Send}
use Rattle.flat_model.specs.Machine.Replies.{sent_reply}
use Rattle.flat_model.specs.declared.address.Addr.{Addr}
use Rattle.flat_model.specs.declared.config.Config.{Config}
use Rattle.flat_model.specs.declared.counters.Counters.{Counters}
use Rattle.flat_model.specs.declared.errno.Errno.{Errno}
use Rattle.flat_model.specs.Machine.Fate.{Fated}
use Rattle.flat_model.specs.Machine.State.{State}
use Rattle.flat_model.specs.declared.fate.Fate.{Fate}
use Rattle.flat_model.proofs.Laws.{fated_step}
use Rattle.mbuf_chain.specs.Chain.{PoolView}
use Rattle.mbuf_chain.specs.Owners.{times_among, IsOwned}
use Rattle.mbuf_chain.specs.Train.{TrainView, numbers}
use Rattle.mbuf_chain.proofs.Laws.Owners.{times-append, moves_reordered}
use Rattle.mbuf_chain.proofs.Laws.Trains.{held_none}
use Rattle.ip_reass.specs.Table.{TableView, IsReady, held_all}
use Rattle.sock_calls.specs.declared.net.Net.{Net}
use Rattle.sock_calls.specs.Sockets.{SocksView, queued_chains}
use Rattle.sock_calls.specs.Outgoing.{CanSend, sending}
use Rattle.net_stack.proofs.Aside.{host_view}
use Rattle.net_stack.specs.Stack.{StackView, IsStack, state_of, rest_of_stack, stack_chains}
use Rattle.net_stack.specs.Inside.Arrivals.{HasCome}
use Rattle.net_stack.specs.Inside.Hosts.{KeepsOutput, arrival_view, send_view}
use Rattle.net_stack.specs.Inside.Sending.{HasSent, no_train, out_chains}
use Rattle.net_stack.specs.declared.host.Host.{Host}
use Rattle.net_stack.specs.Inside.Fields.{Fields, stack_of as seen_in, IsStackInside}
use Rattle.net_stack.proofs.CallLemmas.{Called, called}
use Rattle.net_stack.proofs.PartSteps.{Stepped, accounts, stepped, input_shows, input_step, split}

-- each value of a byte slice is below 256
pub are_bytes : (xs : List ℕ) → ((k : ℕ) → Fits w8 (get_or xs k 0)) → IsBytes xs
are_bytes xs fits = All-from_recursion (λ byte. byte < 256) xs (go xs fits)
  where
    go : (ys : List ℕ) → ((k : ℕ) → Fits w8 (get_or ys k 0)) → Each (λ byte. byte < 256) ys
    go [] f = tt
    go (y ∷ ys) f = (omega (arith, f 0), go ys (λ k. f (suc k)))

-- ---- a packet from the wire

pub come_owned : (s : StackView) → IsStack s → IsOwned s.pool
    (held_all s.pool s.reass.datagrams ++ queued_chains s.pool s.socks.queues)
come_owned s is = λ k. omega (
  arith,
  is.all k,
  times-append k
      (held_all s.pool s.reass.datagrams ++ queued_chains s.pool s.socks.queues) (numbers s.pool s.output),
)

pub rx_step : (s : StackView) (packet : List ℕ) (fate : Fate) (q : PoolView) (w : SocksView) (es : TableView)
    (c : Counters) → IsStack s → IsEvent (Comes packet) → IsReady q es
    → HasCome (host_view s.pool s.socks s.reass s.counters) packet fate (host_view q w es c)
    → Stepped s (Comes packet) Done (record s { pool = q; socks = w; reass = es; counters = c })
rx_step s packet fate q w es c is can ready came = input_step s q w es c (Comes packet) Done is can came.parts.ready
    ready
    came.parts.moves
    (fated_step (state_of s) _ packet fate (came.step (rest_of_stack s) (accounts s is)))

-- and its fate
pub rx_fated : (s : StackView) (packet : List ℕ) (fate : Fate) (q : PoolView) (w : SocksView) (es : TableView)
    (c : Counters) → IsStack s → HasCome (host_view s.pool s.socks s.reass s.counters) packet fate (host_view q w es c)
    → Fated (state_of s) packet fate (state_of (record s { pool = q; socks = w; reass = es; counters = c }))
rx_fated s packet fate q w es c is came =
    subst (λ (t : State). Fated (state_of s) packet fate t) (input_shows s q w es c is came.parts.moves)
    (came.step (rest_of_stack s) (accounts s is))

-- ---- a send

-- the view of a stack with these parts
abbrev pub shown : Config → PoolView → SocksView → TableView → Net → StackView
shown config p s r n = record {
  config = config;
  pool = p;
  socks = s;
  reass = r;
  output = n.out;
  next_id = n.next_id;
  counters = n.counters;
}

same_chains : (config : Config) (p : PoolView) (s : SocksView) (r : TableView) (n : Net) (k : ℕ)
    → times_among k (stack_chains (shown config p s r n))
    ≡ times_among k (held_all p r.datagrams ++ out_chains (sending p s n))
same_chains config p s r n k = omega (
  arith,
  split (shown config p s r n) k,
  times-append k (held_all p r.datagrams) (out_chains (sending p s n)),
  times-append k (numbers p n.out) (queued_chains p s.queues),
)

pub send_owned : (config : Config) (p : PoolView) (s : SocksView) (r : TableView) (n : Net)
    → IsStack (shown config p s r n) → IsOwned p (held_all p r.datagrams ++ out_chains (sending p s n))
send_owned config p s r n is = λ k. omega (arith, is.all k, same_chains config p s r n k)

pub can_send : (config : Config) (p : PoolView) (s : SocksView) (r : TableView) (n : Net)
    → IsStack (shown config p s r n) → n.mtu ≡ config.mtu → n.looped ≡ no_train → CanSend (sending p s n)
can_send config p s r n is mtu none = record {
  socks = is.socks;
  out = is.output;
  owned = λ k. omega (
    arith,
    send_owned config p s r n is k,
    times-append k (held_all p r.datagrams) (out_chains (sending p s n)),
  );
  looped = held_none p n.looped none;
  none = ap (λ (t : TrainView). t.len) none;
  mtu = omega (arith, mtu, is.consistent.config.least_mtu);
  apart = λ e. is.consistent.config.apart (sym e);
  outside = λ e. is.consistent.config.bcast.no_loopback (ap (λ (a : ℕ). a / 2 ^ 24) e);
}

pub send_step : (config : Config) (p q : PoolView) (s w : SocksView) (r es : TableView) (n m : Net) (fd : ℕ)
    (to : Option Addr) (bytes : List ℕ) (result : Result ℕ Errno) → IsStack (shown config p s r n) → n.mtu ≡ config.mtu
    → IsEvent (Send fd to bytes) → HasSent fd to bytes (sending p s n) r result (sending q w m) es
    → Stepped (shown config p s r n) (Send fd to bytes) (sent_reply result) (shown config q w es m)
send_step config p q s w r es n m fd to bytes result is mtu can sent =
    stepped (shown config p s r n) (shown config q w es m) (Send fd to bytes) (sent_reply result) is can refl sent.socks
    sent.reass sent.out
    (moves_reordered (stack_chains (shown config p s r n)) (stack_chains (shown config q w es m)) sent.moves
    (same_chains config p s r n) (same_chains config q w es m))
    (sent.step (boot config) (sym mtu) (accounts (shown config p s r n) is))

-- the fields of a stack after a send
pub sent_called : (s : Fields) (v : StackView) (h : Host) (fd : ℕ) (to : Option Addr) (bytes : List ℕ)
    (result : Result ℕ Errno) → IsStackInside s → seen_in s ≡ v → IsEvent (Send fd to bytes)
    → HasSent fd to bytes (send_view s.host) s.host.reass result (send_view h) h.reass
    → Called v (Send fd to bytes) (sent_reply result) (record s { host = h })
sent_called s v h fd to bytes result is e can sent =
    let g : Host = s.host in
    let new : StackView = shown s.config h.pool h.socks h.reass h.net in
    let t : Stepped (seen_in s) (Send fd to bytes) (sent_reply result) new =
    send_step s.config g.pool h.pool g.socks h.socks g.reass h.reass g.net h.net fd to bytes result is.stack is.mtu can
    sent in
    record {
      step = subst (λ (x : StackView). Step (state_of x) (Send fd to bytes) (sent_reply result) (state_of new)) e
          t.step;
      inside = record { stack = t.stack; mtu = sent.mtu ∙ is.mtu; looped = sent.none };
    }

-- the fields of a stack after a packet arrived
pub come_called : (s : Fields) (v : StackView) (h : Host) (packet : List ℕ) (fate : Fate) → IsStackInside s →
    seen_in s ≡ v
    → IsEvent (Comes packet) → HasCome (arrival_view s.host) packet fate (arrival_view h) → IsReady h.pool h.reass
    → KeepsOutput s.host.net h.net → Called v (Comes packet) Done (record s { host = h })
come_called s v h packet fate is e can came ready output =
    let new : Net → Fields = λ n. record s { host = record h { net = n } } in
    let same : Net = record (s.host.net) { counters = h.net.counters } in
    subst (λ (n : Net). Called v (Comes packet) Done (new n)) (sym output)
    (called s (new same) v (Comes packet) Done is e refl refl refl
    (rx_step (seen_in s) packet fate h.pool h.socks h.reass h.net.counters is.stack can ready came))

-- and its fate
pub come_fated : (s : Fields) (v : StackView) (h : Host) (packet : List ℕ) (fate : Fate) → IsStackInside s
    → seen_in s ≡ v → HasCome (arrival_view s.host) packet fate (arrival_view h) → KeepsOutput s.host.net h.net
    → Fated (state_of v) packet fate (state_of (seen_in (record s { host = h })))
come_fated s v h packet fate is e came output =
    let new : Net → Fields = λ n. record s { host = record h { net = n } } in
    let same : Net = record (s.host.net) { counters = h.net.counters } in
    subst (λ (n : Net). Fated (state_of v) packet fate (state_of (seen_in (new n)))) (sym output)
    (subst (λ (x : StackView). Fated (state_of x) packet fate (state_of (seen_in (new same)))) e
    (rx_fated (seen_in s) packet fate h.pool h.socks h.reass h.net.counters is.stack came))
