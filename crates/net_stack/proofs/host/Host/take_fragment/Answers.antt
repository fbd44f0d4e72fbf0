use Rattle.std.proofs.Common.{◌∷◌, [], refl, sym, ap, subst, ◌∙◌, arith}
use Rattle.flat_model.specs.declared.fate.Fate.{Fate}
use Rattle.flat_model.specs.declared.fate.Fate.TheVariants.{Completed, Dropped, Kept}
use Rattle.mbuf_chain.proofs.Laws.Owners.{times-append, owned_after}
use Rattle.ip_reass.specs.Table.{held_all}
use Rattle.ip_reass.proofs.Laws.{fragment_arrives}
use Rattle.sock_calls.specs.Sockets.{queued_chains}
use Rattle.sock_calls.specs.Delivery.{NetView, whole_of}
use Rattle.net_stack.specs.declared.host.Ending.{Ending}
use Rattle.net_stack.specs.Inside.Arrivals.{IsFragmentTaken, fate_by}
use Rattle.net_stack.specs.Inside.Hosts.{arrival_view}
use Rattle.net_stack.proofs.Aside.{beside_socks, host_view}
use Rattle.net_stack.proofs.Endings.{told_completed_by}
use Rattle.net_stack.proofs.ArriveLemmas.{waits, completes}
use Rattle.net_stack.proofs.host.Host.take_fragment.Goals as goal

pub arrive-requires-clause-owned : goal.arrive-requires-clause-owned
arrive-requires-clause-owned c = λ k. omega (
  arith,
  c.requires.fit.owned k,
  times-append k (held_all c.args.self.now.pool c.args.self.now.reass.datagrams)
      (queued_chains c.args.self.now.pool c.args.self.now.socks.queues),
)

pub input-whole-requires-clause-fit : goal.input-whole-requires-clause-fit
input-whole-requires-clause-fit c =
    let x = beside_socks (c.args.chain ∷ held_all c.args.self.now.pool c.args.self.now.reass.datagrams)
    (c.in-Whole.chain ∷ []) (held_all c.arrive.new.pool c.arrive.new.self.datagrams) c.requires.fit.owned
    c.requires.fit.socks c.in-Whole.ensures.moves in
    record { socks = x.socks.ready; owned = owned_after x.moves c.requires.fit.owned }

pub returns-in-Whole : goal.returns-in-Whole
returns-in-Whole c =
    let d = c.input-whole.new in
    let now : NetView = host_view d.pool d.self d.waiting d.counters in
    let whole = whole_of c.input-whole.result d.reached in
    record {
      does = subst (λ (f : Fate). IsFragmentTaken (arrival_view c.args.self.now) c.args.chain c.args.head f now)
          (sym (ap (λ (e : Ending). fate_by e d.reached) c.of_completed.ensures
          ∙ told_completed_by c.input-whole.result d.reached))
          (completes {ds = c.args.self.now.reass} {es = c.arrive.new.self} c.in-Whole.head c.requires.fit.owned
          c.requires.fit.socks
          (record {
            step = λ rest held origin new came acc goes. fragment_arrives (Completed whole) held origin
                c.args.head
                c.args.self.now.pool c.args.chain _ new came c.requires.total c.requires.header
                (c.in-Whole.ensures.step (Completed whole) rest held new acc goes);
            accounts = c.in-Whole.ensures.accounts;
            moves = c.in-Whole.ensures.moves;
          }) c.input-whole.ensures.input);
      reass = c.input-whole.ensures.waits;
      output = refl;
    }

pub returns-in-Kept : goal.returns-in-Kept
returns-in-Kept c =
    record {
      does = waits {ds = c.args.self.now.reass} {es = c.arrive.new.self} c.requires.fit.owned c.requires.fit.socks (record {
        step = λ rest held origin new came acc goes. fragment_arrives Kept held origin c.args.head c.args.self.now.pool
            c.args.chain _ new came c.requires.total c.requires.header
            (c.in-Kept.ensures.step Kept rest held new acc (tt, goes));
        accounts = c.in-Kept.ensures.accounts;
        moves = c.in-Kept.ensures.moves;
      });
      reass = c.in-Kept.ensures.ready;
      output = refl;
    }

pub returns-in-Dropped : goal.returns-in-Dropped
returns-in-Dropped c =
    record {
      does = waits {ds = c.args.self.now.reass} {es = c.arrive.new.self} c.requires.fit.owned c.requires.fit.socks (record {
        step = λ rest held origin new came acc goes. fragment_arrives (Dropped c.in-Dropped.why) held origin c.args.head
            c.args.self.now.pool c.args.chain _ new came c.requires.total c.requires.header
            (c.in-Dropped.ensures.step (Dropped c.in-Dropped.why) rest held new acc (refl, goes));
        accounts = c.in-Dropped.ensures.accounts;
        moves = c.in-Dropped.ensures.moves;
      });
      reass = c.in-Dropped.ensures.ready;
      output = refl;
    }
