use Rattle.std.proofs.Common.{refl, sym, subst}
use Rattle.sock_calls.specs.Sockets.{AreEmpty}
use Rattle.net_stack.specs.declared.host.Host.{Host}
use Rattle.net_stack.proofs.Boot.{Starts, pool_of_store, started, started_state}
use Rattle.net_stack.proofs.stack.Stack.start.Goals.{In-Ok-new}
use Rattle.net_stack.proofs.stack.Stack.start.Goals as goal

starts : (c : In-Ok-new) → Starts c.args.config (record { config = c.args.config; host = c.in-Ok-new.host.value })
starts c =
    subst (λ (h : Host). Starts c.args.config (record { config = c.args.config; host = h }))
    (sym c.in-Ok-new.ensures.ok) (record {
      same = refl;
      pool = pool_of_store c.args.config c.in-Ok.store c.over-pool.result c.in-Ok.ensures.ok c.over-pool.ensures;
      socks = c.in-Ok-boot-2.ensures.ready;
      blocks = c.in-Ok-boot-2.ensures.blocks;
      none = c.in-Ok-boot.ensures.none;
      room = c.in-Ok-boot.ensures.room;
      mtu = c.new.ensures.mtu;
      next_id = c.new.ensures.next_id;
      counters = c.new.ensures.counters;
      out = c.new.ensures.out;
      waits = c.new.ensures.waits;
      looped = c.new.ensures.looped;
    })

pub invariant_of-result : goal.invariant_of-result
invariant_of-result c = started c.args.config _ c.requires (starts c)

pub returns-in-Ok-new : goal.returns-in-Ok-new
returns-in-Ok-new c = started_state c.args.config _ (starts c)

pub end_new-requires-clause-socks : goal.end_new-requires-clause-socks
end_new-requires-clause-socks c = subst (λ (h : Host). AreEmpty h.socks.queues) (sym c.in-Err.ensures.value_returned)
    c.in-Ok-boot-2.ensures.empty
