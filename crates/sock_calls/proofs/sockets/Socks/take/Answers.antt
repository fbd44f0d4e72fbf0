use Rattle.std.proofs.Common.{◌≡◌, ℕ, List, false, Some, option_map, refl, sym, subst, ap, ◌∙◌}
use Rattle.pcb_table.specs.declared.block.Block.{Block}
use Rattle.pcb_table.specs.Table.{Table, IsOpen, block_at}
use Rattle.std.specs.Prelude.{is_some}
use Rattle.sockbuf.specs.SockBuf.{SockBufView}
use Rattle.udp.specs.Checked.{is_to_all}
use Rattle.sock_calls.specs.Inside.Parts.{socks_of}
use Rattle.sock_calls.specs.Sockets.{SocksView, IsSocks, from_three}
use Rattle.sock_calls.specs.declared.taking.Taken.{Taken}
use Rattle.sock_calls.specs.declared.taking.Taken.TheVariants.{NoPort}
use Rattle.sock_calls.specs.Whole.{TakesWhole}
use Rattle.sock_calls.proofs.Whole.{taken_as, takes, unmatched}
use Rattle.sock_calls.proofs.Copies.{descriptor_of}
use Rattle.sock_calls.proofs.Delivered.{limit_at}
use Rattle.sock_calls.proofs.sockets.Socks.take.Goals as goal
use Rattle.sock_calls.proofs.sockets.Socks.take.Goals.{After-lookup, in-Ok, in-Err}

pub store_at-stored-requires-clause-each : goal.store_at-stored-requires-clause-each
store_at-stored-requires-clause-each c = (subst (IsSocks c.args.pool.now) (sym c.self.view_is) c.requires.socks).each

pub store_at-stored-requires-clause-owned : goal.store_at-stored-requires-clause-owned
store_at-stored-requires-clause-owned c = (subst (IsSocks c.args.pool.now) (sym c.self.view_is) c.requires.socks).owned

pub limit-limit-requires : goal.limit-limit-requires
limit-limit-requires c =
    subst (λ (t : Table). IsOpen c.in-Some.fd t) (sym c.lookup.ensures.blocks)
    (ap is_some c.in-Some.ensures.found.2)

lone : (c : After-lookup) → is_to_all c.self.inside.parts.pcbs c.args.packet.now.to.ip ≡ false
lone c =
    subst (λ (s : SocksView). is_to_all s.pcbs c.args.packet.now.to.ip ≡ false) (sym c.self.view_is) c.requires.lone

pub returns-in_default : goal.returns-in_default
returns-in_default c =
    let p = c.args.pool.now in
    let x = c.args.packet.now in
    let v = c.self.inside.parts in
    let bs : List SockBufView = from_three v.queues in
    subst (λ (s : SocksView). TakesWhole p s x.packet.now p (record { pcbs = c.lookup.new.self; queues = bs })
    NoPort) c.self.view_is (
      refl,
      λ i. record { pcbs = c.lookup.ensures.blocks i; queues = bs },
      unmatched p v.pcbs bs x.packet.now x.end x.from x.to x.is_checked
          (lone (goal.at.returns-in_default c).After-lookup) c.in_default.ensures.found,
    )

pub returns : goal.returns
returns c =
    let q = c.store_at-stored.new.pool in
    let x = c.args.packet.now in
    let cs : List SockBufView = from_three c.store_at-stored.new.self in
    let fd : ℕ = c.in-Some.fd in
    let t : Taken = c.match-stored.taken in
    let is : t ≡ taken_as fd c.store_at-stored.result = elim c.match-stored.branch [
      | in-Ok w ↦ w.taken-is ∙ sym (ap (taken_as fd) w.in-Ok.is)
      | in-Err w ↦ w.taken-is ∙ sym (ap (taken_as fd) w.in-Err.is)
    ] in
    let socks = subst (IsSocks c.args.pool.now) (sym c.self.view_is) c.requires.socks in
    subst (λ (s : SocksView). TakesWhole c.args.pool.now s x.packet.now q
    (record { pcbs = c.lookup.new.self; queues = cs }) t) c.self.view_is
    (subst (λ (u : Table). TakesWhole c.args.pool.now (socks_of c.self.inside.parts) x.packet.now q
    (record { pcbs = u; queues = cs }) t) (sym c.lookup.ensures.blocks)
    (subst (λ (y : Taken). TakesWhole c.args.pool.now (socks_of c.self.inside.parts) x.packet.now q
    (record { pcbs = c.self.inside.parts.pcbs; queues = cs }) y) (sym is)
    (takes c.args.pool.now c.self.inside.parts.pcbs (from_three c.self.inside.parts.queues) x.packet.now x.end x.from
    x.to fd c.args.is_large x.is_checked socks (lone (goal.at.returns c).After-lookup)
    c.in-Some.ensures.found c.requires.one c.data.result.now c.limit-limit.result q cs c.store_at-stored.result
    (limit_at c.self.inside.parts.pcbs fd c.limit-limit.result
    (subst (λ (u : Table). option_map (λ (b : Block). b.receive_limit) (block_at fd u)
    ≡ Some c.limit-limit.result) c.lookup.ensures.blocks c.limit-limit.ensures)) c.data.ensures.value
    (descriptor_of c.self.inside.parts.pcbs fd socks.apart (ap is_some c.in-Some.ensures.found.2))
    c.store_at-stored.ensures)))
