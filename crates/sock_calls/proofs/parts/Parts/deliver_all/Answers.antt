use Rattle.std.proofs.Common.{◌≡◌, ◌+◌, ◌<◌, ℕ, List, All, ◌-◌, length, sym, ap, subst, refl, arith, slice_index_or}
use Rattle.std.proofs.lemmas.List.Elements.{All-get_or}
use Rattle.pcb_table.specs.Apart.{AreApart}
use Rattle.pcb_table.specs.Table.{Table, IsDescriptor, IsOpen}
use Rattle.sock_calls.proofs.Copies.{starts, offered_one, delivered_all, descriptor_of}
use Rattle.sock_calls.proofs.Delivered.{keeps_fit}
use Rattle.sock_calls.proofs.parts.Parts.deliver_all.Goals as goal

-- a receiver is open in a table that is still the same
open_at : {t u : Table} (fds : List ℕ) (i : ℕ) → All (λ (fd : ℕ). IsOpen fd t) fds → i < length fds → u ≡ t
    → IsOpen (slice_index_or fds i 0) u
open_at {t} fds i opened within same =
    subst (λ (x : Table). IsOpen (slice_index_or fds i 0) x) (sym same)
    (All-get_or (λ (fd : ℕ). IsOpen fd t) fds i 0 within opened)

-- so its descriptor is in range
descriptor_at : (t : Table) (fds : List ℕ) (i : ℕ) → AreApart t.blocks → All (λ (fd : ℕ). IsOpen fd t) fds
    → i < length fds → IsDescriptor (slice_index_or fds i 0)
descriptor_at t fds i apart opened within =
    descriptor_of t (slice_index_or fds i 0) apart (open_at {t = t} fds i opened within refl)

pub receivers-init : goal.receivers-init
receivers-init g c = record {
  way = starts _ c.args.datagram.chain c.args.fds.now c.args.datagram.sender c.nobody.result
      c.nobody.ensures c.requires.fit.socks;
  within = omega arith;
  waits = c.requires.waits;
}

pub deliver_copy-lack-requires-clause-opened : goal.deliver_copy-lack-requires-clause-opened
deliver_copy-lack-requires-clause-opened g c =
    open_at c.args.fds.now c.receivers.i c.requires.opened (omega (arith, c.receivers-test.true))
    c.receivers.invariant.way.parts.pcbs

pub deliver_copy-lack-requires-clause-fit : goal.deliver_copy-lack-requires-clause-fit
deliver_copy-lack-requires-clause-fit g c = keeps_fit c.receivers.invariant.way.parts c.requires.fit

pub append-lack-requires-clause-opened : goal.append-lack-requires-clause-opened
append-lack-requires-clause-opened g c =
    open_at c.args.fds.now (length c.args.fds.now - 1) c.requires.opened (omega (arith, c.requires.some))
    c.receivers.invariant.way.parts.pcbs

pub append-lack-requires-clause-fit : goal.append-lack-requires-clause-fit
append-lack-requires-clause-fit g c = keeps_fit c.receivers.invariant.way.parts c.requires.fit

pub receivers-preserved : goal.receivers-preserved
receivers-preserved g c =
    let more : c.receivers.i + 1 < length c.args.fds.now = omega (arith, c.receivers-test.true) in
    record {
      way = offered_one _ _ _ _ c.receivers.i (c.receivers.i + 1) (slice_index_or c.args.fds.now c.receivers.i 0) _
          _ _ _ _
          c.receivers.invariant.way c.deliver_copy-lack.ensures.offered (omega (arith, more)) (omega arith) refl
          c.requires.distinct (open_at c.args.fds.now c.receivers.i c.requires.opened (omega (arith, more))
          c.receivers.invariant.way.parts.pcbs) c.mark.ensures;
      within = omega (arith, c.receivers-test.true);
      waits = c.deliver_copy-lack.ensures.waits;
    }

pub returns-clause-delivered : goal.returns-clause-delivered
returns-clause-delivered g c =
    let last = length c.args.fds.now - 1 in
    let e : c.receivers.i ≡ last = omega (arith, c.receivers-test.false, c.receivers.invariant.within) in
    delivered_all _ _ _ _ c.receivers.i (slice_index_or c.args.fds.now last 0) _ _ _ _ _ c.receivers.invariant.way
    c.append-lack.ensures.appended (omega (arith, c.requires.some, e))
    (ap (λ (k : ℕ). slice_index_or c.args.fds.now k 0) (sym e)) c.requires.distinct
    (open_at c.args.fds.now last c.requires.opened
    (omega (arith, c.requires.some)) c.receivers.invariant.way.parts.pcbs) c.mark-2.ensures

pub mark-requires : goal.mark-requires
mark-requires g c =
    descriptor_at c.args.self.now.pcbs c.args.fds.now c.receivers.i c.requires.fit.socks.apart c.requires.opened
    (omega (arith, c.receivers-test.true))

pub mark-requires-2 : goal.mark-requires-2
mark-requires-2 g c =
    descriptor_at c.args.self.now.pcbs c.args.fds.now (length c.args.fds.now - 1) c.requires.fit.socks.apart
    c.requires.opened
    (omega (arith, c.requires.some))
