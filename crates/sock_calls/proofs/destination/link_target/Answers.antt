use Rattle.std.proofs.Common.{◌≡◌, ◌≢◌, ℕ, ◌+◌, ◌≤◌, Bool, not, true, false, ◌==◌, cond, Option, Some, None, refl, sym, ap, subst, ◌∙◌}
use Rattle.std.specs.Prelude.{Ok, ◌&&◌, is_none, is_some, nat_lt, unwrap_or, IfSome}
use Rattle.std.proofs.lemmas.Option.{same_Some}
use Rattle.pcb_table.specs.declared.block.Block.{Block}
use Rattle.std.proofs.lemmas.Bool.{le-ltb, ne_eqb}
use Rattle.flat_model.specs.Machine.State.{State, Socket}
use Rattle.flat_model.specs.Machine.Calls.{read_addr}
use Rattle.flat_model.specs.Machine.Send.{address_faults, send_faults}
use Rattle.flat_model.specs.Packets.Header.{first_fault}
use Rattle.flat_model.specs.declared.address.Addr.{Addr}
use Rattle.flat_model.specs.declared.errno.Errno.TheVariants.{Access, AddressInUse, AddressNotAvailable, DestinationRequired, HostUnreachable, IsConnected, MessageSize}
use Rattle.pcb_table.specs.Table.{machine, socket_with}
use Rattle.sock_calls.specs.Inside.Destination.{ChecksSend}
use Rattle.sock_calls.proofs.destination.link_target.Goals as goal

-- neither the tests of the length nor those of a broadcast fail
unrefused : (M : State) (S : Socket) (a : Addr) (len : ℕ) → len ≤ 9216 → a.ip ≢ M.config.bcast
    → first_fault (address_faults M S (Some a)) ≡ None → a ≡ read_addr M.config a
    → first_fault (send_faults M S (Some a) len) ≡ None
unrefused M S a len few one none is =
    go (nat_lt 9216 len) (is_some S.peer) _ _ _ ((read_addr M.config a).ip == M.config.bcast) (not S.broadcast)
    (nat_lt M.config.mtu (len + 28)) (le-ltb 9216 len few)
    (ap (λ (b : Addr). b.ip == M.config.bcast) (sym is) ∙ ne_eqb a.ip M.config.bcast one) none
  where
    go : (d p q r s t u v : Bool) → d ≡ false → t ≡ false
        → cond p (Some IsConnected) (cond q (Some AddressNotAvailable)
        (cond r (Some HostUnreachable) (cond s (Some AddressInUse) None))) ≡ None
        → cond d (Some MessageSize) (cond p (Some IsConnected)
        (cond q (Some AddressNotAvailable)
        (cond r (Some HostUnreachable)
        (cond s (Some AddressInUse) (cond (t && u) (Some Access)
        (cond (t && v) (Some MessageSize) None)))))) ≡ None
    go true p q r s t u v e f g = cc
    go false true q r s t u v e f g = cc
    go false false true r s t u v e f g = cc
    go false false false true s t u v e f g = cc
    go false false false false true t u v e f g = cc
    go false false false false false true u v e f g = cc
    go false false false false false false u v e f g = refl

-- nor by a socket that is connected to another address
unpeered : (M : State) (S : Socket) (a : Addr) (len : ℕ) → len ≤ 9216 → a.ip ≢ M.config.bcast → S.peer ≡ Some a
    → first_fault (send_faults M S None len) ≡ None
unpeered M S a len few one peer =
    go (is_none S.peer) (nat_lt 9216 len)
    ((unwrap_or S.peer (record { ip = 0; port = 0 })).ip == M.config.bcast) (not S.broadcast)
    (nat_lt M.config.mtu (len + 28)) (ap is_none peer) (le-ltb 9216 len few)
    (ap (λ (o : Option Addr). (unwrap_or o (record { ip = 0; port = 0 })).ip == M.config.bcast) peer
    ∙ ne_eqb a.ip M.config.bcast one)
  where
    go : (p d t u v : Bool) → p ≡ false → d ≡ false → t ≡ false
        → cond p (Some DestinationRequired) (cond d (Some MessageSize) (cond (t && u) (Some Access)
        (cond (t && v) (Some MessageSize) None))) ≡ None
    go true d t u v e f g = cc
    go false true t u v e f g = cc
    go false false true u v e f g = cc
    go false false false u v e f g = refl

pub returns-in_default-clause-target : goal.returns-in_default-clause-target
returns-in_default-clause-target c =
    subst (λ (to : Option Addr). IfSome c.peer_by_link.result (λ a. (mtu len : ℕ) → len ≤ 9216
    → ChecksSend c.args.pcbs.now mtu c.args.block.now.fd to len (Ok a))) (sym c.in_default.is)
    (target_by c.peer_by_link.result c.peer_by_link.ensures.peer c.peer_by_link.ensures.other)
  where
    target_by : (o : Option Addr) → IfSome o (λ a. c.args.block.now.peer ≡ Some a)
        → IfSome o (λ a. (a.ip ≢ c.args.pcbs.now.addr) × (a.ip ≢ c.args.pcbs.now.bcast) × (a.ip ≢ 2130706433))
        → IfSome o (λ a. (mtu len : ℕ) → len ≤ 9216
        → ChecksSend c.args.pcbs.now mtu c.args.block.now.fd None len (Ok a))
    target_by None p q = tt
    target_by (Some a) p q = λ mtu len few rest queues b at link.
        let same : c.args.block.now ≡ b = same_Some _ _ (sym c.requires ∙ at) in
        let peer : b.peer ≡ Some a = ap (λ (x : Block). x.peer) (sym same) ∙ p in (
          unpeered (machine rest queues c.args.pcbs.now) (socket_with queues b) a len few q.1 peer,
          sym (ap (λ (o : Option Addr). unwrap_or o (record { ip = 0; port = 0 })) peer),
        )

pub returns-clause-target : goal.returns-clause-target
returns-clause-target c = λ mtu len few.
    subst (λ (to : Option Addr). ChecksSend c.args.pcbs.now mtu c.args.block.now.fd to len (Ok c.in-Some.address))
    (sym c.in-Some.is)
    (λ rest queues b at link.
    let checked = c.goes_by_link.ensures.checked c.if-not-goes_by_link.false rest queues b at in (
      unrefused (machine rest queues c.args.pcbs.now) (socket_with queues b) c.in-Some.address len few
          (c.goes_by_link.ensures.other c.if-not-goes_by_link.false).1 checked.0 checked.1,
      checked.1,
    ))
