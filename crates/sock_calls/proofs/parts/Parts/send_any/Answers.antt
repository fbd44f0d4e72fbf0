use Rattle.std.proofs.Common.{◌≡◌, ℕ, List, length, refl, sym, ap, ◌∙◌, subst, Bool, Option, Some}
use Rattle.std.specs.Prelude.{Result, Ok, Err, IfErr, IfSome}
use Rattle.flat_model.specs.Amounts.Layout.{Need}
use Rattle.flat_model.specs.Machine.Replies.{sent_reply}
use Rattle.flat_model.specs.declared.errno.Errno.{Errno}
use Rattle.flat_model.specs.declared.errno.Errno.TheVariants.{NoBufs}
use Rattle.flat_model.specs.declared.errno.Lack.TheVariants.{Queue}
use Rattle.ledger.specs.Reserve.{are_free}
use Rattle.pcb_table.specs.declared.block.Block.{Block}
use Rattle.sockbuf.specs.SockBuf.{SockBufView}
use Rattle.sock_calls.specs.Sockets.{from_three}
use Rattle.sock_calls.specs.Outgoing.{IsSent, sending}
use Rattle.sock_calls.specs.Inside.Destination.{ChecksSend}
use Rattle.sock_calls.specs.Inside.Parts.{socks_of}
use Rattle.sock_calls.specs.Inside.Putting.{IsPut}
use Rattle.sock_calls.proofs.Going.{not_open, refused_early, lacks_buffers, sent_or, sent_is}
use Rattle.sock_calls.proofs.parts.Parts.send_any.Goals as goal
use Rattle.sock_calls.proofs.parts.Parts.send_any.Goals.{After-laws}

pub returns-in_default : goal.returns-in_default
returns-in_default c = not_open c.requires (sym c.block.ensures.value ∙ c.in_default.is)

-- the block has this descriptor
named : {o : Option Block} {b : Block} (fd : ℕ) → o ≡ Some b → IfSome o (λ (k : Block). k.fd ≡ fd) → b.fd ≡ fd
named fd is h = subst (λ (o : Option Block). IfSome o (λ (k : Block). k.fd ≡ fd)) is h

pub returns-in-Err : goal.returns-in-Err
returns-in-Err c =
    refused_early c.requires c.in-Some.block (sym c.block.ensures.value ∙ c.in-Some.is)
    (subst (λ (k : ℕ). ChecksSend c.args.self.now.pcbs c.args.net.now.mtu k c.args.to (length c.args.bytes.now)
    (Err c.in-Err.errno)) (named c.args.fd c.in-Some.is c.block.ensures.named) c.in-Err.ensures.target)

pub returns-then-not-are_free : goal.returns-then-not-are_free
returns-then-not-are_free c =
    lacks_buffers c.requires c.in-Some.block (sym c.block.ensures.value ∙ c.in-Some.is)
    (subst (λ (k : ℕ). ChecksSend c.args.self.now.pcbs c.args.net.now.mtu k c.args.to (length c.args.bytes.now)
    (Ok c.in-Ok.target)) (named c.args.fd c.in-Some.is c.block.ensures.named) c.in-Ok.ensures.target)
    (ap (λ (x : Need). are_free c.args.pool.now x.mbufs x.clusters) (sym (c.need_to-need.ensures c.args.net.now.mtu
    c.way_to-way.ensures.mtu)) ∙ sym c.are_free.ensures ∙ c.if-not-are_free.true)

-- ---- the packets are queued, or the output queue lost some
sent : (c : After-laws) (result : Result ℕ Errno)
    → sent_or c.put-is_lost.result (length c.args.bytes.now) ≡ sent_reply result
    → IfErr result (λ errno. errno ≡ NoBufs Queue)
    → IsSent c.args.fd c.args.to c.args.bytes.now (sending c.args.pool.now (socks_of c.args.self.now) c.args.net.now)
    result (sending c.put-is_lost.new.pool (socks_of c.put-is_lost.new.self) c.put-is_lost.new.net)
sent c result reply refused =
    let fd = named c.args.fd c.in-Some.is c.block.ensures.named in
    let checked = subst (λ (k : ℕ). ChecksSend c.args.self.now.pcbs c.args.net.now.mtu k c.args.to
    (length c.args.bytes.now) (Ok c.in-Ok.target)) fd c.in-Ok.ensures.target in
    let put = subst (λ (k : ℕ). IsPut k c.in-Ok.target c.args.bytes.now c.args.pool.now c.args.self.now.pcbs
    c.args.net.now c.put-is_lost.result c.put-is_lost.new.pool c.put-is_lost.new.self.pcbs c.put-is_lost.new.net) fd
    c.put-is_lost.ensures.put in
    subst (λ (qs : List SockBufView). IsSent c.args.fd c.args.to c.args.bytes.now
    (sending c.args.pool.now (socks_of c.args.self.now) c.args.net.now) result
    (sending c.put-is_lost.new.pool (record { pcbs = c.put-is_lost.new.self.pcbs; queues = from_three qs })
    c.put-is_lost.new.net)) (sym c.put-is_lost.ensures.queues)
    (sent_is c.in-Some.block result c.requires put c.laws.ensures.apart (sym c.block.ensures.value ∙ c.in-Some.is)
    checked (ap (λ (x : Need). are_free c.args.pool.now x.mbufs x.clusters)
    (sym (c.need_to-need.ensures c.args.net.now.mtu c.way_to-way.ensures.mtu)) ∙ sym c.are_free.ensures
    ∙ c.if-not-are_free.false) reply refused)

pub returns-then-is_lost : goal.returns-then-is_lost
returns-then-is_lost c =
    sent (goal.at.returns-then-is_lost c).After-laws (Err (NoBufs Queue))
    (ap (λ (l : Bool). sent_or l (length c.args.bytes.now)) c.if-is_lost.true) refl

pub returns : goal.returns
returns c =
    sent (goal.at.returns c).After-laws (Ok (length c.args.bytes.now))
    (ap (λ (l : Bool). sent_or l (length c.args.bytes.now)) c.if-is_lost.false) tt
