use Rattle.std.proofs.Common.{◌≡◌, ℕ, min, List, length, take, drop, sym, ap, ◌∙◌, arith}
use Rattle.std.proofs.lemmas.List.{length-take, take_at}
use Rattle.std.proofs.lemmas.Option.{none-some, same_Some}
use Rattle.flat_model.specs.Machine.Event.{Refused}
use Rattle.flat_model.specs.Machine.State.{State, boot, socket_at}
use Rattle.sock_calls.specs.Sockets.{with_sockets}
use Rattle.net_stack.specs.Questions.{bytes_in_mbufs}
use Rattle.net_stack.proofs.Peeks.{Oldest, copied, oldest, refused, replies, rest_after}
use Rattle.net_stack.proofs.peek.copy_oldest.Goals.{After-heads, in-Some, in_default}
use Rattle.net_stack.proofs.peek.copy_oldest.Goals as goal

-- any machine: the query doesn't depend on the rest of it
some_rest : State
some_rest = boot (record { addr = 0; bcast = 0; mtu = 0; mbufs = 0; clusters = 0; first_id = 0 })

pub returns-in-Err-clause-reply : goal.returns-in-Err-clause-reply
returns-in-Err-clause-reply c = λ rest.
    let s : State = with_sockets c.args.pool.now c.args.socks.now rest in
    replies c.args.fd (length c.args.buffer.now) s (Refused c.in-Err.errno)
    (refused (length c.args.buffer.now) (socket_at c.args.fd s) c.in-Err.errno
    (sym (c.next_datagram.ensures rest) ∙ c.in-Err.is))

found : (c : After-heads) → Oldest c.args.pool.now c.args.socks.now c.args.fd c.in-Ok.next
found c = oldest c.args.pool.now c.args.socks.now c.args.fd c.in-Ok.next some_rest c.requires c.laws.ensures
    (sym c.in-Ok.is ∙ c.next_datagram.ensures some_rest)

pub copy_mbufs-requires : goal.copy_mbufs-requires
copy_mbufs-requires c =
    let it = found (goal.at.copy_mbufs-requires c).After-heads in
    let left : c.next.new.self ≡ it.mbufs =
    rest_after _ c.next.result _ _ it.mbufs it.front c.next.ensures.steps
    (same_Some _ _ (sym c.in-Some.is ∙ c.heads.ensures ∙ it.heads)) in
    omega (
      arith,
      length-take c.min-len.result c.args.buffer.now,
      c.min-len.ensures,
      it.len,
      ap (λ ms. length (bytes_in_mbufs ms)) left,
    )

pub returns-clause-reply : goal.returns-clause-reply
returns-clause-reply c = λ rest.
    let it = found (goal.at.returns-clause-reply c).After-heads in
    let len : ℕ = c.min-len.result in
    let was : List ℕ = c.args.buffer.now in
    let front : take len c.match-heads.buffer ≡ take len (bytes_in_mbufs it.mbufs) =
    elim c.match-heads.branch [
      | in-Some w ↦
          let left : w.next.new.self ≡ it.mbufs =
          rest_after _ w.next.result _ _ it.mbufs it.front w.next.ensures.steps
          (same_Some _ _ (sym w.in-Some.is ∙ c.heads.ensures ∙ it.heads)) in
          let size : length (take len was) ≡ len = omega (arith, length-take len was, c.min-len.ensures) in
          let put : w.copy_mbufs.new.to ≡ take len (bytes_in_mbufs it.mbufs) =
          w.copy_mbufs.ensures ∙ (λ i. take (size i) (bytes_in_mbufs (left i))) in
          let full : length w.copy_mbufs.new.to ≡ len =
          omega (arith, ap length put, length-take len (bytes_in_mbufs it.mbufs), it.len, c.min-len.ensures) in
          ap (take len) w.buffer-is ∙ take_at w.copy_mbufs.new.to (drop len was) len full ∙ put
      | in_default w ↦ absurd (none-some _ (sym w.in_default.is ∙ c.heads.ensures ∙ it.heads))
    ] in
    let least : len ≡ min c.in-Ok.next.len (length was) = omega (arith, c.min-len.ensures) in
    copied c.args.pool.now c.args.socks.now c.args.fd (length was) len c.in-Ok.next c.match-heads.buffer rest it least
    front
