-- A send's two parts are the whole of it.
use Rattle.std.proofs.Common.{ℕ, List, subst}
use Rattle.flat_model.specs.Amounts.Weight.{Item}
use Rattle.flat_model.specs.Machine.Event.{Reply}
use Rattle.flat_model.specs.Machine.State.{State, Socket}
use Rattle.flat_model.specs.Machine.Ledger.{Ledger}
use Rattle.flat_model.specs.Machine.Arrival.{AllArrive}
use Rattle.flat_model.specs.declared.address.Addr.{Addr}
use Rattle.flat_model.specs.Machine.Send.{Goes, to_self}
use Rattle.flat_model.specs.Machine.Sending.{Sending, packets}
use Rattle.flat_model.specs.Machine.Calls.{source_for}
use Rattle.flat_model.specs.Machine.Puts.{Puts}

module _ (L : Ledger) (fd : ℕ) (me : Socket) (to : Addr) (bytes : List ℕ) (old : State) (reply : Reply) where
  pub put_goes : (looped : List Item) (mid new : State) → Puts L fd me to bytes old reply looped mid
      → AllArrive L looped mid new → Goes L fd me to bytes old reply new
  put_goes looped mid new (port, named, clusters, gets, taken, left) arrive =
      let x : Sending =
      record { id = old.next_id; source = source_for old.config me to.ip; to = to; port = port; bytes = bytes } in
      let back : AllArrive L (to_self named.config to.ip (packets named.config clusters x)) mid new =
      subst (λ xs. AllArrive L xs mid new) left.back arrive in (
        port,
        named,
        clusters,
        gets,
        taken,
        (
          subst (λ s. AllArrive L (to_self named.config to.ip (packets named.config clusters x)) s new) left.state back,
          left.answer,
        ),
      )
