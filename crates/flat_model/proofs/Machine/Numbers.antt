-- A send uses up its identification, whether or not the output queue takes all of its packets.
use Rattle.std.specs.Prelude.{◌≡◌, refl, ℕ, ◌+◌, ◌%◌, List}
use Rattle.flat_model.specs.Amounts.Weight.{Item}
use Rattle.flat_model.specs.Machine.State.{State}
use Rattle.flat_model.specs.Machine.Send.{to_link, enqueued, spent}
use Rattle.flat_model.specs.Machine.Sending.{Sending, parts_of}

pub next_number : (fd : ℕ) (out : List Item) (x : Sending) (old : State)
    → (enqueued (to_link old.config x.to.ip out) (spent fd x.port (parts_of old.config x) old)).next_id
    ≡ (old.next_id + 1) % 65536
next_number fd out x old = refl
