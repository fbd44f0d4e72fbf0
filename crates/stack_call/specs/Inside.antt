-- A reply without bytes (this project's own).
use Rattle.std.specs.Prelude.{◌≡◌}
use Rattle.flat_model.specs.Machine.Event as event
use Rattle.request.specs.declared.reply.Reply.{Reply}
use Rattle.request.specs.Replies.{len_of, reply_of}

-- it's this reply of the machine, and has no bytes
pub record IsBare (r : Reply) (said : event.Reply) : Type 0 where
  pub reply : reply_of r ≡ said
  pub len : len_of r ≡ 0
