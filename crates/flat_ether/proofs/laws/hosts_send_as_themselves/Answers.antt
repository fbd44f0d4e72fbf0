use Rattle.std.proofs.lemmas.List.Elements.{All-from_recursion}
use Rattle.flat_ether.specs.Laws.{frames_out}
use Rattle.flat_ether.proofs.Others.{own_frames}
use Rattle.flat_ether.proofs.laws.hosts_send_as_themselves.Goals as goal

pub returns : goal.returns
returns a c l acts new is done = All-from_recursion _ (frames_out acts) (own_frames c l acts new is done)
