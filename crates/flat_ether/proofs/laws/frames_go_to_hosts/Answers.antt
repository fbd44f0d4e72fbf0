use Rattle.std.proofs.lemmas.List.Elements.{All-from_recursion}
use Rattle.flat_ether.specs.Laws.{frames_out}
use Rattle.flat_ether.proofs.Destinations.{host_frames}
use Rattle.flat_ether.proofs.laws.frames_go_to_hosts.Goals as goal

pub returns : goal.returns
returns c = λ config l acts new done. All-from_recursion _ (frames_out acts) (host_frames config l acts new done)
