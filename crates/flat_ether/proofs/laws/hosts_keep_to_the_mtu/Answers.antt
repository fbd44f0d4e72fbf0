use Rattle.std.proofs.lemmas.List.Elements.{All-from_recursion}
use Rattle.flat_ether.specs.Laws.{frames_out}
use Rattle.flat_ether.proofs.Lengths.{short_frames}
use Rattle.flat_ether.proofs.laws.hosts_keep_to_the_mtu.Goals as goal

pub returns : goal.returns
returns a c l acts new is done =
    All-from_recursion _ (frames_out acts) (short_frames a.cuts_join.ensures c l acts new is done)
