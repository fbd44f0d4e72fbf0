-- The fate of a packet, by how it ended and by what became of its datagram.
use Rattle.std.proofs.Common.{◌≡◌, Result, Ok, Err, refl}
use Rattle.flat_model.specs.declared.counters.Why.{Why}
use Rattle.flat_model.specs.declared.fate.Fate.TheVariants.{Completed}
use Rattle.flat_model.specs.declared.fate.Reached.{Reached}
use Rattle.sock_calls.specs.Delivery.{whole_of}
use Rattle.net_stack.specs.Inside.Arrivals.{fate_by, fate_of, of_completed, of_whole}

pub told_whole_by : (whole : Result Unit Why) (reached : Reached)
    → fate_by (of_whole whole) reached ≡ fate_of (whole_of whole reached)
told_whole_by (Ok done) reached = refl
told_whole_by (Err why) reached = refl

pub told_completed_by : (whole : Result Unit Why) (reached : Reached)
    → fate_by (of_completed whole) reached ≡ Completed (whole_of whole reached)
told_completed_by (Ok done) reached = refl
told_completed_by (Err why) reached = refl
