-- Acts of a segment on which no host is on an Ethernet.
use Rattle.std.proofs.Common.{List, [], ◌∷◌}
use Rattle.segment.specs.Law.{Act, Ether}

-- no host on an Ethernet did anything
abbrev pub IsBare : Act → Type 0
IsBare (Ether act) = ⊥
IsBare _ = Unit {0}

abbrev pub AreBare : List Act → Type 0
AreBare [] = Unit {0}
AreBare (act ∷ acts) = IsBare act × AreBare acts
