-- A need of the programs as a need of the definitions (this project's own).
use Rattle.flat_model.specs.Amounts.Layout as Layout
use Rattle.flat_plain.specs.declared.needs.Buffers.{Buffers}

abbrev pub plain_need : Buffers → Layout.Need
plain_need n = record { mbufs = n.mbufs; clusters = n.clusters }
