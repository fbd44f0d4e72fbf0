use Rattle.flat_model.proofs.Packets.Folds.{fold16-halves, fold16-small}
use Rattle.flat_model.proofs.checksum.fold_law.Goals as goal

pub returns : goal.returns
returns c = record { carried = fold16-halves; fits = fold16-small }
