-- All the lemmas that crates above may cite. Their statements are in the files named.

-- ---- a table without datagrams holds no key twice
pub use Rattle.ip_reass.proofs.Distinct.{none_distinct}
-- ---- an arrival is the flat machine's if the chain shows how its packet came
pub use Rattle.ip_reass.proofs.Origins.{fragment_arrives}
-- ---- so is the arrival of a packet that is queued directly, and the test before it
pub use Rattle.ip_reass.proofs.Origins.{stored_arrives, stored_weight}
pub use Rattle.ip_reass.proofs.ArriveBytes.{Fits, fits_is}
