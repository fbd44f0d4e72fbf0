-- Lists: facts of each element, and sums.
pub mod Each
pub mod Totals
