-- All the lemmas that crates above may cite. Their statements are in the files named; the laws that need a contract of
-- their own are in src/theorems.rt.

-- ---- facts by cases, and facts of each element of a list
pub use Rattle.flat_model.proofs.Lists.Each.{
  by_choice,
  by_case,
  none_passed,
  each-map,
  each-map_to,
  each-append,
  each-filter,
  each-find,
  each-both,
  each-weaker,
  each-take,
}
-- ---- lists and weights: sums, and how often a cluster occurs
pub use Rattle.flat_model.proofs.Lists.Totals.{count_cons, count-append}
pub use Rattle.flat_model.proofs.Amounts.Weights.{nothing-both, both-nothing, both-assoc, all_of-append, times-both}
-- ---- the accounts of a consistent state
pub use Rattle.flat_model.proofs.Machine.Balance.{free_and_held, references_are, none_held}
-- ---- fragments are matched by their whole keys
pub use Rattle.flat_model.proofs.Machine.Keys.{whole_key}
-- ---- sends: each uses up an identification, and both parts of one are the whole
pub use Rattle.flat_model.proofs.Machine.Numbers.{next_number}
pub use Rattle.flat_model.proofs.Machine.Putting.{put_goes}
-- ---- what is said of a packet's ends may be replaced by what follows from it
pub use Rattle.flat_model.proofs.Machine.Weaker.{arrives_too, delivers_too, fated_step, itself}
-- ---- runs: one more event, and what a script prints
pub use Rattle.flat_model.proofs.Runs.Ranges.{in_range}
pub use Rattle.flat_model.proofs.Runs.Runs.{one_more_turn, print_of_run}
-- ---- what holds of every state
pub use Rattle.flat_model.proofs.Machine.KeptSteps.{boot_is_consistent, step_is_consistent, run_is_consistent}
-- ---- the memory of a layout
pub use Rattle.flat_model.proofs.Machine.Placed.{placed_memory}
-- ---- a queue that a datagram fits into
pub use Rattle.flat_model.proofs.Machine.Kept.{fits_most}
-- ---- one socket changed among others
pub use Rattle.flat_model.proofs.Machine.Sockets.{find-changed}
-- ---- the parts of a cut, and how long a datagram is
pub use Rattle.flat_model.proofs.Fragments.Grid.{
  chunk_some,
  chunks_enough,
  chunks_needed,
  grid,
  length-grid,
  get_or-grid,
  cuts_short,
  cuts_long,
}
pub use Rattle.flat_model.proofs.Packets.Sizes.{length-udp}
-- ---- the bytes of a whole map, by their offsets
pub use Rattle.flat_model.proofs.Fragments.Maps.{IsMapOf, whole_bytes}
-- ---- the folded sum depends on the sum's remainder by 65,535, and on whether it is 0
pub use Rattle.flat_model.proofs.Packets.Folds.{
  fold16-below,
  fold16-small,
  fold16-shift,
  fold16-high,
  fold16-halves,
  fold16-add_first,
  fold16-add_second,
}
