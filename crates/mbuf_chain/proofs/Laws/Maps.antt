-- The pool's map before and after a change at a number, for callers.
pub use Rattle.mbuf_chain.proofs.Maps.{
  same,
  get_here,
  get_there,
  get_gone,
  get_left,
  insert-insert,
  remove-insert,
  remove-insert_any,
  insert-remove,
  insert_same,
  map_steps,
}
