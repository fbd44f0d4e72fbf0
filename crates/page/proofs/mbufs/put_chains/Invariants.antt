use Rattle.std.proofs.Common.{◌≡◌, ◌++◌, drop}
use Rattle.net_stack.specs.Questions.{chains_held}
use Rattle.page.specs.States.{chain_objects}
use Rattle.page.proofs.mbufs.put_chains.Given as goal

-- the lines of this chain and those after it are still to be written
abbrev pub invariant-chains : goal.invariant-chains
invariant-chains l =
    l.text.items ++ chain_objects l.stack.pool (drop l.i (chains_held l.stack l.holder))
    ≡ l.fn.text.items ++ chain_objects l.stack.pool (chains_held l.stack l.holder)
