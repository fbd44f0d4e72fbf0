use Rattle.std.proofs.Common.{◌≡◌, ℕ, ℤ, ap, ◌∙◌, arith, rules}
use Rattle.std.proofs.lemmas.Grind.{common_steps}
use Rattle.mbuf_chain.specs.Chain.{PoolView, string, chain_of}
use Rattle.mbuf_chain.specs.Steps.{with_entries_in}
use Rattle.mbuf_chain.proofs.Laws.Owners.{shown_with}
use Rattle.chain_ops.specs.Trims.{adjusted, adjusted_bytes}
use Rattle.chain_ops.proofs.Laws.Strings.{adjusted_are}
use Rattle.chain_ops.proofs.adj.m_adj.Goals as goal

bytes : (p q : PoolView) (k : ℕ) (n : ℤ) → q ≡ with_entries_in p k (adjusted n (chain_of p k).entries)
    → string (chain_of q k) ≡ adjusted_bytes n (string (chain_of p k))
bytes p q k n change = ap string (shown_with _ _ _ _ change) ∙ adjusted_are n (chain_of p k).entries

pub returns-then-n-ge0-clause-string : goal.returns-then-n-ge0-clause-string
returns-then-n-ge0-clause-string c =
    bytes c.args.pool.now c.trim_front.new.pool c.args.chain.now c.args.n
    (first_of (search rules, grind (arith, common_steps)))

pub returns-else-n-ge0-clause-string : goal.returns-else-n-ge0-clause-string
returns-else-n-ge0-clause-string c =
    bytes c.args.pool.now c.trim_back.new.pool c.args.chain.now c.args.n
    (first_of (search rules, grind (arith, common_steps)))
