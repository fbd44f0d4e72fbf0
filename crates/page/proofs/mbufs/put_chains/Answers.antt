use Rattle.std.proofs.Common.{◌+◌, ◌++◌, List, ℕ, drop, sym, ap, ◌∙◌, append_assoc, append-nil}
use Rattle.net_stack.specs.Questions.{chains_held}
use Rattle.page.specs.States.{chain_objects, mbuf_objects}
use Rattle.page.proofs.Lines.{next_chain, no_chain}
use Rattle.page.proofs.mbufs.put_chains.Goals as goal

pub returns-in-None : goal.returns-in-None
returns-in-None c =
    let p = c.args.stack.now.pool in
    let held = chains_held c.args.stack.now c.args.holder in
    sym (append-nil c.chains.text.items)
    ∙ ap (λ (xs : List ℕ). c.chains.text.items ++ xs)
    (sym (no_chain p held c.chains.i (sym c.in-None.is ∙ c.heads.ensures)))
    ∙ c.chains.invariant

pub chains-preserved : goal.chains-preserved
chains-preserved c =
    let p = c.args.stack.now.pool in
    let held = chains_held c.args.stack.now c.args.holder in
    let rest = chain_objects p (drop (c.chains.i + 1) held) in
    ap (λ (t : List ℕ). t ++ rest) c.in_ok-put_mbufs-in-Some.ensures
    ∙ append_assoc c.chains.text.items (mbuf_objects c.in-Some.mbufs) rest
    ∙ ap (λ (xs : List ℕ). c.chains.text.items ++ xs)
    (sym (next_chain p held c.chains.i c.in-Some.mbufs (sym c.in-Some.is ∙ c.heads.ensures)))
    ∙ c.chains.invariant
