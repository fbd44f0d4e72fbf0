use Rattle.std.proofs.Common.{◌≡◌, ℤ, Some, None, get_or, refl, subst}
use mir.Syntax.{w32}
use Rattle.std.proofs.lemmas.Int.{to_z-of_z}
use Rattle.chain_script.specs.Lines.{Adjust}
use Rattle.chain_script.specs.Steps.{Ready, ChainStep}
use Rattle.chain_script.specs.Inside.Slots.{machine_of}
use Rattle.chain_script.proofs.Stores.{adjust_done}
use Rattle.chain_script.proofs.SlotLemmas.{slot_is, live_slot}
use Rattle.chain_script.proofs.calls.adj.Goals as goal
use Rattle.chain_script.proofs.calls.adj.Goals.{In-Some}

held : (c : In-Some) → get_or c.args.chains.now c.args.slot None ≡ Some c.in-Some.chain
held c = slot_is c.args.chains.now c.args.slot _ (Some c.in-Some.chain) c.requires.within c.in-Some.is

pub m_adj-requires : goal.m_adj-requires
m_adj-requires c =
    live_slot c.args.pool.now c.args.chains.now c.args.slot c.in-Some.chain c.requires.fits c.requires.within
    (held (goal.at.m_adj-requires c).In-Some)

pub returns : goal.returns
returns c =
    let done =
    adjust_done c.args.pool.now _ c.args.chains.now c.args.slot c.in-Some.chain _ c.requires.fits c.requires.within
    (held (goal.at.returns c).In-Some) c.m_adj.ensures.change in record {
      fits = done.0;
      len = refl;
      step =
          subst (λ (z : ℤ). ChainStep (machine_of c.args.pool.now c.args.chains.now) (Adjust c.args.slot z) Ready
          (machine_of c.m_adj.new.pool c.args.chains.now))
          (to_z-of_z w32 c.args.n c.ranges.n) done.1;
    }
