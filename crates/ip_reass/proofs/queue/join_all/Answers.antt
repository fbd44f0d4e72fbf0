use Rattle.std.proofs.Common.{ap, ◌∙◌, arith}
use Rattle.mbuf_chain.specs.Chain.{ChainView}
use Rattle.mbuf_chain.proofs.Laws.Owners.{moves_trans}
use Rattle.ip_reass.specs.Fragments.{joined_fragments, queued}
use Rattle.ip_reass.proofs.Joined.{in_hand, joins, entries_more}
use Rattle.ip_reass.proofs.queue.join_all.Goals as goal

pub fragments-preserved : goal.fragments-preserved
fragments-preserved c =
    let h =
    in_hand c.fragments.pool c.take-next.new.pool c.fragments.rest c.take-next.new.self c.take-chain.result.0
    c.take-next.result.0 c.fragments.invariant.held c.fragments.invariant.live c.fragments.invariant.apart
    c.take-next.ensures.moves in
    let j =
    joins c.fragments.pool c.take-next.new.pool c.cat_after-last.new.pool c.fragments.rest c.take-next.new.self
    c.take-chain.result.0 c.take-next.result.0 _ _ h c.take-next.ensures.moves c.take-next.ensures.held
    c.cat_after-last.ensures.makes in
    record {
      live = j.live;
      held = j.held;
      apart = j.apart;
      front =
          c.cat_after-last.ensures.makes.front
          ∙ (ap (λ (v : ChainView). v.front) h.shown ∙ c.fragments.invariant.front);
      entries =
          entries_more c.fragments.pool c.take-next.new.pool c.cat_after-last.new.pool c.fragments.rest
          c.take-next.new.self c.take-chain.result.0 c.take-next.result.0 c.take-next.result.1 _
          (joined_fragments (queued c.args.pool.now c.args.train)) c.fragments.invariant.held
          (omega (arith, c.take-next.ensures.len)) h.shown
          c.take-next.ensures.taken c.take-next.ensures.queued_packets j.queued_packets_are
          c.cat_after-last.ensures.makes c.fragments.invariant.entries;
      place = c.cat_after-last.ensures.place;
      end = c.cat_after-last.ensures.last;
      moves = moves_trans c.fragments.invariant.moves j.moves;
    }
