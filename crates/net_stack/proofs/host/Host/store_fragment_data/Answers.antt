use Rattle.std.proofs.Common.{◌∷◌, [], refl, sym, ap, subst, ◌∙◌}
use Rattle.flat_model.specs.declared.fate.Fate.{Fate}
use Rattle.flat_model.specs.declared.fate.Fate.TheVariants.{Dropped, Kept}
use Rattle.mbuf_chain.proofs.Laws.Owners.{owned_after}
use Rattle.ip_reass.specs.Table.{held_all}
use Rattle.ip_reass.proofs.Laws.{fits_is}
use Rattle.sock_calls.specs.Delivery.{NetView}
use Rattle.net_stack.specs.declared.host.Ending.{Ending}
use Rattle.net_stack.specs.Inside.Arrivals.{HasCome, fate_by}
use Rattle.net_stack.specs.Inside.Hosts.{arrival_view}
use Rattle.net_stack.proofs.Aside.{beside_socks, host_view}
use Rattle.net_stack.proofs.Endings.{told_completed_by}
use Rattle.net_stack.proofs.ArriveLemmas.{headed}
use Rattle.net_stack.proofs.StoreFragmentData.{IsCounted, came_kept, came_whole}
use Rattle.net_stack.proofs.host.Host.store_fragment_data.Goals as goal
use Rattle.net_stack.proofs.host.Host.store_fragment_data.Goals.{After-count}

-- ---- the fragment is counted
counted : (c : After-count) → IsCounted c.args.self.now.pool c.args.self.now.socks c.args.self.now.reass
    c.args.self.now.net.counters c.count.new.self c.args.packet.now c.args.head
counted c = record {
  head = headed c.args.packet.now c.args.head c.requires.faultless c.requires.says;
  part = c.requires.fragment;
  ours = λ rest. c.requires.ours;
  fits = fits_is c.args.self.now.pool c.args.head c.args.packet.now c.requires.fits;
  counts = c.count.ensures;
}

-- ---- and it completes its datagram, or not
pub input-whole-requires-clause-fit : goal.input-whole-requires-clause-fit
input-whole-requires-clause-fit c =
    let x = beside_socks (held_all c.args.self.now.pool c.args.self.now.reass.datagrams) (c.in-Whole.chain ∷ [])
    (held_all c.arrive_bytes.new.pool c.arrive_bytes.new.self.datagrams) c.requires.fit.owned c.requires.fit.socks
    c.in-Whole.ensures.moves in
    record { socks = x.socks.ready; owned = owned_after x.moves c.requires.fit.owned }

pub returns-in-Whole : goal.returns-in-Whole
returns-in-Whole c =
    let d = c.input-whole.new in
    let now : NetView = host_view d.pool d.self d.waiting d.counters in
    record {
      does = subst (λ (f : Fate). HasCome (arrival_view c.args.self.now) c.args.packet.now f now)
          (sym (ap (λ (e : Ending). fate_by e d.reached) c.of_completed.ensures
          ∙ told_completed_by c.input-whole.result d.reached))
          (came_whole c.args.self.now.reass c.arrive_bytes.new.self c.in-Whole.head
          (counted (goal.at.returns-in-Whole c).After-count) c.in-Whole.ensures.arrives c.requires.fit.socks
          c.requires.fit.owned c.in-Whole.ensures.moves c.in-Whole.ensures.accounts c.input-whole.ensures.input);
      reass = c.input-whole.ensures.waits;
      output = refl;
    }

pub returns-in-Kept : goal.returns-in-Kept
returns-in-Kept c = record {
  does = came_kept _ _ _ _ _ _ _ (counted (goal.at.returns-in-Kept c).After-count) _ c.arrive_bytes.new.pool
      c.arrive_bytes.new.self c.arrive_bytes.new.counters c.in-Kept.ensures.arrives c.requires.fit.socks
      c.requires.fit.owned c.in-Kept.ensures.moves c.in-Kept.ensures.accounts Kept refl (λ x y e. (tt, e));
  reass = c.in-Kept.ensures.ready;
  output = refl;
}

pub returns-in-Dropped : goal.returns-in-Dropped
returns-in-Dropped c = record {
  does = came_kept _ _ _ _ _ _ _ (counted (goal.at.returns-in-Dropped c).After-count) _ c.arrive_bytes.new.pool
      c.arrive_bytes.new.self c.arrive_bytes.new.counters c.in-Dropped.ensures.arrives c.requires.fit.socks
      c.requires.fit.owned c.in-Dropped.ensures.moves c.in-Dropped.ensures.accounts (Dropped c.in-Dropped.why) refl
      (λ x y e. (refl, e));
  reass = c.in-Dropped.ensures.ready;
  output = refl;
}
