use Rattle.std.proofs.Common.{ℕ, true, refl, List, length, subst, sym, ap, ◌∙◌, arith}
use Rattle.std.proofs.lemmas.List.{length-drop}
use Rattle.mbuf_chain.specs.Chain.{Entry, chain_of, flat_bytes, string, with_chain}
use Rattle.chain_ops.specs.Trims.{only_first, without_first}
use Rattle.chain_ops.proofs.Laws.Strings.{without_first_bytes}
use Rattle.flat_model.specs.declared.fate.Fate.{Fate}
use Rattle.sock_calls.specs.Delivery.{NetView}
use Rattle.net_stack.specs.Inside.Arrivals.{IsArrived, fate_by}
use Rattle.net_stack.specs.Inside.Hosts.{arrival_view}
use Rattle.net_stack.specs.declared.host.Ending.{Ending}
use Rattle.net_stack.proofs.Aside.{host_view}
use Rattle.net_stack.proofs.Endings.{told_whole_by}
use Rattle.ip_reass.specs.Table.{unfinished}
use Rattle.net_stack.proofs.ArriveLemmas.{IsChanged, IsForUs, changed, freed, ends_here, for_us, cut_length, fragment_arrives, whole_arrives}
use Rattle.net_stack.proofs.host.Host.arrive.Goals as goal
use Rattle.net_stack.proofs.host.Host.arrive.Goals.{After-trim_back, After-trim_front}

pub returns-in-Err : goal.returns-in-Err
returns-in-Err c = record {
  does = ends_here c.in-Err.why c.requires.fit.reass c.requires.fit.socks c.requires.fit.owned c.free_chain.ensures
      c.count.ensures c.count_ended.ensures
      (λ rest. c.in-Err.ensures.err (unfinished c.args.self.now.pool c.args.self.now.reass.datagrams)
      c.args.self.now.net.counters rest);
  reass = (freed c.args.chain c.requires.fit.owned c.requires.fit.reass c.requires.fit.socks
      c.free_chain.ensures).reass.table;
  output = refl;
}

-- ---- the packet is for this machine, and cut to its total length
cut : (c : After-trim_back) → IsForUs c.args.self.now.pool c.args.self.now.reass c.args.self.now.socks
    c.args.self.now.net.counters c.args.chain c.in-Ok.head c.trim_back.new.pool c.count.new.self
cut c =
    for_us {a = c.args.self.now.net.counters} true c.requires.fit.reass c.requires.fit.socks c.requires.fit.owned
    c.in-Ok.ensures.ok.faultless c.in-Ok.ensures.ok.says (sym c.in-Ok.ensures.ok.ours) refl c.count.ensures
    (c.trim_back.ensures
    ∙ ap (λ (n : ℕ). with_chain c.args.self.now.pool c.args.chain
    (record (chain_of c.args.self.now.pool c.args.chain)
    { entries = only_first n (chain_of c.args.self.now.pool c.args.chain).entries })) c.from.ensures)

pub take_fragment-requires-clause-fit : goal.take_fragment-requires-clause-fit
take_fragment-requires-clause-fit c =
    let beside = (cut (goal.at.take_fragment-requires-clause-fit c).After-trim_back).cut.beside in
    record { socks = beside.socks.ready; reass = beside.reass.table; owned = beside.owned }

pub take_fragment-requires-clause-headed : goal.take_fragment-requires-clause-headed
take_fragment-requires-clause-headed c =
    (cut (goal.at.take_fragment-requires-clause-headed c).After-trim_back).cut.header ∙ c.requires.headed

pub take_fragment-requires-clause-total : goal.take_fragment-requires-clause-total
take_fragment-requires-clause-total c = cut_length (cut (goal.at.take_fragment-requires-clause-total c).After-trim_back)

pub returns-then-is_fragment : goal.returns-then-is_fragment
returns-then-is_fragment c = record {
  does = fragment_arrives (cut (goal.at.returns-then-is_fragment c).After-trim_back)
      (sym c.is_fragment.ensures ∙ c.if-is_fragment.true) c.take_fragment.ensures.does;
  reass = c.take_fragment.ensures.reass;
  output = c.take_fragment.ensures.output;
}

-- ---- a whole datagram, without its header
pub trim_front-requires : goal.trim_front-requires
trim_front-requires c = (cut (goal.at.trim_front-requires c).After-trim_back).cut.live

off : (c : After-trim_front)
    → IsForUs c.args.self.now.pool c.args.self.now.reass c.args.self.now.socks c.args.self.now.net.counters c.args.chain
    c.in-Ok.head c.trim_back.new.pool c.count.new.self
    → IsChanged c.trim_back.new.pool c.args.self.now.reass c.args.self.now.socks c.args.chain c.trim_front.new.pool
    (without_first 20 (chain_of c.trim_back.new.pool c.args.chain).entries)
off c is =
    changed c.args.chain (without_first 20 (chain_of c.trim_back.new.pool c.args.chain).entries)
    is.cut.beside.owned is.cut.beside.reass.table is.cut.beside.socks.ready c.trim_front.ensures

pub input-whole-requires-clause-fit : goal.input-whole-requires-clause-fit
input-whole-requires-clause-fit c =
    let at = goal.at.input-whole-requires-clause-fit c in
    let x = off at.After-trim_front (cut at.After-trim_back) in
    record { socks = x.beside.socks.ready; owned = x.beside.owned }

pub input-whole-requires-clause-waits : goal.input-whole-requires-clause-waits
input-whole-requires-clause-waits c =
    let at = goal.at.input-whole-requires-clause-waits c in
    (off at.After-trim_front (cut at.After-trim_back)).beside.reass.table

pub input-whole-requires-clause-most : goal.input-whole-requires-clause-most
input-whole-requires-clause-most c =
    omega (
      arith,
      ap (λ (es : List Entry). length (flat_bytes es))
          (off (goal.at.input-whole-requires-clause-most c).After-trim_front
          (cut (goal.at.input-whole-requires-clause-most c).After-trim_back)).entries,
      ap (λ (xs : List ℕ). length xs) (without_first_bytes 20 (chain_of c.trim_back.new.pool c.args.chain).entries),
      length-drop 20 (string (chain_of c.trim_back.new.pool c.args.chain)),
      cut_length {a = c.args.self.now.net.counters} {b = c.count.new.self}
          (cut (goal.at.input-whole-requires-clause-most c).After-trim_back),
    )

pub returns-else-is_fragment : goal.returns-else-is_fragment
returns-else-is_fragment c =
    let d = c.input-whole.new in
    let now : NetView = host_view d.pool d.self d.waiting d.counters in
    record {
      does = subst (λ (f : Fate). IsArrived (arrival_view c.args.self.now) c.args.chain f now)
          (sym (ap (λ (e : Ending). fate_by e d.reached) c.of_whole.ensures
          ∙ told_whole_by c.input-whole.result d.reached))
          (whole_arrives (cut (goal.at.returns-else-is_fragment c).After-trim_back)
          (sym c.is_fragment.ensures ∙ c.if-is_fragment.false) (off (goal.at.returns-else-is_fragment c).After-trim_front
          (cut (goal.at.returns-else-is_fragment c).After-trim_back))
          c.input-whole.ensures.input);
      reass = c.input-whole.ensures.waits;
      output = refl;
    }
