-- Two machines on one wire: the laws for a first machine that sends fewer datagrams than there are identifications, and
-- for one that sends no fragments, are the law without end for labels that need no premise.
use Rattle.std.proofs.Common.{◌≡◌, ◌-◌, ◌^◌, ◌<◌, [], length, refl, sym, subst, arith, min}
use Rattle.std.specs.Prelude.{filter_map}
use Rattle.std.proofs.lemmas.List.Elements.{recursion_from_All}
use Rattle.flat_model.specs.Machine.Count.{value_of}
use Rattle.flat_model.specs.declared.counter.Counter.TheVariants.{IpLocalout}
use Rattle.flat_model.specs.Machine.State.{boot}
use Rattle.flat_model.specs.Machine.Ledger.{Ledger}
use Rattle.flat_model.specs.Runs.Run.{Leads}
use Rattle.flat_model.proofs.Laws.{each-weaker}
use Rattle.flat_wire.specs.Ever.{WireLawOfWhole}
use Rattle.flat_wire.specs.Wire.{packet_in, WireLaw}
use Rattle.flat_wire.proofs.Recorded as Recorded
use Rattle.flat_wire.proofs.Labels as Labels
use Rattle.flat_wire.proofs.LawEver as LawEver
use Rattle.flat_wire.proofs.LawEver.{near_if_few, near_without_fragments}

pub wire_law_lem : (L M : Ledger) → WireLaw L M
wire_law_lem L M first second sent came s t w socket d in_sockets in_queue from =
    let r : Recorded.IsRecorded L first w.first_boots sent s =
    Recorded.recorded_run L first w.first_boots [] (boot first) sent s
    (Recorded.recorded_boot L first w.first_boots) refl w.first_runs in
    let count : value_of IpLocalout s.counters ≡ min (length r.log) (2 ^ 64 - 1) = r.count in
    let small : value_of IpLocalout s.counters < 2 ^ 16 = w.few in
    let few : length r.log < 65536 = omega arith in
    let ls = Labels.labels_exist L M first second sent s w.first_boots r w.not_addr w.not_bcast came
    (recursion_from_All _ (filter_map packet_in came) w.wire) in
    LawEver.law_for_ever L M first second sent s w.first_boots r w.not_addr w.not_bcast ls.came t ls.right
    (near_if_few [] ls.came (λ x m. absurd m) (each-weaker (λ l short n e. omega (arith, few, short n e)) ls.came
    ls.short))
    (subst (λ ts. Leads M (boot second) ts t) (sym ls.turns_are) w.second_runs) socket d in_sockets in_queue from

pub whole_law_lem : (L M : Ledger) → WireLawOfWhole L M
whole_law_lem L M first second sent came s t w socket d in_sockets in_queue from =
    let r : Recorded.IsRecorded L first w.first_boots sent s =
    Recorded.recorded_run L first w.first_boots [] (boot first) sent s
    (Recorded.recorded_boot L first w.first_boots) refl w.first_runs in
    let ls = Labels.labels_exist L M first second sent s w.first_boots r w.not_addr w.not_bcast came
    (recursion_from_All _ (filter_map packet_in came) w.wire) in
    LawEver.law_for_ever L M first second sent s w.first_boots r w.not_addr w.not_bcast ls.came t ls.right
    (near_without_fragments [] ls.came (ls.none w.whole))
    (subst (λ ts. Leads M (boot second) ts t) (sym ls.turns_are) w.second_runs) socket d in_sockets in_queue from
