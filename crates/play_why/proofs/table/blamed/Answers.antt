use Rattle.std.proofs.Common.{ℕ, suc, ◌<◌, Bool, List, drop, length, if◌then◌else◌, sym, ap, ◌∙◌, add-one, arith}
use Rattle.flat_model.specs.declared.counters.Why.{Why}
use Rattle.play_text.specs.Tables.{once_more}
use Rattle.play_text.specs.declared.count.Count.{Count}
use Rattle.play_why.proofs.Inserting.{inserted_end, inserted_step}
use Rattle.play_why.specs.Verdicts.{blamed_by, blamed_on}
use Rattle.play_why.proofs.table.blamed.Goals as goal

pub loop-why-init : goal.loop-why-init
loop-why-init c =
    ap (λ (ws : List Why). blamed_by c.args.blame c.args.seen.now c.args.before.now c.args.after.now ws c.args.count)
    c.causes-why-items.ensures

pub loop-why-preserved : goal.loop-why-preserved
loop-why-preserved c =
    let whys : List Why = c.causes-why-items.result in
    let all = ap (λ (ws : List Why). length ws) c.causes-why-items.ensures in
    let left = c.loop-why-test.true in
    let less : c.loop-why.why-index < length whys = omega (arith, all, left) in
    let now : Count = c.loop-why.now in
    let blamed = λ (k : ℕ) (x : Count). blamed_by c.args.blame c.args.seen.now c.args.before.now c.args.after.now
    (drop k whys) x in
    ap (λ (k : ℕ). blamed k c.counted_if-now.result) (add-one c.loop-why.why-index)
    ∙ ap (λ (x : Count). blamed (suc c.loop-why.why-index) x)
    (c.counted_if-now.ensures
    ∙ ap (λ (so : Bool). if so then once_more c.args.seen.now.number now else now) c.is_blamed-so.ensures)
    ∙ sym (inserted_step c.args.blame c.args.seen.now c.args.before.now c.args.after.now whys c.loop-why.why-index now
    _ less)
    ∙ c.loop-why.invariant

pub returns : goal.returns
unfolding blamed_on
returns c =
    let whys : List Why = c.causes-why-items.result in
    let all = ap (λ (ws : List Why). length ws) c.causes-why-items.ensures in
    let end = c.loop-why-test.false in
    sym (inserted_end c.args.blame c.args.seen.now c.args.before.now c.args.after.now whys c.loop-why.why-index
    c.loop-why.now (omega (arith, all, end)))
    ∙ c.loop-why.invariant
