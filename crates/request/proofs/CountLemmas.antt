-- The text of counters, one after another.
use Rattle.std.proofs.Common.{◌≡◌, ℕ, ◌≤◌, List, ◌++◌, length, take, flat_map, map, codes, arith, ap, ◌∙◌, append_assoc}
use Rattle.std.proofs.lemmas.List.{take_all}
use Rattle.flat_model.specs.Machine.Count.{all_counters, counter_name, value_of}
use Rattle.flat_model.specs.Scripts.Texts.{counters_text, count, count_text}
use Rattle.flat_model.specs.declared.counter.Counter.{Counter}
use Rattle.flat_model.specs.declared.counters.Counters.{Counters}

-- the text of these counters
abbrev pub texts : Counters → List Counter → List ℕ
texts c items = flat_map count_text (map (λ counter. count (counter_name counter) (value_of counter c)) items)

-- the text of all of them
pub all_texts : (before text : List ℕ) (c : Counters) (items : List Counter) (i : ℕ) → items ≡ all_counters → 26 ≤ i
    → text ≡ (before ++ codes "stat") ++ texts c (take i items) → text ≡ before ++ counters_text c
all_texts before text c items i all past is =
    let count : length items ≡ 26 = ap length all in
    let long : length items ≤ i = omega (arith, count, past) in
    is ∙ ap (λ (xs : List Counter). (before ++ codes "stat") ++ texts c xs) (take_all i items long)
    ∙ append_assoc before (codes "stat") (texts c items)
    ∙ ap (λ (xs : List Counter). before ++ (codes "stat" ++ texts c xs)) all
