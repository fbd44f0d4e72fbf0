use Rattle.std.proofs.Common.{List, ℕ, map, sym, ap, ◌∙◌}
use Rattle.std.specs.String.{string_bytes}
use Rattle.clap.specs.Words.{App, found_of, rows_of, is_simple, is_simple_and_free, subcommand_of, fault_of}
use Rattle.clap.proofs.WalkLemmas.{first_value-rows}
use Rattle.link_script.proofs.OptionLemmas.{Gives-names, both-of}
use Rattle.link_script.proofs.options.named.Goals as goal

pub returns-in-Some : goal.returns-in-Some
returns-in-Some c =
    let words : List (List ℕ) = map string_bytes c.args.words.now in
    let whole = c.in_ok-command.ensures in
    let matches = c.in_ok-matches.ensures.matches (ap is_simple whole) in
    let faults = c.in_ok-matches.ensures.kinds (ap is_simple_and_free whole) in
    let own =
    both-of _ _ _ c.in-Some.name.now (rows_of (found_of c.in-Some.found.now)) c.in-Some.ensures.name
    c.in-Some.ensures.rows in
    Gives-names _ words c.in-Some.name.now _ (rows_of (found_of c.in-Some.found.now)) c.task_of.result
    (sym (ap (λ (a : App). fault_of a words) whole) ∙ faults)
    (sym (matches.1 ∙ ap (λ (a : App). subcommand_of a words) whole) ∙ own)
    (first_value-rows (found_of c.in-Some.found.now)) c.task_of.ensures
