use Rattle.std.proofs.Common.{map, sym, ap}
use Rattle.std.specs.String.{string_bytes}
use Rattle.link_script.proofs.ProgramLemmas.{Asked-words}
use Rattle.link_script.proofs.command_line.task_named.Goals as goal

pub returns-in-Ok : goal.returns-in-Ok
returns-in-Ok c =
    Asked-words _ _ _ _ _ _ c.in-Ok.is (ap (map string_bytes) (sym c.as_slice.ensures.value)) c.read_words.ensures
