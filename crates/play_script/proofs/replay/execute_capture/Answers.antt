use Rattle.std.proofs.Common.{List, ℕ, ◌++◌, ap, ap₂, ◌∙◌}
use Rattle.play_pcap.specs.Results.{capture_text}
use Rattle.play_script.proofs.PlayLemmas.{Played-begun}
use Rattle.play_script.proofs.replay.execute_capture.Goals as goal

pub returns-clause-plays : goal.returns-clause-plays
returns-clause-plays g c = (
  c.play_in-outcome.result,
  c.snapshot_of-before.result,
  c.snapshot_of-after.result,
  Played-begun g.F.Folder.may_have c.args.ask.details c.args.ask.name.now c.play_in-outcome.result _ _ _
      c.new-captured.ensures c.play_in-outcome.ensures,
  c.snapshot_of-before.ensures,
  c.snapshot_of-after.ensures,
  c.append.ensures.items ∙ ap₂ (λ (a b : List ℕ). a ++ b)
      (c.put_outcome.ensures.items ∙ ap (λ (t : List ℕ). t ++ capture_text c.play_in-outcome.result) c.clear.ensures)
      (c.bytes_of.ensures.is ∙ c.put_drops.ensures),
  c.has_failed.ensures,
)
