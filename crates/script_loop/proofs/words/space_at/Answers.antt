use Rattle.script_loop.proofs.WordLemmas.{first-position}
use Rattle.script_loop.proofs.words.space_at.Goals as goal

pub returns : goal.returns
returns c = first-position c.args.text.now c.memchr.result c.memchr.ensures
