use Rattle.page.proofs.Lines.{is_text}
use Rattle.page.proofs.state.picture_of.Goals as goal

pub returns : goal.returns
returns c =
    is_text c.args.stack.now _ c.laws.ensures.stack (rw c.new-text.ensures.items at c.in_ok-put_state.ensures)
