use Rattle.std.proofs.Common.{◌≡◌, ◌++◌, List, ℕ, subst}
use Rattle.std.specs.Prelude.{OnOk}
use Rattle.page.proofs.Lines.{sockets_are}
use Rattle.page.proofs.mbufs.put_sockets.Goals as goal

pub returns : goal.returns
returns c =
    subst (λ (xs : List ℕ). OnOk c.put_below.result (c.put_below.new.text.items ≡ c.args.text.now.items ++ xs))
    (sockets_are c.args.stack.now) c.put_below.ensures
