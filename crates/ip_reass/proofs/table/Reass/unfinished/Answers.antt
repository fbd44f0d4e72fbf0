use Rattle.std.proofs.Common.{List, ap, ◌∙◌, sym, subst}
use Rattle.ip_reass.specs.Questions.{nth_unfinished}
use Rattle.ip_reass.specs.Table.{TableView, IsTable, unfinished}
use Rattle.ip_reass.specs.declared.datagram.Datagram.{Datagram}
use Rattle.ip_reass.proofs.table.Reass.unfinished.Goals as goal

pub unfinished_at-requires : goal.unfinished_at-requires
unfinished_at-requires c =
    subst (IsTable c.args.pool.now)
    (sym (c.as_slice.ensures.value ∙ ap (λ (r : TableView). r.datagrams) c.self.view_is)) c.requires

pub returns : goal.returns
returns c =
    c.unfinished_at.ensures ∙ ap (λ (ds : List Datagram). nth_unfinished c.args.i (unfinished c.args.pool.now ds))
    (c.as_slice.ensures.value ∙ ap (λ (r : TableView). r.datagrams) c.self.view_is)
