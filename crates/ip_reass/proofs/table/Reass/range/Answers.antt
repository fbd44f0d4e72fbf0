use Rattle.std.proofs.Common.{List, ap, ◌∙◌, sym, subst}
use Rattle.ip_reass.specs.Questions.{nth_range}
use Rattle.ip_reass.specs.Table.{TableView, IsTable, unfinished}
use Rattle.ip_reass.specs.declared.datagram.Datagram.{Datagram}
use Rattle.ip_reass.proofs.table.Reass.range.Goals as goal

pub range_in-requires : goal.range_in-requires
range_in-requires c =
    subst (IsTable c.args.pool.now)
    (sym (c.as_slice.ensures.value ∙ ap (λ (r : TableView). r.datagrams) c.self.view_is)) c.requires

pub returns : goal.returns
returns c =
    c.range_in.ensures ∙ ap (λ (ds : List Datagram). nth_range c.args.i c.args.k (unfinished c.args.pool.now ds))
    (c.as_slice.ensures.value ∙ ap (λ (r : TableView). r.datagrams) c.self.view_is)
