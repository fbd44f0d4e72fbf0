use Rattle.std.proofs.Common.{◌≡◌, List, [], length, refl, subst, sym, ap, take, ◌∙◌, arith}
use Rattle.std.proofs.lemmas.List.{take_all}
use Rattle.ip_reass.specs.Expiring.{IsListed, expired_among}
use Rattle.ip_reass.specs.Table.{TableView, IsTable, unfinished}
use Rattle.ip_reass.specs.declared.datagram.Datagram.{Datagram}
use Rattle.ip_reass.specs.declared.expiring.Expired.{Expired}
use Rattle.ip_reass.proofs.table.Reass.expiring.Goals as goal
use Rattle.ip_reass.proofs.table.Reass.expiring.Goals.{After-list_all_expiring}

same : (c : After-list_all_expiring) → c.as_slice.result.now ≡ c.args.self.now.datagrams
same c = c.as_slice.ensures.value ∙ ap (λ (r : TableView). r.datagrams) c.self.view_is

pub list_all_expiring-requires : goal.list_all_expiring-requires
list_all_expiring-requires c =
    subst (IsTable c.args.pool.now)
    (sym (c.as_slice.ensures.value ∙ ap (λ (r : TableView). r.datagrams) c.self.view_is)) c.requires

all : (c : After-list_all_expiring) → IsListed c.args.list.now 0
    (expired_among (unfinished c.args.pool.now c.args.self.now.datagrams)) c.list_all_expiring.new.list
    c.list_all_expiring.result
all c =
    subst (λ (ds : List Datagram). IsListed c.args.list.now 0 (expired_among (unfinished c.args.pool.now ds))
    c.list_all_expiring.new.list c.list_all_expiring.result) (same c) c.list_all_expiring.ensures

pub returns-clause-number : goal.returns-clause-number
returns-clause-number c = omega (arith, (all (goal.at.returns-clause-number c).After-list_all_expiring).number)

pub returns-clause-listed : goal.returns-clause-listed
returns-clause-listed c =
    let is = all (goal.at.returns-clause-listed c).After-list_all_expiring in
    let xs : List Expired = expired_among (unfinished c.args.pool.now c.args.self.now.datagrams) in
    is.listed [] refl (sym (take_all (length c.args.list.now) [] (omega arith))) ∙ ap (λ n. take n xs) (sym is.len)

pub returns-clause-rest : goal.returns-clause-rest
returns-clause-rest c =
    (all (goal.at.returns-clause-rest c).After-list_all_expiring).rest c.list_all_expiring.result (omega arith)
