use Rattle.std.proofs.Common.{ℕ, Option, map, sym, ap, ◌∙◌}
use Rattle.flat_ether.specs.Icmp.{quote_of}
use Rattle.flat_ether.specs.Links.{quote_in}
use Rattle.ether_host.proofs.Kept.{kept_at, kept_place}
use Rattle.ether_host.proofs.fragments.kept_with.Goals as goal

pub returns-in-Some : goal.returns-in-Some
returns-in-Some c =
    kept_at c.args.firsts.now c.in-Some.at c.args.key (sym c.place_of.ensures ∙ c.in-Some.is)
    ∙ ap (λ (at : Option ℕ). quote_in at (map quote_of c.args.firsts.now))
    (sym c.in-Some.is ∙ c.place_of.ensures ∙ sym (kept_place c.args.key c.args.firsts.now))

pub returns-in-None : goal.returns-in-None
returns-in-None c =
    ap (λ (at : Option ℕ). quote_in at (map quote_of c.args.firsts.now))
    (sym c.in-None.is ∙ c.place_of.ensures ∙ sym (kept_place c.args.key c.args.firsts.now))
