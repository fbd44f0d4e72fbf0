use Rattle.std.proofs.Common.{◌∙◌, ◌∷◌, [], ◌++◌, List, map, ap, refl}
use Rattle.std.proofs.lemmas.List.{map-append}
use Rattle.flat_model.specs.declared.config.Config.{Config}
use Rattle.flat_ether.specs.Links.{LinkState}
use Rattle.ether_host.specs.Inside.{link_seen}
use Rattle.ether_host.specs.declared.layer.LinkLayer.{LinkLayer}
use Rattle.net_stack.specs.Stack.{StackView}
use Rattle.segment.specs.Chances.{no_chances}
use Rattle.segment.specs.Inside.{view}
use Rattle.segment.specs.Tallies.{nothing_counted}
use Rattle.segment.specs.declared.chances.Chances.{Chances}
use Rattle.segment.specs.declared.tally.Tally.{Tally}
use Rattle.segment.proofs.Framing.{unbooted, view_same}
use Rattle.segment.proofs.segment.Segment.join_ether.Goals as goal

pub returns-in-Ok-boot : goal.returns-in-Ok-boot
returns-in-Ok-boot c =
    let layer = c.in-Ok.layer in
    record {
      free = c.in_ok-check_ether.ensures;
      is_config = c.in-Ok-boot.ensures.booted.0;
      stack = c.in-Ok-boot.stack;
      started = c.in-Ok-boot.ensures.booted.1;
      configs =
          c.add.ensures ∙ ap (λ (xs : List Config). xs ++ c.args.config ∷ []) c.reserve.ensures.same;
      stacks =
          c.push_reserved.ensures.items
          ∙ ap (λ (xs : List StackView). xs ++ c.in-Ok-boot.stack ∷ []) c.reserve-else-is_err.ensures.items;
      links =
          ap (map link_seen) c.push_reserved-in-Ok-boot.ensures.items
          ∙ map-append link_seen c.reserve-else-is_err-2.new.self.items (layer ∷ [])
          ∙ ap (λ (xs : List LinkLayer). map link_seen xs ++ link_seen layer ∷ []) c.reserve-else-is_err-2.ensures.items
          ∙ ap (λ (l : LinkState). map link_seen c.args.self.now.links.items ++ l ∷ []) c.in-Ok.ensures;
      flight = refl;
      room = refl;
      chances =
          c.push_reserved-in-Ok-boot-2.ensures.items
          ∙ ap (λ (xs : List Chances). xs ++ no_chances ∷ []) c.reserve-else-is_err-3.ensures.items;
      tallies =
          c.push_reserved-in-Ok-boot-3.ensures.items
          ∙ ap (λ (xs : List Tally). xs ++ nothing_counted ∷ []) c.reserve-else-is_err-4.ensures.items;
      random = refl;
    }

pub returns-in-Err : goal.returns-in-Err
returns-in-Err c =
    let v = view c.args.self.now in (
      unbooted c.in-Err.fault v c.args.config c.args.link c.in_ok-check_ether.ensures c.in-Err.ensures.booted,
      view_same v c.reserve.new.self.configs.items c.reserve-else-is_err.new.self.items
          (map link_seen c.reserve-else-is_err-2.new.self.items) c.reserve-else-is_err-3.new.self.items
          c.reserve-else-is_err-4.new.self.items c.reserve.ensures.same c.reserve-else-is_err.ensures.items
          (ap (map link_seen) c.reserve-else-is_err-2.ensures.items) c.reserve-else-is_err-3.ensures.items
          c.reserve-else-is_err-4.ensures.items,
    )
