use Rattle.std.proofs.Common.{◌≡◌, false, Option, None, Some, refl, sym, ap, ◌∙◌, subst, arith}
use Rattle.std.specs.Prelude.{is_some}
use Rattle.std.proofs.lemmas.Bool.{true≢false}
use Rattle.std.proofs.lemmas.Option.{none-some}
use Rattle.flat_model.specs.Packets.Header.{head_fault}
use Rattle.flat_model.specs.declared.counters.Why.{Why}
use Rattle.libbsdudp.proofs.Marks.{stays_right}
use Rattle.libbsdudp.proofs.mark.bsdudp_core_mark.Goals as goal

is_none : (o : Option Why) → is_some o ≡ false → o ≡ None
is_none None without = refl
is_none (Some why) without = absurd (true≢false without)

pub returns : goal.returns
returns c =
    let none : head_fault c.args.packet.now ≡ None =
    is_none (head_fault c.args.packet.now)
    (ap is_some (sym c.fault_of.ensures) ∙ sym c.is_some.ensures ∙ c.if-is_some.false) in
    record {
      long = λ more. absurd (omega (arith, c.if-packet.false, more));
      faulty = λ why is. absurd (none-some why (sym none ∙ is));
      marks = λ _ _. (
        refl,
        c.write_fields.ensures,
        subst (λ bytes. head_fault bytes ≡ None) (sym c.write_fields.ensures)
            (stays_right c.args.ttl c.args.tos c.args.packet.now none),
      );
    }
