use Rattle.std.proofs.Common.{◌≡◌, length, Some, refl, sym, ap, ◌∙◌}
use Rattle.std.proofs.lemmas.Option.{slice_get_read}
use Rattle.std.proofs.lemmas.Slice.Eq.{bytes_eq-Decides}
use Rattle.play_wire.proofs.names.is_at.Goals as goal

pub returns-in-Some : goal.returns-in-Some
returns-in-Some c h =
    let found = c.in-Some.ensures.lookup in
    let same : c.as_slice.result.now ≡ c.args.name.now =
    (bytes_eq-Decides c.as_slice.result.now c.args.name.now).0 (sym c.eq.ensures ∙ h) in
    slice_get_read c.args.names.now (length c.args.names.now) c.args.place c.in-Some.it.now refl found.3.0 found.1
    ∙ ap Some (sym c.as_slice.ensures ∙ same)
