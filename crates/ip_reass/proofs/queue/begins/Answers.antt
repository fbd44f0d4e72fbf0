use Rattle.std.proofs.Common.{◌/◌, ap, ◌∙◌, sym}
use Rattle.ip_reass.specs.Fragments.{QueuedFragment}
use Rattle.ip_reass.proofs.Steps.{queued_is}
use Rattle.ip_reass.proofs.queue.begins.Goals as goal

pub returns : goal.returns
returns c =
    c.offset.ensures ∙ ap (λ x. x / 2) c.tag_at.ensures
    ∙ ap (λ (q : QueuedFragment). q.offset)
    (sym (queued_is c.args.pool.now c.args.train.now c.args.at.index c.requires.held c.requires.place.within))
