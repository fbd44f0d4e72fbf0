use Rattle.std.proofs.Common.{◌≡◌, Bool, ap, inl, subst, sym, ◌∙◌}
use Rattle.play_pcap.specs.Traces.{Traced}
use Rattle.page.specs.Served.{kept_number}
use Rattle.page.proofs.play.bsdudp_page_capture.Goals as goal

pub returns : goal.returns
returns c =
    let s = rw c.config.ensures at c.play_captured-trace.ensures.served in
    let same = s.4 in
    record {
      kept = inl (record {
        outcome = _;
        objects = _;
        file = _;
        unread = _;
        begun = _;
        new = s.0;
        ticks = c.begin.ensures.ticks;
        headed = rw c.new-2.ensures.items at c.begin.ensures.kept;
        allowed = rw c.config.ensures at c.play_captured-trace.ensures.booted;
        served = rw c.style.ensures.name at (rw c.style.ensures.form at (rw c.new-objects.ensures.items at s.1));
        wrote = sym (c.end-capture.ensures ∙ ap (λ (t : Traced). t.wrote) same);
        numbered = subst
            (λ (b : Bool). c.kept_number_of.result ≡ kept_number b c.play_captured-trace.result.played.outcome)
            (c.is_whole-whole.ensures ∙ ap (λ (t : Traced). t.whole) same) c.kept_number_of.ensures;
        counted = rw c.as_slice.ensures.value at c.hand_over.ensures.len;
        handed = rw c.as_slice.ensures.value at c.hand_over.ensures.handed;
      });
    }
