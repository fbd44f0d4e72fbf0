use Rattle.page.proofs.bsdudp_page_run.Goals as goal

pub returns : goal.returns
returns c =
    let s = rw c.config.ensures at c.run_lines-outcome.ensures.served in
    record {
      reported = record {
        outcome = _;
        replies = _;
        unread = _;
        new = s.0;
        allowed = rw c.config.ensures at c.run_lines-outcome.ensures.booted;
        served = rw c.new-replies.ensures.items at s.1;
        numbered = c.number_of.ensures;
        counted = rw c.as_slice.ensures.value at c.hand_over.ensures.len;
        handed = rw c.as_slice.ensures.value at c.hand_over.ensures.handed;
      };
    }
