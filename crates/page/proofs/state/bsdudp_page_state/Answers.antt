use Rattle.std.proofs.Common.{Some, None, refl}
use Rattle.std.specs.Prelude.{Ok, Err}
use Rattle.page.proofs.state.bsdudp_page_state.Goals as goal

pub returns-in-Ok-Some : goal.returns-in-Ok-Some
returns-in-Ok-Some c =
    let s = rw c.config.ensures at c.in-Ok-Some.ensures.drawn in
    record {
      pictured = record {
        outcome = Ok (Some c.in-Ok-Some.text.items);
        replies = _;
        unread = _;
        new = s.0;
        allowed = rw c.config.ensures at c.in-Ok-Some.ensures.booted;
        answered = rw c.new-replies.ensures.items at s.1;
        drawn = rw c.in-Ok-Some.field-0-is at s.2;
        numbered = c.number_of.ensures;
        counted = rw c.as_slice.ensures.value at c.hand_over.ensures.len;
        handed = rw c.as_slice.ensures.value at c.hand_over.ensures.handed;
      };
    }

pub returns-in-Ok-None : goal.returns-in-Ok-None
returns-in-Ok-None c =
    let s = rw c.config.ensures at c.in-Ok-None.ensures.drawn in
    record {
      pictured = record {
        outcome = Ok None;
        replies = _;
        unread = _;
        new = s.0;
        allowed = rw c.config.ensures at c.in-Ok-None.ensures.booted;
        answered = rw c.new-replies.ensures.items at s.1;
        drawn = tt;
        numbered = c.number_of-in-Ok-None.ensures;
        counted = refl;
        handed = record { fits = λ _. refl; lacks = λ _. refl };
      };
    }

pub returns : goal.returns
returns c =
    let t = rw c.new-replies.ensures.items at (rw c.config.ensures at c.picture.ensures.drawn) in
    let s = rw c.in-Err.is at t in
    record {
      pictured = record {
        outcome = Err c.in-Err.fault;
        replies = _;
        unread = _;
        new = s.0;
        allowed = rw c.in-Err.is at (rw c.config.ensures at c.picture.ensures.booted);
        answered = s.1;
        drawn = tt;
        numbered = c.number_of-in-Err.ensures;
        counted = refl;
        handed = record { fits = λ _. refl; lacks = λ _. refl };
      };
    }
