-- The datagrams that a tick drops, as functions of the flat machine's (this project's own; `ip_slowtimo` of volume 2,
-- chapter 10, tells nobody).
use Rattle.std.specs.Prelude.{◌≡◌, ℕ, ◌+◌, ◌-◌, ◌≤◌, ◌==◌, List, ◌++◌, length, map, filter, take, drop, is_some}
use Rattle.flat_model.specs.Machine.State.{Unfinished}
use Rattle.ip_reass.specs.declared.expiring.Expired.{Expired}

-- a datagram, and whether its first byte has arrived
abbrev pub to_expired : Unfinished → Expired
to_expired u = record { key = u.key; has_first = is_some (u.bytes 0) }

-- those that have no tick left after the next one, in order
abbrev pub expired_among : List Unfinished → List Expired
expired_among us = map to_expired (filter (λ u. u.ticks - 1 == 0) us)

-- A list of places. `count` of them were in use, and `more` follow: those that have a place are written. Then `now` are
-- in use.
pub record IsListed (old : List Expired) (count : ℕ) (more : List Expired) (new : List Expired) (now : ℕ) : Type 0 where
  pub number : now ≡ count + length more
  pub len : length new ≡ length old
  pub listed : (before : List Expired) → length before ≡ count → take count old ≡ take (length old) before
      → take now new ≡ take (length old) (before ++ more)
  pub rest : (k : ℕ) → now ≤ k → drop k new ≡ drop k old
