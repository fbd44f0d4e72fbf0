use Rattle.std.proofs.Common.{◌≡◌, ℕ, ◌<◌, take, get_or}
use Rattle.std.specs.Prelude.{remove}
use Rattle.ip_reass.specs.Inside.Index.{AreLinked, buckets_in}
use Rattle.ip_reass.specs.declared.index.Row.{Row}
use Rattle.ip_reass.proofs.index.close_up.Given as goal

-- the rows up to k are in place, and those after it are unchanged
abbrev pub invariant-rows : goal.invariant-rows
invariant-rows l = record {
  linked : AreLinked l.lasts l.rows l.k;
  done : buckets_in l.rows l.k ≡ take l.k (remove (buckets_in l.fn.rows l.len) l.place);
  rest : (j : ℕ) (d : Row) → l.k < j → get_or l.rows j d ≡ get_or l.fn.rows j d;
}
