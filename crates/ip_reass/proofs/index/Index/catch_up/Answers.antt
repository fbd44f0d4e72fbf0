use Rattle.std.proofs.Common.{ℕ, ◌+◌, take, refl, ap, sym, ◌∙◌, arith}
use Rattle.ip_reass.specs.Inside.Index.{buckets_of}
use Rattle.ip_reass.proofs.IndexAfter.{first_taken, renewed}
use Rattle.ip_reass.proofs.index.Index.catch_up.Goals as goal

pub rows-init : goal.rows-init
rows-init c = record {
  rows = first_taken c.args.self.now.count c.len-place.result c.args.self.now.buckets c.args.table.now c.requires.first
      c.len-place.ensures.is;
  few = c.requires.room;
  count = refl;
  room = refl;
}

pub rows-preserved : goal.rows-preserved
rows-preserved c = record {
  rows = c.add.ensures.rows
      ∙ renewed c.rows.self.count c.bucket-bucket.result c.rows.self.buckets c.args.table.now c.rows.place
      c.index-table-place.result c.rows.invariant.rows c.rows-test.true c.bucket-bucket.ensures.is
      ∙ ap (λ (n : ℕ). buckets_of n (take (c.rows.place + 1) c.args.table.now)) (sym c.add.ensures.count);
  few = omega (arith, c.rows.invariant.few, c.add.ensures.room);
  count = c.add.ensures.count ∙ c.rows.invariant.count;
  room = c.add.ensures.room ∙ c.rows.invariant.room;
}
