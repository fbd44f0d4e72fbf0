use Rattle.std.proofs.Common.{◌≡◌, ◌≤◌, length, take}
use Rattle.ip_reass.specs.Inside.Index.{buckets_of}
use Rattle.ip_reass.proofs.index.Index.catch_up.Given as goal

abbrev pub invariant-rows : goal.invariant-rows
invariant-rows l = record {
  rows : l.self.buckets ≡ buckets_of l.self.count (take l.place l.table);
  few : length l.table ≤ l.self.room;
  count : l.self.count ≡ l.fn.self.count;
  room : l.self.room ≡ l.fn.self.room;
}
