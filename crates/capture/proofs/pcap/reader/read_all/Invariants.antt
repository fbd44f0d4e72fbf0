use Rattle.std.proofs.Common.{◌≡◌, ◌+◌, ◌++◌, length, drop, map, Ok}
use Rattle.std.specs.List.{AllByRecursion}
use Rattle.capture.specs.File.{header_of}
use Rattle.capture.specs.Records.{FitsFields, records_bytes}
use Rattle.capture.specs.Seen.{captured}
use Rattle.capture.proofs.pcap.reader.read_all.Given as goal

abbrev pub invariant-loop-records : goal.invariant-loop-records
invariant-loop-records l = record {
  read : header_of l.file ≡ Ok l.reader.header;
  fit : AllByRecursion FitsFields (map captured l.records.items);
  bytes_are : drop 24 l.file ≡ records_bytes l.reader.header.order (map captured l.records.items) ++ l.reader.rest;
  offset_is : l.reader.offset ≡ 24 + length (records_bytes l.reader.header.order (map captured l.records.items));
}

abbrev pub decreases-loop-records : goal.decreases-loop-records
decreases-loop-records l = length l.reader.rest
