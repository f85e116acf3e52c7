use Rattle.std.proofs.Common.{◌≡◌, true, ◌+◌, ◌-◌, ◌*◌, ◌≤◌, ◌++◌, length, map, vec_len}
use Rattle.std.specs.Prelude.{vec_capacity}
use Rattle.gs_dump.specs.Version.{record_len}
use Rattle.gs_dump.specs.Reading.{field_fault, record_in, texts}
use Rattle.gs_dump.proofs.read.read_records.Given as goal

abbrev pub invariant-loop : goal.invariant-loop
invariant-loop l = record {
  fault : field_fault l.version l.fits l.rise l.last l.next (texts l.version (l.count - l.counter) l.rest) ≡ field_fault l.version l.fit true 0 l.next (texts l.version l.count l.bytes);
  size : length l.rest ≡ record_len l.version * (l.count - l.counter);
  room : l.roomy ≡ true → vec_len l.records + (l.count - l.counter) ≤ vec_capacity l.records;
  found : l.roomy ≡ true → l.fits ≡ true → l.records.items ++ map (record_in l.version) (texts l.version (l.count - l.counter) l.rest) ≡ map (record_in l.version) (texts l.version l.count l.bytes);
}
