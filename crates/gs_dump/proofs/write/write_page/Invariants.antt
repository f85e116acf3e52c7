use Rattle.std.proofs.Common.{◌≡◌, ◌++◌, take}
use Rattle.std.specs.List.{flat_map}
use Rattle.gs_dump.specs.declared.version.Version.TheVariants as versions
use Rattle.gs_dump.specs.Page.{header_bytes}
use Rattle.gs_dump.specs.Record.{record_spelling}
use Rattle.gs_dump.proofs.write.write_page.Given as goal

abbrev pub invariant-loop-record : goal.invariant-loop-record
invariant-loop-record l = l.bytes.items ≡ header_bytes l.page ++ flat_map (record_spelling versions.Two) (take l.record-index l.page.records)
