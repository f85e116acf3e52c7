use Rattle.std.proofs.Common.{◌≡◌, ◌++◌, take}
use Rattle.std.specs.List.{flat_map}
use Rattle.gs_compare.specs.Records.{header_fields, record_text, row_records}
use Rattle.gs_compare.proofs.records.records_of.Given as goal

abbrev pub invariant-loop-row : goal.invariant-loop-row
invariant-loop-row g l = l.out.items ≡ record_text header_fields ++ flat_map (row_records g.P.NamedPolicy.naming l.seeds) (take l.row-index l.rows)
