-- A page that is written is read again.
use Rattle.std.proofs.Common.{List, [], ◌∷◌, arith}
use Rattle.std.specs.List.{AllByRecursion}
use Rattle.gs_dump.specs.declared.record.DumpRecord.{DumpRecord}
use Rattle.gs_dump.specs.declared.version.Version.TheVariants.{Two}
use Rattle.gs_dump.specs.Record.{FitsIn, IsLive}

-- version 2 spells every mask
pub all_fit : (rs : List DumpRecord) → AllByRecursion IsLive rs → AllByRecursion (FitsIn Two) rs
all_fit [] live = tt
all_fit (r ∷ rs) live = (let m = live.0.mask in omega arith, all_fit rs live.1)
