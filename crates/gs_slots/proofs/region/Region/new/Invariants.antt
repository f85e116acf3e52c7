use Rattle.std.proofs.Common.{◌≡◌, ◌≤◌, replicate}
use Rattle.std.specs.Vec.{vec_capacity}
use Rattle.gs_slots.specs.Spelling.{idle_bytes}
use Rattle.gs_slots.proofs.region.Region.new.Given as goal

abbrev pub invariant-loop : goal.invariant-loop
invariant-loop l = record { idle : l.blocks.items ≡ replicate l.counter idle_bytes; room : l.cpus ≤ vec_capacity l.blocks }
