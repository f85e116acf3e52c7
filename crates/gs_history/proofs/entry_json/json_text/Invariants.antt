use Rattle.std.proofs.Common.{◌≡◌, take}
use Rattle.gs_history.specs.Json.{json_lines}
use Rattle.gs_history.proofs.entry_json.json_text.Given as goal

abbrev pub invariant-loop-place : goal.invariant-loop-place
invariant-loop-place l = l.out ≡ json_lines (take l.place l.journal.entries)
