use Rattle.std.proofs.Common.{◌≡◌, ◌++◌, map}
use Rattle.serde_json.specs.Data.{string}
use Rattle.serde_json.specs.Written.{comma_if}
use Rattle.gs_explain.specs.Composed.{between_commas, comma_behind}
use Rattle.gs_explain.proofs.object.push_lines.Given as goal

abbrev pub invariant-loop-line : goal.invariant-loop-line
invariant-loop-line l =
    record {
      later : comma_if l.later ≡ comma_behind (map string (map (λ line. line.now) l.yielded));
      shown : l.out ≡ l.fn.out ++ between_commas (map string (map (λ line. line.now) l.yielded));
    }
