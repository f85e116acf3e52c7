use Rattle.std.proofs.Common.{◌≡◌, ◌≤◌, ◌-◌, true, length, take}
use Rattle.std.specs.Str.{all_ascii_digits}
use Rattle.std.specs.Str.Parse.{digits_value}
use Rattle.gs_script.proofs.cursor.long_mask.Given as goal

abbrev pub invariant-loop-count : goal.invariant-loop-count
invariant-loop-count l = (l.count ≤ length l.text) × (l.value ≤ 340282366920938463463374607431768211455) × (all_ascii_digits (take l.count l.text) ≡ true) × (l.value ≡ digits_value 10 (take l.count l.text))

abbrev pub decreases-loop-count : goal.decreases-loop-count
decreases-loop-count l = length l.text - l.count
