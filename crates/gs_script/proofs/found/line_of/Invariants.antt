use Rattle.std.proofs.Common.{◌≡◌, ◌≤◌, ◌-◌, ◌∷◌, ◌&&◌, [], get_or, take}
use Rattle.std.specs.List.{list_all}
use Rattle.gs_script.specs.Plain.{lines_left}
use Rattle.gs_script.specs.Words.{words_of}
use Rattle.gs_script.specs.Script.{is_passed_over}
use Rattle.gs_script.specs.Found.{is_header, line_at}
use Rattle.gs_script.proofs.found.line_of.Given as goal

abbrev pub invariant-loop-seen : goal.invariant-loop-seen
invariant-loop-seen l =
    record {
      some : 1 ≤ l.seen;
      few : l.seen ≤ l.number;
      line : get_or (l.line ∷ lines_left l.left) (l.number - l.seen) [] ≡ line_at l.number l.bytes;
      header : l.silent && list_all (λ line. is_passed_over (words_of line)) (take (l.number - l.seen) (l.line ∷ lines_left l.left)) ≡ is_header l.number l.bytes;
    }

abbrev pub decreases-loop-seen : goal.decreases-loop-seen
decreases-loop-seen l = l.number - l.seen
