use Rattle.std.proofs.Common.{arith, sym, ◌≡◌, ◌<◌, take, get_or}
use Rattle.std.proofs.lemmas.Grind.{common_steps}
use Rattle.std.proofs.lemmas.List.{take-append-drop, take_rest}
use Rattle.gs_script.proofs.Digits.{read_number}
use Rattle.gs_script.proofs.cursor.digits_first.Goals.{else-count-gt1-via-then-count-gt1+else-text-eq48, else-count-gt1-via-else-count-gt1}
use Rattle.gs_script.proofs.cursor.digits_first.Goals as goal

pub returns : goal.returns
returns c =
    let k = c.sure_digits-value.ensures in
    let value = c.sure_digits-value.result.0 in
    let n = c.sure_digits-value.result.1 in
    let text = c.args.text.now in
    let some : 0 < n = omega arith in
    let plain : 1 < n → get_or text 0 0 ≡ 48 → ⊥ =
    elim c.else-count-gt1.branch [
      | else-count-gt1-via-then-count-gt1+else-text-eq48 w ↦ λ more is. let f = w.if-text-eq48.false in grind (arith, common_steps)
      | else-count-gt1-via-else-count-gt1 w ↦ λ more is. let f = w.if-count-gt1.false in grind (arith, common_steps)
    ] in
    record {
      front = take n text;
      cut = rw (take_rest text n) (sym (take-append-drop n text));
      is = read_number 18446744073709551615 text n value k.within (omega arith) k.digits k.value some plain;
    }
