use Rattle.gs_script.proofs.Digits.{widened}
use Rattle.gs_script.proofs.cursor.mask_first.Goals as goal

pub returns-in_default : goal.returns-in_default
returns-in_default c = widened c.args.text.now c.in_ok-value.rest.now c.in_ok-value.value c.in_ok-value.ensures
