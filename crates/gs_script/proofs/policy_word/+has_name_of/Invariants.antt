use Rattle.std.proofs.Common.{length}
use Rattle.gs_script.proofs.policy_word.+has_name_of.Given as goal

abbrev pub decreases-has_name_of : goal.decreases-has_name_of
decreases-has_name_of l = length l.forms.now
