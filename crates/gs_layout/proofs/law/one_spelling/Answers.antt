use Rattle.gs_layout.proofs.ReadBack.{one_front}
use Rattle.gs_layout.proofs.law.one_spelling.Goals as goal

pub returns : goal.returns
returns c = λ m n x y first second same. one_front m n x y first second same
