use Rattle.std.proofs.Common.{[], refl}
use Rattle.std.proofs.lemmas.List.Elements.{All-nil}
use Rattle.gs_layout.specs.Spelling.{IsSpellable}
use Rattle.gs_ring.proofs.Standing.{stands_row}
use Rattle.gs_ring.proofs.waiting.Waiting.none.Goals as goal

pub new-requires : goal.new-requires
new-requires c = ([], stands_row [] (All-nil IsSpellable), refl)
