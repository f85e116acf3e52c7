use Rattle.std.proofs.Common.{[]}
use Rattle.gs_board.proofs.Moves.{opens}
use Rattle.gs_board.proofs.opened.Opened.make.Goals as goal

pub of_words-requires : goal.of_words-requires
of_words-requires c = opens c.role_word-role.result 0 0 [] c.role_word-role.ensures.narrow
