use Rattle.std.proofs.Common.{◌≤◌, ◌++◌, drop, length}
use Rattle.gs_explain.specs.Retold.{Leads, retold}
use Rattle.gs_explain.proofs.pieces.write_retold.Given as goal

abbrev pub invariant-loop-piece : goal.invariant-loop-piece
invariant-loop-piece g l =
    record {
      within : l.done ≤ length l.text;
      leads : Leads (g.W.Write.contents l.fn.writer) (retold 0 l.pieces l.text) (g.W.Write.contents l.writer) (l.block.items ++ retold l.done (drop l.piece-index l.pieces) l.text);
    }
