use Rattle.std.proofs.Common.{◌++◌, drop}
use Rattle.gs_explain.specs.Outlined.{all_events, outlines_text}
use Rattle.gs_explain.specs.Retold.{Leads}
use Rattle.gs_explain.proofs.objects.write_objects.Given as goal

abbrev pub invariant-loop-short : goal.invariant-loop-short
invariant-loop-short g l =
    Leads (g.W.Write.contents l.fn.writer) (outlines_text l.text (all_events l.asides l.shorts)) (g.W.Write.contents l.writer) (l.block ++ outlines_text l.text (all_events l.asides (drop l.short-index l.shorts)))
