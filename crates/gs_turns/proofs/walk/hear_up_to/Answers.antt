use Rattle.std.proofs.Common.{◌∙◌, ap, sym, arith}
use Rattle.gs_turns.specs.Knowing.{heard}
use Rattle.gs_turns.proofs.Knowing.{known_more}
use Rattle.gs_turns.proofs.walk.hear_up_to.Goals as goal

pub loop-place-preserved : goal.loop-place-preserved
loop-place-preserved c = λ t.
    c.in_ok-hear.ensures t
    ∙ (ap (heard c.loop-place.place t c.entry.result) (c.loop-place.invariant t)
    ∙ sym (known_more c.args.journal.now.entries c.loop-place.place t c.entry.result (let to = c.requires.within in omega arith) c.entry.ensures.item))
