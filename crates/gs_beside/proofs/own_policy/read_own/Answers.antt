use Rattle.std.proofs.Common.{[], ◌∷◌, ap, sym, ◌∙◌}
use Rattle.gs_script.specs.Grammar.{Form, first_fault}
use Rattle.gs_script.specs.Rows.{shown}
use Rattle.gs_beside.specs.Own.{are_in}
use Rattle.gs_beside.specs.Beside.{are_numbers}
use Rattle.gs_beside.proofs.Reading.{ranges_numbers, read_in}
use Rattle.gs_beside.proofs.own_policy.read_own.Goals as goal

pub read_numbers-requires-clause-numbers : goal.read_numbers-requires-clause-numbers
read_numbers-requires-clause-numbers g c = ap are_numbers c.own_numbers.ensures ∙ ranges_numbers g.P.OwnWords.own.ranges

pub of-requires : goal.of-requires
of-requires g c =
    let ws = shown c.args.words.now in
    let none = sym (ap (λ (form : Form). first_fault (form ∷ []) ws) c.own_numbers.ensures) ∙ c.in_ok-numbers.ensures.none in
    ap (are_in g.P.OwnWords.own.ranges) c.in_ok-numbers.ensures.read ∙ read_in g.P.OwnWords.own.ranges ws none
