use Rattle.gs_runner.proofs.kept.CallList.push_told.Goals as goal

pub returns-clause-calls : goal.returns-clause-calls
returns-clause-calls c = λ h is e w. c.push_copied.ensures.calls h c.args.end w

pub returns-clause-within : goal.returns-clause-within
returns-clause-within c = λ w. c.push_copied.ensures.within c.args.end w
