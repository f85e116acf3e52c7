-- The search finds these too. They are written so that a wrong body fails at them at once.
use Rattle.gs_trace.proofs.run.run_report.Goals as goal

pub returns-clause-ended : goal.returns-clause-ended
returns-clause-ended g c = c.run_as.ensures.ended

pub returns-clause-read : goal.returns-clause-read
returns-clause-read g c = c.run_as.ensures.read

pub returns-clause-begun : goal.returns-clause-begun
returns-clause-begun g c = c.run_as.ensures.begun
