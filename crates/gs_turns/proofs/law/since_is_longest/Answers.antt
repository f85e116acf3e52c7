use Rattle.gs_turns.proofs.Lasting.{lasts_since}
use Rattle.gs_turns.proofs.law.since_is_longest.Goals as goal

pub returns-clause-lasts : goal.returns-clause-lasts
returns-clause-lasts c = lasts_since
