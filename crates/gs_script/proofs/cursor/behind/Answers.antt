use Rattle.gs_script.proofs.PlainWords.{behind_front}
use Rattle.gs_script.proofs.cursor.behind.Goals as goal

pub returns : goal.returns
returns c = behind_front c.strip_prefix.result c.args.text.now c.args.front.now c.strip_prefix.ensures.cases
