use Rattle.gs_reader.proofs.Creations.{front_more}
use Rattle.gs_reader.proofs.facts.copy_part.Goals as goal

pub returns : goal.returns
returns c = front_more c.args.from c.args.to c.args.field.now c.args.name.now c.copy_from_slice.new.self c.requires.order c.requires.most c.requires.there c.requires.front c.copy_from_slice.ensures.after
