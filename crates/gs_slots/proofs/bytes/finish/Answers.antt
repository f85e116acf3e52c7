use Rattle.gs_slots.proofs.Exact.{done_read, refused_read}
use Rattle.gs_slots.proofs.bytes.finish.Goals as goal

pub returns-then-eq-clause-refused : goal.returns-then-eq-clause-refused
returns-then-eq-clause-refused c = λ _. refused_read c.args.cpu c.write_refused.new.out c.write_refused.ensures

pub returns-clause-done : goal.returns-clause-done
returns-clause-done c =
    λ s told was. done_read c.args.cpu c.args.out.now c.write_done.new.out s c.args.outcome c.args.at c.args.seen told c.requires.at c.ranges.seen.fits c.write_done.ensures was
