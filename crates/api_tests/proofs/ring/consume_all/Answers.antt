use Rattle.std.proofs.Common.{[], sym, append-nil}
use Rattle.api_tests.proofs.ring.consume_all.Goals as goal

pub consume-requires : goal.consume-requires
consume-requires c = let v = c.args.ring.now in (v.unread, ([], sym (append-nil v.unread)), c.front.ensures.all)
