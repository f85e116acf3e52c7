-- Of a reply's landings.
use Rattle.std.proofs.Common.{◌≤◌, length}
use Rattle.std.proofs.lemmas.List.Sums.{count_by-le-length}
use Rattle.gs_replies.specs.declared.reply.Reply.{Reply}
use Rattle.gs_report.specs.Counts.{is_placed, landings_of, placed_in}

pub among_landings : (r : Reply) → placed_in r ≤ length (landings_of r)
unfolding placed_in
among_landings r = count_by-le-length is_placed (landings_of r)
