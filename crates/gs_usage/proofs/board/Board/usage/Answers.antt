use Rattle.std.proofs.Common.{◌∙◌, ◌+◌, sym, arith}
use Rattle.gs_usage.specs.declared.usage.Use.TheVariants.{Other, Agent, Busy, Wanted, Idle}
use Rattle.gs_usage.proofs.Adding.{same_uses, usage_is}
use Rattle.gs_usage.proofs.Boarding.{entries_in, ticks_in_all, time_told}
use Rattle.gs_usage.proofs.board.Board.usage.Goals as goal

pub time-requires-clause-fits : goal.time-requires-clause-fits
time-requires-clause-fits c = entries_in c.args.journal.now.entries c.len-end.result c.args.self.now.first 18446744073709551615 c.args.cpu Busy c.args.self.now.busy c.len-end.ensures.value (let lt = c.len-end.type_inv in omega (arith, lt)) c.requires.cpu c.requires.board.runs

pub time-requires-clause-ticks : goal.time-requires-clause-ticks
time-requires-clause-ticks c = ticks_in_all c.args.journal.now.entries c.len-end.result c.args.self.now.first 18446744073709551615 c.args.cpu Busy c.args.self.now.busy c.len-end.ensures.value (let lt = c.len-end.type_inv in omega (arith, lt)) c.requires.cpu c.requires.board.runs

pub time-requires-2-clause-fits : goal.time-requires-2-clause-fits
time-requires-2-clause-fits c = entries_in c.args.journal.now.entries c.len-end.result c.args.self.now.first 18446744073709551615 c.args.cpu Agent c.args.self.now.agent c.len-end.ensures.value (let lt = c.len-end.type_inv in omega (arith, lt)) c.requires.cpu c.requires.board.agents

pub time-requires-2-clause-ticks : goal.time-requires-2-clause-ticks
time-requires-2-clause-ticks c = ticks_in_all c.args.journal.now.entries c.len-end.result c.args.self.now.first 18446744073709551615 c.args.cpu Agent c.args.self.now.agent c.len-end.ensures.value (let lt = c.len-end.type_inv in omega (arith, lt)) c.requires.cpu c.requires.board.agents

pub time-requires-3-clause-fits : goal.time-requires-3-clause-fits
time-requires-3-clause-fits c = entries_in c.args.journal.now.entries c.len-end.result c.args.self.now.first 18446744073709551615 c.args.cpu Other c.args.self.now.other c.len-end.ensures.value (let lt = c.len-end.type_inv in omega (arith, lt)) c.requires.cpu c.requires.board.others

pub time-requires-3-clause-ticks : goal.time-requires-3-clause-ticks
time-requires-3-clause-ticks c = ticks_in_all c.args.journal.now.entries c.len-end.result c.args.self.now.first 18446744073709551615 c.args.cpu Other c.args.self.now.other c.len-end.ensures.value (let lt = c.len-end.type_inv in omega (arith, lt)) c.requires.cpu c.requires.board.others

pub time-requires-4-clause-fits : goal.time-requires-4-clause-fits
time-requires-4-clause-fits c = entries_in c.args.journal.now.entries c.len-end.result c.args.self.now.first 18446744073709551615 c.args.cpu Wanted c.args.self.now.wanted c.len-end.ensures.value (let lt = c.len-end.type_inv in omega (arith, lt)) c.requires.cpu c.requires.board.wants

pub time-requires-4-clause-ticks : goal.time-requires-4-clause-ticks
time-requires-4-clause-ticks c = ticks_in_all c.args.journal.now.entries c.len-end.result c.args.self.now.first 18446744073709551615 c.args.cpu Wanted c.args.self.now.wanted c.len-end.ensures.value (let lt = c.len-end.type_inv in omega (arith, lt)) c.requires.cpu c.requires.board.wants

pub time-requires-5-clause-fits : goal.time-requires-5-clause-fits
time-requires-5-clause-fits c = entries_in c.args.journal.now.entries c.len-end.result c.args.self.now.first 18446744073709551615 c.args.cpu Idle c.args.self.now.idle c.len-end.ensures.value (let lt = c.len-end.type_inv in omega (arith, lt)) c.requires.cpu c.requires.board.idles

pub time-requires-5-clause-ticks : goal.time-requires-5-clause-ticks
time-requires-5-clause-ticks c = ticks_in_all c.args.journal.now.entries c.len-end.result c.args.self.now.first 18446744073709551615 c.args.cpu Idle c.args.self.now.idle c.len-end.ensures.value (let lt = c.len-end.type_inv in omega (arith, lt)) c.requires.cpu c.requires.board.idles

pub returns : goal.returns
returns c =
    let h = c.args.journal.now.entries in
    let first = c.args.self.now.first in
    let all = c.len-end.ensures.value in
    same_uses _ _ _ _ _ _ _ _ _ _
    (time_told h c.len-end.result first c.args.cpu Busy c.args.self.now.busy c.time.result all c.requires.cpu c.requires.board.runs c.time.ensures.entries c.time.ensures.ticks)
    (time_told h c.len-end.result first c.args.cpu Agent c.args.self.now.agent c.time-2.result all c.requires.cpu c.requires.board.agents c.time-2.ensures.entries c.time-2.ensures.ticks)
    (time_told h c.len-end.result first c.args.cpu Other c.args.self.now.other c.time-3.result all c.requires.cpu c.requires.board.others c.time-3.ensures.entries c.time-3.ensures.ticks)
    (time_told h c.len-end.result first c.args.cpu Wanted c.args.self.now.wanted c.time-4.result all c.requires.cpu c.requires.board.wants c.time-4.ensures.entries c.time-4.ensures.ticks)
    (time_told h c.len-end.result first c.args.cpu Idle c.args.self.now.idle c.time-5.result all c.requires.cpu c.requires.board.idles c.time-5.ensures.entries c.time-5.ensures.ticks)
    ∙ sym (usage_is h (first + c.args.cpu))
