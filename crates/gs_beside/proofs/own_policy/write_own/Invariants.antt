use Rattle.std.proofs.Common.{◌≡◌, ◌++◌, take, string_bytes}
use Rattle.gs_beside.specs.Beside.{spaced}
use Rattle.gs_beside.proofs.own_policy.write_own.Given as goal

abbrev pub invariant-loop-place : goal.invariant-loop-place
invariant-loop-place g l = string_bytes l.text ≡ g.P.OwnWords.own.word ++ spaced (take l.place (g.P.OwnWords.own.numbers l.policy))
