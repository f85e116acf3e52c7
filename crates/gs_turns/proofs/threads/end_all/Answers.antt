use Rattle.std.proofs.Common.{◌≡◌, ◌<◌, ◌++◌, ℕ, List, arith, length, map, take, drop, get_or, slice_set, ◌+◌}
use Rattle.std.proofs.lemmas.List.{get_or_default}
use Rattle.std.proofs.lemmas.List.Edits.{map_over_more}
use Rattle.gs_turns.specs.declared.stance.Known.{Known}
use Rattle.gs_turns.specs.Knowing.{ended, unseen}
use Rattle.gs_turns.proofs.threads.end_all.Goals as goal

-- one more of a table is written over
one_more : (xs ys : List Known) (i : ℕ) → i < length xs → i < length ys → ys ≡ map ended (take i xs) ++ drop i xs → slice_set ys i (ended (get_or ys i unseen)) ≡ map ended (take (i + 1) xs) ++ drop (i + 1) xs
one_more xs ys i within there e = map_over_more ended xs ys i (get_or ys i unseen) within e (get_or_default ys i unseen (get_or ys i unseen) there)

pub loop-known-preserved : goal.loop-known-preserved
loop-known-preserved c =
    let within : c.loop-known.known-index < length c.args.table.now = omega arith in
    let there : c.loop-known.known-index < length c.loop-known.table = omega arith in
    one_more c.args.table.now c.loop-known.table c.loop-known.known-index within there c.loop-known.invariant
