use Rattle.std.proofs.Common.{◌≡◌, ℕ, ◌≤◌, length, take, ap, ◌∙◌, arith}
use Rattle.std.proofs.lemmas.List.{length-take-le}
use Rattle.gs_ring.specs.Batches.{messages_of}
use Rattle.api_tests.proofs.batches.take_batch.Goals as goal

pub returns-clause-takes : goal.returns-clause-takes
returns-clause-takes g c =
    let follows = c.batch.follows.holds-at-none in
    let all = messages_of c.batch.result in
    let n : ℕ = c.min-n.result in
    let count : c.len.result ≡ length all = c.len.ensures ∙ ap length c.messages.ensures in
    let fits : n ≤ length all = omega (arith, c.min-n.ensures, count) in
    (take n all, g.met.T.Taker.passed_join _ _ _ _ _ follows.0 (c.pass.ensures all follows.1 fits), length-take-le n all fits)
