use Rattle.std.proofs.Common.{ℕ, true≢false, length, sym, ◌∙◌}
use Rattle.gs_layout.specs.View.{Look}
use Rattle.gs_journal.specs.History.{created}
use Rattle.gs_journal.specs.State.{state}
use Rattle.gs_runner.proofs.Agreeing.{known_then, knows_when, same_then}
use Rattle.gs_runner.proofs.knowing.knows_all.Goals as goal

pub returns-then-are_known : goal.returns-then-are_known
returns-then-are_known c =
    let k = c.args.kernel.now in
    let v : Look = state k.settings.first_tseq k.history in
    let es = c.args.view.now.entries in
    let n : ℕ = length (created k.history) in (
      (λ t. knows_when v es n c.are_same.ensures.others (c.are_known.ensures.exact.0 c.if-are_known.true) (c.are_same.ensures.exact.0 t)),
      (λ is. c.are_same.ensures.exact.1 (same_then v es n is)),
    )

pub returns-else-are_known : goal.returns-else-are_known
returns-else-are_known c =
    let k = c.args.kernel.now in (
      (λ t. absurd (true≢false (sym t ∙ c.if-are_known.false))),
      (λ is. c.are_known.ensures.exact.1 (known_then (state k.settings.first_tseq k.history) c.args.view.now.entries c.are_known.ensures.listed is)),
    )
