use Rattle.std.proofs.Common.{◌≡◌, ◌∙◌, ◌-◌, ap, ap₂, ℕ, nat_lt, take}
use Rattle.std.specs.List.{count_by}
use Rattle.gs_turns.specs.Ticked.{is_tick}
use Rattle.gs_turns.proofs.Ticking.{before_is, between_is}
use Rattle.gs_turns.proofs.ticks.Ticks.between.Goals as goal

pub returns : goal.returns
returns c = λ h cpu is.
    let to : c.before-2.result ≡ count_by (is_tick cpu) (take c.args.to h) = c.before-2.ensures h cpu is ∙ (ap (count_by (λ (p : ℕ). nat_lt p c.args.to)) is ∙ before_is h cpu c.args.to) in
    let from : c.before-3.result ≡ count_by (is_tick cpu) (take c.args.from h) = c.before-3.ensures h cpu is ∙ (ap (count_by (λ (p : ℕ). nat_lt p c.args.from)) is ∙ before_is h cpu c.args.from) in
    c.saturating_sub.ensures ∙ (ap₂ (λ (m n : ℕ). m - n) to from ∙ between_is h cpu c.args.from c.args.to)
