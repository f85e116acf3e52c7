use Rattle.std.proofs.Common.{◌≡◌, ◌∙◌, ap, ap₂}
use Rattle.std.proofs.lemmas.Result.{IfOk-weaker}
use Rattle.clap.specs.Words.{App, app_of, with_subcommand}
use Rattle.gs_arguments.specs.Arguments.{latency_alone, timehist_alone, timeline_alone}
use Rattle.gs_arguments.proofs.program.with_pictures.Goals as goal

pub returns : goal.returns
returns c =
    let app : App = app_of c.args.program in
    let first : App = with_subcommand app timeline_alone.top in
    let first_is : app_of c.in_ok-subcommand.field-0 ≡ first = c.in_ok-subcommand.ensures.shape c.in_ok-timeline_command.ensures.local ∙ ap (with_subcommand app) (ap (λ (a : App). a.top) c.in_ok-timeline_command.ensures.shape) in
    let second : App = with_subcommand first timehist_alone.top in
    let second_is : app_of c.in_ok-subcommand-2.field-0 ≡ second = c.in_ok-subcommand-2.ensures.shape c.in_ok-timehist_command.ensures.local ∙ ap₂ with_subcommand first_is (ap (λ (a : App). a.top) c.in_ok-timehist_command.ensures.shape) in
    let third : App = with_subcommand second latency_alone.top in
    let third_is : app_of c.in_ok-subcommand-3.field-0 ≡ third = c.in_ok-subcommand-3.ensures.shape c.in_ok-latency_command.ensures.local ∙ ap₂ with_subcommand second_is (ap (λ (a : App). a.top) c.in_ok-latency_command.ensures.shape) in
    IfOk-weaker c.subcommand-4.result _ _ (λ command h. h.shape c.in_ok-trace_command.ensures.local ∙ ap₂ with_subcommand third_is (ap (λ (a : App). a.top) c.in_ok-trace_command.ensures.shape)) c.subcommand-4.ensures
