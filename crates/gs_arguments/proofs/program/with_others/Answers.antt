use Rattle.std.proofs.Common.{◌≡◌, ◌∙◌, ap, ap₂}
use Rattle.std.proofs.lemmas.Result.{IfOk-weaker}
use Rattle.clap.specs.Words.{App, app_of, with_subcommand}
use Rattle.gs_arguments.specs.Arguments.{compare_alone, serve_alone, simulate_alone}
use Rattle.gs_arguments.proofs.program.with_others.Goals as goal

pub returns : goal.returns
returns c =
    let app : App = app_of c.args.program in
    let first : App = with_subcommand app serve_alone.top in
    let first_is : app_of c.in_ok-subcommand.field-0 ≡ first = c.in_ok-subcommand.ensures.shape c.in_ok-serve_command.ensures.local ∙ ap (with_subcommand app) (ap (λ (a : App). a.top) c.in_ok-serve_command.ensures.shape) in
    let second : App = with_subcommand first simulate_alone.top in
    let second_is : app_of c.in_ok-subcommand-2.field-0 ≡ second = c.in_ok-subcommand-2.ensures.shape c.in_ok-simulate_command.ensures.local ∙ ap₂ with_subcommand first_is (ap (λ (a : App). a.top) c.in_ok-simulate_command.ensures.shape) in
    let third : App = with_subcommand second compare_alone.top in
    let third_is : app_of c.in_ok-subcommand-3.field-0 ≡ third = c.in_ok-subcommand-3.ensures.shape c.in_ok-compare_command.ensures.local ∙ ap₂ with_subcommand second_is (ap (λ (a : App). a.top) c.in_ok-compare_command.ensures.shape) in
    IfOk-weaker c.subcommand-4.result _ _ (λ command h. h.shape c.in_ok-threads_command.ensures.local ∙ ap₂ with_subcommand third_is (ap (λ (a : App). a.top) c.in_ok-threads_command.ensures.shape)) c.subcommand-4.ensures
