use Rattle.std.proofs.Common.{◌-◌, [], ◌∷◌, ◌++◌, ap, ◌∙◌}
use Rattle.gs_replies.specs.declared.reply.Reply.{Reply}
use Rattle.gs_runner.specs.declared.call.Called.TheVariants.{Served}
use Rattle.gs_runner.specs.declared.command.Command.TheVariants.{Kernel}
use Rattle.gs_runner.specs.Kept.{calls_kept}
use Rattle.gs_runner.proofs.kept.CallList.push_copied.Goals as goal

pub returns-clause-calls : goal.returns-clause-calls
returns-clause-calls c = λ h n w.
    let old = c.args.self.now in
    c.push_other.ensures.calls h n w
    ∙ ap (λ (r : Reply). calls_kept h old.others.items old.kept.items ++ record { called = Served (Kernel c.args.command.now); at = c.args.at; entries = c.args.end - c.args.at; reply = r } ∷ []) c.executed.ensures
