use Rattle.std.proofs.Common.{◌≡◌, ◌==◌, Some, false, ap, ◌∙◌, arith}
use Rattle.std.proofs.lemmas.Bool.Decides.{nat_tests}
use Rattle.gs_kernel.specs.declared.command.Command.TheVariants as commands
use Rattle.gs_kernel.specs.Kernel.{is_last_generation}
use Rattle.gs_kernel.proofs.Laws.{begins_when, free_when}
use Rattle.gs_runner.proofs.begin.next_role.Goals as goal

-- another generation can follow
pub overflow_add-generation : goal.overflow_add-generation
overflow_add-generation g c =
    let k = c.args.kernel.now in
    let free = free_when k.settings k.history k.paged commands.Begin c.requires in
    let more : is_last_generation (Some c.generation-generation.result) ≡ false = ap is_last_generation c.generation-generation.ensures ∙ begins_when k.history free.own in
    let test : (c.generation-generation.result == 4294967295) ≡ false = more in
    grind (arith, nat_tests, test, c.generation-generation.type_inv)
