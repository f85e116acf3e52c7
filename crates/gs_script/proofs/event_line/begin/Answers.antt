use Rattle.std.proofs.Common.{◌≡◌, true, arith, rules, length, ◌≤◌}
use Rattle.std.proofs.lemmas.Grind.{common_steps}
use Rattle.gs_script.specs.Grammar.{has_count}
use Rattle.gs_script.proofs.Policies.{begins_unnamed}
use Rattle.gs_script.proofs.event_line.begin.Goals as goal

pub returns-in_err-policy : goal.returns-in_err-policy
returns-in_err-policy g c =
    let some : 1 ≤ length c.args.words.now = grind (arith, common_steps) in
    let few : has_count g.P.NamedPolicy.naming.forms (length c.args.words.now) ≡ true = search rules in
    let fault = begins_unnamed g.P.NamedPolicy.naming c.args.words.now c.in_err-policy.field-0.0 some few c.in_err-policy.ensures in
    search (rules, fault)
