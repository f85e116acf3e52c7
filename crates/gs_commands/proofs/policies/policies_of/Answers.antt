use Rattle.std.proofs.Common.{rules, Bor, ℕ, List, [], map}
use Rattle.gs_commands.specs.Policies.{AreUnnamed}
use Rattle.gs_commands.proofs.Naming.{unnamed_in}
use Rattle.gs_commands.proofs.policies.policies_of.Goals as goal

pub returns-in_err-policy-clause-unnamed : goal.returns-in_err-policy-clause-unnamed
returns-in_err-policy-clause-unnamed g c =
    let unnamed : AreUnnamed g.P.NamedPolicy.naming (map (λ (text : Bor (List ℕ)). text.now) c.args.named.now) c.in_err-policy.field-0.0 =
    unnamed_in g.P.NamedPolicy.naming (λ (text : Bor (List ℕ)). text.now) c.args.named.now c.loop-text.text-index (record { ref_ptr = (0, 0); now = [] }) c.in_err-policy.field-0.0 c.loop-text-test.true c.in_err-policy.ensures.unnamed in
    search (rules, unnamed)
