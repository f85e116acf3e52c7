use Rattle.std.proofs.Common.{map, take}
use Rattle.gs_commands.specs.Policies.{AreNamed}
use Rattle.gs_commands.proofs.policies.policies_of.Given as goal

abbrev pub invariant-loop-text : goal.invariant-loop-text
invariant-loop-text g l = AreNamed g.P.NamedPolicy.naming (map (λ text. text.now) (take l.text-index l.named)) l.policies.items
