-- How words name either of the two policies that there are.
use Rattle.std.specs.Prelude.{ℕ, List, [], ◌∷◌, ◌++◌, codes, decimal, if◌then◌else◌}
use Rattle.gs_policy.specs.declared.any.AnyPolicy.{AnyPolicy}
use Rattle.gs_policy.specs.declared.any.AnyPolicy.TheVariants.{FirstCome, TwoClass}
use Rattle.gs_script.specs.declared.header.TheConstants.{LEAST_SLICE, MOST_SLICE}
use Rattle.gs_script.specs.Words.{number}
use Rattle.gs_script.specs.Grammar.{Form, Number, literal}
use Rattle.gs_script.specs.Naming.{Naming}
use Rattle.gs_script.specs.Rows.{at, is}

-- what names a policy
abbrev pub policy_forms : List Form
policy_forms = (literal (codes "first") ∷ []) ∷ (literal (codes "two") ∷ Number LEAST_SLICE MOST_SLICE ∷ []) ∷ []

-- the policy that words name: first come, if nothing says another
abbrev pub named : List (List ℕ) → AnyPolicy
named [] = FirstCome (record {})
named (v ∷ ws) = if is v (codes "two") then TwoClass (record { slice = number (at 0 ws) }) else FirstCome (record {})

-- the words of a policy
abbrev pub policy_words : AnyPolicy → List ℕ
policy_words (FirstCome p) = codes "first"
policy_words (TwoClass p) = codes "two " ++ decimal p.slice

abbrev pub any : Naming AnyPolicy
any = record { forms = policy_forms; named = named; words = policy_words }
