use Rattle.std.proofs.Common.{rules, ◌≡◌, ◌∙◌, [], ◌∷◌, ap, codes}
use Rattle.clap.specs.Words.{Rule, Text, rule_of}
use Rattle.gs_arguments.specs.Arguments.{last_rule}
use Rattle.gs_arguments.proofs.Given.{default_word}
use Rattle.gs_arguments.proofs.options.last_option.Goals as goal

-- the rule with this word as its default
abbrev with_default_word : Text → Rule
with_default_word word = record last_rule { defaults = word ∷ [] }

pub returns-clause-rule : goal.returns-clause-rule
returns-clause-rule c =
    let written : rule_of c.default_value.result ≡ with_default_word (codes "10") = search rules in
    written ∙ ap with_default_word default_word
