use Rattle.std.proofs.Common.{◌≡◌, ◌∙◌, ◌++◌, ap, ap₂, ℕ, List, append_assoc, codes}
use Rattle.std.proofs.lemmas.Result.{on_ok_weaker}
use Rattle.gs_lines.specs.Lines.{outcome_text}
use Rattle.gs_tables.specs.Pieces.{option_json}
use Rattle.gs_tables.proofs.latency_json.push_landing_rest.Goals as goal

regroup : (o a b c d e : List ℕ) → ((((o ++ a) ++ b) ++ c) ++ d) ++ e ≡ o ++ ((((a ++ b) ++ c) ++ d) ++ e)
regroup o a b c d e = simp append_assoc

pub returns : goal.returns
returns c =
    let name : List ℕ = outcome_text c.args.outcome in
    let thread : List ℕ = option_json c.args.account.now.tid in
    let named = c.in_ok-push_str-2.ensures.added ∙ ap₂ (λ (o n : List ℕ). o ++ n) c.in_ok-push_str.ensures.added c.outcome_name.ensures.name in
    let more = c.in_ok-push_option.ensures ∙ ap (λ (o : List ℕ). (o ++ codes "\",\"tid\":") ++ thread) named in
    on_ok_weaker c.push_str-3.result
    (λ last. last ∙ (ap (λ (o : List ℕ). o ++ codes "}\n") more ∙ regroup c.args.out.now (codes ",\"outcome\":\"") name (codes "\",\"tid\":") thread (codes "}\n")))
    c.push_str-3.ensures.added
