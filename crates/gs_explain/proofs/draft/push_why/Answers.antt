use Rattle.std.proofs.Common.{◌≡◌, ◌∙◌, ℕ, List, ◌++◌, append_assoc, codes}
use Rattle.std.proofs.lemmas.Result.{on_ok_weaker}
use Rattle.json.specs.Print.{quoted}
use Rattle.gs_explain.specs.Composed.{option_json}
use Rattle.gs_explain.proofs.Composing.{plain_reason}
use Rattle.gs_explain.proofs.draft.push_why.Goals as goal

regroup : (o a e b l c w d q f : List ℕ) → (o ++ (((a ++ e) ++ b) ++ l)) ++ ((((c ++ w) ++ d) ++ q) ++ f) ≡ o ++ ((((((((a ++ e) ++ b) ++ l) ++ c) ++ w) ++ d) ++ q) ++ f)
regroup o a e b l c w d q f = simp append_assoc

-- what is added behind where the reason points
pub returns : goal.returns
returns c =
    let out : List ℕ = c.args.out.now in
    let entry : List ℕ = option_json c.args.entry in
    let at : List ℕ = option_json c.args.line in
    let word : List ℕ = c.args.word.now in
    let text : List ℕ = c.args.text.now in
    let place : List ℕ = (((codes ",{\"entry\":" ++ entry) ++ codes ",\"line\":") ++ at) in
    on_ok_weaker c.push_texts.result
    (λ last. last ∙ ((λ i. ((((c.in_ok-push_place.ensures i ++ codes ",\"reason\":\"") ++ c.as_bytes.ensures.value i) ++ codes "\",\"text\":\"") ++ text) ++ codes "\"}")
    ∙ (plain_reason (out ++ place) word text c.if-not-is_plain.ensures ∙ regroup out (codes ",{\"entry\":") entry (codes ",\"line\":") at (codes ",\"reason\":\"") word (codes "\",\"text\":") (quoted text) (codes "}"))))
    c.push_texts.ensures.added
