use Rattle.std.proofs.Common.{◌≡◌, ◌∙◌, ap, ℕ, List, ◌++◌, append_assoc, codes}
use Rattle.std.proofs.lemmas.Result.{on_ok_weaker}
use Rattle.gs_explain.specs.Composed.{option_json}
use Rattle.gs_explain.specs.Objects.{refusal_word}
use Rattle.gs_explain.specs.Tailed.{line_in, place_in}
use Rattle.gs_explain.proofs.refusal.PlaceFront.write_front.Goals as goal

regroup : (o p a w b : List ℕ) → (((o ++ p) ++ a) ++ w) ++ b ≡ o ++ (p ++ ((a ++ w) ++ b))
regroup o p a w b = simp append_assoc

pub returns : goal.returns
returns c =
    let out : List ℕ = c.args.out.now in
    let at = c.args.self.now.at in
    let place : List ℕ = ((codes ",\"why\":[{\"entry\":" ++ option_json (place_in at)) ++ codes ",\"line\":") ++ option_json (line_in at) in
    let word : List ℕ = refusal_word c.args.refusal in
    let front = c.in_ok-push_words.ensures.added ∙ ap (λ (o : List ℕ). o ++ codes ",\"reason\":\"") c.in_ok-push_place.ensures in
    let named = c.in_ok-push_words-2.ensures.added ∙ (λ i. front i ++ c.refusal_word.ensures i) in
    on_ok_weaker c.push_words-3.result
    (λ last. last ∙ (ap (λ (o : List ℕ). o ++ codes "\",\"text\":\"") named ∙ regroup out place (codes ",\"reason\":\"") word (codes "\",\"text\":\"")))
    c.push_words-3.ensures.added
