use Rattle.std.proofs.Common.{◌≡◌, ◌∙◌, ap, sym, ℕ, Option, List, ◌++◌, append_assoc, codes, decimal}
use Rattle.std.proofs.lemmas.Result.{on_ok_weaker}
use Rattle.gs_explain.specs.Composed.{option_json}
use Rattle.gs_explain.specs.Tailed.{line_in, place_in}
use Rattle.gs_explain.proofs.refusal.push_place.Goals as goal

regroup : (o a e b l : List ℕ) → (((o ++ a) ++ e) ++ b) ++ l ≡ o ++ (((a ++ e) ++ b) ++ l)
regroup o a e b l = simp append_assoc

pub returns-in-Some : goal.returns-in-Some
returns-in-Some c =
    let out : List ℕ = c.args.out.now in
    let words : List ℕ = codes ",\"why\":[{\"entry\":" in
    let behind : List ℕ = codes ",\"line\":" in
    on_ok_weaker c.push_two.result
    (λ last. last ∙ (regroup out words (decimal c.in-Some.place) behind (decimal c.in-Some.line) ∙ ap (λ (p : Option (ℕ × ℕ)). out ++ (((words ++ option_json (place_in p)) ++ behind) ++ option_json (line_in p))) (sym c.in-Some.is)))
    c.push_two.ensures.added

pub returns-in-None : goal.returns-in-None
returns-in-None c =
    let out : List ℕ = c.args.out.now in
    let words : List ℕ = codes ",\"why\":[{\"entry\":" in
    let behind : List ℕ = codes ",\"line\":" in
    on_ok_weaker c.push_words.result (λ last. last ∙ ap (λ (p : Option (ℕ × ℕ)). out ++ (((words ++ option_json (place_in p)) ++ behind) ++ option_json (line_in p))) (sym c.in-None.is)) c.push_words.ensures.added
