use Rattle.std.proofs.Common.{◌≡◌, ◌∙◌, ap, ℕ, List, [], ◌++◌, append_assoc, codes, drop}
use Rattle.std.proofs.lemmas.Result.{on_ok_weaker}
use Rattle.json.specs.Print.{quoted}
use Rattle.gs_explain.specs.Composed.{replies_pieces}
use Rattle.gs_explain.proofs.object.push_rest.Goals as goal

regroup : (o d r s t v w y : List ℕ) → ((((((((o ++ d) ++ r) ++ s) ++ t) ++ v) ++ []) ++ []) ++ w) ++ y ≡ o ++ ((((d ++ r) ++ s) ++ t) ++ ((v ++ w) ++ y))
regroup o d r s t v w y = simp append_assoc

pub returns : goal.returns
returns c =
    let out : List ℕ = c.args.out.now in
    let line : List ℕ = c.args.line.now in
    let lines : List ℕ = c.args.lines.now in
    let replies = c.in_ok-push_lines.ensures ∙ (λ i. c.in_ok-push_str.ensures.added i ++ replies_pieces (c.as_text.ensures i)) in
    let text = c.in_ok-push_quoted.ensures ∙ ap (λ (o : List ℕ). o ++ quoted line) (c.in_ok-push_str-2.ensures.added ∙ ap (λ (o : List ℕ). o ++ codes "],\"text\":") replies) in
    on_ok_weaker c.push_texts.result
    (λ last. last ∙ (λ i. ((((text i ++ codes ",\"why\":[") ++ []) ++ []) ++ c.in_array.ensures i) ++ codes "]}\n")
    ∙ regroup out (codes ",\"replies\":[") (replies_pieces lines) (codes "],\"text\":") (quoted line) (codes ",\"why\":[") (drop 1 c.args.whys.now) (codes "]}\n"))
    c.push_texts.ensures.added
