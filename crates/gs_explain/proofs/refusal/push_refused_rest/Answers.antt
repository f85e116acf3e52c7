use Rattle.std.proofs.Common.{◌≡◌, ◌∙◌, ap, ℕ, List, [], ◌++◌, append_assoc, codes}
use Rattle.std.proofs.lemmas.Result.{on_ok_weaker}
use Rattle.json.specs.Print.{quoted}
use Rattle.gs_sentences.specs.Tails.{tail_refusal, tail_sentence}
use Rattle.gs_explain.specs.Tailed.{quoted_reply, reason_front}
use Rattle.gs_explain.proofs.Tailing.{whole_rest}
use Rattle.gs_explain.proofs.refusal.push_refused_rest.Goals as goal

regroup : (o d r s t f w e : List ℕ) → ((((((((o ++ d) ++ r) ++ s) ++ []) ++ []) ++ t) ++ f) ++ w) ++ e ≡ o ++ ((((d ++ r) ++ s) ++ t) ++ ((f ++ w) ++ e))
regroup o d r s t f w e = simp append_assoc

pub returns : goal.returns
returns c =
    let out : List ℕ = c.args.out.now in
    let line : List ℕ = c.args.line.now in
    let t = c.args.tail.now in
    let f = tail_refusal t in
    let front : List ℕ = reason_front c.args.at f in
    let end : List ℕ = codes "\"}]}\n" in
    let reply = c.as_bytes.ensures.value ∙ (c.quoted_reply.ensures ∙ ap quoted_reply c.refusal_in-refusal.ensures) in
    let replied = c.in_ok-push_texts.ensures.added ∙ (λ i. ((((out ++ codes ",\"replies\":[") ++ reply i) ++ codes "],\"text\":") ++ []) ++ []) in
    let text = c.in_ok-push_quoted.ensures ∙ ap (λ (o : List ℕ). o ++ quoted line) replied in
    on_ok_weaker c.push_end.result
    (λ last. last ∙ (ap (λ (o : List ℕ). ((o ++ front) ++ tail_sentence t) ++ end) text ∙ (regroup out (codes ",\"replies\":[") (quoted_reply f) (codes "],\"text\":") (quoted line) front (tail_sentence t) end ∙ ap (λ (t : List ℕ). out ++ t) (whole_rest line c.args.at t))))
    c.push_end.ensures
