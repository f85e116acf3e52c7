use Rattle.std.proofs.Common.{◌≡◌, ◌∙◌, [], ap, ℕ, List, ◌++◌, append_assoc, codes}
use Rattle.std.proofs.lemmas.Result.{on_ok_weaker}
use Rattle.json.specs.Print.{quoted}
use Rattle.gs_sentences.specs.Tails.{tail_refusal, tail_sentence}
use Rattle.gs_explain.specs.Composed.{front_pieces}
use Rattle.gs_explain.specs.Tailed.{quoted_reply, reason_front, refused_rest}
use Rattle.gs_explain.proofs.Outlining.{told_split}
use Rattle.gs_explain.proofs.Tailing.{refused_whole}
use Rattle.gs_explain.specs.declared.outline.Told.TheVariants as tolds
use Rattle.gs_explain.proofs.refusal.push_refused.Goals as goal

regroup : (o h f w e : List ℕ) → (((o ++ h) ++ f) ++ w) ++ e ≡ o ++ (h ++ ((f ++ w) ++ e))
regroup o h f w e = simp append_assoc

pub returns-then-fit_refused : goal.returns-then-fit_refused
returns-then-fit_refused c =
    let out : List ℕ = c.args.out.now in
    let short = c.args.short.now in
    let line : List ℕ = short.line.now in
    let t = c.args.tail.now in
    let f = tail_refusal t in
    let reason : List ℕ = reason_front c.args.at f in
    let end : List ℕ = codes "\"}]}\n" in
    let reply = c.quoted_reply.ensures ∙ ap quoted_reply c.refusal_in.ensures in
    let front : List ℕ = (((front_pieces short.number short.first 0 ++ codes ",\"replies\":[") ++ quoted_reply f) ++ codes "],\"text\":") ++ quoted line in
    let fits = c.if-fit_refused.ensures.added ∙ (λ i. out ++ ((((front_pieces (c.set.ensures.number i) (c.set.ensures.first i) 0 ++ codes ",\"replies\":[") ++ reply i) ++ codes "],\"text\":") ++ quoted line)) in
    on_ok_weaker c.push_end.result
    (λ last. last ∙ (ap (λ (o : List ℕ). ((o ++ reason) ++ tail_sentence t) ++ end) fits ∙ (regroup out front reason (tail_sentence t) end ∙ ap (λ (t : List ℕ). out ++ t) (refused_whole (short.number, line) short.first c.args.at t))))
    c.push_end.ensures

pub returns : goal.returns
returns c =
    let out : List ℕ = c.args.out.now in
    let short = c.args.short.now in
    let line : List ℕ = short.line.now in
    let t = c.args.tail.now in
    let at = c.args.at in
    let kept = c.if-fit_refused.ensures.kept in
    let front = c.in_ok-push_front.ensures ∙ (λ i. kept i ++ front_pieces (c.set.ensures.number i) (c.set.ensures.first i) 0) in
    let first : List ℕ = front_pieces short.number short.first 0 in
    let rest : List ℕ = refused_rest line at t in
    on_ok_weaker c.push_refused_rest.result
    (λ last. last ∙ (ap (λ (o : List ℕ). o ++ rest) front ∙ (append_assoc out first rest ∙ ap (λ (b : List ℕ). out ++ b) (told_split (tolds.Refused at t) (short.number, line) short.first []))))
    c.push_refused_rest.ensures
