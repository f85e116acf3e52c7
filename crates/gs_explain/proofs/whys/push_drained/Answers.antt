use Rattle.std.proofs.Common.{◌≡◌, ◌∙◌, ap, sym, ℕ, List, ◌++◌, append_assoc}
use Rattle.std.proofs.lemmas.Result.{on_ok_weaker}
use Rattle.serde_json.specs.Data.{Data}
use Rattle.gs_sentences.specs.Reason as reasons
use Rattle.gs_explain.specs.Composed.{behind_commas}
use Rattle.gs_explain.specs.Objects.{listed}
use Rattle.gs_explain.specs.Rows.{stopped, unless_none}
use Rattle.gs_explain.proofs.Composing.{commas_more}
use Rattle.gs_explain.proofs.whys.push_drained.Goals as goal

regroup : (o a b c : List ℕ) → ((o ++ a) ++ b) ++ c ≡ o ++ ((a ++ b) ++ c)
regroup o a b c = simp append_assoc

pub returns : goal.returns
returns c =
    let out : List ℕ = c.args.out.now in
    let d = c.args.drained.now in
    let xs : List Data = listed (unless_none reasons.Skipped d.skipped) in
    let ys : List Data = listed (unless_none reasons.Orphans d.orphans) in
    let zs : List Data = listed (stopped d.stop) in
    let all : behind_commas ((xs ++ ys) ++ zs) ≡ (behind_commas xs ++ behind_commas ys) ++ behind_commas zs = commas_more (xs ++ ys) zs ∙ ap (λ (t : List ℕ). t ++ behind_commas zs) (commas_more xs ys) in
    let two = c.in_ok-push_orphans.ensures ∙ ap (λ (o : List ℕ). o ++ behind_commas ys) c.in_ok-push_skipped.ensures in
    on_ok_weaker c.push_stopped.result
    (λ last. last ∙ (ap (λ (o : List ℕ). o ++ behind_commas zs) two ∙ (regroup out (behind_commas xs) (behind_commas ys) (behind_commas zs) ∙ ap (λ (t : List ℕ). out ++ t) (sym all))))
    c.push_stopped.ensures
