use Rattle.std.proofs.Common.{◌≡◌, ◌∙◌, ap, ℕ, List, [], ◌∷◌, ◌++◌, append-nil}
use Rattle.std.proofs.lemmas.Result.{on_ok_weaker}
use Rattle.gs_sentences.specs.Given.{reason_given}
use Rattle.gs_sentences.specs.Reasons.{reason_text}
use Rattle.gs_explain.specs.Composed.{behind_commas, why_pieces}
use Rattle.gs_explain.specs.Objects.{line_of_cause, place_of_cause, reason_cause, reason_data, reason_word}
use Rattle.gs_explain.proofs.Composing.{whole_reason}
use Rattle.gs_explain.proofs.draft.Draft.reason.Goals as goal

pub returns : goal.returns
returns c =
    let r = reason_given c.args.reason.now in
    let entry : c.place_of_cause.result ≡ place_of_cause (reason_cause r) = c.place_of_cause.ensures ∙ ap place_of_cause c.reason_cause-cause.ensures in
    let at : c.line_of_cause.result ≡ line_of_cause (reason_cause r) = c.line_of_cause.ensures ∙ ap line_of_cause c.reason_cause-cause.ensures in
    let word : c.reason_word.result.now ≡ reason_word r = c.reason_word.ensures in
    let text : c.as_bytes.result.now ≡ reason_text r = c.as_bytes.ensures.value ∙ (c.put_reason.ensures.value ∙ (ap (λ (t : List ℕ). reason_text r ++ t) c.clear.ensures ∙ append-nil (reason_text r))) in
    let pieces : why_pieces c.place_of_cause.result c.line_of_cause.result c.reason_word.result.now c.as_bytes.result.now ≡ behind_commas (reason_data r ∷ []) = (λ i. why_pieces (entry i) (at i) (word i) (text i)) ∙ whole_reason r in
    on_ok_weaker c.push_why.result (λ last. last ∙ (λ i. c.self.view_is i ++ pieces i)) c.push_why.ensures
