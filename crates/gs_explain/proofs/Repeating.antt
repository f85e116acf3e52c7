-- What a text tells of late landings, for all that are the same.
use Rattle.std.proofs.Common.{◌≡◌, ◌≤◌, ◌-◌, ◌∙◌, refl, ap, append-nil, length, subst, sym, true, false, ℕ, List, None, [], ◌∷◌, ◌++◌}
use Rattle.std.specs.List.{All}
use Rattle.std.specs.Str.{IsUtf8}
use Rattle.std.specs.Str.Lines.{lines as lines_in}
use Rattle.serde_json.specs.Data.{Data}
use Rattle.serde_json.specs.Written.{compact_text}
use Rattle.gs_kernel.specs.declared.landing.Landing.{Landing}
use Rattle.gs_lines.specs.Lines.{late_text, line}
use Rattle.gs_replies.specs.declared.reply.Reply.TheVariants as replies
use Rattle.gs_sentences.specs.Reason.{Reason}
use Rattle.gs_sentences.specs.Reason as reasons
use Rattle.gs_sentences.specs.Told.{Landed}
use Rattle.gs_explain.specs.declared.kept.Kept.{Kept}
use Rattle.gs_explain.specs.Composed.{behind_commas}
use Rattle.gs_explain.specs.Landings.{landed}
use Rattle.gs_explain.specs.Moment.{Moment}
use Rattle.gs_explain.specs.Objects.{line_of_cause, listed, object_row, place_of_cause, reason_data, reason_word, row_data, why_data}
use Rattle.gs_explain.specs.Outlined.{Grows, Tells, TellsLate, late_object}
use Rattle.gs_explain.specs.ToldAgain.{is_kept_out, kept_put, landed_from, late_told}
use Rattle.gs_explain.specs.declared.outline.Told.TheVariants as tolds
use Rattle.gs_explain.proofs.Keeping.{all_put, none_overflowed, same_cause, told_reason, why_out}
use Rattle.gs_explain.proofs.Outlining.{lates_grown, quiet_told}

-- the reason of a landing, by what is kept of it
late_reason : (n : ℕ) (x : Landed) → x.overflow ≡ None → x.fault ≡ None → reason_data (reasons.Landed x) ≡ reason_data (reasons.Landed (landed_from (late_told n x)))
late_reason n x e f =
    sym (λ i. why_data (place_of_cause (same_cause x.cause i)) (line_of_cause (same_cause x.cause i)) (reason_word (reasons.Landed x)) (told_reason n x e f i))

-- the object of a late landing that adds nothing
pub late_shown : (said : ℕ × List ℕ) (x : Moment) (first n : ℕ) (l : Landing) → is_kept_out l.outcome ≡ true → length x.history ≡ first → object_row said x first (replies.Late n l false) ≡ late_object (late_told n (landed x None true first l)) said first
late_shown said x first n l out none =
    let y : Landed = landed x None true first l in
    let why = ap listed (why_out x first l l.outcome out) ∙ ap (λ (d : Data). d ∷ []) (late_reason n y (none_overflowed l.outcome x.overflow out) refl) in
    λ i. line (compact_text (row_data said first (none i) (lines_in (append-nil (line (late_text n l)) i)) (why i)))

-- what is told of a late landing, once it was added to a text
pub late_tells : (old mid new : List ℕ) (n : ℕ) (x : Landed) (k : Kept) → x.overflow ≡ None → x.fault ≡ None → k.told ≡ late_told n x → k.from ≡ length old → k.mid ≡ length mid → k.to ≡ length new → mid ≡ old ++ line (late_text n x.landing) → new ≡ mid ++ behind_commas (reason_data (reasons.Landed x) ∷ []) → IsUtf8 old → IsUtf8 mid → IsUtf8 new
    → Tells new (late_object (late_told n x)) (tolds.Parts 0 k.from (k.mid - k.from) (k.to - k.mid))
late_tells old mid new n x k e f is from_at at to_end first_part last_part u v w =
    let why : behind_commas (reason_data (reasons.Landed x) ∷ []) ≡ behind_commas (reason_data (reasons.Landed (landed_from (late_told n x))) ∷ []) = ap (λ (d : Data). behind_commas (d ∷ [])) (late_reason n x e f) in
    quiet_told old mid new (line (late_text n x.landing)) (reason_data (reasons.Landed (landed_from (late_told n x))) ∷ []) k.from k.mid k.to from_at at to_end first_part (last_part ∙ ap (λ (t : List ℕ). mid ++ t) why) u v w

-- and it is kept
pub late_kept : (new : List ℕ) (n : ℕ) (x : Landed) (k : Kept) → k.told ≡ late_told n x → k.from ≤ k.mid → k.mid ≤ k.to → Tells new (late_object (late_told n x)) (tolds.Parts 0 k.from (k.mid - k.from) (k.to - k.mid)) → TellsLate new k
late_kept new n x k is begins ends tells =
    record { begins = begins; ends = ends; tells = subst (λ t. Tells new (late_object t) (tolds.Parts 0 k.from (k.mid - k.from) (k.to - k.mid))) (sym is) tells }

pub lates_put : (old new : List ℕ) (k : Kept) (kepts after : List Kept) → Grows old new → All (TellsLate old) kepts → TellsLate new k → after ≡ kept_put k kepts → All (TellsLate new) after
lates_put old new k kepts after grows all is put = subst (All (TellsLate new)) (sym put) (all_put (TellsLate new) k kepts (lates_grown kepts old new grows all) is)
