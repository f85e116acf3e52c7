-- An explained reply is the reply with sentences among its lines.
use Rattle.std.proofs.Common.{◌≡◌, refl, sym, ◌∙◌, ap, ℕ, ◌+◌, ◌&&◌, not, Bool, true, false, Option, None, Some, List, [], ◌∷◌, ◌++◌, append-nil, append_assoc, codes, decimal}
use Rattle.std.specs.List.{flat_map}
use Rattle.gs_agent.specs.declared.drained.Drained.{Drained}
use Rattle.gs_kernel.specs.declared.landing.Landing.{Landing}
use Rattle.gs_policy.specs.declared.choice.Choice.{Choice}
use Rattle.gs_replies.specs.declared.reply.Reply.{Reply}
use Rattle.gs_replies.specs.declared.reply.Reply.TheVariants as replies
use Rattle.gs_lines.specs.Lines.{choice_lines, choice_text, decided_text, drained_text, entry_text, landing_lines, landing_text, late_text, line, live_text, message_text, page_text, refusal_text, reply_lines, torn_line, view_text}
use Rattle.gs_reasons.specs.declared.group.GroupFault.{GroupFault}
use Rattle.gs_sentences.specs.Reason.{Reason}
use Rattle.gs_sentences.specs.Reason as reasons
use Rattle.gs_sentences.specs.Reasons.{reason_text}
use Rattle.gs_explain.specs.Moment.{Moment}
use Rattle.gs_explain.specs.Landings.{after_landing, because, group_fault, is_gone, landings_shown, why_landed}
use Rattle.gs_explain.specs.Refusals.{why_refused}
use Rattle.gs_explain.specs.Rows.{drained_shown, late_shown, none_shown, reply_shown, stopped, unless_none}
use Rattle.gs_explain.specs.Sentenced.{AddsSentences, Piece, Said, Why, plain_text, whole_text}

plain-append : (ps qs : List Piece) → plain_text (ps ++ qs) ≡ plain_text ps ++ plain_text qs
plain-append [] qs = refl
plain-append (Said text ∷ ps) qs = ap (λ xs. line text ++ xs) (plain-append ps qs) ∙ sym (append_assoc (line text) (plain_text ps) (plain_text qs))
plain-append (Why text ∷ ps) qs = plain-append ps qs

whole-append : (ps qs : List Piece) → whole_text (ps ++ qs) ≡ whole_text ps ++ whole_text qs
whole-append [] qs = refl
whole-append (Said text ∷ ps) qs = ap (λ xs. line text ++ xs) (whole-append ps qs) ∙ sym (append_assoc (line text) (whole_text ps) (whole_text qs))
whole-append (Why text ∷ ps) qs = ap (λ xs. line (codes "  " ++ text) ++ xs) (whole-append ps qs) ∙ sym (append_assoc (line (codes "  " ++ text)) (whole_text ps) (whole_text qs))

pub no_sentences : AddsSentences [] []
no_sentences = record { pieces = []; without = refl; with_them = refl }

-- one text behind another
pub both_add : (a b x y : List ℕ) → AddsSentences a x → AddsSentences b y → AddsSentences (a ++ b) (x ++ y)
both_add a b x y f g =
    record {
      pieces = f.pieces ++ g.pieces;
      without = ap (λ l. l ++ b) f.without ∙ ap (λ l. plain_text f.pieces ++ l) g.without ∙ sym (plain-append f.pieces g.pieces);
      with_them = ap (λ l. l ++ y) f.with_them ∙ ap (λ l. whole_text f.pieces ++ l) g.with_them ∙ sym (whole-append f.pieces g.pieces);
    }

-- a line is one as it is
pub line_adds : (text : List ℕ) → AddsSentences (line text) (line text)
line_adds text = record { pieces = Said text ∷ []; without = sym (append-nil (line text)); with_them = sym (append-nil (line text)) }

-- a sentence adds to nothing
sentence_adds : (text : List ℕ) → AddsSentences [] (line (codes "  " ++ text))
sentence_adds text = record { pieces = Why text ∷ []; without = refl; with_them = sym (append-nil (line (codes "  " ++ text))) }

because_adds : (o : Option Reason) → AddsSentences [] (because o)
because_adds None = no_sentences
because_adds (Some r) = sentence_adds (reason_text r)

-- a line and what explains it
explained_line : (text why : List ℕ) → AddsSentences [] why → AddsSentences (line text) (line text ++ why)
explained_line text why h = record { pieces = Said text ∷ h.pieces; without = sym (append-nil (line text)) ∙ ap (λ l. line text ++ l) h.without; with_them = ap (λ l. line text ++ l) h.with_them }

each_line : {A : Type 0} (text : A → List ℕ) (xs : List A) → AddsSentences (flat_map (λ x. line (text x)) xs) (flat_map (λ x. line (text x)) xs)
each_line text [] = no_sentences
each_line text (x ∷ xs) = both_add (line (text x)) (flat_map (λ x. line (text x)) xs) (line (text x)) (flat_map (λ x. line (text x)) xs) (line_adds (text x)) (each_line text xs)

each_choice : (n : ℕ) (xs : List Choice) → AddsSentences (choice_lines n xs) (choice_lines n xs)
each_choice n [] = no_sentences
each_choice n (x ∷ xs) = both_add (line (choice_text n x)) (choice_lines (n + 1) xs) (line (choice_text n x)) (choice_lines (n + 1) xs) (line_adds (choice_text n x)) (each_choice (n + 1) xs)

torn_adds : (torn : Bool) → AddsSentences (torn_line torn) (torn_line torn)
torn_adds true = line_adds (codes "torn")
torn_adds false = no_sentences

none_adds : (ls : List Landing) → AddsSentences [] (none_shown ls)
none_adds [] = sentence_adds (codes "no slot of the mask is stamped")
none_adds (l ∷ ls) = no_sentences

landings_add : (x : Moment) (fault : Option GroupFault) (stood : Bool) (n : ℕ) (ls : List Landing) → AddsSentences (landing_lines ls) (landings_shown x fault stood n ls)
landings_add x fault stood n [] = no_sentences
landings_add x fault stood n (l ∷ ls) =
    both_add (line (landing_text l)) (landing_lines ls) (line (landing_text l) ++ because (why_landed x fault stood (after_landing l.outcome x.history n) l)) (landings_shown x fault (stood && not (is_gone l.outcome)) (after_landing l.outcome x.history n) ls)
    (explained_line (landing_text l) (because (why_landed x fault stood (after_landing l.outcome x.history n) l)) (because_adds (why_landed x fault stood (after_landing l.outcome x.history n) l)))
    (landings_add x fault (stood && not (is_gone l.outcome)) (after_landing l.outcome x.history n) ls)

drained_adds : (d : Drained) → AddsSentences [] (drained_shown d)
drained_adds d =
    both_add [] [] (because (unless_none reasons.Skipped d.skipped) ++ because (unless_none reasons.Orphans d.orphans)) (because (stopped d.stop))
    (both_add [] [] (because (unless_none reasons.Skipped d.skipped)) (because (unless_none reasons.Orphans d.orphans)) (because_adds (unless_none reasons.Skipped d.skipped)) (because_adds (unless_none reasons.Orphans d.orphans)))
    (because_adds (stopped d.stop))

landed_adds : (x : Moment) (first : ℕ) (ls : List Landing) (torn : Bool) → AddsSentences (landing_lines ls ++ torn_line torn) (none_shown ls ++ landings_shown x (group_fault x ls) true first ls ++ torn_line torn)
landed_adds x first ls torn =
    both_add (landing_lines ls) (torn_line torn) (none_shown ls ++ landings_shown x (group_fault x ls) true first ls) (torn_line torn)
    (both_add [] (landing_lines ls) (none_shown ls) (landings_shown x (group_fault x ls) true first ls) (none_adds ls) (landings_add x (group_fault x ls) true first ls))
    (torn_adds torn)

late_adds : (x : Moment) (first n : ℕ) (l : Landing) (torn : Bool) → AddsSentences (line (late_text n l) ++ torn_line torn) (late_shown x first n l ++ torn_line torn)
late_adds x first n l torn =
    both_add (line (late_text n l)) (torn_line torn) (late_shown x first n l) (torn_line torn)
    (explained_line (late_text n l) (because (why_landed x None true (after_landing l.outcome x.history first) l)) (because_adds (why_landed x None true (after_landing l.outcome x.history first) l)))
    (torn_adds torn)

-- a reply is lines as it is
pub reply_adds_none : (r : Reply) → AddsSentences (reply_lines r) (reply_lines r)
reply_adds_none (replies.Refused f) = line_adds (codes "refused " ++ refusal_text f)
reply_adds_none replies.Torn = line_adds (codes "torn")
reply_adds_none (replies.Done e) = line_adds (entry_text e)
reply_adds_none replies.Crashed = line_adds (codes "crashed")
reply_adds_none (replies.Page n next bytes) = line_adds (page_text n next)
reply_adds_none (replies.Drained d) = line_adds (drained_text d)
reply_adds_none (replies.Stamped number) = line_adds (codes "stamped " ++ decimal number)
reply_adds_none (replies.Decided first choices) = both_add (line (decided_text choices)) (choice_lines first choices) (line (decided_text choices)) (choice_lines first choices) (line_adds (decided_text choices)) (each_choice first choices)
reply_adds_none (replies.Landed ls torn) = both_add (landing_lines ls) (torn_line torn) (landing_lines ls) (torn_line torn) (each_line landing_text ls) (torn_adds torn)
reply_adds_none (replies.Late n l torn) = both_add (line (late_text n l)) (torn_line torn) (line (late_text n l)) (torn_line torn) (line_adds (late_text n l)) (torn_adds torn)
reply_adds_none (replies.View known) = each_line view_text known
reply_adds_none (replies.State threads) = each_line live_text threads
reply_adds_none (replies.Unread messages) = each_line message_text messages

-- what is shown of a reply is the reply with sentences
pub reply_adds : (x : Moment) (first : ℕ) (r : Reply) → AddsSentences (reply_lines r) (reply_shown x first r)
reply_adds x first (replies.Refused f) = explained_line (codes "refused " ++ refusal_text f) (because (Some (reasons.Refused (why_refused x f)))) (because_adds (Some (reasons.Refused (why_refused x f))))
reply_adds x first replies.Torn = explained_line (codes "torn") (because (Some (reasons.Torn x.overflow))) (because_adds (Some (reasons.Torn x.overflow)))
reply_adds x first (replies.Done e) = reply_adds_none (replies.Done e)
reply_adds x first replies.Crashed = reply_adds_none replies.Crashed
reply_adds x first (replies.Page n next bytes) = reply_adds_none (replies.Page n next bytes)
reply_adds x first (replies.Drained d) = explained_line (drained_text d) (drained_shown d) (drained_adds d)
reply_adds x first (replies.Stamped number) = reply_adds_none (replies.Stamped number)
reply_adds x first (replies.Decided start choices) = reply_adds_none (replies.Decided start choices)
reply_adds x first (replies.Landed ls torn) = landed_adds x first ls torn
reply_adds x first (replies.Late n l torn) = late_adds x first n l torn
reply_adds x first (replies.View known) = reply_adds_none (replies.View known)
reply_adds x first (replies.State threads) = reply_adds_none (replies.State threads)
reply_adds x first (replies.Unread messages) = reply_adds_none (replies.Unread messages)
