-- Explained answers are the plain ones with sentences among their lines.
use Rattle.std.proofs.Common.{sym, subst, ◌∙◌, ap, ℕ, List, [], ◌∷◌, ◌++◌, codes, decimal, Option, None, Some}
use Rattle.gs_core.specs.declared.event.Event.{Event}
use Rattle.gs_core.specs.Machine.{Plan, StateOf, planning}
use Rattle.gs_replies.specs.declared.reply.Reply.{Reply}
use Rattle.gs_lines.specs.Lines.{reply_lines}
use Rattle.gs_script.specs.declared.fault.ScriptFault.{ScriptFault}
use Rattle.gs_script.specs.Naming.{Naming}
use Rattle.gs_session.specs.declared.heard.Heard.{Heard}
use Rattle.gs_session.specs.declared.heard.Heard.TheVariants as heards
use Rattle.gs_session.specs.Session.{Session}
use Rattle.gs_trace.specs.Noted.{Noted, noted_after}
use Rattle.gs_trace.specs.Output.{reason_text}
use Rattle.gs_explain.specs.Moment.{moment}
use Rattle.gs_explain.specs.Sentenced.{AddsSentences}
use Rattle.gs_explain.proofs.Sentences.{both_add, line_adds, no_sentences, reply_adds, reply_adds_none}
use Rattle.gs_serve.specs.Answered.{ShowsAll, ended_by, event_said, explained, explained_of, step_shown}
use Rattle.gs_serve.specs.Served.{answer_of, answers_of, said_of}
use Rattle.std.proofs.Common.{length}

step_adds : {A : Type 0} (plans : A → Plan) (n : Noted) (old : Option (StateOf A)) (line : ℕ) (e : Option (Event A)) (r : Reply) (new : Option (StateOf A)) → AddsSentences (reply_lines r) (step_shown plans n old line e r new)
step_adds plans n None line e r new = reply_adds_none r
step_adds plans n (Some m) line None r new = reply_adds_none r
step_adds plans n (Some m) line (Some e) r None = reply_adds_none r
step_adds plans n (Some m) line (Some e) r (Some next) = reply_adds (moment (noted_after line r (planning plans next) n) e (planning plans next)) (length m.history) r

fault_adds : (f : ScriptFault) → AddsSentences (said_of (heards.Fault f)) (said_of (heards.Fault f))
fault_adds f = line_adds (codes "fault line " ++ decimal f.line ++ codes " " ++ reason_text f.reason)

heard_adds : {A : Type 0} (plans : A → Plan) (n : Noted) (old : Session A) (e : Option (Event A)) (h : Heard) (new : Session A) → AddsSentences (said_of h) (explained_of plans n old e h new)
heard_adds plans n old e heards.Nothing new = no_sentences
heard_adds plans n old e heards.Opened new = no_sentences
heard_adds plans n old e (heards.Stepped r) new = step_adds plans n old.opened new.count e r new.opened
heard_adds plans n old e (heards.Fault f) new = fault_adds f

pub answers_add : {A : Type 0} (naming : Naming A) (plans : A → Plan) (n now : Noted) (old new : Session A) (lines : List (List ℕ)) (hs : List Heard) (out : List ℕ) → ShowsAll (explained naming plans) n old lines hs now new out → AddsSentences (answers_of hs) out
answers_add naming plans n now old new [] [] out t = subst (AddsSentences []) (sym t.2) no_sentences
answers_add naming plans n now old new [] (h ∷ hs) out t = absurd t
answers_add naming plans n now old new (line ∷ lines) [] out t = absurd t
answers_add naming plans n now old new (line ∷ lines) (h ∷ hs) out (between, mid, text, rest, one, is, more) =
    let shown = explained_of plans n old (event_said naming line) h mid in
    let first : AddsSentences (answer_of h) (ended_by shown) = both_add (said_of h) (10 ∷ []) shown (10 ∷ []) (heard_adds plans n old (event_said naming line) h mid) (line_adds []) in
    let all : AddsSentences (answer_of h ++ answers_of hs) (ended_by shown ++ rest) = both_add (answer_of h) (answers_of hs) (ended_by shown) rest first (answers_add naming plans between now mid new lines hs rest more) in
    subst (AddsSentences (answer_of h ++ answers_of hs)) (sym (is ∙ ap (λ xs. ended_by xs ++ rest) one.shown)) all
