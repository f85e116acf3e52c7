-- What explains lines goes along with a session.
use Rattle.std.specs.Prelude.{◌≡◌, ℕ, List, Option, None, Some}
use Rattle.gs_core.specs.declared.event.Event.{Event}
use Rattle.gs_core.specs.Machine.{Plan, StateOf, planning}
use Rattle.gs_lines.specs.Lines.{reply_lines}
use Rattle.gs_replies.specs.declared.reply.Reply.{Reply}
use Rattle.gs_session.specs.declared.heard.Heard.{Heard}
use Rattle.gs_session.specs.declared.heard.Heard.TheVariants as heards
use Rattle.gs_session.specs.Session.{Session}
use Rattle.gs_trace.specs.Noted.{Noted, noted_first}
use Rattle.gs_explain.specs.Knowing.{IsStarted, Known, Knows, KnowsFirst, shown_after}
use Rattle.gs_serve.specs.Answered.{none_noted, noted_by}
use Rattle.gs_serve.specs.Served.{said_of}

-- what was noted, if the header was heard
abbrev pub noted_in : Option Known → Noted
noted_in None = none_noted
noted_in (Some x) = x.noted

-- what is known is of the machine, and there is both or neither
abbrev pub KnowsOpened : {A : Type 0} → (A → Plan) → Option Known → Option (StateOf A) → Type 0
KnowsOpened plans None None = Unit {0}
KnowsOpened plans (Some x) (Some m) = Knows x (planning plans m)
KnowsOpened plans _ _ = ⊥

-- the same, of what the machine did first
abbrev pub KnowsOpenedFirst : {A : Type 0} → (A → Plan) → Option Known → Option (StateOf A) → Type 0
KnowsOpenedFirst plans (Some x) (Some m) = KnowsFirst x (planning plans m)
KnowsOpenedFirst plans _ _ = ⊥

-- as many lines were counted as the session heard, and its machine is known
abbrev pub Follows : {A : Type 0} → (A → Plan) → ℕ → Option Known → Session A → Type 0
Follows plans count x s = (count ≡ s.count) × KnowsOpened plans x s.opened

-- what is shown of an event of a line of this number, by what is known and the machine that it left
abbrev pub step_shown_after : {A : Type 0} → (A → Plan) → Noted → ℕ → Option (Event A) → Reply → Option (StateOf A) → List ℕ
step_shown_after plans n line (Some e) r (Some m) = shown_after n line e r (planning plans m)
step_shown_after plans n line _ r _ = reply_lines r

-- a machine was opened, if one is there
abbrev pub IsOpened : {A : Type 0} → Option (StateOf A) → Type 0
IsOpened None = Unit {0}
IsOpened (Some m) = IsStarted m

-- what is noted of it by the header's line
abbrev pub noted_at : {A : Type 0} → ℕ → Option (StateOf A) → Noted
noted_at line None = none_noted
noted_at line (Some m) = noted_first line

-- what has to be known once a line was heard, so that it can be explained
abbrev pub IsReady : {A : Type 0} → (A → Plan) → Option Known → Heard → Option (StateOf A) → Type 0
IsReady plans x (heards.Stepped r) m = KnowsOpenedFirst plans x m
IsReady plans x heards.Opened m = IsOpened m
IsReady plans x heards.Nothing m = KnowsOpened plans x m
IsReady plans x (heards.Fault f) m = KnowsOpened plans x m

-- what is shown of a line of this number, and what is noted then, by the machine that it left
abbrev pub line_shown_after : {A : Type 0} → (A → Plan) → Noted → ℕ → Option (Event A) → Heard → Option (StateOf A) → List ℕ
line_shown_after plans n line e (heards.Stepped r) m = step_shown_after plans n line e r m
line_shown_after plans n line e heards.Opened m = said_of heards.Opened
line_shown_after plans n line e heards.Nothing m = said_of heards.Nothing
line_shown_after plans n line e (heards.Fault f) m = said_of (heards.Fault f)

abbrev pub noted_then : {A : Type 0} → (A → Plan) → Noted → ℕ → Heard → Option (StateOf A) → Noted
noted_then plans n line (heards.Stepped r) m = noted_by plans line r m n
noted_then plans n line heards.Opened m = noted_at line m
noted_then plans n line heards.Nothing m = n
noted_then plans n line (heards.Fault f) m = n
