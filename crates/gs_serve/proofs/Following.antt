-- What explains lines follows a session, line by line.
use Rattle.std.proofs.Common.{◌≡◌, refl, ap, sym, subst, ◌∙◌, ℕ, Bool, true, false, List, [], Option, None, Some, Result, Ok, Err}
use Rattle.gs_replies.specs.declared.config.Config.{Config}
use Rattle.gs_replies.specs.declared.reply.Reply.{Reply}
use Rattle.gs_core.specs.declared.event.Event.{Event}
use Rattle.gs_core.specs.Machine.{Plan, StateOf, planned, planning, start}
use Rattle.gs_script.specs.declared.fault.Reason.{Reason}
use Rattle.gs_script.specs.Naming.{Naming}
use Rattle.gs_script.specs.Header.{header_of}
use Rattle.gs_script.specs.Rows.{event_of}
use Rattle.gs_session.specs.declared.heard.Heard.{Heard}
use Rattle.gs_session.specs.declared.heard.Heard.TheVariants as heards
use Rattle.gs_session.specs.Session.{Session, Hears, HearsAt, HearsEvent, HearsHeader, Steps, read_within}
use Rattle.gs_trace.specs.Noted.{Noted, noted_first}
use Rattle.gs_explain.specs.Knowing.{Known, Knows}
use Rattle.gs_explain.proofs.Knowing.{same_shown, step_known}
use Rattle.gs_serve.specs.Answered.{Shows, event_said, explained, explained_of, noted_behind, noted_by, step_shown}
use Rattle.gs_serve.specs.Served.{said_of}
use Rattle.gs_serve.specs.Following.{IsOpened, IsReady, KnowsOpened, KnowsOpenedFirst, line_shown_after, noted_at, noted_in, noted_then, step_shown_after}

-- a line that neither opened an enclave nor stepped
abbrev pub is_quiet : Heard → Bool
is_quiet heards.Nothing = true
is_quiet heards.Opened = false
is_quiet (heards.Stepped r) = false
is_quiet (heards.Fault f) = true

-- ---- a line that steps

steps_known : {A : Type 0} (plans : A → Plan) (x : Known) (m : StateOf A) (e : Event A) (h : Heard) (after : Option (StateOf A)) → Knows x (planning plans m) → Steps plans m e h after → KnowsOpenedFirst plans (Some x) after
steps_known plans x m e h after k s =
    subst (KnowsOpenedFirst plans (Some x)) (sym s.becomes) (step_known x (planning plans m) (planning plans s.next) (planned plans e) s.reply k s.step)

by_event : {A : Type 0} (plans : A → Plan) (n : ℕ) (x : Known) (m : StateOf A) (read : Result (Option (Event A)) Reason) (r : Reply) (after : Option (StateOf A)) → Knows x (planning plans m) → HearsEvent plans n m read (heards.Stepped r) after → KnowsOpenedFirst plans (Some x) after
by_event plans n x m (Err reason) r after k (said, same) = absurd cc
by_event plans n x m (Ok None) r after k (said, same) = absurd cc
by_event plans n x m (Ok (Some e)) r after k t = steps_known plans x m e (heards.Stepped r) after k t

by_header : {A : Type 0} (n : ℕ) (read : Result (Option (Config A)) Reason) (r : Reply) (after : Option (StateOf A)) → HearsHeader n read (heards.Stepped r) after → ⊥
by_header n (Err reason) r after (said, same) = cc
by_header n (Ok None) r after (said, same) = cc
by_header n (Ok (Some c)) r after (said, same) = cc

first_known : {A : Type 0} (naming : Naming A) (plans : A → Plan) (n : ℕ) (line : List ℕ) (x : Option Known) (old : Option (StateOf A)) (r : Reply) (after : Option (StateOf A)) → KnowsOpened plans x old → HearsAt naming plans n line old (heards.Stepped r) after → KnowsOpenedFirst plans x after
first_known naming plans n line None None r after k t = absurd (by_header n (read_within (header_of naming) line) r after t)
first_known naming plans n line None (Some m) r after k t = absurd k
first_known naming plans n line (Some x) None r after k t = absurd k
first_known naming plans n line (Some x) (Some m) r after k t = by_event plans n x m (read_within (event_of naming) line) r after k t

-- behind an event the machine's first part is known
pub step_first : {A : Type 0} (naming : Naming A) (plans : A → Plan) (x : Option Known) (old new : Session A) (line : List ℕ) (r : Reply) → KnowsOpened plans x old.opened → Hears naming plans old line (heards.Stepped r) new → KnowsOpenedFirst plans x new.opened
step_first naming plans x old new line r k t = first_known naming plans new.count line x old.opened r new.opened k t.does

same_step : {A : Type 0} (plans : A → Plan) (x : Option Known) (old : Option (StateOf A)) (line : ℕ) (e : Option (Event A)) (r : Reply) (new : Option (StateOf A)) → KnowsOpened plans x old → KnowsOpenedFirst plans x new → step_shown_after plans (noted_in x) line e r new ≡ step_shown plans (noted_in x) old line e r new
same_step plans None old line e r new k f = absurd f
same_step plans (Some x) None line e r new k f = absurd k
same_step plans (Some x) (Some m) line e r None k f = absurd f
same_step plans (Some x) (Some m) line None r (Some next) k f = refl
same_step plans (Some x) (Some m) line (Some e) r (Some next) k f = same_shown x (planning plans m) (planning plans next) line e r k

-- what was shown of an event is what is shown of its line
pub step_follows : {A : Type 0} (naming : Naming A) (plans : A → Plan) (count : ℕ) (x : Option Known) (old : Session A) (line : List ℕ) (r : Reply) (new : Session A) (text : List ℕ) (now : Noted) → KnowsOpened plans x old.opened → Hears naming plans old line (heards.Stepped r) new → count ≡ new.count
    → text ≡ step_shown_after plans (noted_in x) count (event_said naming line) r new.opened → now ≡ noted_by plans count r new.opened (noted_in x) → Shows (explained naming plans) (noted_in x) old line now new text
step_follows naming plans count x old line r new text now k t is shown noted = (
  heards.Stepped r,
  record {
    hears = t;
    shown = shown ∙ ap (λ (n : ℕ). step_shown_after plans (noted_in x) n (event_said naming line) r new.opened) is ∙ same_step plans x old.opened new.count (event_said naming line) r new.opened k (step_first naming plans x old new line r k t);
    noted = noted ∙ ap (λ (n : ℕ). noted_by plans n r new.opened (noted_in x)) is;
  },
)

-- ---- the header

opened_event : {A : Type 0} (plans : A → Plan) (n : ℕ) (m : StateOf A) (read : Result (Option (Event A)) Reason) (after : Option (StateOf A)) → HearsEvent plans n m read heards.Opened after → ⊥
opened_event plans n m (Err reason) after (said, same) = cc
opened_event plans n m (Ok None) after (said, same) = cc
opened_event plans n m (Ok (Some e)) after t = let h = t.replied in cc

opened_header : {A : Type 0} (n : ℕ) (read : Result (Option (Config A)) Reason) (after : Option (StateOf A)) → HearsHeader n read heards.Opened after → (c : Config A) × (after ≡ Some (start c))
opened_header n (Err reason) after (said, same) = absurd cc
opened_header n (Ok None) after (said, same) = absurd cc
opened_header n (Ok (Some c)) after (said, same) = (c, same)

opened_at : {A : Type 0} (naming : Naming A) (plans : A → Plan) (n : ℕ) (line : List ℕ) (old after : Option (StateOf A)) → HearsAt naming plans n line old heards.Opened after → (c : Config A) × (after ≡ Some (start c))
opened_at naming plans n line None after t = opened_header n (read_within (header_of naming) line) after t
opened_at naming plans n line (Some m) after t = absurd (opened_event plans n m (read_within (event_of naming) line) after t)

-- a header opens a machine
pub is_opened : {A : Type 0} (naming : Naming A) (plans : A → Plan) (old : Session A) (line : List ℕ) (new : Session A) → Hears naming plans old line heards.Opened new → IsOpened new.opened
is_opened naming plans old line new t = let o = opened_at naming plans new.count line old.opened new.opened t.does in subst IsOpened (sym o.1) (o.0, refl)

pub header_follows : {A : Type 0} (naming : Naming A) (plans : A → Plan) (count : ℕ) (n now : Noted) (old : Session A) (line : List ℕ) (new : Session A) (text : List ℕ) → Hears naming plans old line heards.Opened new → count ≡ new.count → text ≡ [] → now ≡ noted_at count new.opened → Shows (explained naming plans) n old line now new text
header_follows naming plans count n now old line new text t is shown noted =
    let o = opened_at naming plans new.count line old.opened new.opened t.does in
    (heards.Opened, record { hears = t; shown = shown; noted = noted ∙ ap (noted_at count) o.1 ∙ ap noted_first is })

-- ---- a line that changes nothing

same_event : {A : Type 0} (plans : A → Plan) (n : ℕ) (m : StateOf A) (read : Result (Option (Event A)) Reason) (h : Heard) (after : Option (StateOf A)) → is_quiet h ≡ true → HearsEvent plans n m read h after → after ≡ Some m
same_event plans n m (Err reason) h after q (said, same) = same
same_event plans n m (Ok None) h after q (said, same) = same
same_event plans n m (Ok (Some e)) h after q t = let steps : false ≡ true = ap is_quiet (sym t.replied) ∙ q in absurd cc

same_header : {A : Type 0} (n : ℕ) (read : Result (Option (Config A)) Reason) (h : Heard) (after : Option (StateOf A)) → is_quiet h ≡ true → HearsHeader n read h after → after ≡ None
same_header n (Err reason) h after q (said, same) = same
same_header n (Ok None) h after q (said, same) = same
same_header n (Ok (Some c)) h after q (said, same) = let opens : false ≡ true = ap is_quiet (sym said) ∙ q in absurd cc

same_at : {A : Type 0} (naming : Naming A) (plans : A → Plan) (n : ℕ) (line : List ℕ) (old after : Option (StateOf A)) (h : Heard) → is_quiet h ≡ true → HearsAt naming plans n line old h after → after ≡ old
same_at naming plans n line None after h q t = same_header n (read_within (header_of naming) line) h after q t
same_at naming plans n line (Some m) after h q t = same_event plans n m (read_within (event_of naming) line) h after q t

-- the machine stays as it is
pub same_opened : {A : Type 0} (naming : Naming A) (plans : A → Plan) (old : Session A) (line : List ℕ) (h : Heard) (new : Session A) → is_quiet h ≡ true → Hears naming plans old line h new → new.opened ≡ old.opened
same_opened naming plans old line h new q t = same_at naming plans new.count line old.opened new.opened h q t.does

pub quiet_known : {A : Type 0} (naming : Naming A) (plans : A → Plan) (x : Option Known) (old : Session A) (line : List ℕ) (h : Heard) (new : Session A) → is_quiet h ≡ true → Hears naming plans old line h new → KnowsOpened plans x old.opened → KnowsOpened plans x new.opened
quiet_known naming plans x old line h new q t k = subst (KnowsOpened plans x) (sym (same_opened naming plans old line h new q t)) k

quiet_shown : {A : Type 0} (plans : A → Plan) (n : Noted) (old : Session A) (e : Option (Event A)) (h : Heard) (new : Session A) → is_quiet h ≡ true → said_of h ≡ explained_of plans n old e h new
quiet_shown plans n old e heards.Nothing new q = refl
quiet_shown plans n old e heards.Opened new q = refl
quiet_shown plans n old e (heards.Stepped r) new q = absurd cc
quiet_shown plans n old e (heards.Fault f) new q = refl

quiet_noted : {A : Type 0} (plans : A → Plan) (n : Noted) (h : Heard) (new : Session A) → is_quiet h ≡ true → n ≡ noted_behind plans n h new
quiet_noted plans n heards.Nothing new q = refl
quiet_noted plans n heards.Opened new q = absurd cc
quiet_noted plans n (heards.Stepped r) new q = absurd cc
quiet_noted plans n (heards.Fault f) new q = refl

pub quiet_follows : {A : Type 0} (naming : Naming A) (plans : A → Plan) (n : Noted) (old : Session A) (line : List ℕ) (h : Heard) (new : Session A) (text : List ℕ) → is_quiet h ≡ true → Hears naming plans old line h new → text ≡ said_of h → Shows (explained naming plans) n old line n new text
quiet_follows naming plans n old line h new text q t shown =
    (h, record { hears = t; shown = shown ∙ quiet_shown plans n old (event_said naming line) h new q; noted = quiet_noted plans n h new q })

-- ---- any line

-- once a line was heard enough is known to explain it
pub is_ready : {A : Type 0} (naming : Naming A) (plans : A → Plan) (x : Option Known) (old : Session A) (line : List ℕ) (h : Heard) (new : Session A) → KnowsOpened plans x old.opened → Hears naming plans old line h new → IsReady plans x h new.opened
is_ready naming plans x old line heards.Nothing new k t = quiet_known naming plans x old line heards.Nothing new refl t k
is_ready naming plans x old line heards.Opened new k t = is_opened naming plans old line new t
is_ready naming plans x old line (heards.Stepped r) new k t = step_first naming plans x old new line r k t
is_ready naming plans x old line (heards.Fault f) new k t = quiet_known naming plans x old line (heards.Fault f) new refl t k

quietly : {A : Type 0} (naming : Naming A) (plans : A → Plan) (x : Option Known) (old : Session A) (line : List ℕ) (h : Heard) (new : Session A) (text : List ℕ) (now : Noted) → is_quiet h ≡ true → Hears naming plans old line h new → text ≡ said_of h → now ≡ noted_in x → Shows (explained naming plans) (noted_in x) old line now new text
quietly naming plans x old line h new text now q t shown noted =
    subst (λ (n : Noted). Shows (explained naming plans) (noted_in x) old line n new text) (sym noted) (quiet_follows naming plans (noted_in x) old line h new text q t shown)

-- what was shown of a line is what is to be shown of it
pub line_follows : {A : Type 0} (naming : Naming A) (plans : A → Plan) (number : ℕ) (x : Option Known) (old : Session A) (line : List ℕ) (h : Heard) (new : Session A) (text : List ℕ) (now : Noted) → KnowsOpened plans x old.opened → Hears naming plans old line h new → number ≡ new.count
    → text ≡ line_shown_after plans (noted_in x) number (event_said naming line) h new.opened → now ≡ noted_then plans (noted_in x) number h new.opened → Shows (explained naming plans) (noted_in x) old line now new text
line_follows naming plans number x old line heards.Nothing new text now k t is shown noted = quietly naming plans x old line heards.Nothing new text now refl t shown noted
line_follows naming plans number x old line heards.Opened new text now k t is shown noted = header_follows naming plans number (noted_in x) now old line new text t is shown noted
line_follows naming plans number x old line (heards.Stepped r) new text now k t is shown noted = step_follows naming plans number x old line r new text now k t is shown noted
line_follows naming plans number x old line (heards.Fault f) new text now k t is shown noted = quietly naming plans x old line (heards.Fault f) new text now refl t shown noted
