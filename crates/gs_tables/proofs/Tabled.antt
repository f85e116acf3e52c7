-- What shows a run of the events behind a header shows the script.
use Rattle.std.proofs.Common.{◌≡◌, refl, sym, subst, ◌∙◌, ap, ℕ, List, Result, Ok}
use Rattle.gs_kernel.specs.declared.landing.Landing.{Landing}
use Rattle.gs_replies.specs.declared.config.Config.{Config}
use Rattle.gs_core.specs.Machine.{Plan, State, planning, start}
use Rattle.gs_script.specs.declared.fault.ScriptFault.{ScriptFault}
use Rattle.gs_script.specs.Naming.{Naming}
use Rattle.gs_script.specs.Script.{Script, with_config}
use Rattle.gs_script.specs.Unread.{Opens, Unread, events_unread, said_unread}
use Rattle.gs_trace.specs.declared.run.Ended.TheVariants.{Ran}
use Rattle.gs_trace.specs.Noted.{noted_first}
use Rattle.gs_trace.specs.Output.{IsAnswerOf}
use Rattle.gs_tables.specs.declared.run.Table.{Table}
use Rattle.gs_tables.specs.Notes.{Line, Notes}
use Rattle.gs_tables.specs.Tables.{Shows, ShowsRun, TabulatesOf}

pub table_of_script : {A : Type 0} (naming : Naming A) (plans : A → Plan) (table : Table) (script : Result (Script A) ScriptFault) (says : List Line) (c : Config A) (header : ℕ) (behind : Unread) (m end : State) (out : List ℕ)
    → Opens naming script says c header behind → m ≡ planning plans (start c) → ShowsRun plans table (noted_first header) m (events_unread naming behind) (said_unread behind) end out → IsAnswerOf (TabulatesOf plans table says) script Ran out
table_of_script naming plans table script says c header behind m end out opened begun t =
    subst (λ (s : Result (Script _) ScriptFault). IsAnswerOf (TabulatesOf plans table says) s Ran out) (sym (opened.is ∙ ap (with_config c) t.noted.is))
    (subst (λ (xs : List Line). IsAnswerOf (TabulatesOf plans table xs) (Ok (record { config = c; events = t.noted.events })) Ran out) (sym opened.says) (
      refl,
      record {
        replies = t.noted.replies;
        left = end;
        noted = t.last;
        notes = subst (λ (n : State). Notes plans (noted_first header) n t.noted.events t.noted.replies (said_unread behind) end t.last) begun t.noted.notes;
        sufficed = t.noted.sufficed;
        shown = subst (λ (ls : List Landing). Shows table ls t.last.lines end.settings.cpus end.history out) t.noted.landed t.shown;
      },
    ))
