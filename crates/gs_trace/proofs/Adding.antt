-- The replies of a run, added one by one.
use Rattle.std.proofs.Common.{◌≡◌, refl, sym, subst, ◌∙◌, ap, ℕ, false, List, [], ◌∷◌, ◌++◌, append-nil, append_assoc, map, Bool, ◌||◌, Result, Ok, Err, OnOk}
use Rattle.std.proofs.lemmas.List.{map-append}
use Rattle.std.specs.List.{list_any}
use Rattle.std.proofs.lemmas.List.Folds.{list_any-append}
use Rattle.gs_core.specs.declared.event.Event.{Event}
use Rattle.gs_replies.specs.declared.reply.Reply.{Reply}
use Rattle.gs_replies.specs.declared.config.Config.{Config}
use Rattle.gs_core.specs.Machine.{Plan, State, Step, planned, planning, start}
use Rattle.gs_core.specs.Safe.{Safe, IsFaithful, Run}
use Rattle.gs_core.specs.Short.{wants_memory}
use Rattle.gs_journal.specs.History.{History}
use Rattle.gs_lines.specs.Lines.{lines, reply_lines}
use Rattle.gs_lines.proofs.Laws.{lines_more}
use Rattle.gs_script.specs.declared.fault.ScriptFault.{ScriptFault}
use Rattle.gs_script.specs.Script.{Script, with_config, with_event}
use Rattle.gs_script.proofs.Unread.{front_more, front_none}
use Rattle.gs_trace.specs.declared.run.Ended.TheVariants.{Ran}
use Rattle.gs_trace.specs.Output.{Answers, IsAnswerOf}
use Rattle.gs_trace.specs.Adding.{AddedSoFar, AddedUpTo, AddsOne, ShowsRun}

suffices : (rs : List Reply) (r : Reply) → list_any wants_memory rs ≡ false → list_any wants_memory (r ∷ []) ≡ false → list_any wants_memory (rs ++ r ∷ []) ≡ false
suffices rs r h k = rw (list_any-append wants_memory rs (r ∷ []), h, k) refl

one_added : {T : Type 0} (Has : T → List Reply → Type 0) (m : State) (es : List (Event Plan)) (now next : State) (e : Event Plan) (r : Reply) (old new : T)
    → AddedSoFar Has m es now old → Step now e r next → Safe next → IsFaithful next → list_any wants_memory (r ∷ []) ≡ false → ((rs : List Reply) → Has old rs → Has new (rs ++ r ∷ [])) → AddedSoFar Has m (es ++ e ∷ []) next new
one_added Has m es now next e r old new so_far step safe faithful fine grows =
    record {
      replies = so_far.replies ++ r ∷ [];
      leads =
          λ left more end run.
          subst (λ (ds : List (Event Plan)). Run m ds ((so_far.replies ++ r ∷ []) ++ more) end) (sym (append_assoc es (e ∷ []) left))
          (subst (λ (rs : List Reply). Run m (es ++ e ∷ left) rs end) (sym (append_assoc so_far.replies (r ∷ []) more))
          (so_far.leads (e ∷ left) (r ∷ more) end (next, step, safe, faithful, run)));
      sufficed = suffices so_far.replies r so_far.sufficed fine;
      has = grows so_far.replies so_far.has;
    }

-- an event was run, by what came of it and whether its reply was added
pub adds_one : {T E : Type 0} (Has : T → List Reply → Type 0) (m : State) (e : Event Plan) (r : Reply) (next : State) (old new : T) (done : Result (Unit {0}) E) → Step m e r next → Safe next → IsFaithful next → OnOk done (wants_memory r ≡ false)
    → OnOk done ((rs : List Reply) → Has old rs → Has new (rs ++ r ∷ [])) → OnOk done (AddsOne Has m e next old new)
adds_one Has m e r next old new (Ok k) step safe faithful fine grows = record { reply = r; step = step; safe = safe; faithful = faithful; sufficed = ap (λ (b : Bool). b || false) fine; grows = grows }
adds_one Has m e r next old new (Err f) step safe faithful fine grows = tt

-- one more event was read and run
pub added_more : {A T : Type 0} (plans : A → Plan) (Has : T → List Reply → Type 0) (m : State) (script left rest : Result (List (Event A)) ScriptFault) (now next : State) (e : Event A) (old new : T)
    → AddedUpTo plans Has m script left now old → left ≡ with_event e rest → AddsOne Has now (planned plans e) next old new → AddedUpTo plans Has m script rest next new
added_more plans Has m script left rest now next e old new so_far is one =
    record {
      events = so_far.events ++ e ∷ [];
      is = front_more so_far.events e left rest script so_far.is is;
      added =
          subst (λ (es : List (Event Plan)). AddedSoFar Has m es next new) (sym (map-append (planned plans) so_far.events (e ∷ [])))
          (one_added Has m (map (planned plans) so_far.events) now next (planned plans e) one.reply old new so_far.added one.step one.safe one.faithful one.sufficed one.grows);
    }

pub all_added : {A T : Type 0} (plans : A → Plan) (Has : T → List Reply → Type 0) (Shows : List Reply → ℕ → History → List ℕ → Type 0) (m : State) (script : Result (List (Event A)) ScriptFault) (end : State) (sink : T) (out : List ℕ)
    → AddedUpTo plans Has m script (Ok []) end sink → ((rs : List Reply) → Has sink rs → Shows rs end.settings.cpus end.history out) → ShowsRun plans Shows m script end out
all_added plans Has Shows m script end sink out t shows =
    let es : List (Event Plan) = map (planned plans) t.events in
    record {
      events = t.events;
      is = front_none t.events (Ok []) script t.is refl;
      replies = t.added.replies;
      run =
          subst (λ (ds : List (Event Plan)). Run m ds t.added.replies end) (append-nil es)
          (subst (λ (rs : List Reply). Run m (es ++ []) rs end) (append-nil t.added.replies) (t.added.leads [] [] end refl));
      sufficed = t.added.sufficed;
      shown = shows t.added.replies t.added.has;
    }

-- what shows a run of the events behind a header shows the script
pub shown_of : {A : Type 0} (plans : A → Plan) (Shows : List Reply → ℕ → History → List ℕ → Type 0) (script : Result (Script A) ScriptFault) (c : Config A) (behind : Result (List (Event A)) ScriptFault) (m end : State) (out : List ℕ)
    → script ≡ with_config c behind → m ≡ planning plans (start c) → ShowsRun plans Shows m behind end out → IsAnswerOf (Answers plans Shows) script Ran out
shown_of plans Shows script c behind m end out is begun t =
    subst (λ (s : Result (Script _) ScriptFault). IsAnswerOf (Answers plans Shows) s Ran out) (sym (is ∙ ap (with_config c) t.is)) (
      refl,
      record { replies = t.replies; left = end; run = subst (λ (n : State). Run n (map (planned plans) t.events) t.replies end) begun t.run; sufficed = t.sufficed; shown = t.shown },
    )

-- a text of the lines of replies, and of one more
pub text_more : (old new : List ℕ) (r : Reply) → new ≡ old ++ reply_lines r → (rs : List Reply) → old ≡ lines rs → new ≡ lines (rs ++ r ∷ [])
text_more old new r e rs h = e ∙ ap (λ text. text ++ reply_lines r) h ∙ sym (lines_more rs r)
