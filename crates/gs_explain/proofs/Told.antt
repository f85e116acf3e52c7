-- Events explained one after another.
use Rattle.std.proofs.Common.{◌≡◌, refl, sym, subst, ◌∙◌, ap, ℕ, false, Option, Result, Ok, List, [], ◌∷◌, ◌++◌, append-nil, append_assoc}
use Rattle.std.specs.List.{list_any}
use Rattle.std.proofs.lemmas.List.Folds.{list_any-append}
use Rattle.gs_replies.specs.declared.config.Config.{Config}
use Rattle.gs_core.specs.declared.event.Event.{Event}
use Rattle.gs_replies.specs.declared.reply.Reply.{Reply}
use Rattle.gs_core.specs.Machine.{Plan, State, planning, start}
use Rattle.gs_core.specs.Short.{wants_memory}
use Rattle.gs_reasons.specs.declared.index.Index.{Index}
use Rattle.gs_script.specs.declared.fault.ScriptFault.{ScriptFault}
use Rattle.gs_script.specs.Naming.{Naming}
use Rattle.gs_script.specs.Script.{Script, with_config, with_event}
use Rattle.gs_script.specs.Unread.{Opens, Unread, events_unread, said_unread}
use Rattle.gs_script.proofs.Lines.{with_front_nil}
use Rattle.gs_script.proofs.Unread.{front_more, front_none}
use Rattle.gs_trace.specs.declared.run.Ended.TheVariants.{Ran}
use Rattle.gs_trace.specs.Output.{IsAnswerOf}
use Rattle.gs_trace.specs.Noted.{Noted, noted_after, noted_first}
use Rattle.gs_explain.specs.Explained.{Explains, Line, Show, TellsOf, row_of}
use Rattle.gs_explain.specs.Telling.{ExplainsOne, IsToldAll, ToldSoFar, ToldUpTo}

pub none_told : {A : Type 0} (plans : A → Plan) (show : Show) (n : Noted) (m : State) (script : Result (List (Event A)) ScriptFault) (says : List Line) → ToldUpTo plans show n m script script says says n m []
none_told plans show n m script says = record { events = []; lines = []; is = sym (with_front_nil script); says = refl; told = record { replies = []; leads = λ left others more end rest t. t; sufficed = refl } }

suffices : (rs : List Reply) (r : Reply) → list_any wants_memory rs ≡ false → list_any wants_memory (r ∷ []) ≡ false → list_any wants_memory (rs ++ r ∷ []) ≡ false
suffices rs r h k = rw (list_any-append wants_memory rs (r ∷ []), h, k) refl

one_more : {A : Type 0} (plans : A → Plan) (show : Show) (n : Noted) (m : State) (es : List (Event A)) (xs : List Line) (noted : Noted) (now : State) (e : Event A) (x : Line) (out : List ℕ) (next : State) (noted' : Noted) (index : Index) (marks : List (Option ℕ)) (out' : List ℕ)
    → ToldSoFar plans show n m es xs noted now out → ExplainsOne plans show noted now x e next noted' index marks out out' → ToldSoFar plans show n m (es ++ e ∷ []) (xs ++ x ∷ []) noted' next out'
one_more plans show n m es xs noted now e x out next noted' index marks out' so_far one =
    let row : List ℕ = row_of show noted now x e one.reply next in
    record {
      replies = so_far.replies ++ one.reply ∷ [];
      leads =
          λ left others more end text t.
          let after : Explains plans show (noted_after x.0 one.reply next noted) next left more others end text = subst (λ (w : Noted). Explains plans show w next left more others end text) one.lines t in
          let whole : Explains plans show n m (es ++ e ∷ left) (so_far.replies ++ one.reply ∷ more) (xs ++ x ∷ others) end (out ++ (row ++ text)) =
          so_far.leads (e ∷ left) (x ∷ others) (one.reply ∷ more) end (row ++ text) (next, text, one.step, one.safe, one.faithful, refl, after) in
          let lists : Explains plans show n m ((es ++ e ∷ []) ++ left) ((so_far.replies ++ one.reply ∷ []) ++ more) ((xs ++ x ∷ []) ++ others) end (out ++ (row ++ text)) =
          subst (λ (ds : List (Event _)). Explains plans show n m ds ((so_far.replies ++ one.reply ∷ []) ++ more) ((xs ++ x ∷ []) ++ others) end (out ++ (row ++ text))) (sym (append_assoc es (e ∷ []) left))
          (subst (λ (ys : List Line). Explains plans show n m (es ++ e ∷ left) ((so_far.replies ++ one.reply ∷ []) ++ more) ys end (out ++ (row ++ text))) (sym (append_assoc xs (x ∷ []) others))
          (subst (λ (rs : List Reply). Explains plans show n m (es ++ e ∷ left) rs (xs ++ x ∷ others) end (out ++ (row ++ text))) (sym (append_assoc so_far.replies (one.reply ∷ []) more)) whole)) in
          subst (λ (l : List ℕ). Explains plans show n m ((es ++ e ∷ []) ++ left) ((so_far.replies ++ one.reply ∷ []) ++ more) ((xs ++ x ∷ []) ++ others) end l) (sym (append_assoc out row text) ∙ ap (λ l. l ++ text) (sym one.shown)) lists;
      sufficed = suffices so_far.replies one.reply so_far.sufficed one.sufficed;
    }

-- one more event was read and explained
pub one_told : {A : Type 0} (plans : A → Plan) (show : Show) (n : Noted) (m : State) (script left rest : Result (List (Event A)) ScriptFault) (says others behind : List Line) (noted : Noted) (now : State) (e : Event A) (x : Line) (out : List ℕ) (next : State) (noted' : Noted) (index : Index) (marks : List (Option ℕ)) (out' : List ℕ)
    → ToldUpTo plans show n m script left says others noted now out → left ≡ with_event e rest → others ≡ x ∷ behind → ExplainsOne plans show noted now x e next noted' index marks out out' → ToldUpTo plans show n m script rest says behind noted' next out'
one_told plans show n m script left rest says others behind noted now e x out next noted' index marks out' so_far is_left is_others one =
    record {
      events = so_far.events ++ e ∷ [];
      lines = so_far.lines ++ x ∷ [];
      is = front_more so_far.events e left rest script so_far.is is_left;
      says = so_far.says ∙ ap (λ xs. so_far.lines ++ xs) is_others ∙ sym (append_assoc so_far.lines (x ∷ []) behind);
      told = one_more plans show n m so_far.events so_far.lines noted now e x out next noted' index marks out' so_far.told one;
    }

pub all_told : {A : Type 0} (plans : A → Plan) (show : Show) (n : Noted) (m : State) (script left : Result (List (Event A)) ScriptFault) (says others : List Line) (noted : Noted) (now : State) (out : List ℕ) → ToldUpTo plans show n m script left says others noted now out → left ≡ Ok [] → others ≡ [] → IsToldAll plans show n m script says now out
all_told plans show n m script left says others noted now out t none_left no_others =
    record {
      events = t.events;
      is = front_none t.events left script t.is none_left;
      replies = t.told.replies;
      explains =
          subst (λ (xs : List Line). Explains plans show n m t.events t.told.replies xs now out) (ap (λ xs. t.lines ++ xs) (sym no_others) ∙ sym t.says)
          (subst (λ (es : List (Event _)). Explains plans show n m es t.told.replies (t.lines ++ []) now out) (append-nil t.events)
          (subst (λ (rs : List Reply). Explains plans show n m (t.events ++ []) rs (t.lines ++ []) now out) (append-nil t.told.replies)
          (subst (λ (l : List ℕ). Explains plans show n m (t.events ++ []) (t.told.replies ++ []) (t.lines ++ []) now l) (append-nil out) (t.told.leads [] [] [] now [] (refl, refl)))));
      sufficed = t.told.sufficed;
    }

-- what was told of the lines behind the header's explains the script
pub explained_of : {A : Type 0} (naming : Naming A) (plans : A → Plan) (show : Show) (script : Result (Script A) ScriptFault) (shown : List Line) (c : Config A) (header : ℕ) (behind : Unread) (m end : State) (out : List ℕ)
    → Opens naming script shown c header behind → m ≡ planning plans (start c) → IsToldAll plans show (noted_first header) m (events_unread naming behind) (said_unread behind) end out → IsAnswerOf (TellsOf plans show shown) script Ran out
explained_of naming plans show script shown c header behind m end out opened begun t =
    subst (λ (s : Result (Script _) ScriptFault). IsAnswerOf (TellsOf plans show shown) s Ran out) (sym (opened.is ∙ ap (with_config c) t.is))
    (subst (λ (xs : List Line). IsAnswerOf (TellsOf plans show xs) (Ok (record { config = c; events = t.events })) Ran out) (sym opened.says)
    (refl, record { replies = t.replies; left = end; explains = subst (λ (n : State). Explains plans show (noted_first header) n t.events t.replies (said_unread behind) end out) begun t.explains; sufficed = t.sufficed }))
