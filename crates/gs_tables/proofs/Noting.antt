-- Events noted one after another.
use Rattle.std.proofs.Common.{◌≡◌, refl, sym, subst, ◌∙◌, ap, false, Result, Ok, Err, OnOk, ℕ, List, [], ◌∷◌, ◌++◌, append-nil, append_assoc}
use Rattle.std.specs.List.{list_any}
use Rattle.std.proofs.lemmas.Grind.{flat_map-append}
use Rattle.std.proofs.lemmas.List.Folds.{list_any-append}
use Rattle.std.proofs.lemmas.Result.{on_ok_weaker}
use Rattle.gs_journal.specs.declared.entry.Entry.{Entry}
use Rattle.gs_kernel.specs.declared.executed.Executed.{Executed}
use Rattle.gs_kernel.specs.declared.executed.Executed.TheVariants.{Torn, Done}
use Rattle.gs_layout.specs.declared.refusal.Refusal.{Refusal}
use Rattle.gs_kernel.specs.declared.landing.Landing.{Landing}
use Rattle.gs_core.specs.declared.event.Event.{Event}
use Rattle.gs_replies.specs.declared.reply.Reply.{Reply}
use Rattle.gs_replies.specs.Replies.{reply_of}
use Rattle.gs_core.specs.Machine.{Plan, State, Step, planned}
use Rattle.gs_core.specs.Safe.{Safe, IsFaithful}
use Rattle.gs_core.specs.Short.{wants_memory}
use Rattle.gs_script.specs.declared.fault.ScriptFault.{ScriptFault}
use Rattle.gs_script.specs.Script.{with_event}
use Rattle.gs_script.proofs.Lines.{with_front_nil}
use Rattle.gs_script.proofs.Unread.{front_more, front_none}
use Rattle.gs_trace.specs.Noted.{Noted, noted_after}
use Rattle.gs_report.specs.Counts.{landings_of}
use Rattle.gs_tables.specs.Notes.{IsNoted, Line, NotedSoFar, NotedUpTo, Notes, NotesCame, NotesOne, landings_in}

-- a command lands nothing
pub lands_nothing : (came : Result Executed Refusal) (e : Entry) → landings_of (reply_of came e) ≡ []
lands_nothing (Ok Torn) e = refl
lands_nothing (Ok Done) e = refl
lands_nothing (Err f) e = refl

-- an event is noted by what came of it
pub notes_one : {A U E : Type 0} (plans : A → Plan) (n : Noted) (ls : List Landing) (m : State) (x : ℕ) (e : Event A) (r : Reply) (next : State) (noted : Noted) (landings : List Landing) (done : Result U E)
    → Step m (planned plans e) r next → Safe next → IsFaithful next → OnOk done (NotesCame n ls x r next noted landings) → OnOk done (NotesOne plans n ls m x e next noted landings)
notes_one plans n ls m x e r next noted landings done step safe faithful came =
    on_ok_weaker done (λ t. record { reply = r; step = step; safe = safe; faithful = faithful; sufficed = t.sufficed; lines = t.lines; landed = t.landed }) came

pub none_noted : {A : Type 0} (plans : A → Plan) (n : Noted) (m : State) (script : Result (List (Event A)) ScriptFault) (says : List Line) → NotedUpTo plans n m script script says says n [] m
none_noted plans n m script says = record { events = []; lines = []; is = sym (with_front_nil script); says = refl; so_far = record { replies = []; leads = λ left others more end last t. t; sufficed = refl; landed = refl } }

suffices : (rs : List Reply) (r : Reply) → list_any wants_memory rs ≡ false → list_any wants_memory (r ∷ []) ≡ false → list_any wants_memory (rs ++ r ∷ []) ≡ false
suffices rs r h k = rw (list_any-append wants_memory rs (r ∷ []), h, k) refl

land : (rs : List Reply) (r : Reply) (ls ls' : List Landing) → ls ≡ landings_in rs → ls' ≡ ls ++ landings_of r → ls' ≡ landings_in (rs ++ r ∷ [])
land rs r ls ls' is more = more ∙ (ap (λ (xs : List Landing). xs ++ landings_of r) is ∙ (ap (λ (xs : List Landing). landings_in rs ++ xs) (sym (append-nil (landings_of r))) ∙ sym (flat_map-append landings_of rs (r ∷ []))))

one_more : {A : Type 0} (plans : A → Plan) (n : Noted) (m : State) (es : List (Event A)) (xs : List Line) (noted : Noted) (ls : List Landing) (now : State) (e : Event A) (x : Line) (next : State) (noted' : Noted) (ls' : List Landing)
    → NotedSoFar plans n m es xs noted ls now → NotesOne plans noted ls now x.0 e next noted' ls' → NotedSoFar plans n m (es ++ e ∷ []) (xs ++ x ∷ []) noted' ls' next
one_more plans n m es xs noted ls now e x next noted' ls' so_far one =
    record {
      replies = so_far.replies ++ one.reply ∷ [];
      leads =
          λ left others more end last t.
          let after : Notes plans (noted_after x.0 one.reply next noted) next left more others end last = subst (λ (w : Noted). Notes plans w next left more others end last) one.lines t in
          let whole : Notes plans n m (es ++ e ∷ left) (so_far.replies ++ one.reply ∷ more) (xs ++ x ∷ others) end last =
          so_far.leads (e ∷ left) (x ∷ others) (one.reply ∷ more) end last (next, one.step, one.safe, one.faithful, after) in
          subst (λ (ds : List (Event _)). Notes plans n m ds ((so_far.replies ++ one.reply ∷ []) ++ more) ((xs ++ x ∷ []) ++ others) end last) (sym (append_assoc es (e ∷ []) left))
          (subst (λ (ys : List Line). Notes plans n m (es ++ e ∷ left) ((so_far.replies ++ one.reply ∷ []) ++ more) ys end last) (sym (append_assoc xs (x ∷ []) others))
          (subst (λ (rs : List Reply). Notes plans n m (es ++ e ∷ left) rs (xs ++ x ∷ others) end last) (sym (append_assoc so_far.replies (one.reply ∷ []) more)) whole));
      sufficed = suffices so_far.replies one.reply so_far.sufficed one.sufficed;
      landed = land so_far.replies one.reply ls ls' so_far.landed one.landed;
    }

-- one more event was read and noted
pub one_noted : {A : Type 0} (plans : A → Plan) (n : Noted) (m : State) (script left rest : Result (List (Event A)) ScriptFault) (says others behind : List Line) (noted : Noted) (ls : List Landing) (now : State) (e : Event A) (x : Line) (next : State) (noted' : Noted) (ls' : List Landing)
    → NotedUpTo plans n m script left says others noted ls now → left ≡ with_event e rest → others ≡ x ∷ behind → NotesOne plans noted ls now x.0 e next noted' ls' → NotedUpTo plans n m script rest says behind noted' ls' next
one_noted plans n m script left rest says others behind noted ls now e x next noted' ls' so_far is_left is_others one =
    record {
      events = so_far.events ++ e ∷ [];
      lines = so_far.lines ++ x ∷ [];
      is = front_more so_far.events e left rest script so_far.is is_left;
      says = so_far.says ∙ ap (λ xs. so_far.lines ++ xs) is_others ∙ sym (append_assoc so_far.lines (x ∷ []) behind);
      so_far = one_more plans n m so_far.events so_far.lines noted ls now e x next noted' ls' so_far.so_far one;
    }

pub all_noted : {A : Type 0} (plans : A → Plan) (n : Noted) (m : State) (script left : Result (List (Event A)) ScriptFault) (says others : List Line) (noted : Noted) (ls : List Landing) (now : State) → NotedUpTo plans n m script left says others noted ls now → left ≡ Ok [] → others ≡ [] → IsNoted plans n m script says now noted ls
all_noted plans n m script left says others noted ls now t none_left no_others =
    record {
      events = t.events;
      is = front_none t.events left script t.is none_left;
      replies = t.so_far.replies;
      notes =
          subst (λ (xs : List Line). Notes plans n m t.events t.so_far.replies xs now noted) (ap (λ xs. t.lines ++ xs) (sym no_others) ∙ sym t.says)
          (subst (λ (es : List (Event _)). Notes plans n m es t.so_far.replies (t.lines ++ []) now noted) (append-nil t.events)
          (subst (λ (rs : List Reply). Notes plans n m (t.events ++ []) rs (t.lines ++ []) now noted) (append-nil t.so_far.replies) (t.so_far.leads [] [] [] now noted (refl, refl))));
      sufficed = t.so_far.sufficed;
      landed = t.so_far.landed;
    }
