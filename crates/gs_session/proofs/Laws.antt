-- What a session heard is a run of the lines without a fault.
use Rattle.std.proofs.Common.{◌≡◌, refl, ap, sym, subst, ◌∙◌, ℕ, ◌+◌, Bool, true, false, cond, nat_lt, length, List, [], ◌∷◌, map, Option, None, Some, Result, Ok, Err}
use Rattle.gs_replies.specs.declared.config.Config.{Config}
use Rattle.gs_replies.specs.declared.reply.Reply.{Reply}
use Rattle.gs_core.specs.declared.event.Event.{Event}
use Rattle.gs_core.specs.Machine.{Plan, StateOf, planned, planning, start}
use Rattle.gs_core.specs.Safe.{Run}
use Rattle.gs_script.specs.declared.fault.Reason.{Reason}
use Rattle.gs_script.specs.declared.fault.Reason.TheVariants.{NoHeader, TooLong}
use Rattle.gs_script.specs.declared.fault.ScriptFault.{ScriptFault}
use Rattle.gs_script.specs.declared.script.TheConstants.{MOST_BYTES}
use Rattle.gs_script.specs.Header.{header_of}
use Rattle.gs_script.specs.Naming.{Naming}
use Rattle.gs_script.specs.Rows.{event_of}
use Rattle.gs_script.specs.Script.{Script, before, events_of, fault, headed, says, script_from, with_config, with_event}
use Rattle.gs_session.specs.declared.heard.Heard.{Heard}
use Rattle.gs_session.specs.Session.{Session, HearsAt, HearsEvent, HearsHeader, Steps, read_within, unheard}
use Rattle.gs_session.specs.Lines.{HearsAll, IsRunIn, faultless, replies_in}

-- a line that is read is not too long
says_within : {A : Type 0} (read : List (List ℕ) → Result A Reason) (line : List ℕ) (x : Option A) → read_within read line ≡ Ok x → says read line ≡ Ok x
says_within {A} read line x h = by_test (nat_lt MOST_BYTES (length line)) (says read line) h
  where
    by_test : (b : Bool) (r : Result (Option A) Reason) → cond b (Err TooLong) r ≡ Ok x → r ≡ Ok x
    by_test true r e = absurd (cc)
    by_test false r e = e

module _ {A : Type 0} (naming : Naming A) (plans : A → Plan) where
  -- lines, numbered from n on, say events whose run from a machine has these replies, and leaves another
  record RunsOn (n : ℕ) (m : StateOf A) (lines : List (List ℕ)) (replies : List Reply) (after : Option (StateOf A)) : Type 0 where
    events : List (Event A)
    left : StateOf A
    leaves : after ≡ Some left
    is : events_of naming n lines ≡ Ok events
    run : Run (planning plans m) (map (planned plans) events) replies (planning plans left)

  nothing_more : (n : ℕ) (m : StateOf A) (line : List ℕ) (lines : List (List ℕ)) (replies : List Reply) (after : Option (StateOf A)) → says (event_of naming) line ≡ Ok None → RunsOn (n + 1) m lines replies after → RunsOn n m (line ∷ lines) replies after
  nothing_more n m line lines replies after said t =
      record { events = t.events; left = t.left; leaves = t.leaves; is = ap (λ s. before n s (events_of naming (n + 1) lines)) said ∙ t.is; run = t.run }

  event_more : (n : ℕ) (m : StateOf A) (e : Event A) (line : List ℕ) (lines : List (List ℕ)) (h : Heard) (replies : List Reply) (mid after : Option (StateOf A)) → says (event_of naming) line ≡ Ok (Some e) → (one : Steps plans m e h mid) → RunsOn (n + 1) one.next lines replies after → RunsOn n m (line ∷ lines) (one.reply ∷ replies) after
  event_more n m e line lines h replies mid after said one t =
      record {
        events = e ∷ t.events;
        left = t.left;
        leaves = t.leaves;
        is = ap (λ s. before n s (events_of naming (n + 1) lines)) said ∙ ap (with_event e) t.is;
        run = (planning plans one.next, one.step, one.safe, one.faithful, t.run);
      }

  -- one line behind the header, and then those that follow
  line_runs : (n k : ℕ) (m : StateOf A) (line : List ℕ) (lines : List (List ℕ)) (h : Heard) (hs : List Heard) (mid after : Option (StateOf A)) (r : Result (Option (Event A)) Reason) → read_within (event_of naming) line ≡ r → HearsEvent plans k m r h mid
      → ((i : ℕ) (x : StateOf A) → mid ≡ Some x → RunsOn i x (faultless lines hs) (replies_in hs) after) → RunsOn n m (faultless (line ∷ lines) (h ∷ hs)) (replies_in (h ∷ hs)) after
  line_runs n k m line lines h hs mid after (Err reason) said t behind =
      subst (λ (x : Heard). RunsOn n m (faultless (line ∷ lines) (x ∷ hs)) (replies_in (x ∷ hs)) after) (sym t.0) (behind n m t.1)
  line_runs n k m line lines h hs mid after (Ok None) said t behind =
      subst (λ (x : Heard). RunsOn n m (faultless (line ∷ lines) (x ∷ hs)) (replies_in (x ∷ hs)) after) (sym t.0)
      (nothing_more n m line (faultless lines hs) (replies_in hs) after (says_within (event_of naming) line None said) (behind (n + 1) m t.1))
  line_runs n k m line lines h hs mid after (Ok (Some e)) said t behind =
      subst (λ (x : Heard). RunsOn n m (faultless (line ∷ lines) (x ∷ hs)) (replies_in (x ∷ hs)) after) (sym t.replied)
      (event_more n m e line (faultless lines hs) h (replies_in hs) mid after (says_within (event_of naming) line (Some e) said) t (behind (n + 1) t.next t.becomes))

  events_run : (n : ℕ) (m : StateOf A) (s : Session A) (lines : List (List ℕ)) (hs : List Heard) (after : Session A) → s.opened ≡ Some m → HearsAll naming plans s lines hs after → RunsOn n m (faultless lines hs) (replies_in hs) after.opened
  events_run n m s [] [] after o t = record { events = []; left = m; leaves = ap (λ (x : Session A). x.opened) t ∙ o; is = refl; run = refl }
  events_run n m s [] (h ∷ hs) after o t = absurd t
  events_run n m s (line ∷ lines) [] after o t = absurd t
  events_run n m s (line ∷ lines) (h ∷ hs) after o (mid, hears, rest) =
      line_runs n mid.count m line lines h hs mid.opened after.opened (read_within (event_of naming) line) refl
      (subst (λ (x : Option (StateOf A)). HearsAt naming plans mid.count line x h mid.opened) o hears.does)
      (λ i x e. events_run i x mid lines hs after e rest)

  -- a header, and then events
  header_run : (n : ℕ) (c : Config A) (line : List ℕ) (lines : List (List ℕ)) (replies : List Reply) (after : Option (StateOf A)) → says (header_of naming) line ≡ Ok (Some c) → RunsOn (n + 1) (start c) lines replies after → IsRunIn plans (script_from naming n (line ∷ lines)) replies after
  header_run n c line lines replies after said t =
      subst (λ (x : Option (StateOf A)). IsRunIn plans (script_from naming n (line ∷ lines)) replies x) (sym t.leaves) (
      record {
        says = record { config = c; events = t.events };
        is = ap (λ s. headed n s (script_from naming (n + 1) lines) (events_of naming (n + 1) lines)) said ∙ ap (with_config c) t.is;
        run = t.run;
      })

  -- one line before the header, and then those that follow
  line_before : (n k : ℕ) (line : List ℕ) (lines : List (List ℕ)) (h : Heard) (hs : List Heard) (mid after : Option (StateOf A)) (r : Result (Option (Config A)) Reason) → read_within (header_of naming) line ≡ r → HearsHeader k r h mid
      → ((i : ℕ) → mid ≡ None → IsRunIn plans (script_from naming i (faultless lines hs)) (replies_in hs) after)
      → ((i : ℕ) (x : StateOf A) → mid ≡ Some x → RunsOn i x (faultless lines hs) (replies_in hs) after) → IsRunIn plans (script_from naming n (faultless (line ∷ lines) (h ∷ hs))) (replies_in (h ∷ hs)) after
  line_before n k line lines h hs mid after (Err reason) said t none some =
      subst (λ (x : Heard). IsRunIn plans (script_from naming n (faultless (line ∷ lines) (x ∷ hs))) (replies_in (x ∷ hs)) after) (sym t.0) (none n t.1)
  line_before n k line lines h hs mid after (Ok None) said t none some =
      subst (λ (x : Heard). IsRunIn plans (script_from naming n (faultless (line ∷ lines) (x ∷ hs))) (replies_in (x ∷ hs)) after) (sym t.0)
      (subst (λ (s : Result (Script A) ScriptFault). IsRunIn plans s (replies_in hs) after)
      (sym (ap (λ s. headed n s (script_from naming (n + 1) (faultless lines hs)) (events_of naming (n + 1) (faultless lines hs))) (says_within (header_of naming) line None said))) (none (n + 1) t.1))
  line_before n k line lines h hs mid after (Ok (Some c)) said t none some =
      subst (λ (x : Heard). IsRunIn plans (script_from naming n (faultless (line ∷ lines) (x ∷ hs))) (replies_in (x ∷ hs)) after) (sym t.0)
      (header_run n c line (faultless lines hs) (replies_in hs) after (says_within (header_of naming) line (Some c) said) (some (n + 1) (start c) t.1))

  run_from : (n : ℕ) (s : Session A) (lines : List (List ℕ)) (hs : List Heard) (after : Session A) → s.opened ≡ None → HearsAll naming plans s lines hs after → IsRunIn plans (script_from naming n (faultless lines hs)) (replies_in hs) after.opened
  run_from n s [] [] after o t = subst (λ (x : Option (StateOf A)). IsRunIn plans (Err (fault 0 NoHeader)) [] x) (sym (ap (λ (x : Session A). x.opened) t ∙ o)) (refl, refl)
  run_from n s [] (h ∷ hs) after o t = absurd t
  run_from n s (line ∷ lines) [] after o t = absurd t
  run_from n s (line ∷ lines) (h ∷ hs) after o (mid, hears, rest) =
      line_before n mid.count line lines h hs mid.opened after.opened (read_within (header_of naming) line) refl
      (subst (λ (x : Option (StateOf A)). HearsAt naming plans mid.count line x h mid.opened) o hears.does)
      (λ i e. run_from i mid lines hs after e rest)
      (λ i x e. events_run i x mid lines hs after e rest)

  pub all_run : (lines : List (List ℕ)) (hs : List Heard) (after : Session A) → HearsAll naming plans unheard lines hs after → IsRunIn plans (script_from naming 1 (faultless lines hs)) (replies_in hs) after.opened
  all_run lines hs after t = run_from 1 unheard lines hs after refl t
