-- An event that happened, by what came of it.
use Rattle.std.proofs.Common.{◌≡◌, ◌∙◌, ◌++◌, ◌∷◌, [], false, ap, sym, subst, ℕ, Option, List, Result, Ok, Err, OnOk, arith, length, take}
use Rattle.std.specs.List.{list_any}
use Rattle.std.proofs.lemmas.Result.{on_ok_weaker}
use Rattle.gs_replies.specs.declared.reply.Reply.{Reply}
use Rattle.gs_core.specs.declared.event.Event.{Event}
use Rattle.gs_core.specs.Machine.{Plan, State, Step, planned}
use Rattle.gs_core.specs.Safe.{Safe, IsFaithful}
use Rattle.gs_core.specs.Short.{wants_memory}
use Rattle.gs_journal.specs.History.{History}
use Rattle.gs_reasons.specs.declared.index.Index.{Index}
use Rattle.gs_reasons.specs.Kept.{HasHeard}
use Rattle.gs_trace.specs.Noted.{Noted, noted_after}
use Rattle.gs_explain.specs.Explained.{Line, Show}
use Rattle.gs_explain.specs.Marked.{IsMarked}
use Rattle.gs_explain.specs.Moment.{Moment, bare, moment_with}
use Rattle.gs_explain.specs.Telling.{ExplainsOne, Stood, TellsOne}
use Rattle.gs_explain.proofs.Moments.{both_ok}
use Rattle.gs_explain.proofs.Grown.{stamps_kept, stamps_longer, step_keeps, step_longer}

-- what was heard and marked before an event, by the machine that it left
pub stood : (m : State) (e : Event Plan) (r : Reply) (next : State) (first stamped : ℕ) (index : Index) (marks : List (Option ℕ)) → Step m e r next → first ≡ length m.history → stamped ≡ length m.transactions → HasHeard index m.history
    → IsMarked marks m.transactions → Stood first stamped index marks next
stood m e r next first stamped index marks step is_first is_stamped heard marked =
    let longer = step_longer m e r next step in
    let more = stamps_longer m e r next step in
    record {
      entries = omega (arith, is_first, longer);
      heard = subst (HasHeard index) (sym (ap (λ (k : ℕ). take k next.history) is_first ∙ step_keeps m e r next step)) heard;
      transactions = omega (arith, is_stamped, more);
      marked = subst (IsMarked marks) (sym (ap (λ (k : ℕ). take k next.transactions) is_stamped ∙ stamps_kept m e r next step)) marked;
    }

-- an event is explained by what came of it
pub explains_one : {A U E : Type 0} (plans : A → Plan) (show : Show) (n : Noted) (m : State) (x : Line) (e : Event A) (b : Event (Unit {0})) (r : Reply) (next : State) (first : ℕ) (noted : Noted) (index : Index) (marks : List (Option ℕ)) (old new : List ℕ) (done : Result U E)
    → Step m (planned plans e) r next → Safe next → IsFaithful next → b ≡ bare e → first ≡ length m.history → OnOk done (TellsOne show n first x b r next noted index marks old new) → OnOk done (ExplainsOne plans show n m x e next noted index marks old new)
explains_one plans show n m x e b r next first noted index marks old new done step safe faithful is_b is_first told =
    on_ok_weaker done
    (λ t. record {
      reply = r;
      step = step;
      safe = safe;
      faithful = faithful;
      sufficed = t.sufficed;
      lines = t.lines;
      heard = t.heard;
      marked = t.marked;
      shown = t.shown ∙ ap (λ (k : ℕ). old ++ show x (moment_with (noted_after x.0 r next n) b next) k r) is_first ∙ ap (λ (c : Event (Unit {0})). old ++ show x (moment_with (noted_after x.0 r next n) c next) (length m.history) r) is_b;
    }) told

-- from three facts of what was done
pub three_ok : {A E : Type 0} (r : Result A E) (X Y Z W : Type 0) → (X → Y → Z → W) → OnOk r X → OnOk r Y → OnOk r Z → OnOk r W
three_ok (Ok a) X Y Z W f x y z = f x y z
three_ok (Err e) X Y Z W f x y z = x

-- what was explained of an event, by what is at hand
pub tells_one : {A E : Type 0} (show : Show) (n : Noted) (first : ℕ) (x : Line) (e : Event (Unit {0})) (r : Reply) (next : State) (noted : Noted) (index : Index) (marks : List (Option ℕ)) (old new : List ℕ) (at_hand : Moment) (history : History) (done : Result A E)
    → list_any wants_memory (r ∷ []) ≡ false → noted ≡ noted_after x.0 r next n → at_hand ≡ moment_with noted e next → history ≡ next.history → IsMarked marks next.transactions
    → OnOk done (new ≡ old ++ show x at_hand first r) → OnOk done (HasHeard index history) → OnOk done (TellsOne show n first x e r next noted index marks old new)
tells_one show n first x e r next noted index marks old new at_hand history done sufficed lines is is_history marked =
    both_ok done _ _ _
    (λ shown heard. record {
      sufficed = sufficed;
      lines = lines;
      heard = subst (HasHeard index) is_history heard;
      marked = marked;
      shown = shown ∙ ap (λ (y : Moment). old ++ show x y first r) (is ∙ ap (λ (w : Noted). moment_with w e next) lines);
    })
