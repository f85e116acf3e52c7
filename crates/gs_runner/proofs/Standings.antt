-- Whether a call stands in a list of calls.
use Rattle.std.proofs.Common.{◌≡◌, ℕ, zero, suc, Bool, true, false, IsTrue, true≢false, List, ◌∷◌, Some, slice_get, sym, ap, subst, ◌∙◌, ◌⊎◌, inl, inr}
use Rattle.std.proofs.lemmas.Bool.{false≢true}
use Rattle.std.specs.List.{list_all}
use Rattle.std.specs.Prelude.{◌↔◌, ◌&&◌}
use Rattle.gs_journal.specs.History.{History}
use Rattle.gs_runner.specs.declared.kept.Kept.{Kept}
use Rattle.gs_runner.specs.declared.command.Command.{Command}
use Rattle.gs_runner.specs.declared.call.Call.{Call}
use Rattle.gs_runner.specs.declared.call.Receipt.{Receipt}
use Rattle.gs_runner.specs.Holds.{Stands, answers_command, call_of}
use Rattle.gs_runner.specs.Kept.{call_kept, calls_kept}

stands_first : (x : Call) (xs : List Call) (c : Command) (r : Receipt) → Stands (x ∷ xs) c r → (x ≡ call_of c r) ⊎ Stands xs c r
stands_first x xs c r t = by_place t.0 t.1
  where
    by_place : (k : ℕ) → slice_get (x ∷ xs) k ≡ Some (call_of c r) → (x ≡ call_of c r) ⊎ Stands xs c r
    by_place zero e = inl cc
    by_place (suc k) e = inr (k, e)

-- behind a call that is another one
pub stands_exactly : (x : Call) (xs all : List Call) (c : Command) (r : Receipt) (here later : Bool) → all ≡ x ∷ xs → (IsTrue here ↔ (x ≡ call_of c r)) → here ≡ false → (IsTrue later ↔ Stands xs c r) → IsTrue later ↔ Stands all c r
stands_exactly x xs all c r here later whole is none rest = ((λ yes. subst (λ (l : List Call). Stands l c r) (sym whole) (let t = rest.0 yes in (suc t.0, t.1))), (λ t. by_first (stands_first x xs c r (subst (λ (l : List Call). Stands l c r) whole t))))
  where
    is_here : IsTrue here ↔ (x ≡ call_of c r)
    is_here = is

    is_none : here ≡ false
    is_none = none

    is_later : IsTrue later ↔ Stands xs c r
    is_later = rest

    by_first : (x ≡ call_of c r) ⊎ Stands xs c r → IsTrue later
    by_first (inl e) = absurd (true≢false (sym (is_here.1 e) ∙ is_none))
    by_first (inr t) = is_later.1 t

-- those behind the first have replies of commands too
pub answered_later : (h : History) (o : List Call) (k : Kept) (ks all : List Kept) → all ≡ k ∷ ks → list_all answers_command (calls_kept h o all) ≡ true → list_all answers_command (calls_kept h o ks) ≡ true
answered_later h o k ks all is e = by_first (answers_command (call_kept h o k)) (sym (ap (λ (l : List Kept). list_all answers_command (calls_kept h o l)) is) ∙ e)
  where
    by_first : (b : Bool) → (b && list_all answers_command (calls_kept h o ks)) ≡ true → list_all answers_command (calls_kept h o ks) ≡ true
    by_first true e = e
    by_first false e = absurd (false≢true e)
