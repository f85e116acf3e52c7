-- What an enclave shows as it begins.
use Rattle.std.proofs.Common.{◌≡◌, ℕ, false, [], ◌∷◌, refl, ap, sym, subst, ◌∙◌}
use Rattle.gs_board.specs.declared.rule.Words.{Words}
use Rattle.gs_board.specs.Views.{opening_words}
use Rattle.gs_status.proofs.Laws.{nobody}
use Rattle.gs_journal.specs.declared.entry.Entry.TheVariants.{Role}
use Rattle.gs_journal.specs.Standing.{last_of, latest, standing}
use Rattle.gs_journal.specs.History.{History, active, generation, last_taken, taken}
use Rattle.gs_runner.specs.Enclaves.{IsShown, role_of}

opening_role : (g : ℕ) → role_of (Role g 0 ∷ []) ≡ (g, 0)
unfolding active generation latest standing last_of
opening_role g = refl

opening_taken : (g c : ℕ) → taken (Role g 0 ∷ []) c ≡ false
unfolding taken last_taken latest standing last_of
opening_taken g c = refl

opens : (g : ℕ) → IsShown (opening_words (g, 0) 0 0) (Role g 0 ∷ [])
opens g = record { role = ([], ap (λ (r : ℕ × ℕ). r ∷ []) (sym (opening_role g))); mask = 0; low = ([], refl); high = ([], refl); holds = λ c. nobody c ∙ sym (opening_taken g c) }

-- the opening words are those of the opening entry
pub opens_so : (g : ℕ) (words : Words) (h : History) → words ≡ opening_words (g, 0) 0 0 → h ≡ Role g 0 ∷ [] → IsShown words h
opens_so g words h is was = subst (λ (w : Words). IsShown w h) (sym is) (subst (λ (x : History). IsShown (opening_words (g, 0) 0 0) x) (sym was) (opens g))
