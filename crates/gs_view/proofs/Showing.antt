-- What a walk has still to show, as it goes on.
use Rattle.std.proofs.Common.{◌≡◌, ◌≢◌, ◌⊎◌, inl, inr, refl, ap, sym, ◌∙◌, ℕ, ◌+◌, ◌<◌, ◌≤◌, nat_le, true, false, cond, Option, None, Some, is_some, [], ◌∷◌, arith}
use Rattle.std.proofs.lemmas.Bool.{cases_lt}
use Rattle.std.proofs.lemmas.Bool.Decides.{nat_tests}
use Rattle.slab.specs.Slab.{Slab}
use Rattle.gs_layout.specs.declared.known.Known.{Known}
use Rattle.gs_layout.specs.View.{look_up}
use Rattle.gs_sets.specs.Bits.{IsFirst, IsNone}
use Rattle.gs_view.specs.Index.{IndexState, has_key, key_of, places}
use Rattle.gs_view.specs.Records.{Agree, RecordsState, known_by, record_under, state_of}
use Rattle.gs_view.specs.Shown.{is_known, known_from, shown_from}
use Rattle.gs_view.proofs.Agreed.{known_past, look_known}
use Rattle.gs_view.proofs.Listed.{listed_alike, none_listed}
use Rattle.gs_view.proofs.Steps.{first_listed}

-- a walk from tid 0 has all records to show
pub whole_shown : (i : IndexState) (s : Slab Known) → shown_from 0 (state_of i s) ≡ (state_of i s).entries
whole_shown i s =
    sym (listed_alike (known_by i s) (known_from 0 (state_of i s)) (places i) (places i) (omega arith) (λ t. sym (look_known i s t) ∙ here t) (known_past i s))
  where
    here : (t : ℕ) → look_up (state_of i s).entries t ≡ known_from 0 (state_of i s) t
    here t =
        let reached : nat_le 0 t ≡ true = grind (arith, nat_tests) in
        sym (ap (λ b. cond b (look_up (state_of i s).entries t) None) reached)

-- something is known of a thread if it has a key, and only then
pub known_key : (i : IndexState) (s : Slab Known) → Agree i s → (t : ℕ) → is_known (state_of i s) t ≡ has_key i t
known_key i s agree t = ap is_some (look_known i s t) ∙ by_key (key_of i t) refl
  where
    by_key : (o : Option ℕ) → key_of i t ≡ o → is_some (record_under s (key_of i t)) ≡ is_some (key_of i t)
    by_key None e = ap (λ (o : Option ℕ). is_some (record_under s o)) e ∙ sym (ap is_some e)
    by_key (Some key) e = ap (λ (o : Option ℕ). is_some (record_under s o)) e ∙ (agree.present t key e ∙ sym (ap is_some e))

-- of a tid that a walk has not reached, or of which nothing is known, it has nothing to show
nothing_at : (r : RecordsState) (from t : ℕ) → (from ≤ t → is_known r t ≡ false) → known_from from r t ≡ None
nothing_at r from t none = by_place (cases_lt t from)
  where
    by_known : (o : Option Known) → is_some o ≡ false → o ≡ None
    by_known None e = refl
    by_known (Some k) e = absurd cc

    by_place : (t < from) ⊎ (from ≤ t) → known_from from r t ≡ None
    by_place (inl lt) =
        let before : nat_le from t ≡ false = grind (arith, nat_tests) in
        ap (λ b. cond b (look_up r.entries t) None) before
    by_place (inr le) =
        let reached : nat_le from t ≡ true = grind (arith, nat_tests) in
        ap (λ b. cond b (look_up r.entries t) None) reached ∙ by_known (look_up r.entries t) (none le)

-- nothing is shown any more if nothing is known from there on
pub spent_shown : (r : RecordsState) (from : ℕ) → IsNone (is_known r) from → shown_from from r ≡ []
spent_shown r from none = none_listed (known_from from r) 0 r.tids (λ t _. nothing_at r from t (none t))

-- the first thread of which something is known is shown first, and then those from the tid behind it on
pub first_shown : (r : RecordsState) (from t : ℕ) (k : Known) → IsFirst (is_known r) from t → t < r.tids → look_up r.entries t ≡ Some k
    → shown_from from r ≡ (t, k) ∷ shown_from (t + 1) r
first_shown r from t k first within known =
    first_listed (known_from from r) (known_from (t + 1) r) k 0 r.tids t (omega arith) (omega (arith, within))
    (there from t (omega (arith, first.after)) ∙ known)
    (λ u lt. nothing_at r from u (λ le. first.none_before u le lt))
    (nothing_at r (t + 1) t (λ le. absurd (omega (arith, le))))
    (λ u differs. by_place u differs (cases_lt u t))
  where
    there : (from u : ℕ) → from ≤ u → known_from from r u ≡ look_up r.entries u
    there from u le =
        let reached : nat_le from u ≡ true = grind (arith, nat_tests) in
        ap (λ b. cond b (look_up r.entries u) None) reached

    by_place : (u : ℕ) → u ≢ t → (u < t) ⊎ (t ≤ u) → known_from (t + 1) r u ≡ known_from from r u
    by_place u differs (inl lt) =
        nothing_at r (t + 1) u (λ le. absurd (omega (arith, le, lt))) ∙ sym (nothing_at r from u (λ le. first.none_before u le lt))
    by_place u differs (inr ge) = there (t + 1) u (omega (arith, ge, differs)) ∙ sym (there from u (omega (arith, ge, first.after)))
