-- Those of a set of CPUs that pass a test, gathered CPU by CPU.
use Rattle.std.proofs.Common.{Bool, true, false, ◌≡◌, ◌≢◌, ℕ, ◌⊎◌, inl, inr, ◌&&◌, ◌||◌, ap, sym, subst, ◌∙◌, refl, arith}
use Rattle.std.proofs.Math.Bool.{and-true, and-false, or-false}
use Rattle.std.specs.Prelude.{nat_le, Option, None, Some}
use Rattle.std.proofs.lemmas.Bool.{cases_eq, and_parts}
use Rattle.std.proofs.lemmas.Bool.Decides.{nat_tests}
use Rattle.gs_layout.specs.View.{Look}
use Rattle.gs_status.specs.Masks.{has}
use Rattle.gs_beliefs.specs.declared.running.Running.{Running}
use Rattle.gs_beliefs.specs.Cpus.{believed_on, is_usable}
use Rattle.gs_policy.specs.Plan.{has_had, is_known_one, runs_one}
use Rattle.gs_policy.specs.Shown.{Shown}

-- those that pass have been found, or are still left to be looked at
abbrev pub IsGathered : (ℕ → Bool) → (ℕ → Bool) → ℕ → ℕ → Type 0
IsGathered test all left found = (c : ℕ) → (all c && test c) ≡ (has found c || (has left c && test c))

pub gathered_more : (test all : ℕ → Bool) (left left' found found' c : ℕ) (passes : Bool) → IsGathered test all left found
    → has left c ≡ true → has left' c ≡ false → ((d : ℕ) → d ≢ c → has left' d ≡ has left d)
    → has found' c ≡ (has found c || passes) → passes ≡ test c → ((d : ℕ) → d ≢ c → has found' d ≡ has found d) → IsGathered test all left' found'
gathered_more test all left left' found found' c passes is here gone others with is_test others' d = at (cases_eq d c)
  where
    looked : (has found c || (has left c && test c)) ≡ (has found' c || (has left' c && test c))
    looked =
        ap (λ (b : Bool). has found c || (b && test c)) here
        ∙ (ap (λ (b : Bool). has found c || b) (sym is_test)
        ∙ (sym with ∙ (sym (or-false (has found' c)) ∙ ap (λ (b : Bool). has found' c || (b && test c)) (sym gone))))

    at : (d ≡ c) ⊎ (d ≢ c) → (all d && test d) ≡ (has found' d || (has left' d && test d))
    at (inl e) = subst (λ k. (all k && test k) ≡ (has found' k || (has left' k && test k))) (sym e) (is c ∙ looked)
    at (inr other) =
        is d ∙ (ap (λ (b : Bool). b || (has left d && test d)) (sym (others' d other)) ∙ ap (λ (b : Bool). has found' d || (b && test d)) (sym (others d other)))

pub gathered_all : (test all : ℕ → Bool) (left found : ℕ) → IsGathered test all left found → ((c : ℕ) → has left c ≡ false) → (c : ℕ) → has found c ≡ (all c && test c)
gathered_all test all left found is none c = sym (is c ∙ (ap (λ (b : Bool). has found c || (b && test c)) (none c) ∙ or-false (has found c)))

-- whoever has had a slice has had no tick at least
had_none : (slice : ℕ) (v : Look) (o : Option Running) → has_had slice v o ≡ true → has_had 0 v o ≡ true
had_none slice v None e = e
had_none slice v (Some r) e = let known = and_parts (is_known_one (v r.tid)) (nat_le slice r.ticks) e in grind (arith, nat_tests, known.0)

and_within : (u a b h : Bool) → h ≡ (u && a) → (b ≡ true → a ≡ true) → (h && b) ≡ (u && b)
and_within u a true h is within = ap (λ (x : Bool). x && true) (is ∙ ap (λ (x : Bool). u && x) (within refl)) ∙ and-true (u && true)
and_within u a false h is within = and-false h ∙ sym (and-false u)

pub runs_slice : (s : Shown) (slice c : ℕ) (h : Bool) → h ≡ runs_one 0 s c → (h && has_had slice s.view (believed_on s.cpus c)) ≡ runs_one slice s c
runs_slice s slice c h is =
    and_within (is_usable s.cpus s.taken c) (has_had 0 s.view (believed_on s.cpus c)) (has_had slice s.view (believed_on s.cpus c)) h is (had_none slice s.view (believed_on s.cpus c))
