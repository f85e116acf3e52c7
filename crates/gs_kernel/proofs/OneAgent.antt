-- Which agents there are after one more entry, and that there is one at most.
use Rattle.std.proofs.Common.{◌≡◌, ℕ, ◌++◌, ◌∷◌, [], Option, None, Some, refl, sym, ◌∙◌}
use Rattle.gs_journal.specs.declared.entry.Entry.{Entry}
use Rattle.gs_journal.specs.declared.entry.Entry.TheVariants.{Posted, Placed, Role, Begin, Left, Taken, Given, Torn}
use Rattle.gs_journal.specs.Standing.{last_of, standing, then_latest}
use Rattle.gs_journal.specs.History.{History, active, attaching, ends_begin, ends_role, generation, generation_by}
use Rattle.gs_journal.proofs.Laws.{active-push, attaching-push, latest-push, snoc_induction}
use Rattle.gs_kernel.specs.declared.agents.Agents.{Agents}
use Rattle.gs_kernel.specs.Inside.{AgentsAre, agents_by}
use Rattle.gs_kernel.proofs.Entries.{active_none, active_now, attaching_ended, attaching_none, beside_quiet, ended}

generation-push : (h : History) (e : Entry) → generation (h ++ e ∷ []) ≡ then_latest (generation_by e) (generation h)
unfolding generation
generation-push h e = latest-push generation_by h e

latest_stays : (o : Option ℕ) → then_latest None o ≡ o
latest_stays None = refl
latest_stays (Some g) = refl

-- an entry that ends nothing and starts nothing
quiet : (a : Agents) (h : History) (e : Entry) → (active (h ++ e ∷ []) ≡ active h) × (attaching (h ++ e ∷ []) ≡ attaching h) → generation (h ++ e ∷ []) ≡ then_latest None (generation h) → AgentsAre a h → AgentsAre a (h ++ e ∷ [])
quiet a h e same gen k = record { active = k.active ∙ sym same.0; attaching = k.attaching ∙ sym same.1; generation = gen ∙ (latest_stays (generation h) ∙ k.generation) }

-- an agent leaves, or begins to attach
pub active_left : (h : History) → active (h ++ Left ∷ []) ≡ None
active_left h = active-push h Left ∙ ended ends_role Left (active h) (λ a. refl)

pub attaching_left : (h : History) → attaching (h ++ Left ∷ []) ≡ None
attaching_left h = attaching-push h Left ∙ ended ends_begin Left (attaching h) (λ a. refl)

pub active_begun : (h : History) (g : ℕ) → active (h ++ Begin g ∷ []) ≡ None
active_begun h g = active-push h (Begin g) ∙ ended ends_role (Begin g) (active h) (λ a. refl)

-- the agents after one more entry
pub agents_after : (a : Agents) (h : History) (e : Entry) → AgentsAre a h → AgentsAre (agents_by (Some e) a) (h ++ e ∷ [])
agents_after a h (Posted m) k = let b = beside_quiet h (Posted m) (λ x. refl) (λ x. refl) refl refl refl in quiet a h (Posted m) (b.0, b.1) (generation-push h (Posted m)) k
agents_after a h (Placed t q c g) k =
    let b = beside_quiet h (Placed t q c g) (λ x. refl) (λ x. refl) refl refl refl in quiet a h (Placed t q c g) (b.0, b.1) (generation-push h (Placed t q c g)) k
agents_after a h (Taken c) k = let b = beside_quiet h (Taken c) (λ x. refl) (λ x. refl) refl refl refl in quiet a h (Taken c) (b.0, b.1) (generation-push h (Taken c)) k
agents_after a h (Given c) k = let b = beside_quiet h (Given c) (λ x. refl) (λ x. refl) refl refl refl in quiet a h (Given c) (b.0, b.1) (generation-push h (Given c)) k
agents_after a h (Role g c) k = record { active = sym (active_now h g c); attaching = sym (attaching_ended h g c); generation = generation-push h (Role g c) }
agents_after a h (Begin g) k = record { active = sym (active_begun h g); attaching = sym (attaching-push h (Begin g)); generation = generation-push h (Begin g) }
agents_after a h Left k =
    record { active = sym (active_left h); attaching = sym (attaching_left h); generation = generation-push h Left ∙ (latest_stays (generation h) ∙ k.generation) }
agents_after a h Torn k =
    record { active = sym (active_none h); attaching = sym (attaching_none h); generation = generation-push h Torn ∙ (latest_stays (generation h) ∙ k.generation) }

-- if one is active, none attaches
none_at_first : attaching [] ≡ None
unfolding attaching standing last_of
none_at_first = refl

some_none : {A : Type 0} (a : A) → None ≡ Some a → ⊥
some_none a e = absurd cc

pub one_agent : (h : History) (a : ℕ × ℕ) → active h ≡ Some a → attaching h ≡ None
one_agent h = snoc_induction (λ (g : History). (a : ℕ × ℕ) → active g ≡ Some a → attaching g ≡ None) (λ a e. none_at_first) step h
  where
    still : (g : History) (e : Entry) (a : ℕ × ℕ) → (active (g ++ e ∷ []) ≡ active g) × (attaching (g ++ e ∷ []) ≡ attaching g) → ((b : ℕ × ℕ) → active g ≡ Some b → attaching g ≡ None) → active (g ++ e ∷ []) ≡ Some a → attaching (g ++ e ∷ []) ≡ None
    still g e a same was is = same.1 ∙ was a (sym same.0 ∙ is)

    step : (g : History) (e : Entry) → ((a : ℕ × ℕ) → active g ≡ Some a → attaching g ≡ None) → (a : ℕ × ℕ) → active (g ++ e ∷ []) ≡ Some a → attaching (g ++ e ∷ []) ≡ None
    step g (Posted m) was a is = let b = beside_quiet g (Posted m) (λ x. refl) (λ x. refl) refl refl refl in still g (Posted m) a (b.0, b.1) was is
    step g (Placed t q c n) was a is = let b = beside_quiet g (Placed t q c n) (λ x. refl) (λ x. refl) refl refl refl in still g (Placed t q c n) a (b.0, b.1) was is
    step g (Taken c) was a is = let b = beside_quiet g (Taken c) (λ x. refl) (λ x. refl) refl refl refl in still g (Taken c) a (b.0, b.1) was is
    step g (Given c) was a is = let b = beside_quiet g (Given c) (λ x. refl) (λ x. refl) refl refl refl in still g (Given c) a (b.0, b.1) was is
    step g (Role n c) was a is = attaching_ended g n c
    step g (Begin n) was a is = absurd (some_none a (sym (active_begun g n) ∙ is))
    step g Left was a is = attaching_left g
    step g Torn was a is = attaching_none g
