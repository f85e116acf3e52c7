-- Generations never fall.
use Rattle.std.proofs.Common.{◌≡◌, ℕ, ◌≤◌, Bool, true, false, not, ◌&&◌, cond, Option, None, Some, [], ◌∷◌, ◌++◌, refl, ap, sym, subst, ◌∙◌, arith, append_assoc, unwrap_or}
use Rattle.gs_layout.specs.declared.message.Message.{Message}
use Rattle.gs_journal.specs.declared.entry.Entry.{Entry}
use Rattle.gs_journal.specs.declared.entry.Entry.TheVariants.{Posted, Placed, Role, Begin, Left, Taken, Given, Torn}
use Rattle.std.specs.Option.{is_some}
use Rattle.gs_layout.specs.declared.message.Message.TheVariants.{TimerTick}
use Rattle.gs_layout.specs.declared.refusal.Refusal.{Refusal}
use Rattle.gs_layout.specs.declared.refusal.Refusal.TheVariants.{NotAttaching}
use Rattle.gs_journal.specs.Standing.{last_of, standing, then_latest}
use Rattle.gs_journal.specs.History.{History, attaching, generation, generation_by}
use Rattle.gs_journal.proofs.Laws.{attaching-push, latest-push, snoc_induction}
use Rattle.gs_kernel.specs.declared.settings.Settings.{Settings}
use Rattle.gs_kernel.specs.declared.command.Command.{Command}
use Rattle.gs_kernel.specs.declared.command.Command.TheVariants as told
use Rattle.gs_kernel.specs.declared.effect.Effect.TheVariants.{Append}
use Rattle.gs_kernel.specs.Attaching.{activate_refusal}
use Rattle.gs_kernel.specs.First.{first_that}
use Rattle.gs_kernel.specs.Kernel.{creation, happening, next_generation, preemption, take_refusal}
use Rattle.gs_kernel.specs.Legal.{effect, entries_in, refusal}
use Rattle.gs_kernel.proofs.Laws.{attaching_ended, attaching_left, attaching_none, beside_quiet, free_when, not_not}
use Rattle.gs_runner.specs.Enclaves.{generation_number}

pub generation_push : (h : History) (e : Entry) → generation (h ++ e ∷ []) ≡ then_latest (generation_by e) (generation h)
unfolding generation
generation_push h e = latest-push generation_by h e

stays : (o : Option ℕ) → then_latest None o ≡ o
stays None = refl
stays (Some g) = refl

-- an entry by which no generation is given
pub quiet : (h : History) (e : Entry) → generation_by e ≡ None → generation_number (h ++ e ∷ []) ≡ generation_number h
quiet h e none = ap (λ (o : Option ℕ). unwrap_or o 0) (generation_push h e ∙ ap (λ (o : Option ℕ). then_latest o (generation h)) none ∙ stays (generation h))

-- an entry by which one is
pub given : (h : History) (e : Entry) (g : ℕ) → generation_by e ≡ Some g → generation_number (h ++ e ∷ []) ≡ g
given h e g some = ap (λ (o : Option ℕ). unwrap_or o 0) (generation_push h e ∙ ap (λ (o : Option ℕ). then_latest o (generation h)) some)

-- the one that attaches has the generation that was given last
abbrev IsLast : History → Type 0
IsLast h = (g : ℕ) → attaching h ≡ Some g → generation h ≡ Some g

none_at_first : attaching [] ≡ None
unfolding attaching standing last_of
none_at_first = refl

no_some : {A : Type 0} (a : A) → None ≡ Some a → ⊥
no_some a e = absurd cc

-- a moment at which none attaches
none_then : (h : History) (e : Entry) → attaching (h ++ e ∷ []) ≡ None → IsLast (h ++ e ∷ [])
none_then h e none g is = absurd (no_some g (sym none ∙ is))

-- an entry that changes nothing of that
same_then : (h : History) (e : Entry) → attaching (h ++ e ∷ []) ≡ attaching h → generation_by e ≡ None → IsLast h → IsLast (h ++ e ∷ [])
same_then h e same none was g is = generation_push h e ∙ ap (λ (o : Option ℕ). then_latest o (generation h)) none ∙ stays (generation h) ∙ was g (sym same ∙ is)

begun : (h : History) (n : ℕ) → IsLast (h ++ Begin n ∷ [])
begun h n g is = generation_push h (Begin n) ∙ (sym (attaching-push h (Begin n)) ∙ is)

more : (h : History) (e : Entry) → IsLast h → IsLast (h ++ e ∷ [])
more h (Posted m) was = same_then h (Posted m) (beside_quiet h (Posted m) (λ x. refl) (λ x. refl) refl refl refl).1 refl was
more h (Placed t q c g) was = same_then h (Placed t q c g) (beside_quiet h (Placed t q c g) (λ x. refl) (λ x. refl) refl refl refl).1 refl was
more h (Taken c) was = same_then h (Taken c) (beside_quiet h (Taken c) (λ x. refl) (λ x. refl) refl refl refl).1 refl was
more h (Given c) was = same_then h (Given c) (beside_quiet h (Given c) (λ x. refl) (λ x. refl) refl refl refl).1 refl was
more h (Role n c) was = none_then h (Role n c) (attaching_ended h n c)
more h (Begin n) was = begun h n
more h Left was = none_then h Left (attaching_left h)
more h Torn was = none_then h Torn (attaching_none h)

pub last_attaches : (h : History) → IsLast h
last_attaches h = snoc_induction IsLast (λ g is. absurd (no_some g (sym none_at_first ∙ is))) more h

-- what attaches, if an activation is not refused
and_first : (a b : Bool) → (a && b) ≡ true → a ≡ true
and_first true b e = refl
and_first false b e = absurd cc

attaches : (s : Settings) (h : History) (pages : Bool) (c : ℕ) → activate_refusal s h pages c ≡ None → is_some (attaching h) ≡ true
unfolding activate_refusal
attaches s h pages c e = and_first (is_some (attaching h)) pages (not_not (is_some (attaching h) && pages) (or_first (first_that ((not (is_some (attaching h) && pages), Some NotAttaching) ∷ []) None) (not (is_some (attaching h) && pages)) (take_refusal s h c) refl e))
  where
    or_first : (o : Option Refusal) (b : Bool) (r : Option Refusal) → o ≡ cond b (Some NotAttaching) None → cond b (Some NotAttaching) r ≡ None → b ≡ false
    or_first o true r is e = absurd cc
    or_first o false r is e = refl

number_of : (o : Option ℕ) → is_some o ≡ true → o ≡ Some (unwrap_or o 0)
number_of None e = absurd cc
number_of (Some g) e = refl

-- what a command adds, behind a message if there is one
appended : (h : History) (o : Option Message) (e : Entry) → ((k : History) → generation_number k ≡ generation_number h → generation_number h ≤ generation_number (k ++ e ∷ [])) → generation_number h ≤ generation_number (h ++ entries_in (Append o e))
appended h None e f = f h refl
appended h (Some m) e f = subst (λ (k : History). generation_number h ≤ generation_number k) (append_assoc h (Posted m ∷ []) (e ∷ [])) (f (h ++ Posted m ∷ []) (quiet h (Posted m) refl))

quietly : (h k : History) (e : Entry) → generation_by e ≡ None → generation_number k ≡ generation_number h → generation_number h ≤ generation_number (k ++ e ∷ [])
quietly h k e none same = let q = quiet k e none in omega (arith, q, same)

posting : (h : History) (m : Message) → generation_number h ≤ generation_number (h ++ Posted m ∷ [])
posting h m = quietly h h (Posted m) refl refl

pub told_rises : (s : Settings) (h : History) (pages : Bool) (c : Command) → refusal s h pages c ≡ None → generation_number h ≤ generation_number (h ++ entries_in (effect s h c))
told_rises s h pages (told.Create f) free = posting h (creation s.first_tseq h f)
told_rises s h pages (told.Thread t e) free = posting h (happening s h t e)
told_rises s h pages (told.Take c) free = appended h (preemption s h c) (Taken c) (λ k same. quietly h k (Taken c) refl same)
told_rises s h pages (told.Give c) free = quietly h h (Given c) refl refl
told_rises s h pages (told.Tick c) free = posting h (TimerTick c)
told_rises s h pages (told.HandOff c) free = appended h (preemption s h c) (Role (next_generation h) c) (λ k same. let g = given k (Role (next_generation h) c) (next_generation h) refl in omega (arith, g))
told_rises s h pages told.Leave free = quietly h h Left refl refl
told_rises s h pages told.Begin free = let g = given h (Begin (next_generation h)) (next_generation h) refl in omega (arith, g)
told_rises s h pages (told.Activate c) free =
    let n : ℕ = unwrap_or (attaching h) 0 in
    let some : attaching h ≡ Some n = number_of (attaching h) (attaches s h pages c (free_when s h pages (told.Activate c) free).own) in
    let is : generation_number h ≡ n = ap (λ (o : Option ℕ). unwrap_or o 0) (last_attaches h n some) in
    appended h (preemption s h c) (Role n c) (λ k same. let g = given k (Role n c) n refl in omega (arith, g, is))

pub torn_rises : (h : History) → generation_number h ≤ generation_number (h ++ Torn ∷ [])
torn_rises h = quietly h h Torn refl refl
