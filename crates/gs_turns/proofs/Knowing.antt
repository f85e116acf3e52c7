-- What is known of each thread, one entry more.
use Rattle.std.proofs.Common.{◌≡◌, refl, ap, sym, ◌∙◌, ℕ, zero, suc, ◌+◌, ◌<◌, Bool, true, false, cond, Option, None, Some, [], length, get_or, take, unwrap_or, arith}
use Rattle.std.specs.Option.{is_some, option_or}
use Rattle.std.proofs.lemmas.List.{take_more}
use Rattle.gs_layout.specs.declared.facts.Class.{Class}
use Rattle.gs_journal.specs.declared.entry.Entry.{Entry}
use Rattle.gs_journal.specs.History.{History}
use Rattle.gs_journal.specs.Standing.{latest, last_of, standing, then_latest}
use Rattle.gs_journal.proofs.Laws.{latest-push}
use Rattle.gs_turns.specs.declared.stance.Known.{Known}
use Rattle.gs_turns.specs.declared.stance.Stance.{Stance}
use Rattle.gs_turns.specs.declared.stance.Stance.TheVariants.{Ready, Running, Away}
use Rattle.gs_turns.specs.Since.{since}
use Rattle.gs_turns.specs.Stances.{class_by, class_in, is_ready, is_ready_stance, last_cpu, placed_at, stance, stance_by}
use Rattle.gs_turns.specs.Knowing.{heard, known, since_then, unseen}

-- the last word, one entry more
or_latest : {A : Type 0} (s o : Option A) → then_latest s o ≡ option_or s o
or_latest (Some a) o = refl
or_latest None o = refl

pub latest_more : {A : Type 0} (f : Entry → Option A) (h : History) (n : ℕ) (x : Entry) → n < length h → x ≡ get_or h n x → latest f (take (n + 1) h) ≡ option_or (f x) (latest f (take n h))
latest_more f h n x lt is =
    ap (latest f) (take_more h n x lt)
    ∙ (latest-push f (take n h) (get_or h n x) ∙ (or_latest (f (get_or h n x)) (latest f (take n h)) ∙ ap (λ (y : Entry). option_or (f y) (latest f (take n h))) (sym is)))

pub unwrapped : {A : Type 0} (s o : Option A) (d : A) → unwrap_or (option_or s o) d ≡ unwrap_or s (unwrap_or o d)
unwrapped (Some a) o d = refl
unwrapped None o d = refl

pub stance_more : (h : History) (n t : ℕ) (x : Entry) → n < length h → x ≡ get_or h n x → stance (take (n + 1) h) t ≡ unwrap_or (stance_by t x) (stance (take n h) t)
unfolding stance
stance_more h n t x lt is = ap (λ (o : Option Stance). unwrap_or o Away) (latest_more (stance_by t) h n x lt is) ∙ unwrapped (stance_by t x) (latest (stance_by t) (take n h)) Away

-- a thread is ready since some entry just where it is ready
pub not_at_first : (t : ℕ) → is_ready t [] ≡ false
unfolding stance latest standing last_of
not_at_first t = refl

some_since : (b : Bool) (o : Option ℕ) (n : ℕ) → is_some (cond b (Some (unwrap_or o n)) None) ≡ b
some_since true o n = refl
some_since false o n = refl

pub is_since : (t : ℕ) (h : History) (n : ℕ) → is_some (since (is_ready t) h n) ≡ is_ready t (take n h)
unfolding since
is_since t h zero = sym (not_at_first t)
is_since t h (suc n) = some_since (is_ready t (take (suc n) h)) (since (is_ready t) h n) n

goes_on : (n : ℕ) (o : Option ℕ) → cond (is_some o) (Some (unwrap_or o n)) None ≡ o
goes_on n (Some m) = refl
goes_on n None = refl

by_stance : (n : ℕ) (s : Option Stance) (o : Option ℕ) (before : Stance) → is_some o ≡ is_ready_stance before → cond (is_ready_stance (unwrap_or s before)) (Some (unwrap_or o n)) None ≡ since_then n s o
by_stance n None o before e = ap (λ (b : Bool). cond b (Some (unwrap_or o n)) None) (sym e) ∙ goes_on n o
by_stance n (Some Ready) o before e = refl
by_stance n (Some Running) o before e = refl
by_stance n (Some Away) o before e = refl

since_next : (t : ℕ) (h : History) (n : ℕ) → since (is_ready t) h (n + 1) ≡ cond (is_ready t (take (n + 1) h)) (Some (unwrap_or (since (is_ready t) h n) n)) None
unfolding since
since_next t h n = let e : n + 1 ≡ suc n = omega arith in rw e refl

since_more : (h : History) (n t : ℕ) (x : Entry) → n < length h → x ≡ get_or h n x → since (is_ready t) h (n + 1) ≡ since_then n (stance_by t x) (since (is_ready t) h n)
since_more h n t x lt is =
    since_next t h n
    ∙ (ap (λ (s : Stance). cond (is_ready_stance s) (Some (unwrap_or (since (is_ready t) h n) n)) None) (stance_more h n t x lt is)
    ∙ by_stance n (stance_by t x) (since (is_ready t) h n) (stance (take n h) t) (is_since t h n))

class_more : (h : History) (n t : ℕ) (x : Entry) → n < length h → x ≡ get_or h n x → class_in (take (n + 1) h) t ≡ option_or (class_by t x) (class_in (take n h) t)
unfolding class_in
class_more h n t x lt is = latest_more (class_by t) h n x lt is

cpu_more : (h : History) (n t : ℕ) (x : Entry) → n < length h → x ≡ get_or h n x → last_cpu (take (n + 1) h) t ≡ option_or (placed_at t x) (last_cpu (take n h) t)
unfolding last_cpu
cpu_more h n t x lt is = latest_more (placed_at t) h n x lt is

abbrev of_parts : Option ℕ → Option Class → Option ℕ → Known
of_parts s k c = record { since = s; class = k; cpu = c }

pub known_more : (h : History) (n t : ℕ) (x : Entry) → n < length h → x ≡ get_or h n x → known h (n + 1) t ≡ heard n t x (known h n t)
known_more h n t x lt is =
    ap (λ s. of_parts s (class_in (take (n + 1) h) t) (last_cpu (take (n + 1) h) t)) (since_more h n t x lt is)
    ∙ (ap (λ k. of_parts (since_then n (stance_by t x) (since (is_ready t) h n)) k (last_cpu (take (n + 1) h) t)) (class_more h n t x lt is)
    ∙ ap (λ c. of_parts (since_then n (stance_by t x) (since (is_ready t) h n)) (option_or (class_by t x) (class_in (take n h) t)) c) (cpu_more h n t x lt is))

pub known_none : (h : History) (t : ℕ) → known h 0 t ≡ unseen
unfolding since class_in last_cpu latest standing last_of
known_none h t = refl
