-- A CPU is wanted just where the table counts a thread that waits for it.
use Rattle.std.proofs.Common.{◌≡◌, refl, ap, sym, ◌∙◌, ℕ, zero, suc, ◌+◌, ◌==◌, ◌&&◌, ◌||◌, ◌/◌, ◌^◌, Bool, true, false, cond, nat_lt, Option, None, Some, List, [], ◌∷◌, get_or, take, unwrap_or, arith}
use Rattle.std.specs.List.{count_by, list_any}
use Rattle.std.specs.Option.{option_to_list}
use Rattle.std.proofs.lemmas.Grind.{common_steps}
use Rattle.std.proofs.lemmas.Bool.Decides.{nat_tests}
use Rattle.std.proofs.lemmas.List.Folds.{list_any-append}
use Rattle.std.proofs.lemmas.List.Sums.{sum_by-cons}
use Rattle.gs_status.specs.Masks.{has}
use Rattle.gs_layout.specs.declared.message.Change.{Change}
use Rattle.gs_layout.specs.declared.message.Message.TheVariants.{Thread, TimerTick}
use Rattle.gs_journal.specs.declared.entry.Entry.{Entry}
use Rattle.gs_journal.specs.declared.entry.Entry.TheVariants.{Posted, Placed, Role, Begin, Left, Taken, Given, Torn}
use Rattle.gs_journal.specs.History.{History}
use Rattle.gs_journal.specs.Record.{mask_by as mask_by_change}
use Rattle.gs_journal.specs.Standing.{last_of, latest, or_here, standing}
use Rattle.gs_turns.specs.Knowing.{subject}
use Rattle.gs_turns.specs.Stances.{is_ready}
use Rattle.gs_usage.specs.declared.row.Row.{Row}
use Rattle.gs_usage.specs.Uses.{allows, is_wanted, mask_by, mask_in, threads_in, wants}
use Rattle.gs_usage.specs.Waiting.{AreThreads, ThreadsOf, is_behind, row_of, unseen, waiting, waits_for}

-- something is counted just where something passes
zero_less : (b : Bool) (n : ℕ) (a : Bool) → nat_lt 0 n ≡ a → nat_lt 0 (cond b 1 0 + n) ≡ (b || a)
zero_less true n a e = grind (arith, nat_tests)
zero_less false n a e = (let z : 0 + n ≡ n = omega arith in ap (nat_lt 0) z) ∙ e

some_counted : (p : Row → Bool) (rows : List Row) → nat_lt 0 (count_by p rows) ≡ list_any p rows
some_counted p [] = refl
some_counted p (r ∷ rows) = ap (nat_lt 0) (sum_by-cons (λ (q : Row). cond (p q) 1 0) r rows) ∙ zero_less (p r) (count_by p rows) (list_any p rows) (some_counted p rows)

-- where something passes, it stands somewhere
record IsAt (p : Row → Bool) (rows : List Row) : Type 0 where
  place : ℕ
  passes : p (get_or rows place unseen) ≡ true

at_head_or : (p : Row → Bool) (r : Row) (rows : List Row) (b : Bool) → p r ≡ b → (b || list_any p rows) ≡ true → (list_any p rows ≡ true → IsAt p rows) → IsAt p (r ∷ rows)
at_head_or p r rows true is any later = record { place = 0; passes = is }
at_head_or p r rows false is any later = let found : IsAt p rows = later any in record { place = suc found.place; passes = found.passes }

found_at : (p : Row → Bool) (rows : List Row) → list_any p rows ≡ true → IsAt p rows
found_at p [] any = absurd cc
found_at p (r ∷ rows) any = at_head_or p r rows (p r) refl any (found_at p rows)

-- and what stands somewhere and passes is found, if the row of an unseen thread does not pass
or_later : (b a : Bool) → a ≡ true → (b || a) ≡ true
or_later true a e = refl
or_later false a e = e

or_first : (b a : Bool) → b ≡ true → (b || a) ≡ true
or_first true a e = refl
or_first false a e = absurd cc

any_at : (p : Row → Bool) (rows : List Row) (t : ℕ) → p unseen ≡ false → p (get_or rows t unseen) ≡ true → list_any p rows ≡ true
any_at p [] t none is = absurd cc
any_at p (r ∷ rows) zero none is = or_first (p r) (list_any p rows) is
any_at p (r ∷ rows) (suc t) none is = or_later (p r) (list_any p rows) (any_at p rows t none is)

-- a thread with a mask is one that an entry is about
not_one : (p : ℕ → Bool) (t u : ℕ) (b : Bool) (c : Change) → (u == t) ≡ b → p t ≡ true → list_any p (u ∷ []) ≡ false → cond b (mask_by_change c) None ≡ None
not_one p t u false c is here none = refl
not_one p t u true c is here none =
    let same : u ≡ t = grind (arith, nat_tests) in
    let there : p u ≡ true = ap p same ∙ here in
    absurd (let e : true ≡ false = sym (or_first (p u) false there) ∙ none in cc)

no_mask : (p : ℕ → Bool) (t : ℕ) (e : Entry) → p t ≡ true → list_any p (option_to_list (subject e)) ≡ false → mask_by t e ≡ None
no_mask p t (Posted (Thread u s c)) here none = not_one p t u (u == t) c refl here none
no_mask p t (Posted (TimerTick c)) here none = refl
no_mask p t (Placed u s c g) here none = refl
no_mask p t (Role g c) here none = refl
no_mask p t (Begin g) here none = refl
no_mask p t Left here none = refl
no_mask p t (Taken c) here none = refl
no_mask p t (Given c) here none = refl
no_mask p t Torn here none = refl

neither : (a b : Bool) → (a || b) ≡ false → (a ≡ false) × (b ≡ false)
neither true b e = absurd cc
neither false b e = (refl, e)

unmasked : (p : ℕ → Bool) (t : ℕ) (h : History) → p t ≡ true → list_any p (threads_in h) ≡ false → last_of (mask_by t) h ≡ None
unfolding last_of
unmasked p t [] here none = refl
unmasked p t (e ∷ h) here none =
    let parts = neither (list_any p (option_to_list (subject e))) (list_any p (threads_in h)) (sym (list_any-append p (option_to_list (subject e)) (threads_in h)) ∙ none) in
    ap (λ (o : Option (ℕ × List Entry)). or_here o (mask_by t e) h) (unmasked p t h here parts.1) ∙ ap (λ (o : Option ℕ). or_here None o h) (no_mask p t e here parts.0)

no_mask_in : (p : ℕ → Bool) (t : ℕ) (h : History) → p t ≡ true → list_any p (threads_in h) ≡ false → mask_in h t ≡ None
unfolding mask_in latest standing
no_mask_in p t h here none = rw (unmasked p t h here none) refl

-- where some number passes, one does
record IsSome (p : ℕ → Bool) : Type 0 where
  one : ℕ
  passes : p one ≡ true

one_or : (p : ℕ → Bool) (t : ℕ) (ts : List ℕ) (b : Bool) → p t ≡ b → (b || list_any p ts) ≡ true → (list_any p ts ≡ true → IsSome p) → IsSome p
one_or p t ts true is any later = record { one = t; passes = is }
one_or p t ts false is any later = later any

found_one : (p : ℕ → Bool) (ts : List ℕ) → list_any p ts ≡ true → IsSome p
found_one p [] any = absurd cc
found_one p (t ∷ ts) any = one_or p t ts (p t) refl any (found_one p ts)

-- a row counts for a CPU just where its thread wants it
pub none_has : (c : ℕ) → has 0 c ≡ false
none_has c = let none : 0 / 2 ^ c ≡ 0 = grind (arith, common_steps) in rw none refl

mask_has : (c : ℕ) (m : Option ℕ) → has (unwrap_or m 0) c ≡ allows c m
mask_has c (Some m) = refl
mask_has c None = none_has c

waiting_has : (b : Bool) (c m : ℕ) → has (cond b m 0) c ≡ (b && has m c)
waiting_has true c m = refl
waiting_has false c m = none_has c

row_wants : (h : History) (n : ℕ) (ts : ThreadsOf) (c t : ℕ) → AreThreads h n ts → has (waits_for ts.torn (row_of ts t)) c ≡ wants (take n h) c t
row_wants h n ts c t are =
    waiting_has (is_behind ts.torn (row_of ts t).ready_at) c (row_of ts t).mask
    ∙ (ap (λ (b : Bool). b && has (row_of ts t).mask c) (are.ready t)
    ∙ (ap (λ (m : ℕ). is_ready t (take n h) && has m c) (are.masks t) ∙ ap (λ (b : Bool). is_ready t (take n h) && b) (mask_has c (mask_in (take n h) t))))

none_allows : (b : Bool) (c : ℕ) → (b && allows c None) ≡ false
none_allows true c = refl
none_allows false c = refl

by_rows : (h : History) (n : ℕ) (ts : ThreadsOf) (c : ℕ) (a b : Bool) → AreThreads h n ts → list_any (λ (r : Row). has (waits_for ts.torn r) c) ts.rows ≡ a → list_any (wants (take n h) c) (threads_in (take n h)) ≡ b → a ≡ b
by_rows h n ts c true true are rows threads = refl
by_rows h n ts c false false are rows threads = refl
by_rows h n ts c true false are rows threads =
    let found : IsAt (λ (r : Row). has (waits_for ts.torn r) c) ts.rows = found_at (λ (r : Row). has (waits_for ts.torn r) c) ts.rows rows in
    let t = found.place in
    let here : wants (take n h) c t ≡ true = sym (row_wants h n ts c t are) ∙ found.passes in
    let none : mask_in (take n h) t ≡ None = no_mask_in (wants (take n h) c) t (take n h) here threads in
    sym here ∙ (ap (λ (m : Option ℕ). is_ready t (take n h) && allows c m) none ∙ none_allows (is_ready t (take n h)) c)
by_rows h n ts c false true are rows threads =
    let found : IsSome (wants (take n h) c) = found_one (wants (take n h) c) (threads_in (take n h)) threads in
    let t = found.one in
    let here : has (waits_for ts.torn (row_of ts t)) c ≡ true = row_wants h n ts c t are ∙ found.passes in
    sym rows ∙ any_at (λ (r : Row). has (waits_for ts.torn r) c) ts.rows t (none_has c) here

pub wanted_is : (h : History) (n : ℕ) (ts : ThreadsOf) (c : ℕ) → AreThreads h n ts → nat_lt 0 (waiting ts c) ≡ is_wanted (take n h) c
unfolding is_wanted
wanted_is h n ts c are =
    some_counted (λ (r : Row). has (waits_for ts.torn r) c) ts.rows
    ∙ by_rows h n ts c (list_any (λ (r : Row). has (waits_for ts.torn r) c) ts.rows) (list_any (wants (take n h) c) (threads_in (take n h))) are refl refl
