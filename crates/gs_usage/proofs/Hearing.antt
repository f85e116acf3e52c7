-- What is known of the threads, one entry more.
use Rattle.std.proofs.Common.{◌≡◌, refl, ap, sym, ◌∙◌, subst, ℕ, zero, suc, ◌+◌, ◌-◌, ◌<◌, ◌≤◌, ◌==◌, ◌⊎◌, inl, inr, Bool, false, cond, Option, None, Some, List, [], ◌∷◌, ◌++◌, get_or, length, slice_set, take, unwrap_or, arith}
use Rattle.std.specs.List.{All, count_by}
use Rattle.std.specs.Option.{option_map, option_or}
use Rattle.std.proofs.lemmas.Bool.{cases_eq, cases_lt}
use Rattle.std.proofs.lemmas.Bool.Decides.{nat_tests}
use Rattle.std.proofs.lemmas.List.{get_or-set_other, get_or-set_same, get_or_append_left, get_or_default, get_or_past}
use Rattle.std.proofs.lemmas.List.Elements.{All-push, All-set, All-tail}
use Rattle.std.proofs.lemmas.List.Sums.{sum_by-set, sum_by_push}
use Rattle.gs_status.specs.Masks.{has}
use Rattle.gs_layout.specs.declared.message.Message.TheVariants.{Thread, TimerTick}
use Rattle.gs_journal.specs.declared.entry.Entry.{Entry}
use Rattle.gs_journal.specs.declared.entry.Entry.TheVariants.{Posted, Placed, Role, Begin, Left, Taken, Given, Torn}
use Rattle.gs_journal.specs.History.{History, is_torn}
use Rattle.gs_journal.specs.Record.{mask_by as mask_by_change}
use Rattle.gs_journal.specs.Standing.{last_of, latest, standing}
use Rattle.gs_turns.specs.declared.stance.Stance.{Stance}
use Rattle.gs_turns.specs.declared.stance.Stance.TheVariants.{Ready, Running, Away}
use Rattle.gs_turns.specs.Knowing.{subject}
use Rattle.gs_turns.specs.Stances.{is_ready, is_ready_stance, stance, stance_by, stance_of_change}
use Rattle.gs_turns.proofs.Knowing.{latest_more, not_at_first, stance_more, unwrapped}
use Rattle.gs_usage.proofs.Wanting.{none_has}
use Rattle.gs_usage.specs.declared.row.Row.{Row}
use Rattle.gs_usage.specs.declared.row.WaitChange.{WaitChange}
use Rattle.gs_usage.specs.Uses.{mask_by, mask_in}
use Rattle.gs_usage.specs.Waiting.{ArePast, AreThreads, IsLonger, IsPastRow, ThreadsOf, is_behind, nobody, ready_at_then, row_of, row_then, unseen, waiting, waiting_then, waits, waits_then, waits_for}

-- a list by tid of one place more
pub longer_same : (rows : List Row) → IsLonger rows rows
longer_same rows = record { same = λ t. refl; counts = λ torn c. refl; past = λ n all. all }

unseen_there : (rows : List Row) (t : ℕ) → get_or (rows ++ unseen ∷ []) t unseen ≡ get_or rows t unseen
unseen_there rows t = by_place (cases_lt t (length rows))
  where
    by_place : (t < length rows) ⊎ (length rows ≤ t) → get_or (rows ++ unseen ∷ []) t unseen ≡ get_or rows t unseen
    by_place (inl lt) = get_or_append_left rows (unseen ∷ []) unseen t lt
    by_place (inr le) = past rows t le ∙ sym (get_or_past rows t unseen le)
      where
        past : (rows : List Row) (t : ℕ) → length rows ≤ t → get_or (rows ++ unseen ∷ []) t unseen ≡ unseen
        past [] zero le = refl
        past [] (suc t) le = refl
        past (r ∷ rows) zero le = absurd (omega arith)
        past (r ∷ rows) (suc t) le = past rows t (omega arith)

nothing_more : (w : ℕ) → w + 0 ≡ w
nothing_more w = omega arith

pub longer_push : (old rows : List Row) → IsLonger old rows → IsLonger old (rows ++ unseen ∷ [])
longer_push old rows longer = record {
  same = λ t. unseen_there rows t ∙ longer.same t;
  counts = λ torn c. sum_by_push (λ (r : Row). cond (has (waits_for torn r) c) 1 0) rows unseen ∙ (ap (λ (b : Bool). waiting (record { rows = rows; torn = torn }) c + cond b 1 0) (none_has c) ∙ (nothing_more (waiting (record { rows = rows; torn = torn }) c) ∙ longer.counts torn c));
  past = λ n all. All-push (IsPastRow n) rows unseen (longer.past n all) tt;
}

-- an entry leaves a thread as it was that it is not about, unless it is a tear-down
other_thread : (t u : ℕ) → (u ≡ t → ⊥) → (u == t) ≡ false
other_thread t u ne = grind (arith, nat_tests)

stance_of_other : (t : ℕ) (e : Entry) → is_torn e ≡ false → (subject e ≡ Some t → ⊥) → stance_by t e ≡ None
stance_of_other t (Posted (Thread u s c)) torn ne = ap (λ (b : Bool). cond b (stance_of_change c) None) (other_thread t u (λ e. ne (ap Some e)))
stance_of_other t (Posted (TimerTick c)) torn ne = refl
stance_of_other t (Placed u s c g) torn ne = ap (λ (b : Bool). cond b (Some Running) None) (other_thread t u (λ e. ne (ap Some e)))
stance_of_other t (Role g c) torn ne = refl
stance_of_other t (Begin g) torn ne = refl
stance_of_other t Left torn ne = refl
stance_of_other t (Taken c) torn ne = refl
stance_of_other t (Given c) torn ne = refl
stance_of_other t Torn torn ne = absurd cc

mask_of_other : (t : ℕ) (e : Entry) → (subject e ≡ Some t → ⊥) → mask_by t e ≡ None
mask_of_other t (Posted (Thread u s c)) ne = ap (λ (b : Bool). cond b (mask_by_change c) None) (other_thread t u (λ e. ne (ap Some e)))
mask_of_other t (Posted (TimerTick c)) ne = refl
mask_of_other t (Placed u s c g) ne = refl
mask_of_other t (Role g c) ne = refl
mask_of_other t (Begin g) ne = refl
mask_of_other t Left ne = refl
mask_of_other t (Taken c) ne = refl
mask_of_other t (Given c) ne = refl
mask_of_other t Torn ne = refl

row_of_other : (n t : ℕ) (e : Entry) (r : Row) → is_torn e ≡ false → (subject e ≡ Some t → ⊥) → row_then n t e r ≡ r
row_of_other n t e r torn ne = rw (stance_of_other t e torn ne, mask_of_other t e ne) refl

-- whether a thread waits, one entry more
ready_then : (torn n : ℕ) (s : Option Stance) (o : Option ℕ) → torn ≤ n → is_behind torn (ready_at_then n s o) ≡ unwrap_or (option_map is_ready_stance s) (is_behind torn o)
ready_then torn n None o le = refl
ready_then torn n (Some Ready) o le = grind (arith, nat_tests)
ready_then torn n (Some Running) o le = refl
ready_then torn n (Some Away) o le = refl

past_then : (n : ℕ) (s : Option Stance) (o : Option ℕ) (m : ℕ) → IsPastRow n (record { ready_at = o; mask = m }) → IsPastRow (n + 1) (record { ready_at = ready_at_then n s o; mask = m })
past_then n None None m past = tt
past_then n None (Some k) m past = omega (arith, past)
past_then n (Some Ready) o m past = omega arith
past_then n (Some Running) o m past = tt
past_then n (Some Away) o m past = tt

past_more : (n : ℕ) (r : Row) → IsPastRow n r → IsPastRow (n + 1) r
past_more n r past = past_then n None r.ready_at r.mask past

pub all_past_more : (n : ℕ) (rows : List Row) → All (IsPastRow n) rows → All (IsPastRow (n + 1)) rows
all_past_more n rows all = λ k d lt. past_more n (get_or rows k d) (all k d lt)

-- behind a tear-down nobody waits
not_behind : (n : ℕ) (r : Row) → IsPastRow n r → is_behind (n + 1) r.ready_at ≡ false
not_behind n r past = by_place r.ready_at r.mask past
  where
    by_place : (o : Option ℕ) (m : ℕ) → IsPastRow n (record { ready_at = o; mask = m }) → is_behind (n + 1) o ≡ false
    by_place None m past = refl
    by_place (Some k) m past = let lt : k < n = past in grind (arith, nat_tests)

none_waits : (n c : ℕ) (rows : List Row) → All (IsPastRow n) rows → count_by (λ (r : Row). has (waits_for (n + 1) r) c) rows ≡ 0
none_waits n c [] all = refl
none_waits n c (r ∷ rows) all =
    let here : has (waits_for (n + 1) r) c ≡ false = ap (λ (b : Bool). has (cond b r.mask 0) c) (not_behind n r (all 0 r (omega arith))) ∙ none_has c in
    rw here (let later = none_waits n c rows (All-tail (IsPastRow n) r rows all) in omega (arith, later))

pub counts_torn : (n c : ℕ) (ts : ThreadsOf) (s : WaitChange) → ArePast n ts → waiting (record { rows = ts.rows; torn = n + 1 }) c ≡ waiting_then c Torn s (waiting ts c)
counts_torn n c ts s past = none_waits n c ts.rows past.rows

-- one row is written over
written : (rows : List Row) (n u t : ℕ) (e : Entry) (d : Row) → is_torn e ≡ false → subject e ≡ Some u → u < length rows
    → get_or (slice_set rows u (row_then n u e (get_or rows u d))) t unseen ≡ row_then n t e (get_or rows t unseen)
written rows n u t e d torn about lt = by_tid (cases_eq t u)
  where
    by_tid : (t ≡ u) ⊎ (t ≡ u → ⊥) → get_or (slice_set rows u (row_then n u e (get_or rows u d))) t unseen ≡ row_then n t e (get_or rows t unseen)
    by_tid (inl same) = rw same (get_or-set_same rows u (row_then n u e (get_or rows u d)) unseen lt ∙ ap (row_then n u e) (get_or_default rows u d unseen lt))
    by_tid (inr ne) =
        get_or-set_other rows u t (row_then n u e (get_or rows u d)) unseen ne
        ∙ sym (row_of_other n t e (get_or rows t unseen) torn (λ is. ne (let a : Some u ≡ Some t = sym about ∙ is in cc)))

counts_written : (rows : List Row) (torn n u c : ℕ) (e : Entry) (after d : Row) → is_torn e ≡ false → u < length rows
    → waiting (record { rows = slice_set rows u after; torn = torn }) c ≡ waiting_then c e (record { before = waits_for torn (get_or rows u d); after = waits_for torn after }) (waiting (record { rows = rows; torn = torn }) c)
counts_written rows torn n u c e after d stands lt =
    let p : Row → ℕ = λ (r : Row). cond (has (waits_for torn r) c) 1 0 in
    let sums = sum_by-set p rows u after d lt in
    (let w : waiting (record { rows = slice_set rows u after; torn = torn }) c ≡ (waiting (record { rows = rows; torn = torn }) c + p after) - p (get_or rows u d) = omega (arith, sums) in w)
    ∙ sym (ap (λ (b : Bool). cond b 0 ((waiting (record { rows = rows; torn = torn }) c + p after) - p (get_or rows u d))) stands)

covers_written : (rows : List Row) (torn u c : ℕ) (after d : Row) → u < length rows
    → cond (has (waits_for torn (get_or rows u d)) c) 1 0 ≤ waiting (record { rows = rows; torn = torn }) c + cond (has (waits_for torn after) c) 1 0
covers_written rows torn u c after d lt =
    let sums = sum_by-set (λ (r : Row). cond (has (waits_for torn r) c) 1 0) rows u after d lt in
    omega (arith, sums)

past_written : (rows : List Row) (torn n u : ℕ) (e : Entry) (d : Row) → torn ≤ n → All (IsPastRow n) rows → u < length rows → ArePast (n + 1) (record { rows = slice_set rows u (row_then n u e (get_or rows u d)); torn = torn })
past_written rows torn n u e d le all lt = record {
  torn = omega arith;
  rows = All-set (IsPastRow (n + 1)) rows u (row_then n u e (get_or rows u d)) (past_then n (stance_by u e) (get_or rows u d).ready_at (row_then n u e (get_or rows u d)).mask (all u d lt)) (all_past_more n rows all);
}

-- what an entry does that is about a thread
abbrev written_over : List Row → ℕ → ℕ → ℕ → Entry → ThreadsOf
written_over rows torn n u e = record { rows = slice_set rows u (row_then n u e (get_or rows u unseen)); torn = torn }

abbrev change_of : List Row → ℕ → ℕ → ℕ → Entry → WaitChange
change_of rows torn n u e = record { before = waits_for torn (get_or rows u unseen); after = waits_for torn (row_then n u e (get_or rows u unseen)) }

-- an entry is heard that is about a thread
pub record IsHeard (n : ℕ) (e : Entry) (s : WaitChange) (old new : ThreadsOf) : Type 0 where
  pub ready : (t : ℕ) → waits new t ≡ waits_then t e (waits old t)
  pub masks : (t : ℕ) → (row_of new t).mask ≡ unwrap_or (mask_by t e) (row_of old t).mask
  pub counts : (c : ℕ) → waiting new c ≡ waiting_then c e s (waiting old c)
  pub covers : (c : ℕ) → cond (has s.before c) 1 0 ≤ waiting old c + cond (has s.after c) 1 0
  pub past : ArePast (n + 1) new

heard_row : (old : ThreadsOf) (rows : List Row) (n u : ℕ) (e : Entry) → ArePast n old → IsLonger old.rows rows → u < length rows → is_torn e ≡ false → subject e ≡ Some u
    → IsHeard n e (change_of rows old.torn n u e) old (written_over rows old.torn n u e)
heard_row old rows n u e past longer lt stands about =
    let row : (t : ℕ) → row_of (written_over rows old.torn n u e) t ≡ row_then n t e (row_of old t) = λ t. written rows n u t e unseen stands about lt ∙ ap (row_then n t e) (longer.same t) in
    record {
      ready = λ t. ap (λ (r : Row). is_behind old.torn r.ready_at) (row t) ∙ ready_then old.torn n (stance_by t e) (row_of old t).ready_at past.torn;
      masks = λ t. ap (λ (r : Row). r.mask) (row t);
      counts = λ c. counts_written rows old.torn n u c e (row_then n u e (get_or rows u unseen)) unseen stands lt ∙ ap (waiting_then c e (change_of rows old.torn n u e)) (longer.counts old.torn c);
      covers = λ c. subst (λ (w : ℕ). cond (has (waits_for old.torn (get_or rows u unseen)) c) 1 0 ≤ w + cond (has (waits_for old.torn (row_then n u e (get_or rows u unseen))) c) 1 0) (longer.counts old.torn c) (covers_written rows old.torn u c (row_then n u e (get_or rows u unseen)) unseen lt);
      past = past_written rows old.torn n u e unseen past.torn (longer.past n past.rows) lt;
    }

pub heard_so : (old : ThreadsOf) (rows : List Row) (n u : ℕ) (e : Entry) (r v : Row) (before after : ℕ) → ArePast n old → IsLonger old.rows rows → u < length rows → is_torn e ≡ false
    → subject e ≡ Some u → r ≡ get_or rows u unseen → v ≡ row_then n u e r → before ≡ waits_for old.torn r → after ≡ waits_for old.torn v
    → IsHeard n e (record { before = before; after = after }) old (record { rows = slice_set rows u v; torn = old.torn })
heard_so old rows n u e r v before after past longer lt stands about read becomes was is =
    let v0 : Row = row_then n u e (get_or rows u unseen) in
    let value : v0 ≡ v = sym (becomes ∙ ap (row_then n u e) read) in
    let first : waits_for old.torn (get_or rows u unseen) ≡ before = sym (was ∙ ap (waits_for old.torn) read) in
    let later : waits_for old.torn v0 ≡ after = ap (waits_for old.torn) value ∙ sym is in
    subst (λ (w : Row). IsHeard n e (record { before = before; after = after }) old (record { rows = slice_set rows u w; torn = old.torn })) value
    (subst (λ (m : ℕ). IsHeard n e (record { before = m; after = after }) old (written_over rows old.torn n u e)) first
    (subst (λ (m : ℕ). IsHeard n e (record { before = waits_for old.torn (get_or rows u unseen); after = m }) old (written_over rows old.torn n u e)) later
    (heard_row old rows n u e past longer lt stands about)))

pub stands : (e : Entry) → (e ≡ Torn → ⊥) → is_torn e ≡ false
stands (Posted m) other = refl
stands (Placed t s c g) other = refl
stands (Role g c) other = refl
stands (Begin g) other = refl
stands Left other = refl
stands (Taken c) other = refl
stands (Given c) other = refl
stands Torn other = absurd (other refl)

-- the law of the table: whatever hears one entry more knows the threads one entry later
ready_unwrapped : (s : Option Stance) (d : Stance) → is_ready_stance (unwrap_or s d) ≡ unwrap_or (option_map is_ready_stance s) (is_ready_stance d)
ready_unwrapped None d = refl
ready_unwrapped (Some s) d = refl

is_ready_more : (h : History) (n t : ℕ) (x : Entry) → n < length h → x ≡ get_or h n x → is_ready t (take (n + 1) h) ≡ waits_then t x (is_ready t (take n h))
is_ready_more h n t x lt is = ap is_ready_stance (stance_more h n t x lt is) ∙ ready_unwrapped (stance_by t x) (stance (take n h) t)

mask_more : (h : History) (n t : ℕ) (x : Entry) → n < length h → x ≡ get_or h n x → mask_in (take (n + 1) h) t ≡ option_or (mask_by t x) (mask_in (take n h) t)
unfolding mask_in
mask_more h n t x lt is = latest_more (mask_by t) h n x lt is

mask_none : (t : ℕ) → mask_in [] t ≡ None
unfolding mask_in latest standing last_of
mask_none t = refl

pub threads_none : (h : History) → AreThreads h 0 nobody
threads_none h = record {
  ready = λ t. sym (not_at_first t);
  masks = λ t. sym (ap (λ (o : Option ℕ). unwrap_or o 0) (mask_none t));
  past = record { torn = omega arith; rows = λ k d lt. absurd (omega arith) };
}

pub threads_more : (h : History) (n : ℕ) (x : Entry) (old new : ThreadsOf) → n < length h → x ≡ get_or h n x → AreThreads h n old
    → ((t : ℕ) → waits new t ≡ waits_then t x (waits old t)) → ((t : ℕ) → (row_of new t).mask ≡ unwrap_or (mask_by t x) (row_of old t).mask) → ArePast (n + 1) new → AreThreads h (n + 1) new
threads_more h n x old new lt is are ready masks past = record {
  ready = λ t. ready t ∙ (ap (waits_then t x) (are.ready t) ∙ sym (is_ready_more h n t x lt is));
  masks = λ t. masks t ∙ (ap (unwrap_or (mask_by t x)) (are.masks t) ∙ sym (ap (λ (o : Option ℕ). unwrap_or o 0) (mask_more h n t x lt is) ∙ unwrapped (mask_by t x) (mask_in (take n h) t) 0));
  past = past;
}
