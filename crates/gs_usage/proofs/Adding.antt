-- What a CPU was used for, one entry more.
use Rattle.std.proofs.Common.{◌≡◌, refl, ap, sym, ◌∙◌, subst, ℕ, zero, suc, ◌+◌, ◌≤◌, ◌&&◌, Bool, true, false, cond, List, [], ◌∷◌, ◌++◌, length, get_or, slice_get, take, arith}
use Rattle.std.specs.List.{count_by, range_with_len}
use Rattle.std.proofs.lemmas.List.{map-id, take_all, take_more}
use Rattle.std.proofs.lemmas.List.FromFn.{length-range_with_len, map-range_with_len_more}
use Rattle.std.proofs.lemmas.List.Sums.{count_by-le-length, sum_by_push}
use Rattle.std.proofs.lemmas.Option.{slice_get-get_or}
use Rattle.gs_journal.specs.declared.entry.Entry.{Entry}
use Rattle.gs_journal.specs.declared.entry.Entry.TheVariants.{Torn}
use Rattle.gs_journal.specs.History.{History}
use Rattle.gs_turns.specs.Ticked.{is_tick, is_tick_there}
use Rattle.gs_turns.specs.declared.time.Time.{Time}
use Rattle.gs_usage.specs.declared.usage.Usage.{Usage}
use Rattle.gs_usage.specs.declared.usage.Use.{Use}
use Rattle.gs_usage.specs.declared.usage.Use.TheVariants.{Other, Agent, Busy, Wanted, Idle}
use Rattle.gs_usage.specs.Times.{all_entries, all_ticks, plus, plus_if, spend, usage_to}
use Rattle.gs_usage.specs.Uses.{has_use, same_use, time_of, time_to, usage_of, use_of}

abbrev of_uses : Time → Time → Time → Time → Time → Usage
of_uses b a o w i = record { busy = b; agent = a; other = o; wanted = w; idle = i }

pub same_uses : (b b' a a' o o' w w' i i' : Time) → b ≡ b' → a ≡ a' → o ≡ o' → w ≡ w' → i ≡ i' → of_uses b a o w i ≡ of_uses b' a' o' w' i'
same_uses b b' a a' o o' w w' i i' p q r s t = cc

range_more : (n : ℕ) → range_with_len 0 (n + 1) ≡ range_with_len 0 n ++ n ∷ []
range_more n =
    sym (map-id (range_with_len 0 (n + 1)))
    ∙ (map-range_with_len_more (λ (k : ℕ). k) 0 n n (omega arith) ∙ ap (λ (ks : List ℕ). ks ++ n ∷ []) (map-id (range_with_len 0 n)))

pub counted_more : (p : ℕ → Bool) (n : ℕ) → count_by p (range_with_len 0 (n + 1)) ≡ count_by p (range_with_len 0 n) + cond (p n) 1 0
counted_more p n = ap (count_by p) (range_more n) ∙ sum_by_push (λ (k : ℕ). cond (p k) 1 0) (range_with_len 0 n) n

-- the time of a use, one entry more
spent_then : (b tick : Bool) (e t : ℕ) (s : Time) → s ≡ record { entries = e; ticks = t }
    → record { entries = e + cond b 1 0; ticks = t + cond (b && tick) 1 0 } ≡ cond b (plus 1 (cond tick 1 0) s) s
spent_then true tick e t s is = ap (plus 1 (cond tick 1 0)) (sym is)
spent_then false tick e t s is = (let f : e + 0 ≡ e = omega arith in let g : t + 0 ≡ t = omega arith in rw (f, g) refl) ∙ sym is

abbrev of_parts : ℕ → ℕ → Time
of_parts e t = record { entries = e; ticks = t }

time_more : (n : ℕ) (u : Use) (h : History) (c : ℕ) → time_to (n + 1) u h c ≡ plus_if (use_of (take (n + 1) h) c) 1 (cond (is_tick_there c (slice_get h n)) 1 0) u (time_to n u h c)
time_more n u h c =
    let tick = is_tick_there c (slice_get h n) in
    let both : ℕ → Bool = λ (k : ℕ). has_use u h c k && is_tick_there c (slice_get h k) in
    let next : suc n ≡ n + 1 = omega arith in
    ap (λ (e : ℕ). of_parts e (count_by both (range_with_len 0 (n + 1)))) (counted_more (has_use u h c) n)
    ∙ (ap (of_parts (count_by (has_use u h c) (range_with_len 0 n) + cond (has_use u h c n) 1 0)) (counted_more both n)
    ∙ (spent_then (has_use u h c n) tick (count_by (has_use u h c) (range_with_len 0 n)) (count_by both (range_with_len 0 n)) (time_to n u h c) refl
    ∙ ap (λ (m : ℕ). cond (same_use u (use_of (take m h) c)) (plus 1 (cond tick 1 0) (time_to n u h c)) (time_to n u h c)) next))

pub usage_more : (n : ℕ) (h : History) (c : ℕ) → usage_to (n + 1) h c ≡ spend (use_of (take (n + 1) h) c) 1 (cond (is_tick_there c (slice_get h n)) 1 0) (usage_to n h c)
usage_more n h c = same_uses _ _ _ _ _ _ _ _ _ _ (time_more n Busy h c) (time_more n Agent h c) (time_more n Other h c) (time_more n Wanted h c) (time_more n Idle h c)

-- no time is above the count of entries
pub time_bound : (n : ℕ) (u : Use) (h : History) (c : ℕ) → ((time_to n u h c).entries ≤ n) × ((time_to n u h c).ticks ≤ n)
time_bound n u h c =
    let long : length (range_with_len 0 n) ≡ n = length-range_with_len 0 n in
    let both : ℕ → Bool = λ (k : ℕ). has_use u h c k && is_tick_there c (slice_get h k) in
    (omega (arith, long, count_by-le-length (has_use u h c) (range_with_len 0 n)), omega (arith, long, count_by-le-length both (range_with_len 0 n)))

-- each entry adds to one time alone
entries_spent : (v : Use) (e t : ℕ) (x : Usage) → all_entries (spend v e t x) ≡ all_entries x + e
entries_spent Other e t x = omega arith
entries_spent Agent e t x = omega arith
entries_spent Busy e t x = omega arith
entries_spent Wanted e t x = omega arith
entries_spent Idle e t x = omega arith

ticks_spent : (v : Use) (e t : ℕ) (x : Usage) → all_ticks (spend v e t x) ≡ all_ticks x + t
ticks_spent Other e t x = omega arith
ticks_spent Agent e t x = omega arith
ticks_spent Busy e t x = omega arith
ticks_spent Wanted e t x = omega arith
ticks_spent Idle e t x = omega arith

entries_to : (n : ℕ) (h : History) (c : ℕ) → all_entries (usage_to n h c) ≡ n
entries_to zero h c = refl
entries_to (suc n) h c =
    let next : suc n ≡ n + 1 = omega arith in
    subst (λ (m : ℕ). all_entries (usage_to m h c) ≡ m) (sym next)
    (ap all_entries (usage_more n h c)
    ∙ (entries_spent (use_of (take (n + 1) h) c) 1 (cond (is_tick_there c (slice_get h n)) 1 0) (usage_to n h c) ∙ ap (λ (m : ℕ). m + 1) (entries_to n h c)))

ticks_to : (n : ℕ) (h : History) (c : ℕ) → n ≤ length h → all_ticks (usage_to n h c) ≡ count_by (is_tick c) (take n h)
ticks_to zero h c le = refl
ticks_to (suc n) h c le =
    let next : suc n ≡ n + 1 = omega arith in
    let x : Entry = get_or h n Torn in
    let there : is_tick_there c (slice_get h n) ≡ is_tick c x = ap (is_tick_there c) (slice_get-get_or h n Torn (omega arith)) in
    subst (λ (m : ℕ). all_ticks (usage_to m h c) ≡ count_by (is_tick c) (take m h)) (sym next)
    (ap all_ticks (usage_more n h c)
    ∙ (ticks_spent (use_of (take (n + 1) h) c) 1 (cond (is_tick_there c (slice_get h n)) 1 0) (usage_to n h c)
    ∙ (ap (λ (m : ℕ). m + cond (is_tick_there c (slice_get h n)) 1 0) (ticks_to n h c (omega arith))
    ∙ (ap (λ (b : Bool). count_by (is_tick c) (take n h) + cond b 1 0) there
    ∙ (sym (sum_by_push (λ (e : Entry). cond (is_tick c e) 1 0) (take n h) x) ∙ ap (count_by (is_tick c)) (sym (take_more h n Torn (omega arith))))))))

pub usage_is : (h : History) (c : ℕ) → usage_of h c ≡ usage_to (length h) h c
unfolding usage_of time_of
usage_is h c = refl

pub entries_together : (h : History) (c : ℕ) → all_entries (usage_of h c) ≡ length h
entries_together h c = ap all_entries (usage_is h c) ∙ entries_to (length h) h c

pub ticks_together : (h : History) (c : ℕ) → all_ticks (usage_of h c) ≡ count_by (is_tick c) h
ticks_together h c = ap all_ticks (usage_is h c) ∙ (ticks_to (length h) h c (omega arith) ∙ ap (count_by (is_tick c)) (take_all (length h) h (omega arith)))
