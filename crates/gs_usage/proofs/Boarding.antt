-- What is known of the CPUs of a block, one entry more.
use Rattle.std.proofs.Common.{◌≡◌, refl, ap, sym, ◌∙◌, subst, ℕ, suc, ◌+◌, ◌-◌, ◌<◌, ◌≤◌, ◌^◌, ◌&&◌, Bool, true, false, cond, nat_lt, Option, None, Some, [], ◌∷◌, ◌++◌, get_or, length, min, slice_get, take, unwrap_or, arith}
use Rattle.std.specs.Int.{bit_at}
use Rattle.std.specs.Option.{is_some}
use Rattle.std.proofs.lemmas.List.{take_more}
use Rattle.gs_status.specs.declared.mask.TheConstants.{MOST_CPUS}
use Rattle.gs_status.specs.Masks.{has}
use Rattle.gs_status.proofs.Laws.{nobody}
use Rattle.gs_journal.specs.declared.entry.Entry.{Entry}
use Rattle.gs_journal.specs.declared.entry.Entry.TheVariants.{Posted, Placed, Role, Begin, Left, Taken, Given, Torn}
use Rattle.gs_journal.specs.History.{History, active, ends_role, ends_run, is_torn, last_taken, on, placed_on, role_by, taken, taken_by}
use Rattle.gs_journal.specs.Standing.{last_of, latest, standing, then_latest, then_stands}
use Rattle.gs_journal.proofs.Laws.{active-push, last_taken-push, on-push}
use Rattle.gs_layout.specs.declared.message.Message.TheVariants.{Thread, TimerTick}
use Rattle.gs_turns.specs.Ticked.{is_tick_there, tick_cpu}
use Rattle.gs_usage.proofs.Hearing.{all_past_more, threads_more}
use Rattle.gs_usage.specs.Counting.{count_of}
use Rattle.gs_usage.specs.Facts.{AreFacts, AreFactsThen, agent_then, use_now}
use Rattle.gs_usage.specs.Seats.{IsKept, who, who_at}
use Rattle.gs_usage.specs.Tallies.{HasRoom, IsTally, IsTallyThen, entries_to, ticks_in}
use Rattle.gs_usage.specs.Uses.{first_use, has_use, is_there, is_wanted, mask_by, mask_in, same_use, time_to, use_of}
use Rattle.gs_usage.specs.Waiting.{AreThreads, ThreadsOf, no_change, nobody as no_threads, row_of, waiting, waiting_then, waits, waits_then}
use Rattle.gs_usage.specs.declared.facts.Facts.{Facts}
use Rattle.gs_usage.specs.declared.row.WaitChange.{WaitChange}
use Rattle.gs_usage.specs.declared.tally.Tally.{Tally}
use Rattle.gs_usage.specs.declared.usage.Use.{Use}
use Rattle.gs_usage.specs.declared.usage.Use.TheVariants.{Idle}
use Rattle.gs_turns.specs.declared.time.Time.{Time}
use Rattle.gs_usage.proofs.Adding.{counted_more, time_bound}
use Rattle.gs_usage.proofs.Bits.{bit_is}
use Rattle.gs_usage.proofs.Wanting.{wanted_is}

-- who has a CPU, and who is on it
agent_by : (c : ℕ) (x : Entry) (o : Option (ℕ × ℕ)) → is_there c (then_stands (role_by x) ends_role x o) ≡ agent_then c x (is_there c o)
agent_by c (Role g d) o = refl
agent_by c (Begin g) None = refl
agent_by c (Begin g) (Some r) = refl
agent_by c Left None = refl
agent_by c Left (Some r) = refl
agent_by c Torn None = refl
agent_by c Torn (Some r) = refl
agent_by c (Posted m) None = refl
agent_by c (Posted m) (Some r) = refl
agent_by c (Placed t s d g) None = refl
agent_by c (Placed t s d g) (Some r) = refl
agent_by c (Taken d) None = refl
agent_by c (Taken d) (Some r) = refl
agent_by c (Given d) None = refl
agent_by c (Given d) (Some r) = refl

taken_latest : (a o : Option Bool) → unwrap_or (then_latest a o) false ≡ unwrap_or a (unwrap_or o false)
taken_latest None o = refl
taken_latest (Some b) o = refl

taken_push : (h : History) (x : Entry) (c : ℕ) → taken (h ++ x ∷ []) c ≡ unwrap_or (taken_by c x) (taken h c)
unfolding taken
taken_push h x c = ap (λ (o : Option Bool). unwrap_or o false) (last_taken-push h x c) ∙ taken_latest (taken_by c x) (last_taken h c)

-- no number is above the count of entries
waiting_less : (c n : ℕ) (x : Entry) (s : WaitChange) (w : ℕ) → w ≤ n → waiting_then c x s w ≤ n + 1
waiting_less c n x s w le = by_torn (is_torn x)
  where
    one : (b : Bool) → cond b 1 0 ≤ 1
    one true = omega arith
    one false = omega arith

    by_torn : (b : Bool) → cond b 0 ((w + cond (has s.after c) 1 0) - cond (has s.before c) 1 0) ≤ n + 1
    by_torn true = omega arith
    by_torn false = let more : cond (has s.after c) 1 0 ≤ 1 = one (has s.after c) in omega (arith, more, le)

one_more : (h : History) (n : ℕ) (x : Entry) → n < length h → x ≡ get_or h n x → take n h ++ x ∷ [] ≡ take (n + 1) h
one_more h n x lt is = sym (take_more h n x lt ∙ ap (λ (y : Entry). take n h ++ y ∷ []) (sym is))

pub facts_more : (h : History) (n first : ℕ) (x : Entry) (s : WaitChange) (old new : ThreadsOf) (f g : Facts) → n < length h → x ≡ get_or h n x → AreFacts h n first old f → AreFactsThen first x s f g
    → ((c : ℕ) → waiting new c ≡ waiting_then c x s (waiting old c)) → AreFacts h (n + 1) first new g
facts_more h n first x s old new f g lt is are heard counts =
    let more : take n h ++ x ∷ [] ≡ take (n + 1) h = one_more h n x lt is in
    record {
      taken = λ i small. heard.taken i small ∙ (ap (unwrap_or (taken_by (first + i) x)) (are.taken i small) ∙ (sym (taken_push (take n h) x (first + i)) ∙ ap (λ (k : History). taken k (first + i)) more));
      agent = λ i small. heard.agent i small ∙ (ap (agent_then (first + i) x) (are.agent i small) ∙ (sym (agent_by (first + i) x (active (take n h))) ∙ ap (is_there (first + i)) (sym (active-push (take n h) x) ∙ ap active more)));
      on = λ i small. heard.on i small ∙ (ap (then_stands (placed_on (first + i) x) ends_run x) (are.on i small) ∙ (sym (on-push (take n h) x (first + i)) ∙ ap (λ (k : History). on k (first + i)) more));
      waiting = λ i small. heard.waiting i small ∙ (ap (waiting_then (first + i) x s) (are.waiting i small) ∙ sym (counts (first + i)));
      few = λ i small. subst (λ (w : ℕ). w ≤ n + 1) (sym (heard.waiting i small)) (waiting_less (first + i) n x s (count_of f.waiting i) (are.few i small));
      kept = heard.kept;
      room = subst (λ (k : ℕ). length h < 2 ^ k) (sym heard.room) are.room;
      wanted = heard.wanted;
    }

-- what a CPU is used for whose facts are so
someone : (b : Bool) (t : ℕ) → is_some (cond b (Some t) None) ≡ b
someone true t = refl
someone false t = refl

pub use_is : (h : History) (n first : ℕ) (ts : ThreadsOf) (f : Facts) (i : ℕ) → i < MOST_CPUS → AreFacts h n first ts f → AreThreads h n ts → use_now f i ≡ use_of (take n h) (first + i)
unfolding use_of
use_is h n first ts f i small are threads =
    let busy : has f.seats.busy i ≡ is_some (on (take n h) (first + i)) = sym (someone (has f.seats.busy i) (get_or f.seats.threads.items i 0)) ∙ ap is_some (are.on i small) in
    let wanted : nat_lt 0 (count_of f.waiting i) ≡ is_wanted (take n h) (first + i) = ap (nat_lt 0) (are.waiting i small) ∙ wanted_is h n ts (first + i) threads in
    ap (λ (b : Bool). first_use b (has f.agent i) (has f.seats.busy i) (nat_lt 0 (count_of f.waiting i))) (are.taken i small)
    ∙ (ap (λ (b : Bool). first_use (taken (take n h) (first + i)) b (has f.seats.busy i) (nat_lt 0 (count_of f.waiting i))) (are.agent i small)
    ∙ (ap (λ (b : Bool). first_use (taken (take n h) (first + i)) (is_there (first + i) (active (take n h))) b (nat_lt 0 (count_of f.waiting i))) busy
    ∙ ap (first_use (taken (take n h) (first + i)) (is_there (first + i) (active (take n h))) (is_some (on (take n h) (first + i)))) wanted))

-- how long a CPU had a use
both_bits : (a b : Bool) → min (cond a 1 0) (cond b 1 0) ≡ cond (a && b) 1 0
both_bits true true = refl
both_bits true false = refl
both_bits false true = refl
both_bits false false = refl

pub tally_more : (h : History) (n first set ticked : ℕ) (u : Use) (t v : Tally) → n < length h → IsTally h n first u t → IsTallyThen n set ticked t v
    → ((i : ℕ) → i < MOST_CPUS → has set i ≡ same_use u (use_of (take (n + 1) h) (first + i))) → ((i : ℕ) → i < MOST_CPUS → has ticked i ≡ is_tick_there (first + i) (slice_get h n)) → IsTally h (n + 1) first u v
tally_more h n first set ticked u t v lt is heard used tick = record {
  is = λ i small. ap (λ (m : ℕ). has m i) heard.is ∙ used i small;
  entries = λ i small. heard.entries i small ∙ (ap (λ (m : ℕ). m + bit_at set i) (is.entries i small) ∙ (ap (λ (m : ℕ). (time_to n u h (first + i)).entries + m) (one i small) ∙ sym (counted_more (has_use u h (first + i)) n)));
  ticks = λ i small.
      heard.ticks i small
      ∙ (ap (λ (m : ℕ). m + min (bit_at set i) (bit_at ticked i)) (is.ticks i small)
      ∙ (ap (λ (m : ℕ). (time_to n u h (first + i)).ticks + m) (both i small) ∙ sym (counted_more (λ (k : ℕ). has_use u h (first + i) k && is_tick_there (first + i) (slice_get h k)) n)));
  since = let le = heard.since in omega (arith, le);
  room = record {
    entries = subst (λ (k : ℕ). length h < 2 ^ k) (sym heard.entries_room) is.room.entries;
    ticks = subst (λ (k : ℕ). length h < 2 ^ k) (sym heard.ticks_room) is.room.ticks;
  };
}
  where
    now : (i : ℕ) → i < MOST_CPUS → has set i ≡ has_use u h (first + i) n
    now i small = used i small ∙ (let next : n + 1 ≡ suc n = omega arith in ap (λ (m : ℕ). same_use u (use_of (take m h) (first + i))) next)

    one : (i : ℕ) → i < MOST_CPUS → bit_at set i ≡ cond (has_use u h (first + i) n) 1 0
    one i small = bit_is set i ∙ ap (λ (b : Bool). cond b 1 0) (now i small)

    both : (i : ℕ) → i < MOST_CPUS → min (bit_at set i) (bit_at ticked i) ≡ cond (has_use u h (first + i) n && is_tick_there (first + i) (slice_get h n)) 1 0
    both i small =
        ap (λ (m : ℕ). min m (bit_at ticked i)) (one i small)
        ∙ (ap (min (cond (has_use u h (first + i) n) 1 0)) (bit_is ticked i ∙ ap (λ (b : Bool). cond b 1 0) (tick i small))
        ∙ both_bits (has_use u h (first + i) n) (is_tick_there (first + i) (slice_get h n)))

-- there is room for what is counted
pub entries_fit : (h : History) (n first : ℕ) (u : Use) (t : Tally) → n < length h → IsTally h n first u t → (i : ℕ) → i < MOST_CPUS → entries_to n t i < 2 ^ length t.entries.digits.items
entries_fit h n first u t lt is i small = let few = (time_bound n u h (first + i)).0 in let same = is.entries i small in let room = is.room.entries in omega (arith, few, same, room, lt)

pub ticks_fit : (h : History) (n first : ℕ) (u : Use) (t : Tally) → n < length h → IsTally h n first u t → (i : ℕ) → i < MOST_CPUS → ticks_in t i + 1 < 2 ^ length t.ticks.digits.items
ticks_fit h n first u t lt is i small = let few = (time_bound n u h (first + i)).1 in let same = is.ticks i small in let room = is.room.ticks in omega (arith, few, same, room, lt)

pub entries_few : (h : History) (n first : ℕ) (u : Use) (t : Tally) → IsTally h n first u t → (i : ℕ) → i < MOST_CPUS → entries_to n t i ≤ n
entries_few h n first u t is i small = let few = (time_bound n u h (first + i)).0 in let same = is.entries i small in omega (arith, few, same)

pub ticks_few : (h : History) (n first : ℕ) (u : Use) (t : Tally) → IsTally h n first u t → (i : ℕ) → i < MOST_CPUS → ticks_in t i ≤ n
ticks_few h n first u t is i small = let few = (time_bound n u h (first + i)).1 in let same = is.ticks i small in omega (arith, few, same)

-- a tick leaves all as it was but for the ticks
pub tick_is : (x : Entry) (c : ℕ) → tick_cpu x ≡ Some c → x ≡ Posted (TimerTick c)
tick_is (Posted (TimerTick k)) c e = let same : k ≡ c = cc in ap (λ (d : ℕ). Posted (TimerTick d)) same
tick_is (Posted (Thread t s k)) c e = absurd cc
tick_is (Placed t s k g) c e = absurd cc
tick_is (Role g k) c e = absurd cc
tick_is (Begin g) c e = absurd cc
tick_is Left c e = absurd cc
tick_is (Taken k) c e = absurd cc
tick_is (Given k) c e = absurd cc
tick_is Torn c e = absurd cc

still_waiting : (c w : ℕ) → (w + cond (has 0 c) 1 0) - cond (has 0 c) 1 0 ≡ w
still_waiting c w = ap (λ (b : Bool). (w + cond b 1 0) - cond b 1 0) (nobody c) ∙ (let same : (w + 0) - 0 ≡ w = omega arith in same)

still_on : (c : ℕ) (o : Option ℕ) → o ≡ then_stands None ends_run (Posted (TimerTick c)) o
still_on c None = refl
still_on c (Some t) = refl

still : (h : History) (n first c : ℕ) (ts : ThreadsOf) (f : Facts) → AreFacts h n first ts f → AreFactsThen first (Posted (TimerTick c)) no_change f f
still h n first c ts f are = record {
  taken = λ i small. refl;
  agent = λ i small. refl;
  on = λ i small. still_on c (who f.seats i);
  waiting = λ i small. sym (still_waiting (first + i) (count_of f.waiting i));
  kept = are.kept;
  room = refl;
  wanted = are.wanted;
}

pub facts_still : (h : History) (n first c : ℕ) (x : Entry) (ts : ThreadsOf) (f : Facts) → n < length h → x ≡ get_or h n x → tick_cpu x ≡ Some c → AreFacts h n first ts f → AreFacts h (n + 1) first ts f
facts_still h n first c x ts f lt is tick are =
    let same : x ≡ Posted (TimerTick c) = tick_is x c tick in
    facts_more h n first x no_change ts ts f f lt is are (subst (λ (y : Entry). AreFactsThen first y no_change f f) (sym same) (still h n first c ts f are))
    (λ d. sym (ap (λ (y : Entry). waiting_then d y no_change (waiting ts d)) same ∙ still_waiting d (waiting ts d)))

pub threads_still : (h : History) (n c : ℕ) (x : Entry) (ts : ThreadsOf) → n < length h → x ≡ get_or h n x → tick_cpu x ≡ Some c → AreThreads h n ts → AreThreads h (n + 1) ts
threads_still h n c x ts lt is tick are =
    let same : x ≡ Posted (TimerTick c) = tick_is x c tick in
    let le = are.past.torn in
    threads_more h n x ts ts lt is are
    (λ t. sym (ap (λ (y : Entry). waits_then t y (waits ts t)) same))
    (λ t. sym (ap (λ (y : Entry). unwrap_or (mask_by t y) (row_of ts t).mask) same))
    (record { torn = omega (arith, le); rows = all_past_more n ts.rows are.past.rows })

none_taken : (c : ℕ) → taken [] c ≡ false
unfolding taken last_taken latest standing last_of
none_taken c = refl

none_there : (c : ℕ) → is_there c (active []) ≡ false
unfolding active standing last_of
none_there c = refl

none_on : (c : ℕ) → on [] c ≡ None
unfolding on standing last_of
none_on c = refl

pub facts_none : (h : History) (first : ℕ) (f : Facts) → f.taken ≡ 0 → f.agent ≡ 0 → f.seats.busy ≡ 0 → IsKept f.seats.busy f.seats.threads.items f.seats.places.items
    → ((i : ℕ) → count_of f.waiting i ≡ 0) → f.wanted ≡ 0 → length h < 2 ^ length f.waiting.words → AreFacts h 0 first no_threads f
facts_none h first f no_taken no_agent no_busy kept none not_one room = record {
  taken = λ i small. ap (λ (m : ℕ). has m i) no_taken ∙ (nobody i ∙ sym (none_taken (first + i)));
  agent = λ i small. ap (λ (m : ℕ). has m i) no_agent ∙ (nobody i ∙ sym (none_there (first + i)));
  on = λ i small. ap (λ (m : ℕ). who_at m f.seats.threads.items i) no_busy ∙ (ap (λ (b : Bool). cond b (Some (get_or f.seats.threads.items i 0)) None) (nobody i) ∙ sym (none_on (first + i)));
  waiting = λ i small. none i;
  few = λ i small. let zero_is = none i in omega (arith, zero_is);
  wanted = λ i small. ap (λ (m : ℕ). has m i) not_one ∙ (nobody i ∙ sym (ap (nat_lt 0) (none i)));
  kept = kept;
  room = room;
}

use_none : (c : ℕ) → use_of [] c ≡ Idle
unfolding use_of is_wanted mask_in active taken last_taken on latest standing last_of
use_none c = refl

pub tally_none : (h : History) (first set : ℕ) (u : Use) (t : Tally) → t.set ≡ set → ((i : ℕ) → entries_to 0 t i ≡ 0) → ((i : ℕ) → ticks_in t i ≡ 0) → t.since ≡ 0 → HasRoom (length h) t
    → ((i : ℕ) → i < MOST_CPUS → has set i ≡ same_use u Idle) → IsTally h 0 first u t
tally_none h first set u t is none never since room used = record {
  is = λ i small. ap (λ (m : ℕ). has m i) is ∙ (used i small ∙ sym (ap (same_use u) (use_none (first + i))));
  entries = λ i small. none i;
  ticks = λ i small. never i;
  since = omega (arith, since);
  room = room;
}

-- behind the last entry
pub entries_in : (h : History) (end first most i : ℕ) (u : Use) (t : Tally) → end ≡ length h → end ≤ most → i < MOST_CPUS → IsTally h (length h) first u t → entries_to end t i ≤ most
entries_in h end first most i u t all le small is =
    let few = entries_few h (length h) first u t is i small in
    subst (λ (n : ℕ). entries_to n t i ≤ most) (sym all) (omega (arith, few, le, all))

pub ticks_in_all : (h : History) (end first most i : ℕ) (u : Use) (t : Tally) → end ≡ length h → end ≤ most → i < MOST_CPUS → IsTally h (length h) first u t → ticks_in t i ≤ most
ticks_in_all h end first most i u t all le small is = let few = ticks_few h (length h) first u t is i small in omega (arith, few, le, all)

abbrev of_parts : ℕ → ℕ → Time
of_parts e t = record { entries = e; ticks = t }

same_time : (x y : Time) → x.entries ≡ y.entries → x.ticks ≡ y.ticks → x ≡ y
same_time x y p q = ap (λ (e : ℕ). of_parts e x.ticks) p ∙ ap (of_parts y.entries) q

pub time_told : (h : History) (end first i : ℕ) (u : Use) (t : Tally) (x : Time) → end ≡ length h → i < MOST_CPUS → IsTally h (length h) first u t → x.entries ≡ entries_to end t i → x.ticks ≡ ticks_in t i → x ≡ time_to (length h) u h (first + i)
time_told h end first i u t x all small is entries ticks =
    same_time x (time_to (length h) u h (first + i)) (entries ∙ (ap (λ (n : ℕ). entries_to n t i) all ∙ is.entries i small)) (ticks ∙ is.ticks i small)
