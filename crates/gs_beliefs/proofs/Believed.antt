-- What is believed of a CPU after each change.
use Rattle.std.proofs.Common.{Bool, true, false, cond, ◌≡◌, ◌≢◌, ℕ, ◌<◌, ◌≤◌, ◌⊎◌, inl, inr, Option, None, Some, List, length, map, set, replicate, get_or, ap, sym, ◌∙◌, refl, subst, arith}
use Rattle.std.specs.Prelude.{nat_lt, ◌==◌}
use Rattle.std.proofs.Math.ListN as listn
use Rattle.std.proofs.lemmas.Bool.{cases_lt, cases_eq}
use Rattle.std.proofs.lemmas.Bool.Decides.{nat_tests}
use Rattle.std.proofs.lemmas.List.{length-map, length-set, length-replicate, get_or-replicate, get_or-set_same, get_or-set_other, get_or_past, set_past}
use Rattle.gs_layout.specs.declared.kind.Kind.{Kind}
use Rattle.gs_layout.specs.declared.kind.Kind.TheVariants as kinds
use Rattle.gs_layout.specs.declared.message.Message.{Message}
use Rattle.gs_layout.specs.declared.message.Message.TheVariants.{Thread, TimerTick}
use Rattle.gs_layout.specs.declared.outcome.Outcome.{Outcome}
use Rattle.gs_layout.specs.Message.{takes_off_cpu, tseq_of}
use Rattle.gs_layout.specs.Spelling.{kind_of, tid_of}
use Rattle.gs_reader.specs.Taking.{takes_own_off}
use Rattle.gs_beliefs.specs.Cpus.{Cpus, unknown, believed_on, cleared_at, raised_at, ticked, running, clears, raises, ticks, places}
use Rattle.gs_beliefs.specs.Belief.{hears, heard_at, shows_place, after_outcome}

abbrev none : (X : Type 0) → Option X
none X = None

pub nothing_on : {X : Type 0} (n c : ℕ) → (c < n) ⊎ (n ≤ c) → get_or (replicate n (none X)) c None ≡ None
nothing_on {X} n c (inl lt) = get_or-replicate n c (none X) None lt
nothing_on {X} n c (inr le) =
    let past : length (replicate n (none X)) ≤ c = omega (arith, length-replicate n (none X)) in get_or_past (replicate n (none X)) c None past

-- nothing is believed yet
pub believed_on_unknown : (cpus : ℕ) (a : Option ℕ) (c : ℕ) → believed_on (unknown cpus a) c ≡ None
believed_on_unknown cpus a c = nothing_on cpus c (cases_lt c cpus)

pub believed_on_clears : (t : ℕ) (s : Cpus) (c : ℕ) → believed_on (clears t s) c ≡ cleared_at t (believed_on s c)
believed_on_clears t s c = listn.get_or-map (cleared_at t) s.believed c None

pub believed_on_raises : (t n : ℕ) (s : Cpus) (c : ℕ) → believed_on (raises t n s) c ≡ raised_at t n (believed_on s c)
believed_on_raises t n s c = listn.get_or-map (raised_at t n) s.believed c None

-- a change of one place, which nobody is at past the end
at_place : {X : Type 0} (xs : List (Option X)) (c : ℕ) (o : Option X) → (length xs ≤ c → o ≡ None) → (c < length xs) ⊎ (length xs ≤ c) → get_or (set xs c o) c None ≡ o
at_place xs c o past (inl lt) = get_or-set_same xs c o None lt
at_place xs c o past (inr le) = ap (λ ys. get_or ys c None) (set_past xs c o le) ∙ (get_or_past xs c None le ∙ sym (past le))

pub believed_on_ticks : (c : ℕ) (s : Cpus) → believed_on (ticks c s) c ≡ ticked (believed_on s c)
believed_on_ticks c s =
    at_place s.believed c (ticked (believed_on s c)) (λ le. ap ticked (get_or_past s.believed c None le)) (cases_lt c (length s.believed))

pub believed_on_ticks_elsewhere : (c : ℕ) (s : Cpus) (d : ℕ) → d ≢ c → believed_on (ticks c s) d ≡ believed_on s d
believed_on_ticks_elsewhere c s d other = get_or-set_other s.believed c d (ticked (believed_on s c)) None other

-- on a CPU below the count
pub places_below : (c t n : ℕ) (s : Cpus) → c < length s.believed → places c t n s ≡ record s { believed = set (map (cleared_at t) s.believed) c (Some (running t n)) }
places_below c t n s lt =
    let below : nat_lt c (length s.believed) ≡ true = grind (arith, nat_tests) in
    ap (λ (b : Bool). cond b (record s { believed = set (map (cleared_at t) s.believed) c (Some (running t n)) }) s) below

pub places_past : (c t n : ℕ) (s : Cpus) → length s.believed ≤ c → places c t n s ≡ s
places_past c t n s le =
    let past : nat_lt c (length s.believed) ≡ false = grind (arith, nat_tests) in
    ap (λ (b : Bool). cond b (record s { believed = set (map (cleared_at t) s.believed) c (Some (running t n)) }) s) past

pub believed_on_places : (c t n : ℕ) (s : Cpus) → c < length s.believed → believed_on (places c t n s) c ≡ Some (running t n)
believed_on_places c t n s lt =
    let inside : c < length (map (cleared_at t) s.believed) = omega (arith, length-map s.believed (cleared_at t)) in
    ap (λ (k : Cpus). believed_on k c) (places_below c t n s lt) ∙ get_or-set_same (map (cleared_at t) s.believed) c (Some (running t n)) None inside

pub believed_on_places_elsewhere : (c t n : ℕ) (s : Cpus) (d : ℕ) → c < length s.believed → d ≢ c → believed_on (places c t n s) d ≡ cleared_at t (believed_on s d)
believed_on_places_elsewhere c t n s d lt other =
    ap (λ (k : Cpus). believed_on k d) (places_below c t n s lt) ∙ (get_or-set_other (map (cleared_at t) s.believed) c d (Some (running t n)) None other ∙ believed_on_clears t s d)

at_tick : (c d : ℕ) (s : Cpus) → (c ≡ d) ⊎ (c ≢ d) → believed_on (ticks d s) c ≡ heard_at c (TimerTick d) (believed_on s c)
at_tick c d s (inl e) =
    let same : (c == d) ≡ true = grind (arith, nat_tests) in
    subst (λ k. believed_on (ticks k s) c ≡ ticked (believed_on s c)) e (believed_on_ticks c s)
    ∙ sym (ap (λ (b : Bool). cond b (ticked (believed_on s c)) (believed_on s c)) same)
at_tick c d s (inr other) =
    let differs : (c == d) ≡ false = grind (arith, nat_tests) in
    believed_on_ticks_elsewhere d s c other ∙ sym (ap (λ (b : Bool). cond b (ticked (believed_on s c)) (believed_on s c)) differs)

by_change : (b : Bool) (t n : ℕ) (s : Cpus) (c : ℕ) → believed_on (cond b (clears t s) (raises t n s)) c ≡ cond b (cleared_at t (believed_on s c)) (raised_at t n (believed_on s c))
by_change true t n s c = believed_on_clears t s c
by_change false t n s c = believed_on_raises t n s c

pub believed_on_hears : (m : Message) (s : Cpus) (c : ℕ) → believed_on (hears m s) c ≡ heard_at c m (believed_on s c)
believed_on_hears (TimerTick d) s c = at_tick c d s (cases_eq c d)
believed_on_hears (Thread t n change) s c = by_change (takes_off_cpu change) t n s c

-- a message about a thread that takes nobody off gives the thread its number
pub hears_number : (m : Message) (s s' : Cpus) (k : Kind) (t n : ℕ) → takes_own_off m ≡ false → k ≡ kind_of m → k ≢ kinds.TimerTick → t ≡ tid_of m → n ≡ tseq_of m → s' ≡ raises t n s → s' ≡ hears m s
hears_number (TimerTick c) s s' k t n off kind other tid tseq e = absurd (other kind)
hears_number (Thread u i change) s s' k t n off kind other tid tseq e =
    e ∙ (ap (λ x. raises x n s) tid ∙ (ap (λ y. raises u y s) tseq ∙ ap (λ (b : Bool). cond b (clears u s) (raises u i s)) (sym off)))

-- the counts stay
pub count_clears : (t : ℕ) (s : Cpus) → length (clears t s).believed ≡ length s.believed
count_clears t s = length-map s.believed (cleared_at t)

pub count_raises : (t n : ℕ) (s : Cpus) → length (raises t n s).believed ≡ length s.believed
count_raises t n s = length-map s.believed (raised_at t n)

pub count_ticks : (c : ℕ) (s : Cpus) → length (ticks c s).believed ≡ length s.believed
count_ticks c s = length-set s.believed c (ticked (believed_on s c))

count_places_by : (c t n : ℕ) (s : Cpus) (b : Bool) → length (cond b (record s { believed = set (map (cleared_at t) s.believed) c (Some (running t n)) }) s).believed ≡ length s.believed
count_places_by c t n s true = length-set (map (cleared_at t) s.believed) c (Some (running t n)) ∙ length-map s.believed (cleared_at t)
count_places_by c t n s false = refl

pub count_places : (c t n : ℕ) (s : Cpus) → length (places c t n s).believed ≡ length s.believed
count_places c t n s = count_places_by c t n s (nat_lt c (length s.believed))

count_by_change : (b : Bool) (t n : ℕ) (s : Cpus) → length (cond b (clears t s) (raises t n s)).believed ≡ length s.believed
count_by_change true t n s = count_clears t s
count_by_change false t n s = count_raises t n s

pub count_hears : (m : Message) (s : Cpus) → length (hears m s).believed ≡ length s.believed
count_hears (TimerTick c) s = count_ticks c s
count_hears (Thread t n change) s = count_by_change (takes_off_cpu change) t n s

count_by_outcome : (b : Bool) (c t n : ℕ) (s : Cpus) → length (cond b (places c t n s) s).believed ≡ length s.believed
count_by_outcome true c t n s = count_places c t n s
count_by_outcome false c t n s = refl

pub count_after_outcome : (o : Outcome) (at : Option ℕ) (t n : ℕ) (s : Cpus) → length (after_outcome o at t n s).believed ≡ length s.believed
count_after_outcome o None t n s = refl
count_after_outcome o (Some c) t n s = count_by_outcome (shows_place o) c t n s
