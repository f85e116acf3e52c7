-- What one more entry changes.
use Rattle.std.proofs.Common.{◌≡◌, refl, ap, sym, ◌∙◌, subst, ℕ, zero, suc, ◌+◌, ◌-◌, ◌<◌, ◌≤◌, ◌⊎◌, inl, inr, ◌==◌, Bool, true, false, Option, None, Some, List, [], ◌∷◌, ◌++◌, length, take, get_or, arith, cond, slice_get, ◌||◌, length-append, unwrap_or}
use Rattle.std.specs.List.{list_any, filter, flat_map}
use Rattle.std.proofs.lemmas.List.Folds.{list_any-append}
use Rattle.std.proofs.lemmas.List.{append-nil, take_more}
use Rattle.std.proofs.lemmas.List.Elements.{filter-append}
use Rattle.std.proofs.lemmas.Grind.{flat_map-append}
use Rattle.std.proofs.lemmas.Bool.Decides.{nat_tests}
use Rattle.gs_layout.specs.declared.facts.Facts.{Facts}
use Rattle.gs_layout.specs.declared.message.Change.TheVariants.{Created, Blocked, Wakeup, Preempted, Yield, Dead, Affinity}
use Rattle.gs_layout.specs.declared.message.Message.{Message}
use Rattle.gs_layout.specs.declared.message.Message.TheVariants.{Thread, TimerTick}
use Rattle.gs_journal.specs.declared.entry.Entry.{Entry}
use Rattle.gs_journal.specs.declared.entry.Entry.TheVariants.{Posted, Placed, Role, Begin, Left, Taken, Given, Torn}
use Rattle.gs_layout.specs.declared.record.Record.TheVariants as records
use Rattle.gs_layout.specs.declared.record.Record.TheVariants.{Absent}
use Rattle.gs_journal.specs.Walk.{record_then, posts_about}
use Rattle.gs_journal.specs.Standing.{or_here, last_of, unless_ended, standing, latest, never, then_stands, then_latest}
use Rattle.gs_layout.specs.Message.{is_about, is_creation, is_death}
use Rattle.gs_layout.specs.Record.{after}
use Rattle.gs_journal.specs.Record.{record_of, live_of, starts_by, created_by, runnable_by, mask_by}
use Rattle.gs_journal.specs.History.{History, posted, posted_by, messages, seq, seq_after, record_in, on, placed_on, ends_run, at, at_below, is_thread, active, role_by, ends_role, attaching, begin_by, ends_begin, created, taken, taken_by, last_taken, torn, is_torn, AtEach, AtEachPrefix}

-- the last starter after one more element
abbrev pub last_then : {E A : Type 0} → Option A → E → Option (A × List E) → Option (A × List E)
last_then (Some a) e o = Some (a, [])
last_then None e None = None
last_then None e (Some p) = Some (p.0, p.1 ++ e ∷ [])

or_here-nil : {E A : Type 0} (e : E) (s : Option A) → or_here None s [] ≡ last_then s e None
or_here-nil e (Some a) = refl
or_here-nil e None = refl

or_here-push : {E A : Type 0} (s : Option A) (e : E) (l : Option (A × List E)) (x : Option A) (es : List E) → or_here (last_then s e l) x (es ++ e ∷ []) ≡ last_then s e (or_here l x es)
or_here-push (Some a) e l x es = refl
or_here-push None e (Some p) x es = refl
or_here-push None e None (Some b) es = refl
or_here-push None e None None es = refl

pub last_of-push : {E A : Type 0} (starts : E → Option A) (es : List E) (e : E) → last_of starts (es ++ e ∷ []) ≡ last_then (starts e) e (last_of starts es)
unfolding last_of
last_of-push starts [] e = or_here-nil e (starts e)
last_of-push starts (x ∷ es) e =
    ap (λ l. or_here l (starts x) (es ++ e ∷ [])) (last_of-push starts es e) ∙ or_here-push (starts e) e (last_of starts es) (starts x) es

ended-push : {E A : Type 0} (ends : A → E → Bool) (a : A) (e : E) (p : Bool) → cond (p || (ends a e || false)) None (Some a) ≡ then_stands None ends e (cond p None (Some a))
ended-push ends a e true = refl
ended-push ends a e false = or_false (ends a e)
  where
    or_false : (q : Bool) → cond (q || false) None (Some a) ≡ cond q None (Some a)
    or_false true = refl
    or_false false = refl

unless-push : {E A : Type 0} (ends : A → E → Bool) (s : Option A) (e : E) (l : Option (A × List E)) → unless_ended ends (last_then s e l) ≡ then_stands s ends e (unless_ended ends l)
unless-push ends (Some a) e l = refl
unless-push ends None e None = refl
unless-push ends None e (Some p) =
    ap (λ b. cond b None (Some p.0)) (list_any-append (ends p.0) p.1 (e ∷ [])) ∙ ended-push ends p.0 e (list_any (ends p.0) p.1)

pub standing-push : {E A : Type 0} (starts : E → Option A) (ends : A → E → Bool) (es : List E) (e : E) → standing starts ends (es ++ e ∷ []) ≡ then_stands (starts e) ends e (standing starts ends es)
unfolding standing
standing-push starts ends es e = ap (unless_ended ends) (last_of-push starts es e) ∙ unless-push ends (starts e) e (last_of starts es)

latest_is : {E A : Type 0} (s : Option A) (e : E) (o : Option A) → then_stands s never e o ≡ then_latest s o
latest_is (Some a) e o = refl
latest_is None e (Some b) = refl
latest_is None e None = refl

pub latest-push : {E A : Type 0} (starts : E → Option A) (es : List E) (e : E) → latest starts (es ++ e ∷ []) ≡ then_latest (starts e) (latest starts es)
unfolding latest
latest-push starts es e = standing-push starts never es e ∙ latest_is (starts e) e (standing starts never es)

-- what the parts say after one more message is what the message makes of the record
record_parts : (d : Bool) (f : Option Facts) (r : Option Bool) (k : Option ℕ) (m : Message)
    → cond (d || (is_death m || false)) records.Dead (live_of (then_latest (starts_by created_by m) f) (then_latest (starts_by runnable_by m) r) (then_latest (starts_by mask_by m) k))
    ≡ after (cond d records.Dead (live_of f r k)) m
record_parts true f r k (TimerTick c) = refl
record_parts true f r k (Thread t s c) = refl
record_parts false f r k (TimerTick c) = refl
record_parts false None r k (Thread t s (Created g)) = refl
record_parts false (Some f) r k (Thread t s (Created g)) = refl
record_parts false None r k (Thread t s (Blocked c)) = refl
record_parts false None r k (Thread t s Wakeup) = refl
record_parts false None r k (Thread t s (Preempted c)) = refl
record_parts false None r k (Thread t s (Yield c)) = refl
record_parts false None r k (Thread t s (Dead c)) = refl
record_parts false None r k (Thread t s (Affinity c o m)) = refl
record_parts false (Some g) r k (Thread t s (Blocked c)) = refl
record_parts false (Some g) r k (Thread t s Wakeup) = refl
record_parts false (Some g) r k (Thread t s (Preempted c)) = refl
record_parts false (Some g) r k (Thread t s (Yield c)) = refl
record_parts false (Some g) r k (Thread t s (Dead c)) = refl
record_parts false (Some g) r k (Thread t s (Affinity c o m)) = refl

-- the record is the fold of what each message changes
pub record_of-push : (ms : List Message) (m : Message) → record_of (ms ++ m ∷ []) ≡ after (record_of ms) m
unfolding record_of
record_of-push ms m =
    rw (list_any-append is_death ms (m ∷ []), latest-push (starts_by created_by) ms m, latest-push (starts_by runnable_by) ms m, latest-push (starts_by mask_by) ms m)
    (record_parts (list_any is_death ms) (latest (starts_by created_by) ms) (latest (starts_by runnable_by) ms) (latest (starts_by mask_by) ms) m)

pub posted-push : (h : History) (e : Entry) → posted (h ++ e ∷ []) ≡ posted h ++ posted_by e
unfolding posted
posted-push h e = flat_map-append posted_by h (e ∷ []) ∙ ap (λ w. flat_map posted_by h ++ w) (append-nil (posted_by e))

pub messages-push : (h : History) (e : Entry) (t : ℕ) → messages (h ++ e ∷ []) t ≡ messages h t ++ filter (is_about t) (posted_by e)
unfolding messages
messages-push h e t = rw posted-push (filter-append (is_about t) (posted h) (posted_by e))

pub on-push : (h : History) (e : Entry) (c : ℕ) → on (h ++ e ∷ []) c ≡ then_stands (placed_on c e) ends_run e (on h c)
unfolding on
on-push h e c = standing-push (placed_on c) ends_run h e

pub active-push : (h : History) (e : Entry) → active (h ++ e ∷ []) ≡ then_stands (role_by e) ends_role e (active h)
unfolding active
active-push h e = standing-push role_by ends_role h e

pub attaching-push : (h : History) (e : Entry) → attaching (h ++ e ∷ []) ≡ then_stands (begin_by e) ends_begin e (attaching h)
unfolding attaching
attaching-push h e = standing-push begin_by ends_begin h e

pub last_taken-push : (h : History) (e : Entry) (c : ℕ) → last_taken (h ++ e ∷ []) c ≡ then_latest (taken_by c e) (last_taken h c)
unfolding last_taken
last_taken-push h e c = latest-push (taken_by c) h e

pub created-push : (h : History) (e : Entry) → created (h ++ e ∷ []) ≡ created h ++ filter is_creation (posted_by e)
unfolding created
created-push h e = rw posted-push (filter-append is_creation (posted h) (posted_by e))

-- an entry that posts nothing
pub same_posted : (h : History) (e : Entry) → posted_by e ≡ [] → posted (h ++ e ∷ []) ≡ posted h
same_posted h e q = posted-push h e ∙ (ap (λ w. posted h ++ w) q ∙ append-nil (posted h))

-- an entry that posts nothing about a thread
pub same_messages : (h : History) (e : Entry) (t : ℕ) → filter (is_about t) (posted_by e) ≡ [] → messages (h ++ e ∷ []) t ≡ messages h t
same_messages h e t q = messages-push h e t ∙ (ap (λ w. messages h t ++ w) q ∙ append-nil (messages h t))

-- an entry that creates nothing
pub same_created : (h : History) (e : Entry) → filter is_creation (posted_by e) ≡ [] → created (h ++ e ∷ []) ≡ created h
same_created h e q = created-push h e ∙ (ap (λ w. created h ++ w) q ∙ append-nil (created h))

-- an entry posts one message at the most
pub posted-length : (h : History) → length (posted h) ≤ length h
unfolding posted
posted-length [] = omega arith
posted-length (e ∷ h) = omega (arith, length-append (posted_by e) (flat_map posted_by h), at_most_one e, posted-length h)
  where
    at_most_one : (e : Entry) → length (posted_by e) ≤ 1
    at_most_one (Posted m) = omega arith
    at_most_one (Placed t s c g) = omega arith
    at_most_one (Role g c) = omega arith
    at_most_one (Begin g) = omega arith
    at_most_one Left = omega arith
    at_most_one (Taken c) = omega arith
    at_most_one (Given c) = omega arith
    at_most_one Torn = omega arith

-- each place of a longer list is one of the shorter, or the end
at_push : {A : Type 0} (h : List A) (e x : A) (i : ℕ) → slice_get (h ++ e ∷ []) i ≡ Some x
    → ((slice_get h i ≡ Some x) × (take i (h ++ e ∷ []) ≡ take i h)) ⊎ ((x ≡ e) × (take i (h ++ e ∷ []) ≡ h))
at_push [] e x zero is = inr (cc, refl)
at_push [] e x (suc i) is = absurd cc
at_push (y ∷ h) e x zero is = inl (is, refl)
at_push (y ∷ h) e x (suc i) is = elim (at_push h e x i is) [ inl p ↦ inl (p.0, ap (λ w. y ∷ w) p.1) | inr p ↦ inr (p.0, ap (λ w. y ∷ w) p.1) ]

pub AtEach-push : (P : History → Entry → Type 0) (h : History) (e : Entry) → AtEach P h → P h e → AtEach P (h ++ e ∷ [])
AtEach-push P h e all here = λ i x is. elim (at_push h e x i is) [ inl p ↦ subst (λ w. P w x) (sym p.1) (all i x p.0) | inr p ↦ rw p.1 (rw p.0 here) ]

prefix_push : {A : Type 0} (h : List A) (e : A) (i : ℕ) → (take i (h ++ e ∷ []) ≡ take i h) ⊎ (take i (h ++ e ∷ []) ≡ h ++ e ∷ [])
prefix_push [] e zero = inl refl
prefix_push [] e (suc zero) = inr refl
prefix_push [] e (suc (suc i)) = inr refl
prefix_push (y ∷ h) e zero = inl refl
prefix_push (y ∷ h) e (suc i) = elim (prefix_push h e i) [ inl p ↦ inl (ap (λ w. y ∷ w) p) | inr p ↦ inr (ap (λ w. y ∷ w) p) ]

pub AtEachPrefix-push : (P : History → Type 0) (h : History) (e : Entry) → AtEachPrefix P h → P (h ++ e ∷ []) → AtEachPrefix P (h ++ e ∷ [])
AtEachPrefix-push P h e all here = λ i. elim (prefix_push h e i) [ inl p ↦ subst P (sym p) (all i) | inr p ↦ subst P (sym p) here ]

-- a law of one more entry, as a loop over the entries uses it
more : {A : Type 0} (f : History → A) (step : Entry → A → A) → ((h : History) (e : Entry) → f (h ++ e ∷ []) ≡ step e (f h)) → (es : History) (i : ℕ) (d : Entry) → i < length es
    → f (take (i + 1) es) ≡ step (get_or es i d) (f (take i es))
more f step push es i d lt = ap f (take_more es i d lt) ∙ push (take i es) (get_or es i d)

pub on_nil : (c : ℕ) → on [] c ≡ None
unfolding on standing last_of
on_nil c = refl

pub on_more : (es : History) (i c : ℕ) (d : Entry) → i < length es → on (take (i + 1) es) c ≡ then_stands (placed_on c (get_or es i d)) ends_run (get_or es i d) (on (take i es) c)
on_more es i c d lt = more (λ h. on h c) (λ e o. then_stands (placed_on c e) ends_run e o) (λ h e. on-push h e c) es i d lt

pub active_nil : active [] ≡ None
unfolding active standing last_of
active_nil = refl

pub active_more : (es : History) (i : ℕ) (d : Entry) → i < length es → active (take (i + 1) es) ≡ then_stands (role_by (get_or es i d)) ends_role (get_or es i d) (active (take i es))
active_more es i d lt = more active (λ e o. then_stands (role_by e) ends_role e o) active-push es i d lt

pub taken_nil : (c : ℕ) → last_taken [] c ≡ None
unfolding last_taken latest standing last_of
taken_nil c = refl

pub taken_more : (es : History) (i c : ℕ) (d : Entry) → i < length es → last_taken (take (i + 1) es) c ≡ then_latest (taken_by c (get_or es i d)) (last_taken (take i es) c)
unfolding last_taken
taken_more es i c d lt = more (latest (taken_by c)) (λ e o. then_latest (taken_by c e) o) (latest-push (taken_by c)) es i d lt

pub taken_is : (h : History) (c : ℕ) → taken h c ≡ unwrap_or (last_taken h c) false
unfolding taken
taken_is h c = refl

pub record_nil : (t : ℕ) → record_in [] t ≡ Absent
unfolding record_in messages posted record_of latest standing last_of
record_nil t = refl

record_posted : (ms : List Message) (m : Message) (b : Bool) → record_of (ms ++ cond b (m ∷ []) []) ≡ cond b (after (record_of ms) m) (record_of ms)
record_posted ms m true = record_of-push ms m
record_posted ms m false = ap record_of (append-nil ms)

pub record_push : (t : ℕ) (h : History) (e : Entry) → record_in (h ++ e ∷ []) t ≡ record_then t (record_in h t) e
unfolding record_in
record_push t h (Posted m) = ap record_of (messages-push h (Posted m) t) ∙ record_posted (messages h t) m (is_about t m)
record_push t h (Placed u s c g) = ap record_of (messages-push h (Placed u s c g) t ∙ append-nil (messages h t))
record_push t h (Role g c) = ap record_of (messages-push h (Role g c) t ∙ append-nil (messages h t))
record_push t h (Begin g) = ap record_of (messages-push h (Begin g) t ∙ append-nil (messages h t))
record_push t h Left = ap record_of (messages-push h Left t ∙ append-nil (messages h t))
record_push t h (Taken c) = ap record_of (messages-push h (Taken c) t ∙ append-nil (messages h t))
record_push t h (Given c) = ap record_of (messages-push h (Given c) t ∙ append-nil (messages h t))
record_push t h Torn = ap record_of (messages-push h Torn t ∙ append-nil (messages h t))

pub record_more : (es : History) (i t : ℕ) (d : Entry) → i < length es → record_in (take (i + 1) es) t ≡ record_then t (record_in (take i es) t) (get_or es i d)
record_more es i t d lt = more (λ h. record_in h t) (λ e r. record_then t r e) (record_push t) es i d lt

-- one more or none
count_cons : {A : Type 0} (b : Bool) (x : A) (xs : List A) → length (cond b (x ∷ xs) xs) ≡ cond b 1 0 + length xs
count_cons true x xs = omega arith
count_cons false x xs = omega arith

count_posted : (t : ℕ) (e : Entry) → length (filter (is_about t) (posted_by e)) ≡ cond (posts_about t e) 1 0
count_posted t (Posted m) = count_cons (is_about t m) m [] ∙ omega arith
count_posted t (Placed u s c g) = refl
count_posted t (Role g c) = refl
count_posted t (Begin g) = refl
count_posted t Left = refl
count_posted t (Taken c) = refl
count_posted t (Given c) = refl
count_posted t Torn = refl

count_push : (t : ℕ) (h : History) (e : Entry) → length (messages (h ++ e ∷ []) t) ≡ length (messages h t) + cond (posts_about t e) 1 0
count_push t h e =
    ap length (messages-push h e t) ∙ (length-append (messages h t) (filter (is_about t) (posted_by e)) ∙ ap (λ k. length (messages h t) + k) (count_posted t e))

pub count_nil : (t : ℕ) → length (messages [] t) ≡ 0
unfolding messages posted
count_nil t = refl

-- a thread has one message more where an entry posts one about it
pub count_more : (es : History) (i t : ℕ) (d : Entry) → i < length es → length (messages (take (i + 1) es) t) ≡ length (messages (take i es) t) + cond (posts_about t (get_or es i d)) 1 0
count_more es i t d lt = more (λ h. length (messages h t)) (λ e k. k + cond (posts_about t e) 1 0) (count_push t) es i d lt

-- the sequence number of a thread with so many messages
pub seq_is : (first : ℕ) (h : History) (t : ℕ) → seq first h t ≡ seq_after first (length (messages h t))
unfolding seq
seq_is first h t = refl

pub torn_nil : torn [] ≡ false
unfolding torn
torn_nil = refl

pub torn-push : (h : History) (e : Entry) → torn (h ++ e ∷ []) ≡ (torn h || is_torn e)
unfolding torn
torn-push h e = list_any-append is_torn h (e ∷ []) ∙ ap (λ b. list_any is_torn h || b) (or_none (is_torn e))
  where
    or_none : (b : Bool) → (b || false) ≡ b
    or_none true = refl
    or_none false = refl

pub torn_more : (es : History) (i : ℕ) (d : Entry) → i < length es → torn (take (i + 1) es) ≡ (torn (take i es) || is_torn (get_or es i d))
torn_more es i d lt = more torn (λ e b. b || is_torn e) torn-push es i d lt

-- the least CPU that a thread is on, found from below
pub at_is : (n : ℕ) (h : History) (t : ℕ) → at n h t ≡ at_below n h t
unfolding at
at_is n h t = refl

same_eqb : (t : ℕ) → (t == t) ≡ true
same_eqb t = grind (arith, nat_tests)

at_here : (c : ℕ) (h : History) (t : ℕ) → at_below c h t ≡ None → on h c ≡ Some t → at_below (suc c) h t ≡ Some c
at_here c h t none on_c =
    let P : Option ℕ → Type 0 = λ o. elim o as (λ _. Option ℕ) [ Some d ↦ Some d | None ↦ cond (is_thread t (on h c)) (Some c) None ] ≡ Some c in
    subst P (sym none) (ap (λ b. cond b (Some c) None) (ap (is_thread t) on_c ∙ same_eqb t))

at_stays : (c : ℕ) (h : History) (t d : ℕ) → at_below c h t ≡ Some d → at_below (suc c) h t ≡ Some d
at_stays c h t d e =
    let P : Option ℕ → Type 0 = λ o. elim o as (λ _. Option ℕ) [ Some d ↦ Some d | None ↦ cond (is_thread t (on h c)) (Some c) None ] ≡ Some d in
    subst P (sym e) refl

at_later : (k c : ℕ) (h : History) (t d : ℕ) → at_below c h t ≡ Some d → at_below (k + c) h t ≡ Some d
at_later zero c h t d e = ap (λ n. at_below n h t) (let q : 0 + c ≡ c = omega arith in q) ∙ e
at_later (suc k) c h t d e = ap (λ n. at_below n h t) (let q : suc k + c ≡ suc (k + c) = omega arith in q) ∙ at_stays (k + c) h t d (at_later k c h t d e)

pub at_found : (n c : ℕ) (h : History) (t : ℕ) → at_below c h t ≡ None → on h c ≡ Some t → c < n → at n h t ≡ Some c
at_found n c h t none on_c lt =
    at_is n h t ∙ (ap (λ n. at_below n h t) (let q : n ≡ (n - suc c) + suc c = omega arith in q) ∙ at_later (n - suc c) (suc c) h t c (at_here c h t none on_c))

not_here : (o : Option ℕ) (t : ℕ) → (o ≡ Some t → ⊥) → is_thread t o ≡ false
not_here None t other = refl
not_here (Some u) t other = by_test (u == t) refl
  where
    by_test : (b : Bool) → (u == t) ≡ b → (u == t) ≡ false
    by_test false q = q
    by_test true q = absurd (other (ap Some (let e : u ≡ t = grind (arith, nat_tests) in e)))

pub at_not : (c : ℕ) (h : History) (t : ℕ) → at_below c h t ≡ None → (on h c ≡ Some t → ⊥) → at_below (c + 1) h t ≡ None
at_not c h t none other =
    let P : Option ℕ → Type 0 = λ o. elim o as (λ _. Option ℕ) [ Some d ↦ Some d | None ↦ cond (is_thread t (on h c)) (Some c) None ] ≡ None in
    ap (λ n. at_below n h t) (let q : c + 1 ≡ suc c = omega arith in q) ∙ subst P (sym none) (ap (λ b. cond b (Some c) None) (not_here (on h c) t other))
