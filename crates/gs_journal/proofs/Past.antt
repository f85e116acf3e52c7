-- What a view learns was so.
use Rattle.std.proofs.Common.{◌≡◌, refl, ap, sym, ◌∙◌, subst, ℕ, zero, suc, ◌+◌, ◌-◌, ◌<◌, ◌≤◌, ◌==◌, nat_lt, nat_le, Bool, true, false, Option, None, Some, List, [], ◌∷◌, ◌++◌, length, take, arith, cond, slice_get, length-append, append_assoc}
use Rattle.std.specs.List.{filter}
use Rattle.std.proofs.lemmas.List.{append-nil, take_all, take-append-le}
use Rattle.std.proofs.lemmas.List.Elements.{filter-append}
use Rattle.std.proofs.lemmas.Bool.Decides.{nat_tests}
use Rattle.gs_layout.specs.declared.message.Change.{Change}
use Rattle.gs_layout.specs.declared.message.Change.TheVariants.{Created, Blocked, Wakeup, Preempted, Yield, Dead, Affinity}
use Rattle.gs_layout.specs.declared.message.Message.{Message}
use Rattle.gs_layout.specs.declared.message.Message.TheVariants.{Thread, TimerTick}
use Rattle.gs_layout.specs.declared.record.Record.{Record}
use Rattle.gs_layout.specs.declared.record.Record.TheVariants as records
use Rattle.gs_layout.specs.declared.record.Record.TheVariants.{Absent, Live}
use Rattle.gs_layout.specs.declared.known.Known.{Known}
use Rattle.gs_journal.specs.Standing.{latest, standing, last_of}
use Rattle.gs_layout.specs.declared.known.Word.TheVariants.{Applied, Skipped, Gap}
use Rattle.gs_layout.specs.Message.{is_about, is_creation, tseq_of}
use Rattle.gs_layout.specs.Record.{after}
use Rattle.gs_journal.specs.Record.{record_of}
use Rattle.gs_journal.specs.History.{History, posted, posted_by, messages, seq, seq_after, record_in}
use Rattle.gs_journal.specs.declared.entry.Entry.{Entry}
use Rattle.gs_journal.specs.declared.entry.Entry.TheVariants.{Posted, Placed, Role, Begin, Left, Taken, Given, Torn}
use Rattle.std.specs.List.{flat_map}
use Rattle.std.proofs.Common.{length-take}
use Rattle.gs_layout.specs.View.{Look, known_at, learn, next_known, apply, catch_up}
use Rattle.gs_journal.specs.State.{Numbered, IsNumbered, Was, WasOnce, AllWas}
use Rattle.gs_journal.proofs.Steps.{record_of-push}

pub numbered_get : (first n : ℕ) (ms : List Message) (j : ℕ) (m : Message) → Numbered first n ms → slice_get ms j ≡ Some m
    → (tseq_of m ≡ first + suc (n + j)) × (is_creation m ≡ true → n + j ≡ 0)
numbered_get first n [] j m all is = absurd cc
numbered_get first n (x ∷ ms) zero m all is =
    let same : x ≡ m = cc in
    (ap tseq_of (sym same) ∙ (all.0 ∙ omega arith), λ p. omega (arith, all.1 (ap is_creation same ∙ p)))
numbered_get first n (x ∷ ms) (suc j) m all is =
    let r = numbered_get first (suc n) ms j m all.2 is in
    (omega (arith, r.0), λ p. omega (arith, r.1 p))

pub numbered_push : (first n : ℕ) (ms : List Message) (m : Message) → Numbered first n ms → tseq_of m ≡ first + suc (n + length ms) → (is_creation m ≡ true → n + length ms ≡ 0) → Numbered first n (ms ++ m ∷ [])
numbered_push first n [] m all at new = (omega (arith, at), λ p. omega (arith, new p), tt)
numbered_push first n (x ∷ ms) m all at new =
    (all.0, all.1, numbered_push first (suc n) ms m all.2 (omega (arith, at)) (λ p. omega (arith, new p)))

pub take_more_get : {A : Type 0} (ms : List A) (j : ℕ) (m : A) → slice_get ms j ≡ Some m → take (suc j) ms ≡ take j ms ++ m ∷ []
take_more_get [] j m is = absurd cc
take_more_get (x ∷ ms) zero m is = cc
take_more_get (x ∷ ms) (suc j) m is = ap (λ w. x ∷ w) (take_more_get ms j m is)

pub get_middle : {A : Type 0} (xs ys : List A) (m : A) → slice_get (xs ++ m ∷ ys) (length xs) ≡ Some m
get_middle [] ys m = refl
get_middle (x ∷ xs) ys m = get_middle xs ys m

pub get_below : {A : Type 0} (ms : List A) (j : ℕ) (m : A) → slice_get ms j ≡ Some m → j < length ms
get_below [] j m is = absurd cc
get_below (x ∷ ms) zero m is = omega arith
get_below (x ∷ ms) (suc j) m is = omega (arith, get_below ms j m is)

-- the record after the j-th message
record_at : (ms : List Message) (j : ℕ) (m : Message) → slice_get ms j ≡ Some m → record_of (take (suc j) ms) ≡ after (record_of (take j ms)) m
record_at ms j m is = ap record_of (take_more_get ms j m is) ∙ record_of-push (take j ms) m

-- what is known at a live record
pub known_live : (s : ℕ) (r : Record) (k : Known) → known_at s r ≡ Some k → (r ≡ Live k.facts) × (k.tseq ≡ s)
known_live s Absent k e = absurd cc
known_live s records.Dead k e = absurd cc
known_live s (Live f) k e =
    let same : record { facts = f; tseq = s } ≡ k = cc in
    (ap (λ (x : Known). Live x.facts) same, ap (λ (x : Known). x.tseq) (sym same))

record_none : record_of [] ≡ Absent
unfolding record_of latest standing last_of
record_none = refl

-- a message that is learnt from a record that was so
learnt_was : (first : ℕ) (h : History) (t j : ℕ) (m : Message) (r : Record) (s : ℕ) (k : Known)
    → slice_get (messages h t) j ≡ Some m → s ≡ first + suc j → record_of (take j (messages h t)) ≡ r → known_at s (after r m) ≡ Some k → Was first h t k
learnt_was first h t j m r s k is at before known =
    let l = known_live s (after r m) k known in
    let below = get_below (messages h t) j m is in
    let n : k.tseq - first ≡ suc j = omega (arith, l.1, at) in
    record {
      above = omega (arith, l.1, at);
      reached = omega (arith, l.1, at, below);
      facts = ap (λ x. record_of (take x (messages h t))) n ∙ (record_at (messages h t) j m is ∙ (ap (λ x. after x m) before ∙ l.0));
    }

-- Known facts stay so if the message is skipped, and a message that applies gives facts that were so
pub next_was : (first : ℕ) (h : History) (t j u s : ℕ) (c : Change) (o : Option Known) (k : Known)
    → Numbered first 0 (messages h t) → slice_get (messages h t) j ≡ Some (Thread u s c)
    → ((k : Known) → o ≡ Some k → Was first h t k) → next_known o (Thread u s c) ≡ Some k → Was first h t k
next_was first h t j u s (Created f) None k all is was e =
    let at = numbered_get first 0 (messages h t) j (Thread u s (Created f)) all is in
    let zeroth : j ≡ 0 = omega (arith, at.1 refl) in
    learnt_was first h t j (Thread u s (Created f)) Absent s k is (omega (arith, at.0)) (ap (λ x. record_of (take x (messages h t))) zeroth ∙ record_none) e
next_was first h t j u s (Blocked c) None k all is was e = absurd cc
next_was first h t j u s Wakeup None k all is was e = absurd cc
next_was first h t j u s (Preempted c) None k all is was e = absurd cc
next_was first h t j u s (Yield c) None k all is was e = absurd cc
next_was first h t j u s (Dead c) None k all is was e = absurd cc
next_was first h t j u s (Affinity c o m) None k all is was e = absurd cc
next_was first h t j u s c (Some old) k all is was e = by_test (nat_le s old.tseq) refl (nat_lt (old.tseq + 1) s) refl e
  where
    at : (s ≡ first + suc (0 + j)) × (is_creation (Thread u s c) ≡ true → 0 + j ≡ 0)
    at = numbered_get first 0 (messages h t) j (Thread u s c) all is

    by_test : (p : Bool) → nat_le s old.tseq ≡ p → (q : Bool) → nat_lt (old.tseq + 1) s ≡ q
        → learn (cond p Skipped (cond q Gap Applied)) (Some old) (Thread u s c) ≡ Some k → Was first h t k
    by_test true p q q' e = was k e
    by_test false p true q' e = was k e
    by_test false p false q e =
        let next : s ≡ old.tseq + 1 = grind (arith, nat_tests) in
        let w = was old refl in
        let n : old.tseq - first ≡ j = omega (arith, at.0, w.above) in
        learnt_was first h t j (Thread u s c) (Live old.facts) s k is (omega (arith, at.0)) (ap (λ x. record_of (take x (messages h t))) (sym n) ∙ w.facts) e

-- what was so is so in each longer history
pub Was-mono : (first : ℕ) (h h' : History) (t : ℕ) (k : Known) (ms : List Message) → messages h' t ≡ messages h t ++ ms → Was first h t k → Was first h' t k
Was-mono first h h' t k ms e w =
    record {
      above = w.above;
      reached = omega (arith, ap length e ∙ length-append (messages h t) ms, w.reached);
      facts = ap (λ x. record_of (take (k.tseq - first) x)) e ∙ (ap record_of (take-append-le (k.tseq - first) (messages h t) ms (omega (arith, w.reached))) ∙ w.facts);
    }

-- what was so when the thread had the number that it has now is so now
pub Was-now : (first : ℕ) (h : History) (t : ℕ) (k : Known) → Was first h t k → seq first h t ≡ k.tseq → record_in h t ≡ Live k.facts
unfolding seq record_in
Was-now first h t k w now =
    let len : length (messages h t) ≤ k.tseq - first = counted (length (messages h t)) now in
    ap record_of (sym (take_all (k.tseq - first) (messages h t) len)) ∙ w.facts
  where
    above : first < k.tseq
    above = w.above

    counted : (n : ℕ) → seq_after first n ≡ k.tseq → n ≤ k.tseq - first
    counted zero e = omega arith
    counted (suc n) e = omega arith

-- views that say the same are the same
pub same_view : (v w : Look) → ((t : ℕ) → v t ≡ w t) → v ≡ w
same_view v w h = λ i. λ t. h t i

apply_was : (first : ℕ) (h : History) (v : Look) (a b : List Message) (m : Message) → posted h ≡ a ++ m ∷ b → IsNumbered first h → AllWas first h v
    → AllWas first h (apply v m)
unfolding messages
apply_was first h v a b (TimerTick c) is all was = was
apply_was first h v a b (Thread u s c) is all was = λ t k e. by_about t k (u == t) refl e
  where
    by_about : (t : ℕ) (k : Known) (p : Bool) → (u == t) ≡ p → cond p (next_known (v t) (Thread u s c)) (v t) ≡ Some k → Was first h t k
    by_about t k false q e = was t k e
    by_about t k true q e =
        let mine : messages h t ≡ filter (is_about t) a ++ (Thread u s c ∷ filter (is_about t) b) =
        ap (filter (is_about t)) is ∙ (filter-append (is_about t) a (Thread u s c ∷ b) ∙ ap (λ z. filter (is_about t) a ++ cond z (Thread u s c ∷ filter (is_about t) b) (filter (is_about t) b)) q) in
        let found : slice_get (messages h t) (length (filter (is_about t) a)) ≡ Some (Thread u s c) =
        ap (λ z. slice_get z (length (filter (is_about t) a))) mine ∙ get_middle (filter (is_about t) a) (filter (is_about t) b) (Thread u s c) in
        next_was first h t (length (filter (is_about t) a)) u s c (v t) k (all t) found (was t) e

-- what is learnt from messages of the history was so
pub catch_up_was : (first : ℕ) (h : History) (v : Look) (a ms b : List Message) → posted h ≡ a ++ (ms ++ b) → IsNumbered first h → AllWas first h v → AllWas first h (catch_up v ms)
catch_up_was first h v a [] b is all was = was
catch_up_was first h v a (m ∷ ms) b is all was =
    catch_up_was first h (apply v m) (a ++ m ∷ []) ms b (is ∙ sym (append_assoc a (m ∷ []) (ms ++ b))) all (apply_was first h v a (ms ++ b) m is all was)

-- induction on the last element
snoc_from : {A : Type 0} (P : List A → Type 0) → ((h : List A) (e : A) → P h → P (h ++ e ∷ [])) → (h rest : List A) → P h → P (h ++ rest)
snoc_from P step h [] p = subst P (sym (append-nil h)) p
snoc_from P step h (e ∷ rest) p = subst P (append_assoc h (e ∷ []) rest) (snoc_from P step (h ++ e ∷ []) rest (step h e p))

pub snoc_induction : {A : Type 0} (P : List A → Type 0) → P [] → ((h : List A) (e : A) → P h → P (h ++ e ∷ [])) → (h : List A) → P h
snoc_induction P none step h = snoc_from P step [] h none

-- the messages about a thread if an entry stands in front
in_front : (e : Entry) (h : History) (t : ℕ) → messages (e ∷ h) t ≡ filter (is_about t) (posted_by e) ++ messages h t
unfolding messages posted
in_front e h t = filter-append (is_about t) (posted_by e) (flat_map posted_by h)

-- a beginning of the history has just the first messages about the thread, so many
abbrev HasFirst : History → ℕ → ℕ → Type 0
HasFirst h t n = n ≤ length (messages h t) → (i : ℕ) × (messages (take i h) t ≡ take n (messages h t))

behind_other : (e : Entry) (h : History) (t n : ℕ) → filter (is_about t) (posted_by e) ≡ [] → HasFirst h t n → HasFirst (e ∷ h) t n
behind_other e h t n none has le =
    let same : (g : History) → messages (e ∷ g) t ≡ messages g t = λ g. in_front e g t ∙ ap (λ w. w ++ messages g t) none in
    let r = has (subst (λ (ms : List Message). n ≤ length ms) (same h) le) in
    (suc r.0, same (take r.0 h) ∙ (r.1 ∙ ap (take n) (sym (same h))))

behind_own : (e : Entry) (h : History) (t n : ℕ) (m : Message) → filter (is_about t) (posted_by e) ≡ m ∷ [] → HasFirst h t n → HasFirst (e ∷ h) t (suc n)
behind_own e h t n m own has le =
    let more : (g : History) → messages (e ∷ g) t ≡ m ∷ messages g t = λ g. in_front e g t ∙ ap (λ w. w ++ messages g t) own in
    let less : suc n ≤ length (m ∷ messages h t) = subst (λ (ms : List Message). suc n ≤ length ms) (more h) le in
    let r = has (omega (arith, less)) in
    (suc r.0, more (take r.0 h) ∙ (ap (λ w. m ∷ w) r.1 ∙ ap (take (suc n)) (sym (more h))))

none_at_first : (t : ℕ) → messages [] t ≡ []
unfolding messages posted
none_at_first t = refl

pub has_first : (h : History) (t n : ℕ) → HasFirst h t n
has_first h t zero le = (0, none_at_first t)
has_first [] t (suc n) le = absurd (omega (arith, le, ap length (none_at_first t)))
has_first (Posted m ∷ h) t (suc n) le = by_about (is_about t m) refl (has_first h t n) (has_first h t (suc n)) le
  where
    by_about : (b : Bool) → is_about t m ≡ b → HasFirst h t n → HasFirst h t (suc n) → HasFirst (Posted m ∷ h) t (suc n)
    by_about true q fewer more = behind_own (Posted m) h t n m (ap (λ b. cond b (m ∷ []) []) q) fewer
    by_about false q fewer more = behind_other (Posted m) h t (suc n) (ap (λ b. cond b (m ∷ []) []) q) more
has_first (Placed u s c g ∷ h) t (suc n) le = behind_other (Placed u s c g) h t (suc n) refl (has_first h t (suc n)) le
has_first (Role g c ∷ h) t (suc n) le = behind_other (Role g c) h t (suc n) refl (has_first h t (suc n)) le
has_first (Begin g ∷ h) t (suc n) le = behind_other (Begin g) h t (suc n) refl (has_first h t (suc n)) le
has_first (Left ∷ h) t (suc n) le = behind_other Left h t (suc n) refl (has_first h t (suc n)) le
has_first (Taken c ∷ h) t (suc n) le = behind_other (Taken c) h t (suc n) refl (has_first h t (suc n)) le
has_first (Given c ∷ h) t (suc n) le = behind_other (Given c) h t (suc n) refl (has_first h t (suc n)) le
has_first (Torn ∷ h) t (suc n) le = behind_other Torn h t (suc n) refl (has_first h t (suc n)) le

seq_reached : (first n : ℕ) (ms : List Message) (k : ℕ) → first < k → n ≡ k - first → length ms ≡ n → seq_after first (length ms) ≡ k
seq_reached first zero ms k above e l = absurd (omega (arith, e))
seq_reached first (suc n) ms k above e l = ap (seq_after first) l ∙ omega (arith, e)

-- what was so, was so at some moment
pub was_once : (first : ℕ) (h : History) (t : ℕ) (k : Known) → Was first h t k → WasOnce first h t k
unfolding seq record_in
was_once first h t k w =
    let n = k.tseq - first in
    let few : n ≤ length (messages h t) = omega (arith, w.reached) in
    let r = has_first h t n few in
    let count : length (messages (take r.0 h) t) ≡ n = ap length r.1 ∙ omega (arith, length-take n (messages h t)) in
    (r.0, seq_reached first n (messages (take r.0 h) t) k.tseq w.above refl count, ap record_of r.1 ∙ w.facts)
