-- What the last entries about agents, creations and takings say.
use Rattle.std.proofs.Common.{◌≡◌, ◌⊎◌, inl, inr, refl, ap, sym, ◌∙◌, ℕ, Bool, true, false, cond, nat_le, Option, None, Some, List, [], ◌∷◌, ◌++◌, length, take}
use Rattle.std.specs.List.{filter}
use Rattle.std.proofs.lemmas.List.{append-nil}
use Rattle.gs_layout.specs.declared.message.Change.TheVariants.{Created, Blocked, Wakeup, Preempted, Yield, Dead, Affinity}
use Rattle.gs_layout.specs.declared.message.Message.{Message}
use Rattle.gs_layout.specs.declared.message.Message.TheVariants.{Thread, TimerTick}
use Rattle.gs_layout.specs.declared.message.TheConstants.{MOST_TIDS}
use Rattle.gs_layout.specs.Message.{is_creation}
use Rattle.gs_journal.specs.declared.entry.Entry.{Entry}
use Rattle.gs_journal.specs.declared.entry.Entry.TheVariants.{Posted, Placed, Role, Begin, Left, Taken, Given, Torn}
use Rattle.gs_journal.specs.Standing.{then_stands, then_latest, standing, latest, last_of}
use Rattle.gs_journal.specs.History.{History, attaching, begin_by, created, ends_begin, generation, generation_by, last_taken, posted, posted_by, taken_by}
use Rattle.gs_journal.proofs.Laws.{attaching-push, created-push, last_taken-push, latest-push}
use Rattle.gs_reasons.specs.declared.sign.Sign.TheVariants as signs
use Rattle.gs_reasons.specs.Place.{last_place}
use Rattle.gs_reasons.specs.Sign.{is_sign}
use Rattle.gs_reasons.specs.Entries.{AtPlace}
use Rattle.gs_reasons.specs.ExplainsRefusal.{IsLastCreation}
use Rattle.gs_reasons.proofs.Places.{last_is, reads, reads_none}
use Rattle.gs_reasons.proofs.Says.{at_place, test_eq}

-- who attaches began by the last Begin, and nobody does by the last of Role, Left and Torn
attaching_step : (e : Entry) (o : Option ℕ) → is_sign signs.Agent e ≡ false → then_stands (begin_by e) ends_begin e o ≡ o
attaching_step (Posted (Thread t n m)) None x = refl
attaching_step (Posted (Thread t n m)) (Some a) x = refl
attaching_step (Posted (TimerTick d)) None x = refl
attaching_step (Posted (TimerTick d)) (Some a) x = refl
attaching_step (Placed t n d g) None x = refl
attaching_step (Placed t n d g) (Some a) x = refl
attaching_step (Role g d) o x = absurd cc
attaching_step (Begin g) o x = absurd cc
attaching_step Left o x = absurd cc
attaching_step (Taken d) None x = refl
attaching_step (Taken d) (Some a) x = refl
attaching_step (Given d) None x = refl
attaching_step (Given d) (Some a) x = refl
attaching_step Torn o x = absurd cc

attaching_then : (e : Entry) (o : Option ℕ) → is_sign signs.Agent e ≡ true → then_stands (begin_by e) ends_begin e o ≡ begin_by e
attaching_then (Posted (Thread t n m)) o x = absurd cc
attaching_then (Posted (TimerTick d)) o x = absurd cc
attaching_then (Placed t n d g) o x = absurd cc
attaching_then (Role g d) None x = refl
attaching_then (Role g d) (Some a) x = refl
attaching_then (Begin g) o x = refl
attaching_then Left None x = refl
attaching_then Left (Some a) x = refl
attaching_then (Taken d) o x = absurd cc
attaching_then (Given d) o x = absurd cc
attaching_then Torn None x = refl
attaching_then Torn (Some a) x = refl

attaching_start : attaching [] ≡ None
unfolding attaching standing last_of
attaching_start = refl

pub attaching_says : (h : History) (i : ℕ) → last_place (is_sign signs.Agent) h ≡ Some i → AtPlace h signs.Agent (λ e. attaching h ≡ begin_by e)
attaching_says h i q =
    let l = last_is (is_sign signs.Agent) h i q in
    record {
      place = i;
      entry = l.0;
      found = q;
      last = l.1;
      says = reads attaching (is_sign signs.Agent) (λ e o. then_stands (begin_by e) ends_begin e o) (λ h e. attaching-push h e) (λ e a x. attaching_step e a x) h i l.0 q l.1.there ∙ attaching_then l.0 (attaching (take i h)) l.1.passes;
    }

pub attaching_never : (h : History) → last_place (is_sign signs.Agent) h ≡ None → attaching h ≡ None
attaching_never h q = reads_none attaching (is_sign signs.Agent) (λ e o. then_stands (begin_by e) ends_begin e o) (λ h e. attaching-push h e) (λ e a x. attaching_step e a x) h q ∙ attaching_start

-- the generation is that of the last Role or Begin
generation_push : (h : History) (e : Entry) → generation (h ++ e ∷ []) ≡ then_latest (generation_by e) (generation h)
unfolding generation
generation_push h e = latest-push generation_by h e

generation_step : (e : Entry) (o : Option ℕ) (v : ℕ) → then_latest (generation_by e) o ≡ Some v → ((is_sign signs.Generation e ≡ true) × (generation_by e ≡ Some v)) ⊎ ((is_sign signs.Generation e ≡ false) × (o ≡ Some v))
generation_step (Posted (Thread t n m)) o v q = inr (refl, q)
generation_step (Posted (TimerTick d)) o v q = inr (refl, q)
generation_step (Placed t n d g) o v q = inr (refl, q)
generation_step (Role g d) o v q = inl (refl, q)
generation_step (Begin g) o v q = inl (refl, q)
generation_step Left o v q = inr (refl, q)
generation_step (Taken d) o v q = inr (refl, q)
generation_step (Given d) o v q = inr (refl, q)
generation_step Torn o v q = inr (refl, q)

generation_start : generation [] ≡ None
unfolding generation latest standing last_of
generation_start = refl

pub generation_says : (h : History) (v : ℕ) → generation h ≡ Some v → AtPlace h signs.Generation (λ e. generation_by e ≡ Some v)
generation_says h v q = at_place generation signs.Generation generation_by generation_start (λ h e v q. generation_step e (generation h) v (sym (generation_push h e) ∙ q)) h v q

-- the last creation is the last of all creations
created_step : (e : Entry) (ms : List Message) → is_sign signs.Created e ≡ false → ms ++ filter is_creation (posted_by e) ≡ ms
created_step (Posted (Thread u n (Created f))) ms x = absurd cc
created_step (Posted (Thread u n (Blocked c))) ms x = append-nil ms
created_step (Posted (Thread u n Wakeup)) ms x = append-nil ms
created_step (Posted (Thread u n (Preempted c))) ms x = append-nil ms
created_step (Posted (Thread u n (Yield c))) ms x = append-nil ms
created_step (Posted (Thread u n (Dead c))) ms x = append-nil ms
created_step (Posted (Thread u n (Affinity c o m))) ms x = append-nil ms
created_step (Posted (TimerTick d)) ms x = append-nil ms
created_step (Placed u n d g) ms x = append-nil ms
created_step (Role g d) ms x = append-nil ms
created_step (Begin g) ms x = append-nil ms
created_step Left ms x = append-nil ms
created_step (Taken d) ms x = append-nil ms
created_step (Given d) ms x = append-nil ms
created_step Torn ms x = append-nil ms

created_here : (h : History) (e : Entry) (before : List Message) → is_sign signs.Created e ≡ true → created h ≡ before ++ filter is_creation (posted_by e) → IsLastCreation h e
created_here h (Posted (Thread u n (Created f))) before x q = (Thread u n (Created f), before, refl, q)
created_here h (Posted (Thread u n (Blocked c))) before x q = absurd cc
created_here h (Posted (Thread u n Wakeup)) before x q = absurd cc
created_here h (Posted (Thread u n (Preempted c))) before x q = absurd cc
created_here h (Posted (Thread u n (Yield c))) before x q = absurd cc
created_here h (Posted (Thread u n (Dead c))) before x q = absurd cc
created_here h (Posted (Thread u n (Affinity c o m))) before x q = absurd cc
created_here h (Posted (TimerTick d)) before x q = absurd cc
created_here h (Placed u n d g) before x q = absurd cc
created_here h (Role g d) before x q = absurd cc
created_here h (Begin g) before x q = absurd cc
created_here h Left before x q = absurd cc
created_here h (Taken d) before x q = absurd cc
created_here h (Given d) before x q = absurd cc
created_here h Torn before x q = absurd cc

created_start : created [] ≡ []
unfolding created posted
created_start = refl

pub created_says : (h : History) → nat_le MOST_TIDS (length (created h)) ≡ true → AtPlace h signs.Created (λ e. IsLastCreation h e)
created_says h q = by_place (last_place (is_sign signs.Created) h) refl
  where
    by_place : (o : Option ℕ) → last_place (is_sign signs.Created) h ≡ o → AtPlace h signs.Created (λ e. IsLastCreation h e)
    by_place None p =
        let none : created h ≡ [] = reads_none created (is_sign signs.Created) (λ e ms. ms ++ filter is_creation (posted_by e)) (λ h e. created-push h e) (λ e ms x. created_step e ms x) h p ∙ created_start in
        let few : false ≡ true = sym (ap (λ ms. nat_le MOST_TIDS (length ms)) none) ∙ q in
        absurd cc
    by_place (Some i) p =
        let l = last_is (is_sign signs.Created) h i p in
        record {
          place = i;
          entry = l.0;
          found = p;
          last = l.1;
          says = created_here h l.0 (created (take i h)) l.1.passes (reads created (is_sign signs.Created) (λ e ms. ms ++ filter is_creation (posted_by e)) (λ h e. created-push h e) (λ e ms x. created_step e ms x) h i l.0 p l.1.there);
        }

-- whether the other class holds a CPU is what the last of Taken and Given says
held_step : (c : ℕ) (e : Entry) (o : Option Bool) → is_sign (signs.Held c) e ≡ false → then_latest (taken_by c e) o ≡ o
held_step c (Taken d) o x = ap (λ b. then_latest (cond b (Some true) None) o) (test_eq c d false x)
held_step c (Given d) o x = ap (λ b. then_latest (cond b (Some false) None) o) (test_eq c d false x)
held_step c (Posted (Thread t n m)) o x = refl
held_step c (Posted (TimerTick d)) o x = refl
held_step c (Placed t n d g) o x = refl
held_step c (Role g d) o x = refl
held_step c (Begin g) o x = refl
held_step c Left o x = refl
held_step c Torn o x = refl

held_then : (c : ℕ) (e : Entry) (o : Option Bool) → is_sign (signs.Held c) e ≡ true → (v : Bool) × (taken_by c e ≡ Some v) × (then_latest (taken_by c e) o ≡ Some v)
held_then c (Taken d) o x = let y = test_eq c d true x in (true, ap (λ b. cond b (Some true) None) y, ap (λ b. then_latest (cond b (Some true) None) o) y)
held_then c (Given d) o x = let y = test_eq c d true x in (false, ap (λ b. cond b (Some false) None) y, ap (λ b. then_latest (cond b (Some false) None) o) y)
held_then c (Posted (Thread t n m)) o x = absurd cc
held_then c (Posted (TimerTick d)) o x = absurd cc
held_then c (Placed t n d g) o x = absurd cc
held_then c (Role g d) o x = absurd cc
held_then c (Begin g) o x = absurd cc
held_then c Left o x = absurd cc
held_then c Torn o x = absurd cc

pub held_at : (h : History) (c i : ℕ) → last_place (is_sign (signs.Held c)) h ≡ Some i → AtPlace h (signs.Held c) (λ e. (v : Bool) × (taken_by c e ≡ Some v) × (last_taken h c ≡ Some v))
held_at h c i q =
    let l = last_is (is_sign (signs.Held c)) h i q in
    let v = held_then c l.0 (last_taken (take i h) c) l.1.passes in
    record {
      place = i;
      entry = l.0;
      found = q;
      last = l.1;
      says = (v.0, v.1, reads (λ h. last_taken h c) (is_sign (signs.Held c)) (λ e o. then_latest (taken_by c e) o) (λ h e. last_taken-push h e c) (λ e o x. held_step c e o x) h i l.0 q l.1.there ∙ v.2);
    }
