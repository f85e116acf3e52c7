-- What a page tells is so, and from then on it is known of all threads below the next page.
use Rattle.std.proofs.Common.{◌≡◌, refl, ap, sym, ◌∙◌, ℕ, zero, suc, ◌+◌, ◌-◌, ◌<◌, ◌≤◌, ◌⊎◌, inl, inr, ◌==◌, nat_lt, nat_le, Bool, true, false, Option, None, Some, List, [], ◌∷◌, length, take, drop, arith, cond, length-append}
use Rattle.std.specs.List.{AllByRecursion, cons_option, filter_map, range_with_len}
use Rattle.std.specs.Option.{option_map}
use Rattle.std.proofs.lemmas.Bool.{cases_lt}
use Rattle.std.proofs.lemmas.Bool.Decides.{nat_tests}
use Rattle.std.proofs.lemmas.List.{take_all}
use Rattle.gs_layout.specs.declared.message.Change.{Change}
use Rattle.gs_layout.specs.declared.message.Message.{Message}
use Rattle.gs_layout.specs.declared.message.Message.TheVariants.{Thread, TimerTick}
use Rattle.gs_layout.specs.declared.known.Known.{Known}
use Rattle.gs_layout.specs.declared.known.Word.TheVariants.{Applied, Skipped, Gap}
use Rattle.gs_layout.specs.View.{Look, learn, next_known}
use Rattle.gs_dump.specs.declared.record.DumpRecord.{DumpRecord}
use Rattle.gs_journal.specs.Record.{record_of as record_after}
use Rattle.gs_journal.specs.History.{History, created, messages, at}
use Rattle.gs_journal.specs.State.{state, Numbered, IsNumbered, Was}
use Rattle.gs_journal.proofs.Laws.{known_live}
use Rattle.gs_kernel.specs.declared.settings.Settings.{Settings}
use Rattle.gs_kernel.specs.Shown.{live_from, live_thread}
use Rattle.gs_kernel.specs.Dumped.{dumped, first_tid}
use Rattle.gs_view.specs.Loaded.{loaded, or_known, told_of}
use Rattle.gs_view.proofs.Laws.{or_none}
use Rattle.gs_core.specs.declared.transaction.Transaction.{Transaction}
use Rattle.gs_core.specs.Safe.{is_given}
use Rattle.gs_core.specs.Good.{Faces, GoodHistory, IsMissed, IsTold, told, read_of, unread_of}
use Rattle.gs_core.proofs.Faces.{numbered_unread}
use Rattle.gs_core.proofs.Gaps.{number_of}
use Rattle.gs_core.proofs.Told.{parted, state_is, state_nothing, state_of, told_none}

-- the threads that live among so many from one on
abbrev pub live_among : Settings → History → ℕ → ℕ → List DumpRecord
live_among s h a n = filter_map (live_thread s h) (range_with_len a n)

-- how many threads a page can tell of that begins at one
abbrev pub from_on : History → ℕ → ℕ
from_on h a = suc (length (created h)) - a

-- a thread that lives
abbrev pub living_thread : Settings → History → ℕ → Known → DumpRecord
living_thread s h t k = record { tid = t; known = k; cpu = at s.cpus h t }

-- the records of a page among those, and where the next page begins
abbrev pub records_among : Settings → History → ℕ → ℕ → ℕ → List DumpRecord
records_among s h a n max = take max (live_among s h a n)

abbrev pub next_among : Settings → History → ℕ → ℕ → ℕ → Option ℕ
next_among s h a n max = first_tid (drop max (live_among s h a n))

-- the first of the threads lives, or does not
abbrev first_then : Settings → History → ℕ → ℕ → Option Known → List DumpRecord
first_then s h a n o = cons_option (option_map (λ k. living_thread s h a k) o) (live_among s h (a + 1) n)

-- the next page begins behind all that this one tells of, and among the threads that it can tell of
pub next_far : (s : Settings) (h : History) (a n max p : ℕ) → next_among s h a n max ≡ Some p → (a + max ≤ p) × (p < a + n)
next_far s h a zero zero p e = absurd cc
next_far s h a zero (suc max) p e = absurd cc
next_far s h a (suc n) max p e = by_state (state s.first_tseq h a) max (λ k q. next_far s h (a + 1) n k p q) e
  where
    by_state : (o : Option Known) (max : ℕ) → ((k : ℕ) → next_among s h (a + 1) n k ≡ Some p → (a + 1 + k ≤ p) × (p < a + 1 + n))
        → first_tid (drop max (first_then s h a n o)) ≡ Some p → (a + max ≤ p) × (p < a + suc n)
    by_state None max rest e = let x = rest max e in (omega (arith, x.0), omega (arith, x.1))
    by_state (Some k) zero rest e = let same : a ≡ p = cc in (omega (arith, same), omega (arith, same))
    by_state (Some k) (suc max) rest e = let x = rest max e in (omega (arith, x.0), omega (arith, x.1))

-- so it begins no earlier
pub next_above : (s : Settings) (h : History) (a n max p : ℕ) → next_among s h a n max ≡ Some p → a ≤ p
next_above s h a n max p e = let x = next_far s h a n max p e in omega (arith, x.0)

pub given_below : (o : Option ℕ) (a t : ℕ) → ((p : ℕ) → o ≡ Some p → a ≤ p) → t < a → is_given o t ≡ true
given_below None a t above lt = refl
given_below (Some p) a t above lt = let le : a ≤ p = above p refl in grind (arith, nat_tests)

-- a thread that lives, among so many from one on, and below where the next page begins
pub record IsOnPage (s : Settings) (h : History) (a n : ℕ) (next : Option ℕ) (t : ℕ) (k : Known) : Type 0 where
  pub low : a ≤ t
  pub high : t < a + n
  pub lives : state s.first_tseq h t ≡ Some k
  pub given : is_given next t ≡ true

wider : (s : Settings) (h : History) (a n : ℕ) (next : Option ℕ) (t : ℕ) (k : Known) → IsOnPage s h (a + 1) n next t k → IsOnPage s h a (suc n) next t k
wider s h a n next t k x = record { low = omega (arith, x.low); high = omega (arith, x.high); lives = x.lives; given = x.given }

-- so it is of each of them
abbrev OfEach : (DumpRecord → Type 0) → Settings → History → ℕ → ℕ → Option ℕ → Type 0
OfEach P s h a n next = (t : ℕ) (k : Known) → IsOnPage s h a n next t k → P (living_thread s h t k)

-- what holds of these holds of the page's records
pub each_record : (P : DumpRecord → Type 0) (s : Settings) (h : History) (a n max : ℕ) → OfEach P s h a n (next_among s h a n max)
    → AllByRecursion P (records_among s h a n max)
each_record P s h a zero zero all = tt
each_record P s h a zero (suc max) all = tt
each_record P s h a (suc n) max all = by_state (state s.first_tseq h a) refl max (λ k q. each_record P s h (a + 1) n k q) all
  where
    by_state : (o : Option Known) → state s.first_tseq h a ≡ o → (max : ℕ)
        → ((k : ℕ) → OfEach P s h (a + 1) n (next_among s h (a + 1) n k) → AllByRecursion P (records_among s h (a + 1) n k))
        → OfEach P s h a (suc n) (first_tid (drop max (first_then s h a n o))) → AllByRecursion P (take max (first_then s h a n o))
    by_state None is max rest all = rest max (λ t k x. all t k (wider s h a n (next_among s h (a + 1) n max) t k x))
    by_state (Some k) is zero rest all = tt
    by_state (Some k) is (suc max) rest all =
        let next : Option ℕ = next_among s h (a + 1) n max in
        let passed : is_given next a ≡ true = given_below next (a + 1) a (λ p q. next_above s h (a + 1) n max p q) (omega arith) in (
          all a k (record { low = omega arith; high = omega arith; lives = is; given = passed }),
          rest max (λ t j x. all t j (wider s h a n next t j x)),
        )

-- a thread of these that the page passes without a record does not live
abbrev pub IsPassed : ℕ → History → ℕ → ℕ → Option ℕ → ℕ → Type 0
IsPassed first h a n next t = a ≤ t → t < a + n → is_given next t ≡ true → state first h t ≡ None

-- a page says of a thread what the kernel knows, or nothing: then it lies below the page, or is not given by it, or does not live
abbrev pub Tells : Settings → History → ℕ → ℕ → ℕ → ℕ → List DumpRecord → Type 0
Tells s h a n t max ls =
    ((told_of (take max ls) t ≡ state s.first_tseq h t) × ((k : Known) × (state s.first_tseq h t ≡ Some k)) × (a ≤ t))
    ⊎ ((told_of (take max ls) t ≡ None) × IsPassed s.first_tseq h a n (first_tid (drop max ls)) t)

tells_later : (s : Settings) (h : History) (a n t max : ℕ) (ls : List DumpRecord) → state s.first_tseq h a ≡ None → Tells s h (a + 1) n t max ls
    → Tells s h a (suc n) t max ls
tells_later s h a n t max ls none (inl p) = inl (p.0, p.1, omega (arith, p.2))
tells_later s h a n t max ls none (inr p) = inr (p.0, by_place (a == t) refl)
  where
    by_place : (b : Bool) → (a == t) ≡ b → IsPassed s.first_tseq h a (suc n) (first_tid (drop max ls)) t
    by_place true e le lt g = let same : t ≡ a = grind (arith, nat_tests) in ap (state s.first_tseq h) same ∙ none
    by_place false e le lt g = let more : a + 1 ≤ t = grind (arith, nat_tests) in p.1 more (omega arith) g

tells_first : (s : Settings) (h : History) (a n t max : ℕ) (k : Known) (ls : List DumpRecord) → state s.first_tseq h a ≡ Some k
    → ((j : ℕ) → Tells s h (a + 1) n t j ls) → Tells s h a (suc n) t max (living_thread s h a k ∷ ls)
tells_first s h a n t zero k ls live rest = inr (refl, λ le lt g. let no : ⊥ = grind (arith, nat_tests, g) in absurd no)
tells_first s h a n t (suc max) k ls live rest = by_place (a == t) refl (rest max)
  where
    later : Option Known
    later = told_of (take max ls) t

    by_place : (b : Bool) → (a == t) ≡ b → Tells s h (a + 1) n t max ls
        → ((or_known later (cond b (Some k) None) ≡ state s.first_tseq h t) × ((j : Known) × (state s.first_tseq h t ≡ Some j)) × (a ≤ t))
        ⊎ ((or_known later (cond b (Some k) None) ≡ None) × IsPassed s.first_tseq h a (suc n) (first_tid (drop max ls)) t)
    by_place true e (inl p) = let same : t ≡ a = grind (arith, nat_tests) in absurd (omega (arith, p.2, same))
    by_place true e (inr p) =
        let same : t ≡ a = grind (arith, nat_tests) in
        let here : state s.first_tseq h t ≡ Some k = ap (state s.first_tseq h) same ∙ live in
        inl (ap (λ (o : Option Known). or_known o (Some k)) p.0 ∙ sym here, (k, here), omega (arith, same))
    by_place false e (inl p) = inl (or_none later ∙ p.0, p.1, omega (arith, p.2))
    by_place false e (inr p) = inr (or_none later ∙ p.0, λ le lt g. p.1 (let more : a + 1 ≤ t = grind (arith, nat_tests) in more) (omega arith) g)

pub tells : (s : Settings) (h : History) (a n t max : ℕ) → Tells s h a n t max (live_among s h a n)
tells s h a zero t zero = inr (refl, λ le lt g. absurd (omega arith))
tells s h a zero t (suc max) = inr (refl, λ le lt g. absurd (omega arith))
tells s h a (suc n) t max = by_state (state s.first_tseq h a) refl (λ j. tells s h (a + 1) n t j)
  where
    by_state : (o : Option Known) → state s.first_tseq h a ≡ o → ((j : ℕ) → Tells s h (a + 1) n t j (live_among s h (a + 1) n))
        → Tells s h a (suc n) t max (first_then s h a n o)
    by_state None e rest = tells_later s h a n t max (live_among s h (a + 1) n) e (rest max)
    by_state (Some k) e rest = tells_first s h a n t max k (live_among s h (a + 1) n) e rest

-- what the kernel knows was so, and is of the last message
state_was : (first : ℕ) (h : History) (t : ℕ) (k : Known) → state first h t ≡ Some k → Was first h t k
state_was first h t k e =
    let is : state_of first (messages h t) ≡ Some k = sym (state_is first h t) ∙ e in
    let n = number_of first (messages h t) k is in
    let l = known_live _ (record_after (messages h t)) k is in
    record {
      above = n.1;
      reached = omega (arith, n.0);
      facts = ap record_after (take_all (k.tseq - first) (messages h t) (omega (arith, n.0))) ∙ l.0;
    }

-- messages up to the number that is known are skipped
skipped : (k : Known) (t s : ℕ) (c : Change) → s ≤ k.tseq → next_known (Some k) (Thread t s c) ≡ Some k
skipped k t s c e =
    let p : nat_le s k.tseq ≡ true = grind (arith, nat_tests) in
    ap (λ b. learn (cond b Skipped (cond (nat_lt (k.tseq + 1) s) Gap Applied)) (Some k) (Thread t s c)) p

told_skipped : (first n : ℕ) (ms : List Message) (k : Known) → Numbered first n ms → first + (n + length ms) ≤ k.tseq → told (Some k) ms ≡ Some k
told_skipped first n [] k all le = refl
told_skipped first n (TimerTick c ∷ ms) k all le = absurd (omega (arith, all.0))
told_skipped first n (Thread t s c ∷ ms) k all le =
    ap (λ o. told o ms) (skipped k t s c (omega (arith, all.0))) ∙ told_skipped first (suc n) ms k all.2 (omega arith)

-- what the kernel knows now stays known
state_told : (first : ℕ) (h : History) (n : ℕ) (v : Look) (t : ℕ) (k : Known) → IsNumbered first h → v t ≡ state first h t → state first h t ≡ Some k
    → IsTold first h n v t
state_told first h n v t k all e live =
    let is = number_of first (messages h t) k (sym (state_is first h t) ∙ live) in
    let reached : first + (length (read_of h n t) + length (unread_of h n t)) ≤ k.tseq =
    omega (arith, is.0, length-append (read_of h n t) (unread_of h n t), ap length (parted h n t)) in
    ap (λ o. told o (unread_of h n t)) (e ∙ live)
    ∙ (told_skipped first (length (read_of h n t)) (unread_of h n t) k (numbered_unread first h n t all) reached ∙ sym live)

-- who does not live is told
none_told : (first : ℕ) (h : History) (n : ℕ) (v : Look) (t : ℕ) → IsNumbered first h → state first h t ≡ None → IsTold first h n v t ⊎ IsMissed h n v t
    → IsTold first h n v t
none_told first h n v t all none (inl p) = p
none_told first h n v t all none (inr p) =
    ap (λ o. told o (unread_of h n t)) p.0 ∙ (told_none first (length (read_of h n t)) (unread_of h n t) (numbered_unread first h n t all) p.1 ∙ sym none)

-- what is known of a thread after a page
pub after_told : (rs : List DumpRecord) (v : Look) (t : ℕ) (o : Option Known) → told_of rs t ≡ o → loaded rs v t ≡ or_known o (v t)
after_told rs v t o e = ap (λ z. or_known z (v t)) e

among_loaded : (s : Settings) (xs : List Transaction) (h : History) (n : ℕ) (v : Look) (a max : ℕ) → GoodHistory s xs h → Faces s.first_tseq h n v (Some a)
    → Faces s.first_tseq h n (loaded (records_among s h a (from_on h a) max) v) (next_among s h a (from_on h a) max)
among_loaded s xs h n v a max g f =
    record {
      consumed = f.consumed;
      known = λ t k e. was t k e (tells s h a c t max);
      each = λ t. side t (tells s h a c t max) (f.each t);
      given = λ t p. whole t p (tells s h a c t max) (f.each t);
    }
  where
    first : ℕ
    first = s.first_tseq

    c : ℕ
    c = from_on h a

    ls : List DumpRecord
    ls = live_among s h a c

    rs : List DumpRecord
    rs = records_among s h a c max

    next : Option ℕ
    next = next_among s h a c max

    v' : Look
    v' = loaded rs v

    -- the page's word, and what was known before it
    says : (t : ℕ) (k : Known) → told_of rs t ≡ state first h t → state first h t ≡ Some k → v' t ≡ state first h t
    says t k e live = after_told rs v t (Some k) (e ∙ live) ∙ sym live

    was : (t : ℕ) (k : Known) → v' t ≡ Some k → Tells s h a c t max ls → Was first h t k
    was t k e (inl p) = state_was first h t k (sym (says t p.1.0 p.0 p.1.1) ∙ e)
    was t k e (inr p) = f.known t k (sym (after_told rs v t None p.0) ∙ e)

    kept : (t : ℕ) → v' t ≡ v t → IsTold first h n v t → IsTold first h n v' t
    kept t e p = ap (λ o. told o (unread_of h n t)) e ∙ p

    sides : (t : ℕ) → v' t ≡ v t → IsTold first h n v t ⊎ IsMissed h n v t → IsTold first h n v' t ⊎ IsMissed h n v' t
    sides t e (inl p) = inl (kept t e p)
    sides t e (inr p) = inr (e ∙ p.0, p.1)

    side : (t : ℕ) → Tells s h a c t max ls → IsTold first h n v t ⊎ IsMissed h n v t → IsTold first h n v' t ⊎ IsMissed h n v' t
    side t (inl p) o = inl (state_told first h n v' t p.1.0 g.numbered (says t p.1.0 p.0 p.1.1) p.1.1)
    side t (inr p) o = sides t (after_told rs v t None p.0) o

    beyond : (t : ℕ) → length (created h) < t → state first h t ≡ None
    beyond t lt = state_is first h t ∙ (ap (state_of first) (g.fresh t lt) ∙ state_nothing first)

    not_live : (t : ℕ) → IsPassed first h a c next t → is_given next t ≡ true → a ≤ t → (t < a + c) ⊎ (a + c ≤ t) → state first h t ≡ None
    not_live t p q le (inl lt) = p le lt q
    not_live t p q le (inr past) = beyond t (omega arith)

    by_place : (t : ℕ) → IsPassed first h a c next t → is_given next t ≡ true → (t < a) ⊎ (a ≤ t) → IsTold first h n v t ⊎ IsMissed h n v t
        → IsTold first h n v t
    by_place t p q (inl lt) o = f.given t (let z : nat_lt t a ≡ true = grind (arith, nat_tests) in z)
    by_place t p q (inr le) o = none_told first h n v t g.numbered (not_live t p q le (cases_lt t (a + c))) o

    whole : (t : ℕ) → is_given next t ≡ true → Tells s h a c t max ls → IsTold first h n v t ⊎ IsMissed h n v t → IsTold first h n v' t
    whole t q (inl p) o = state_told first h n v' t p.1.0 g.numbered (says t p.1.0 p.0 p.1.1) p.1.1
    whole t q (inr p) o = kept t (after_told rs v t None p.0) (by_place t p.1 q (cases_lt t a) o)

-- a page is loaded
pub faces_loaded : (s : Settings) (xs : List Transaction) (h : History) (n : ℕ) (v : Look) (a max : ℕ) → GoodHistory s xs h → Faces s.first_tseq h n v (Some a)
    → Faces s.first_tseq h n (loaded (dumped s h a max).records v) (dumped s h a max).next
unfolding live_from
faces_loaded s xs h n v a max g f = among_loaded s xs h n v a max g f
