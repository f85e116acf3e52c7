-- A mind after a stamp, a collected slot or a message.
use Rattle.std.proofs.Common.{◌≡◌, ◌≢◌, refl, ap, sym, ◌∙◌, subst, ℕ, ◌<◌, ◌≤◌, length, ◌==◌, ◌&&◌, ◌⊎◌, inl, inr, not, Bool, true, false, cond, Option, None, Some, List, ◌∷◌, ◌++◌, arith}
use Rattle.std.specs.Option.{option_to_list}
use Rattle.std.specs.Prelude.{is_some}
use Rattle.std.proofs.lemmas.Bool.{eq-eqb, eqb-true}
use Rattle.gs_layout.specs.declared.kind.Kind.{Kind}
use Rattle.gs_layout.specs.declared.kind.Kind.TheVariants as kinds
use Rattle.gs_layout.specs.declared.known.Known.{Known}
use Rattle.gs_layout.specs.declared.known.Word.{Word}
use Rattle.gs_layout.specs.declared.known.Word.TheVariants.{Applied, Orphan, Skipped, Gap}
use Rattle.gs_layout.specs.declared.message.Change.{Change}
use Rattle.gs_layout.specs.declared.message.Change.TheVariants.{Created, Blocked, Wakeup, Preempted, Yield, Dead, Affinity}
use Rattle.gs_layout.specs.declared.message.Message.{Message}
use Rattle.gs_layout.specs.declared.message.Message.TheVariants.{Thread, TimerTick}
use Rattle.gs_layout.specs.Message.{is_creation}
use Rattle.gs_layout.specs.Spelling.{IsSpellable, kind_of, kind_of_change, tid_of}
use Rattle.gs_layout.specs.View.{Look, apply, learn, next_known, word, word_at}
use Rattle.gs_reader.specs.Taking.{takes_own_off}
use Rattle.gs_beliefs.specs.Cpus.{Cpus, is_believed, is_named, places, stamp_on, stamps, unstamps}
use Rattle.gs_beliefs.specs.Belief.{hears}
use Rattle.gs_runq.specs.Queue.{IsTid, Queue, is_in, order, removed}
use Rattle.gs_view.specs.Begins.{begins}
use Rattle.gs_view.specs.declared.news.News.{News}
use Rattle.gs_view.specs.declared.news.News.TheVariants as news
use Rattle.gs_view.specs.News.{word_of}
use Rattle.gs_agent.specs.Held.{HasRoom}
use Rattle.gs_agent.specs.Mind.{MindState, bare}
use Rattle.gs_agent.specs.Picture.{HoldsWaiting, Picture, displaced, ends_own_turn, ends_turn, is_mask_alone, is_runnable, other_than, parts, requeued, settled, settled_all, after_message, after_message_by, waits}
use Rattle.gs_agent.proofs.Rooms.{bare_requeued}
use Rattle.gs_agent.proofs.Believing.{believed_raises, named_hears}
use Rattle.gs_agent.proofs.Followed.{holds_news, settled_append, settled_kept, settled_other, touched}
use Rattle.gs_agent.proofs.Settling.{settled_placed}

-- minds with the same parts are the same
abbrev pub mind_of : List (ℕ × Known) → Cpus → Queue → MindState
mind_of records s q = record { records = records; cpus = s; queue = q }

pub same_mind : (records : List (ℕ × Known)) (s s' : Cpus) (q q' : Queue) → s ≡ s' → q ≡ q' → mind_of records s q ≡ mind_of records s' q'
same_mind records s s' q q' a b = λ i. mind_of records (a i) (b i)

-- the queue after a stamp
pub stamp_queue : (v : Look) (s s' : Cpus) (q q' q'' : Queue) (c t : ℕ) (named : Option ℕ) → s' ≡ stamps c t s → named ≡ stamp_on s c → q' ≡ settled v s' t q → q'' ≡ settled_all v s' (option_to_list named) q'
    → q'' ≡ settled_all v (stamps c t s) (t ∷ option_to_list (stamp_on s c)) q
stamp_queue v s s' q q' q'' c t named a b d e =
    e ∙ (ap (settled_all v s' (option_to_list named)) d ∙ (ap (λ (x : Cpus). settled_all v x (t ∷ option_to_list named) q) a ∙ ap (λ (o : Option ℕ). settled_all v (stamps c t s) (t ∷ option_to_list o) q) b))

-- the queue after the thread that a stamp names was settled beside another
pub named_queue : (v : Look) (s : Cpus) (q q' q'' : Queue) (t : ℕ) (named other : Option ℕ) → other ≡ other_than t named → q' ≡ settled v s t q → q'' ≡ settled_all v s (option_to_list other) q' → q'' ≡ settled_all v s (option_to_list named) q'
named_queue v s q q' q'' t named other a d e =
    e ∙ (ap (λ (o : Option ℕ). settled_all v s (option_to_list o) q') a
    ∙ (ap (settled_all v s (option_to_list (other_than t named))) d ∙ (settled_other v s t named q ∙ ap (settled_all v s (option_to_list named)) (sym d))))

-- the queue after a message about a thread
pub requeued_by : (v : Look) (s : Cpus) (q q' : Queue) (m : Message) (k : Kind) (t : ℕ) → k ≡ kind_of m → k ≢ kinds.TimerTick → t ≡ tid_of m → q' ≡ settled v s t (cond (ends_own_turn m) (removed t q) q) → q' ≡ requeued v s m q
requeued_by v s q q' (TimerTick c) k t kind other tid d = absurd (other kind)
requeued_by v s q q' (Thread u n change) k t kind other tid d = d ∙ ap (λ (x : ℕ). settled v s x (cond (ends_turn change) (removed x q) q)) tid

-- a change is no tick
no_tick : (c : Change) → kind_of_change c ≡ kinds.TimerTick → ⊥
no_tick (Created f) e = absurd cc
no_tick (Blocked c) e = absurd cc
no_tick Wakeup e = absurd cc
no_tick (Preempted c) e = absurd cc
no_tick (Yield c) e = absurd cc
no_tick (Dead c) e = absurd cc
no_tick (Affinity c off m) e = absurd cc

-- after a tick the same threads wait
pub tick_waiting : (v : Look) (s s' : Cpus) (q : Queue) (m : Message) → kind_of m ≡ kinds.TimerTick → s' ≡ hears m s → HoldsWaiting v s q → HoldsWaiting v s' q
tick_waiting v s s' q (TimerTick c) kind a h = subst (λ (x : Cpus). HoldsWaiting v x q) (sym a) (holds_news v s q (TimerTick c) h)
tick_waiting v s s' q (Thread t n change) kind a h = absurd (no_tick change kind)

-- the queue after a slot was collected
pub slot_queue : (v : Look) (s s' : Cpus) (q q' q'' q''' : Queue) (c : ℕ) (at : Option ℕ) (t : ℕ) (named there : Option ℕ) → named ≡ stamp_on s c → there ≡ displaced s at
    → q' ≡ settled v s' t q → q'' ≡ settled_all v s' (option_to_list named) q' → q''' ≡ settled_all v s' (option_to_list there) q'' → q''' ≡ settled_all v s' (touched s c at t) q
slot_queue v s s' q q' q'' q''' c at t named there a b d e f =
    f ∙ (ap (settled_all v s' (option_to_list there)) (e ∙ ap (settled_all v s' (option_to_list named)) d)
    ∙ (sym (settled_append v s' (option_to_list named) (option_to_list there) (settled v s' t q))
    ∙ (ap (λ (o : Option ℕ). settled_all v s' (option_to_list o ++ option_to_list there) (settled v s' t q)) a
    ∙ ap (λ (o : Option ℕ). settled_all v s' (option_to_list (stamp_on s c) ++ option_to_list o) (settled v s' t q)) b)))

-- the queue after the thread that a stamp names is believed to run on a CPU
pub placed_queue : (v : Look) (s s' : Cpus) (q q' : Queue) (c p t n : ℕ) (there : Option ℕ) → p < length s.believed → stamp_on s c ≡ Some t → HoldsWaiting v s q → s' ≡ unstamps c (places p t n s)
    → there ≡ displaced s (Some p) → q' ≡ settled_all v s' (option_to_list there) q → q' ≡ settled_all v (unstamps c (places p t n s)) (touched s c (Some p) t) q
placed_queue v s s' q q' c p t n there below named h a b d =
    let after : Cpus = unstamps c (places p t n s) in
    let on : Option ℕ = displaced s (Some p) in
    let kept : settled v after t q ≡ q = settled_placed v s c p t n q below named h in
    d
    ∙ (ap (λ (x : Cpus). settled_all v x (option_to_list there) q) a
    ∙ (ap (λ (o : Option ℕ). settled_all v after (option_to_list o) q) b
    ∙ (ap (settled_all v after (option_to_list on)) (sym (ap (settled v after t) kept ∙ kept))
    ∙ ap (λ (o : Option ℕ). settled_all v after (t ∷ option_to_list o ++ option_to_list on) q) (sym named))))

pub same_waiting : (v : Look) (s s' : Cpus) (q q' : Queue) → s' ≡ s → q' ≡ q → HoldsWaiting v s q → HoldsWaiting v s' q'
same_waiting v s s' q q' a b h = λ u. ap (λ (x : Queue). is_in u (order x)) b ∙ (h u ∙ ap (λ (x : Cpus). waits v x u) (sym a))

-- pictures with the same parts are the same
same_picture : (v v' : Look) (s s' : Cpus) (q q' : Queue) → ((t : ℕ) → v t ≡ v' t) → s ≡ s' → q ≡ q' → parts v s q ≡ parts v' s' q'
same_picture v v' s s' q q' a b d = λ i. parts (λ t. a t i) (b i) (d i)

-- a message that applied
pub news_picture : (v v' : Look) (s s' : Cpus) (q q' q'' : Queue) (m : Message) → word v m ≡ Applied → ((t : ℕ) → v' t ≡ apply v m t) → s' ≡ hears m s → bare q' ≡ bare q → q'' ≡ requeued v' s' m q'
    → parts v' s' (bare q'') ≡ after_message m (parts v s (bare q))
news_picture v v' s s' q q' q'' m w known a b d =
    let one : v' ≡ apply v m = λ i. λ t. known t i in
    let queue : bare q'' ≡ requeued (apply v m) (hears m s) m (bare q) =
    ap bare d ∙ (bare_requeued v' s' m q' ∙ (ap (requeued v' s' m) b ∙ (ap (λ (x : Look). requeued x s' m (bare q)) one ∙ ap (λ (x : Cpus). requeued (apply v m) x m (bare q)) a))) in
    same_picture v' (apply v m) s' (hears m s) (bare q'') _ known a queue ∙ ap (λ (x : Word). after_message_by x m (parts v s (bare q))) (sym w)

abbrev pub is_applied : Word → Bool
is_applied Applied = true
is_applied _ = false

leaves : (w : Word) (m : Message) (p : Picture) → is_applied w ≡ false → after_message_by w m p ≡ p
leaves Applied m p e = absurd cc
leaves Orphan m p e = refl
leaves Skipped m p e = refl
leaves Gap m p e = refl

learns_nothing : (w : Word) → is_applied w ≡ false → (o : Option Known) (m : Message) → learn w o m ≡ o
learns_nothing Applied e o m = absurd cc
learns_nothing Orphan e o m = refl
learns_nothing Skipped e o m = refl
learns_nothing Gap e o m = refl

-- a message that does not apply changes no view
pub old_news : (v : Look) (m : Message) → is_applied (word v m) ≡ false → (t : ℕ) → apply v m t ≡ v t
old_news v (TimerTick c) e t = refl
old_news v (Thread u s c) e t = by_test (u == t) refl
  where
    by_test : (b : Bool) → (u == t) ≡ b → cond b (next_known (v t) (Thread u s c)) (v t) ≡ v t
    by_test true same = learns_nothing (word_at (v t) (Thread u s c)) (ap (λ (x : ℕ). is_applied (word_at (v x) (Thread u s c))) (sym (eqb-true u t same)) ∙ e) (v t) (Thread u s c)
    by_test false same = refl

-- a message that did not apply
pub old_picture : (v v' : Look) (s : Cpus) (q q' : Queue) (m : Message) → is_applied (word v m) ≡ false → ((t : ℕ) → v' t ≡ apply v m t) → bare q' ≡ bare q → parts v' s (bare q') ≡ after_message m (parts v s (bare q))
old_picture v v' s q q' m e known b =
    same_picture v' v s s (bare q') (bare q) (λ t. known t ∙ old_news v m e t) refl b ∙ sym (leaves (word v m) m (parts v s (bare q)) e)

-- what was followed and did not apply
pub not_applied : (t : News) → t ≢ news.Applied → is_applied (word_of t) ≡ false
not_applied news.Applied n = absurd (n refl)
not_applied news.Skipped n = refl
not_applied news.Orphan n = refl

-- of whom something is known after a message, of those it was known before, or the message begins it
begun : (o : Option Known) (u s : ℕ) (c : Change) → is_some (next_known o (Thread u s c)) ≡ true → (is_some o ≡ true) ⊎ ((is_creation (Thread u s c) && not (is_some o)) ≡ true)
begun (Some k) u s c e = inl refl
begun None u s (Created f) e = inr refl
begun None u s (Blocked c) e = absurd cc
begun None u s Wakeup e = absurd cc
begun None u s (Preempted c) e = absurd cc
begun None u s (Yield c) e = absurd cc
begun None u s (Dead c) e = absurd cc
begun None u s (Affinity c off m) e = absurd cc

known_or_begun : (v : Look) (m : Message) (t : ℕ) → IsSpellable m → is_some (apply v m t) ≡ true → (is_some (v t) ≡ true) ⊎ (IsTid t × (begins v m ≡ true))
known_or_begun v (TimerTick c) t p e = inl e
known_or_begun v (Thread u s c) t p e = by_test (u == t) refl e
  where
    by_test : (b : Bool) → (u == t) ≡ b → is_some (cond b (next_known (v t) (Thread u s c)) (v t)) ≡ true → (is_some (v t) ≡ true) ⊎ (IsTid t × (begins v (Thread u s c) ≡ true))
    by_test false n k = inl k
    by_test true same k = by_begun (begun (v t) u s c k)
      where
        it : u ≡ t
        it = eqb-true u t same

        by_begun : (is_some (v t) ≡ true) ⊎ ((is_creation (Thread u s c) && not (is_some (v t))) ≡ true) → (is_some (v t) ≡ true) ⊎ (IsTid t × (begins v (Thread u s c) ≡ true))
        by_begun (inl x) = inl x
        by_begun (inr x) = inr (subst IsTid it (p.0.tid_low, p.0.tid_high), ap (λ (y : ℕ). is_creation (Thread u s c) && not (is_some (v y))) it ∙ x)

-- a queue that was given room has it for the view after a message
pub room_news : (v v' : Look) (q q' : Queue) (m : Message) → HasRoom v q → ((t : ℕ) → v' t ≡ apply v m t) → q.room ≤ q'.room → (begins v m ≡ true → 65536 ≤ q'.room) → IsSpellable m → HasRoom v' q'
room_news v v' q q' m h known more fits p = record { least = λ t e. (tid t e).0; most = λ t e. (tid t e).1; room = room }
  where
    which : (t : ℕ) → is_some (v' t) ≡ true → (is_some (v t) ≡ true) ⊎ (IsTid t × (begins v m ≡ true))
    which t e = known_or_begun v m t p (ap (λ (o : Option Known). is_some o) (sym (known t)) ∙ e)

    tid_by : (t : ℕ) → (is_some (v t) ≡ true) ⊎ (IsTid t × (begins v m ≡ true)) → IsTid t
    tid_by t (inl x) = (h.least t x, h.most t x)
    tid_by t (inr x) = x.0

    tid : (t : ℕ) → is_some (v' t) ≡ true → IsTid t
    tid t e = tid_by t (which t e)

    room_by : (t : ℕ) → (is_some (v t) ≡ true) ⊎ (IsTid t × (begins v m ≡ true)) → 65536 ≤ q'.room
    room_by t (inl x) = omega (arith, h.room t x, more)
    room_by t (inr x) = fits x.1

    room : (t : ℕ) → is_some (v' t) ≡ true → 65536 ≤ q'.room
    room t e = room_by t (which t e)

-- who waits is the same if view, beliefs and the queue's threads are
pub waiting_as_before : (v v' : Look) (s : Cpus) (q q' : Queue) → ((t : ℕ) → v' t ≡ v t) → bare q' ≡ bare q → HoldsWaiting v s q → HoldsWaiting v' s q'
waiting_as_before v v' s q q' known b h = λ u. ap (λ (x : Queue). is_in u (order x)) b ∙ (h u ∙ sym (λ i. waits (λ t. known t i) s u))

pub news_waiting : (v v' : Look) (s s' : Cpus) (q q' : Queue) (m : Message) → HoldsWaiting v s q → ((t : ℕ) → v' t ≡ apply v m t) → s' ≡ hears m s → q' ≡ requeued v' s' m q → HoldsWaiting v' s' q'
news_waiting v v' s s' q q' m h known a d =
    let one : v' ≡ apply v m = λ i. λ t. known t i in
    let queue : q' ≡ requeued (apply v m) (hears m s) m q = d ∙ (ap (λ (x : Look). requeued x s' m q) one ∙ ap (λ (x : Cpus). requeued (apply v m) x m q) a) in
    subst (λ (x : Look). HoldsWaiting x s' q') (sym one) (same_waiting (apply v m) (hears m s) s' (requeued (apply v m) (hears m s) m q) q' a queue (holds_news v s q m h))

-- a message of a new mask is one alone if it takes nobody off
pub alone_of : (m : Message) → kind_of m ≡ kinds.Affinity → not (takes_own_off m) ≡ is_mask_alone m
alone_of (TimerTick c) e = absurd cc
alone_of (Thread t n (Created f)) e = absurd cc
alone_of (Thread t n (Blocked c)) e = absurd cc
alone_of (Thread t n Wakeup) e = absurd cc
alone_of (Thread t n (Preempted c)) e = absurd cc
alone_of (Thread t n (Yield c)) e = absurd cc
alone_of (Thread t n (Dead c)) e = absurd cc
alone_of (Thread t n (Affinity c b k)) e = refl

-- and one of any other kind is none
pub alone_by : (m : Message) (k : Kind) → k ≡ kind_of m → k ≢ kinds.Affinity → false ≡ is_mask_alone m
alone_by (TimerTick c) k e n = refl
alone_by (Thread t s (Created f)) k e n = refl
alone_by (Thread t s (Blocked c)) k e n = refl
alone_by (Thread t s Wakeup) k e n = refl
alone_by (Thread t s (Preempted c)) k e n = refl
alone_by (Thread t s (Yield c)) k e n = refl
alone_by (Thread t s (Dead c)) k e n = refl
alone_by (Thread t s (Affinity c b m)) k e n = absurd (n e)

-- its thread may run as before
mask_runs : (o : Option Known) (t n k : ℕ) (c : Option ℕ) → word_at o (Thread t n (Affinity c false k)) ≡ Applied → is_runnable (next_known o (Thread t n (Affinity c false k))) ≡ is_runnable o
mask_runs None t n k c e = absurd cc
mask_runs (Some x) t n k c e = ap (λ (w : Word). is_runnable (learn w (Some x) (Thread t n (Affinity c false k)))) e

-- so it leaves the queue as it is
mask_queue : (v v' : Look) (s s' : Cpus) (q : Queue) (m : Message) → is_mask_alone m ≡ true → word v m ≡ Applied → ((t : ℕ) → v' t ≡ apply v m t) → s' ≡ hears m s → HoldsWaiting v s q → requeued v' s' m q ≡ q
mask_queue v v' s s' q (TimerTick c) alone w known a h = absurd cc
mask_queue v v' s s' q (Thread t n (Created f)) alone w known a h = absurd cc
mask_queue v v' s s' q (Thread t n (Blocked c)) alone w known a h = absurd cc
mask_queue v v' s s' q (Thread t n Wakeup) alone w known a h = absurd cc
mask_queue v v' s s' q (Thread t n (Preempted c)) alone w known a h = absurd cc
mask_queue v v' s s' q (Thread t n (Yield c)) alone w known a h = absurd cc
mask_queue v v' s s' q (Thread t n (Dead c)) alone w known a h = absurd cc
mask_queue v v' s s' q (Thread t n (Affinity c true k)) alone w known a h = absurd cc
mask_queue v v' s s' q (Thread t n (Affinity c false k)) alone w known a h = settled_kept v' s' t q (h t ∙ sym same)
  where
    m : Message
    m = Thread t n (Affinity c false k)

    here : v' t ≡ next_known (v t) m
    here = known t ∙ ap (λ (b : Bool). cond b (next_known (v t) m) (v t)) (eq-eqb t t refl)

    runs : is_runnable (v' t) ≡ is_runnable (v t)
    runs = ap is_runnable here ∙ mask_runs (v t) t n k c w

    believed : is_believed s' t ≡ is_believed s t
    believed = ap (λ (x : Cpus). is_believed x t) a ∙ believed_raises t n t s

    named : is_named s' t ≡ is_named s t
    named = ap (λ (x : Cpus). is_named x t) a ∙ named_hears m t s

    same : waits v' s' t ≡ waits v s t
    same = λ i. runs i && (not (believed i) && not (named i))

pub mask_same : (v v' : Look) (s s' : Cpus) (q q' : Queue) (m : Message) → is_mask_alone m ≡ true → word v m ≡ Applied → ((t : ℕ) → v' t ≡ apply v m t) → s' ≡ hears m s → bare q' ≡ bare q → HoldsWaiting v s q → q' ≡ requeued v' s' m q'
mask_same v v' s s' q q' m alone w known a b h = sym (mask_queue v v' s s' q' m alone w known a (waiting_as_before v v s q q' (λ t. refl) b h))
