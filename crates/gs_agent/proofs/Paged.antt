-- A page's records are followed one after another, and the queue holds just who waits after each.
use Rattle.std.proofs.Common.{◌≡◌, refl, ap, sym, ◌∙◌, subst, ℕ, zero, suc, ◌≤◌, ◌==◌, Bool, true, false, cond, Option, None, Some, List, [], ◌∷◌, ◌++◌, slice_get, arith}
use Rattle.std.specs.List.{AllByRecursion, list_any}
use Rattle.std.specs.Option.{option_to_list}
use Rattle.std.specs.Prelude.{is_some}
use Rattle.std.proofs.lemmas.Bool.{eq-eqb, eqb-true, or_parts}
use Rattle.gs_layout.specs.declared.message.TheConstants.{MOST_TIDS}
use Rattle.gs_layout.specs.declared.outcome.Outcome.TheVariants.{Placed}
use Rattle.gs_layout.specs.declared.known.Known.{Known}
use Rattle.gs_layout.specs.View.{Look}
use Rattle.gs_dump.specs.declared.record.DumpRecord.{DumpRecord}
use Rattle.gs_dump.specs.Record.{IsLive}
use Rattle.gs_beliefs.specs.Cpus.{Cpus, is_believed, is_just, is_named}
use Rattle.gs_beliefs.specs.Belief.{after_outcome}
use Rattle.gs_runq.specs.Queue.{IsTid, Queue, is_in, order}
use Rattle.gs_view.specs.Loaded.{loaded, with_record}
use Rattle.gs_view.proofs.Laws.{loaded_first}
use Rattle.gs_agent.specs.Held.{HasRoom}
use Rattle.gs_agent.specs.Mind.{bare}
use Rattle.gs_agent.specs.Pages.{after_page, after_record, told_on}
use Rattle.gs_agent.specs.Picture.{HoldsWaiting, Picture, displaced, parts, settled_all, waits}
use Rattle.gs_agent.proofs.Believing.{believed_outcome, stamped_outcome}
use Rattle.gs_agent.proofs.Followed.{displaced_out, holds_all, others_hold, waits_alike}
use Rattle.gs_agent.proofs.Rooms.{bare_settled_all}

-- the threads whom a record may make wait, or wait no more
abbrev pub touched : DumpRecord → Cpus → List ℕ
touched r s = r.tid ∷ option_to_list (displaced s r.cpu)

-- one record more
pub records_push : (rs : List DumpRecord) (r : DumpRecord) (p : Picture) → after_page (rs ++ r ∷ []) p ≡ after_record r (after_page rs p)
records_push [] r p = refl
records_push (x ∷ xs) r p = records_push xs r (after_record x p)

-- what is known after a page is what it loads
pub view_paged : (rs : List DumpRecord) (p : Picture) → (after_page rs p).view ≡ loaded rs p.view
view_paged [] p = refl
view_paged (r ∷ rs) p = view_paged rs (after_record r p) ∙ loaded_first r rs p.view

-- the queue's room changes nothing of what a page makes of a picture
abbrev bared : Picture → Picture
bared p = record p { queue = bare p.queue }

bared_record : (r : DumpRecord) (p : Picture) → bared (after_record r p) ≡ after_record r (bared p)
bared_record r p =
    let v = with_record r p.view in
    ap (λ (q : Queue). parts v (told_on r.tid r.known.tseq r.cpu p.cpus) q)
    (bare_settled_all v (told_on r.tid r.known.tseq r.cpu p.cpus) (touched r p.cpus) p.queue)

bared_page : (rs : List DumpRecord) (p : Picture) → bared (after_page rs p) ≡ after_page rs (bared p)
bared_page [] p = refl
bared_page (r ∷ rs) p = bared_page rs (after_record r p) ∙ ap (after_page rs) (bared_record r p)

-- to be told where a thread is says what an outcome says that finds it there
as_placed : (t n : ℕ) (at : Option ℕ) (s : Cpus) → told_on t n at s ≡ after_outcome Placed at t n s
as_placed t n None s = refl
as_placed t n (Some c) s = refl

-- who waits is the same of all but a record's thread and whom it displaces
waits_told : (v : Look) (s : Cpus) (r : DumpRecord) (u : ℕ) → is_in u (touched r s) ≡ false
    → waits (with_record r v) (told_on r.tid r.known.tseq r.cpu s) u ≡ waits v s u
waits_told v s r u out =
    let both = or_parts (r.tid == u) (is_in u (option_to_list (displaced s r.cpu))) out in
    let placed = as_placed r.tid r.known.tseq r.cpu s in
    waits_alike v (with_record r v) s (told_on r.tid r.known.tseq r.cpu s) u
    (ap (λ (b : Bool). cond b (Some r.known) (v u)) both.0)
    (ap (λ (x : Cpus). is_believed x u) placed ∙ believed_outcome Placed r.cpu r.tid r.known.tseq u s both.0 (displaced_out s r.cpu u both.1))
    (ap (λ (x : Cpus). is_named x u) placed ∙ ap (λ (xs : List (Option ℕ)). list_any (is_just u) xs) (stamped_outcome Placed r.cpu r.tid r.known.tseq s))

-- a queue that holds just who waits does so after each record
holds_record : (r : DumpRecord) (p : Picture) → HoldsWaiting p.view p.cpus p.queue
    → HoldsWaiting (after_record r p).view (after_record r p).cpus (after_record r p).queue
holds_record r p h =
    holds_all v s (touched r p.cpus) p.queue (others_hold p.view v p.cpus s (touched r p.cpus) p.queue p.queue h (λ u out. refl) (λ u out. waits_told p.view p.cpus r u out))
  where
    v : Look
    v = with_record r p.view

    s : Cpus
    s = told_on r.tid r.known.tseq r.cpu p.cpus

holds_page : (rs : List DumpRecord) (p : Picture) → HoldsWaiting p.view p.cpus p.queue
    → HoldsWaiting (after_page rs p).view (after_page rs p).cpus (after_page rs p).queue
holds_page [] p h = h
holds_page (r ∷ rs) p h = holds_page rs (after_record r p) (holds_record r p h)

-- a queue with more room has room
pub room_more : (v : Look) (q q' : Queue) → q.room ≤ q'.room → HasRoom v q → HasRoom v q'
room_more v q q' more h = record { least = h.least; most = h.most; room = λ t e. omega (arith, h.room t e, more) }

-- a queue with room for all threads has room once a record was set
pub room_set : (r : DumpRecord) (v v' : Look) (q : Queue) → IsTid r.tid → MOST_TIDS ≤ q.room → HasRoom v q → ((t : ℕ) → v' t ≡ with_record r v t) → HasRoom v' q
room_set r v v' q tid room h known = record { least = λ t e. (which t e).0; most = λ t e. (which t e).1; room = λ t e. room }
  where
    by_test : (t : ℕ) (b : Bool) → (r.tid == t) ≡ b → is_some (cond b (Some r.known) (v t)) ≡ true → IsTid t
    by_test t true same e = subst IsTid (eqb-true r.tid t same) tid
    by_test t false other e = (h.least t e, h.most t e)

    which : (t : ℕ) → is_some (v' t) ≡ true → IsTid t
    which t e = by_test t (r.tid == t) refl (ap (λ (o : Option Known). is_some o) (sym (known t)) ∙ e)

-- so it has room for all, since something is known of the record's thread
pub room_told : (r : DumpRecord) (v v' : Look) (q : Queue) → HasRoom v' q → ((t : ℕ) → v' t ≡ with_record r v t) → MOST_TIDS ≤ q.room
room_told r v v' q h known = h.room r.tid (ap (λ (o : Option Known). is_some o) (known r.tid) ∙ ap (λ (b : Bool). is_some (cond b (Some r.known) (v r.tid))) (eq-eqb r.tid r.tid refl))

-- each record of a page is of a thread that may be
pub tid_at : (rs : List DumpRecord) → AllByRecursion IsLive rs → (i : ℕ) (r : DumpRecord) → slice_get rs i ≡ Some r → IsTid r.tid
tid_at [] live i r e = absurd cc
tid_at (x ∷ xs) live zero r e =
    let same : x ≡ r = cc in subst (λ (y : DumpRecord). IsTid y.tid) same (live.0.numbers.tid_low, live.0.numbers.tid_high)
tid_at (x ∷ xs) live (suc i) r e = tid_at xs live.1 i r e

-- what is known, the beliefs and the queue after a record
record_picture : (v v' : Look) (s s' : Cpus) (q q' : Queue) (r : DumpRecord) → v' ≡ with_record r v → s' ≡ told_on r.tid r.known.tseq r.cpu s
    → q' ≡ settled_all v' s' (touched r s) q → parts v' s' q' ≡ after_record r (parts v s q)
record_picture v v' s s' q q' r known a b =
    ap (parts v' s') b
    ∙ (ap (λ (x : Cpus). parts v' x (settled_all v' x (touched r s) q)) a
    ∙ ap (λ (w : Look). parts w (told_on r.tid r.known.tseq r.cpu s) (settled_all w (told_on r.tid r.known.tseq r.cpu s) (touched r s) q)) known)

-- a page's records were followed up to one, and then that one
pub records_more : (xs ys : List DumpRecord) (r : DumpRecord) (v v' : Look) (s s' : Cpus) (q q' : Queue) (p : Picture) → ys ≡ xs ++ r ∷ []
    → parts v s q ≡ after_page xs p → ((t : ℕ) → v' t ≡ with_record r v t) → s' ≡ told_on r.tid r.known.tseq r.cpu s
    → q' ≡ settled_all v' s' (touched r s) q → parts v' s' q' ≡ after_page ys p
records_more xs ys r v v' s s' q q' p more before known a b =
    record_picture v v' s s' q q' r (λ i. λ t. known t i) a b
    ∙ (ap (after_record r) before ∙ (sym (records_push xs r p) ∙ ap (λ (zs : List DumpRecord). after_page zs p) (sym more)))

-- the picture after a page
pub page_picture : (rs : List DumpRecord) (v v' : Look) (s s' : Cpus) (q q' q'' : Queue) → bare q' ≡ bare q
    → parts v' s' q'' ≡ after_page rs (parts v s q') → parts v' s' (bare q'') ≡ after_page rs (parts v s (bare q))
page_picture rs v v' s s' q q' q'' b after =
    ap bared after ∙ (bared_page rs (parts v s q') ∙ ap (λ (x : Queue). after_page rs (parts v s x)) b)

-- and the queue holds just who waits
pub page_waiting : (rs : List DumpRecord) (v v' : Look) (s s' : Cpus) (q q' q'' : Queue) → bare q' ≡ bare q
    → parts v' s' q'' ≡ after_page rs (parts v s q') → HoldsWaiting v s q → HoldsWaiting v' s' q''
page_waiting rs v v' s s' q q' q'' b after h =
    subst (λ (p : Picture). HoldsWaiting p.view p.cpus p.queue) (sym after)
    (holds_page rs (parts v s q') (λ t. ap (λ (x : Queue). is_in t (order x)) b ∙ h t))

-- the first of the records that are left was followed
pub record_next : (rs : List DumpRecord) (r : DumpRecord) (v v' : Look) (s s' : Cpus) (q q' : Queue) (p : Picture)
    → after_page (r ∷ rs) (parts v s q) ≡ p → ((t : ℕ) → v' t ≡ with_record r v t) → s' ≡ told_on r.tid r.known.tseq r.cpu s
    → q' ≡ settled_all v' s' (touched r s) q → after_page rs (parts v' s' q') ≡ p
record_next rs r v v' s s' q q' p so_far known a b = ap (after_page rs) (record_picture v v' s s' q q' r (λ i. λ t. known t i) a b) ∙ so_far
