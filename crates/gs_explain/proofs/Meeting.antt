-- The entries for which a landing's reason is asked are those that it met.
use Rattle.std.proofs.Common.{◌≡◌, refl, sym, ◌∙◌, ap, subst, ◌⊎◌, inl, inr, ℕ, suc, ◌+◌, Bool, true, false, Option, None, Some, List, [], ◌∷◌, ◌++◌, append-nil, append_assoc, take, drop, length, length-append, cond, map, not, ◌&&◌}
use Rattle.std.proofs.lemmas.List.{map-append}
use Rattle.std.proofs.Math.Seq.{drop-append_seam, take-append_seam}
use Rattle.gs_layout.specs.declared.message.Message.{Message}
use Rattle.gs_layout.specs.declared.outcome.Outcome.{Outcome}
use Rattle.gs_layout.specs.declared.outcome.Outcome.TheVariants as outcomes
use Rattle.gs_slots.specs.declared.state.Stamp.{Stamp}
use Rattle.gs_slots.specs.declared.state.SlotState.{SlotState}
use Rattle.gs_journal.specs.declared.entry.Entry.{Entry}
use Rattle.gs_journal.specs.declared.entry.Entry.TheVariants.{Posted}
use Rattle.gs_journal.specs.History.{History, torn}
use Rattle.gs_status.specs.Masks.{has}
use Rattle.gs_kernel.specs.declared.settings.Settings.{Settings}
use Rattle.gs_kernel.specs.declared.landing.Landing.{Landing}
use Rattle.gs_kernel.specs.declared.effect.Effect.TheVariants.{Append}
use Rattle.gs_kernel.specs.Kernel.{preemption}
use Rattle.gs_kernel.specs.Legal.{Room, Tells, entries_in}
use Rattle.gs_kernel.specs.Landing.{placing, verdict}
use Rattle.gs_kernel.specs.Lands.{Landings, Lands, LandsAll, Settles, is_to_place, placement}
use Rattle.gs_kernel.proofs.Laws.{HasLanded, HasStayed, IsLeft, IsPut, all_keep, if_cases, settles_cases, torn_now}
use Rattle.gs_reasons.proofs.Laws.{because_of}
use Rattle.gs_layout.specs.declared.refusal.Refusal.{Refusal}
use Rattle.gs_layout.specs.declared.refusal.Refusal.TheVariants as refusals
use Rattle.gs_replies.specs.declared.reply.Reply.TheVariants as replies
use Rattle.gs_core.specs.declared.event.Event.TheVariants as events
use Rattle.gs_core.specs.Machine.{Serves, State, Step, fits, refusal}
use Rattle.gs_explain.specs.Landings.{after_landing, is_gone, is_placing, steps_to_placing}
use Rattle.gs_explain.specs.Met.{AreJudged, IsJudged, is_judged}
use Rattle.gs_kernel.specs.Kernel.{is_full}
use Rattle.gs_kernel.specs.Group.{GiveWay, GivesWay, Group, IfFits, LandsCommit, PutsIf, are_to_place, group_entries, group_in, group_landing, is_named_below, or_failed, own_verdict, placings}
use Rattle.gs_core.proofs.Laws.{GrowsTo, grown_same, grown_then, settles_grown}

-- one that is neither placed nor gone adds nothing
stays : (o : Outcome) (h : History) (n : ℕ) → is_to_place o ≡ false → is_gone o ≡ false → after_landing o h n ≡ n
stays outcomes.Placed h n p q = absurd cc
stays outcomes.Gone h n p q = absurd cc
stays outcomes.Displaced h n p q = refl
stays outcomes.NoThread h n p q = refl
stays outcomes.Stale h n p q = refl
stays outcomes.NotRunnable h n p q = refl
stays outcomes.AlreadyPlaced h n p q = refl
stays outcomes.NotAllowed h n p q = refl
stays outcomes.CpuIsAgent h n p q = refl
stays outcomes.CpuTaken h n p q = refl
stays outcomes.CpuBusy h n p q = refl
stays outcomes.SeqSpent h n p q = refl
stays outcomes.HistoryFull h n p q = refl
stays outcomes.Malformed h n p q = refl
stays outcomes.GroupFailed h n p q = refl

gone_is : (o : Outcome) → is_gone o ≡ true → o ≡ outcomes.Gone
gone_is outcomes.Placed p = absurd cc
gone_is outcomes.Gone p = refl
gone_is outcomes.Displaced p = absurd cc
gone_is outcomes.NoThread p = absurd cc
gone_is outcomes.Stale p = absurd cc
gone_is outcomes.NotRunnable p = absurd cc
gone_is outcomes.AlreadyPlaced p = absurd cc
gone_is outcomes.NotAllowed p = absurd cc
gone_is outcomes.CpuIsAgent p = absurd cc
gone_is outcomes.CpuTaken p = absurd cc
gone_is outcomes.CpuBusy p = absurd cc
gone_is outcomes.SeqSpent p = absurd cc
gone_is outcomes.HistoryFull p = absurd cc
gone_is outcomes.Malformed p = absurd cc
gone_is outcomes.GroupFailed p = absurd cc

-- a landing was judged on what it met, and leaves as many entries as are counted
pub record IsMet (s : Settings) (h : History) (n : ℕ) (l : Landing) (left : History) : Type 0 where
  pub judged : is_judged l.outcome ≡ true → IsJudged s (take (after_landing l.outcome h n) h) l
  pub count : after_landing l.outcome h n ≡ length left

steps_put : (victim : Option Message) (e : Entry) (more : History) → is_placing e ≡ true → steps_to_placing (entries_in (Append victim e) ++ more) ≡ length (entries_in (Append victim e))
steps_put None e more p = ap (λ b. cond b 1 (suc (steps_to_placing more))) p
steps_put (Some m) e more p = ap (λ b. suc (cond b 1 (suc (steps_to_placing more)))) p

gone_met : (s : Settings) (h : History) (n : ℕ) (l : Landing) (left : History) → l.outcome ≡ outcomes.Gone → h ≡ left → IsMet s h n l left
gone_met s h n l left is same = record { judged = λ q. absurd (let w : is_judged outcomes.Gone ≡ true = ap is_judged (sym is) ∙ q in cc); count = ap (λ o. after_landing o h n) is ∙ ap length same }

put_met : (s : Settings) (h g : History) (k : ℕ) (b : Stamp) (l : Landing) (left more : History) → l.outcome ≡ outcomes.Placed → left ≡ g ++ entries_in (placement s g k b) → h ≡ left ++ more → IsMet s h (length g) l left
put_met s h g k b l left more is grown whole =
    let new : History = entries_in (placement s g k b) in
    let all : h ≡ g ++ (new ++ more) = whole ∙ ap (λ x. x ++ more) grown ∙ append_assoc g new more in
    let rest : drop (length g) h ≡ new ++ more = ap (drop (length g)) all ∙ drop-append_seam g (new ++ more) in
    let steps : steps_to_placing (drop (length g) h) ≡ length new = ap steps_to_placing rest ∙ steps_put (preemption s g k) (placing k b) more refl in
    record {
      judged = λ q. absurd (let w : is_judged outcomes.Placed ≡ true = ap is_judged (sym is) ∙ q in cc);
      count = ap (λ o. after_landing o h (length g)) is ∙ ap (λ n. length g + n) steps ∙ sym (length-append g new) ∙ ap length (sym grown);
    }

left_met : (s : Settings) (h g : History) (k : ℕ) (b : Stamp) (l : Landing) (left more : History) → l.cpu ≡ k → b.tid ≡ l.tid → IsLeft s g k b l.outcome left → h ≡ left ++ more → (torn left ≡ true → h ≡ left) → IsMet s h (length g) l left
left_met s h g k b l left more at names p whole ends = by_gone (is_gone l.outcome) refl
  where
    by_gone : (x : Bool) → is_gone l.outcome ≡ x → IsMet s h (length g) l left
    by_gone true e =
        let is : l.outcome ≡ outcomes.Gone = gone_is l.outcome e in
        let up : torn g ≡ true = because_of s g k b outcomes.Gone (sym p.outcome ∙ is) in
        gone_met s h (length g) l left is (ends (ap torn p.history ∙ up))
    by_gone false e =
        let same : after_landing l.outcome h (length g) ≡ length g = stays l.outcome h (length g) (ap is_to_place p.outcome ∙ p.other) e in
        let before : take (after_landing l.outcome h (length g)) h ≡ g = ap (λ n. take n h) same ∙ ap (take (length g)) (whole ∙ ap (λ x. x ++ more) p.history) ∙ take-append_seam g more in
        record {
          judged = λ q. record { stamp = b; tid = names; as_said = ap (λ (x : History). verdict s x l.cpu b) before ∙ ap (λ c. verdict s g c b) at ∙ sym p.outcome };
          count = same ∙ ap length (sym p.history);
        }

pub one_met : (room : Room) (s : Settings) (h g : History) (k : ℕ) (b : Stamp) (l : Landing) (left more : History) → Lands room s g k b l left → h ≡ left ++ more → (torn left ≡ true → h ≡ left) → IsMet s h (length g) l left
one_met room s h g k b l left more t whole ends = by_case (settles_cases room s g k b l.outcome left t.settles)
  where
    by_fit : (fit : Bool) → l.outcome ≡ cond fit outcomes.Placed outcomes.Gone → Tells room g (placement s g k b) fit left → IsMet s h (length g) l left
    by_fit true is w = put_met s h g k b l left more is w.1 whole
    by_fit false is w = gone_met s h (length g) l left is (ends (ap torn w.1 ∙ torn_now g))

    by_case : IsPut room s g k b l.outcome left ⊎ IsLeft s g k b l.outcome left → IsMet s h (length g) l left
    by_case (inl p) = by_fit p.fit p.outcome p.tells
    by_case (inr p) = left_met s h g k b l left more (ap (λ (x : Landing). x.cpu) t.values) (sym (ap (λ (x : Landing). x.tid) t.values)) p whole ends

-- once the enclave was torn down landings add nothing
gone_when : (s : Settings) (h : History) (k : ℕ) (b : Stamp) → torn h ≡ true → verdict s h k b ≡ outcomes.Gone
unfolding verdict
gone_when s h k b up = rw up refl

torn_adds : (room : Room) (s : Settings) (g : History) (k : ℕ) (b : Stamp) (o : Outcome) (left : History) → Settles room s g k b (verdict s g k b) o left → torn g ≡ true → left ≡ g
torn_adds room s g k b o left t up = by_case (settles_cases room s g k b o left t)
  where
    by_case : IsPut room s g k b o left ⊎ IsLeft s g k b o left → left ≡ g
    by_case (inl p) = absurd (let w : outcomes.Gone ≡ outcomes.Placed = sym (gone_when s g k b up) ∙ p.placed in cc)
    by_case (inr p) = p.history

torn_all : (room : Room) (s : Settings) (mask k : ℕ) (zs : List SlotState) (g : History) (r : Landings) → LandsAll room s mask k zs g r → torn g ≡ true → r.history ≡ g
torn_all room s mask k zs g r t up =
    all_keep (λ x. x ≡ g) room s mask k zs g r (λ i c b o x y is there settles same. torn_adds room s x c b o y settles (ap torn same ∙ up) ∙ same) t refl

all_grown : (room : Room) (s : Settings) (mask k : ℕ) (zs : List SlotState) (g : History) (r : Landings) → LandsAll room s mask k zs g r → GrowsTo g r.history
all_grown room s mask k zs g r t = all_keep (GrowsTo g) room s mask k zs g r (λ i c b o x y is there settles p. grown_then g x y p (settles_grown room s x c b (verdict s x c b) o y settles)) t (grown_same g g refl)

-- landings one after another
pub all_met : (room : Room) (s : Settings) (mask k : ℕ) (zs : List SlotState) (g : History) (r : Landings) → LandsAll room s mask k zs g r → AreJudged s r.history (length g) r.answers
all_met room s mask k [] g r t = subst (λ (q : Landings). AreJudged s q.history (length g) q.answers) (sym t) tt
all_met room s mask k (z ∷ zs) g r t =
    subst (λ (q : Landings). AreJudged s q.history (length g) q.answers) (sym t.4)
    (then_met room s g k z t.0 t.1 (if_cases room s (has mask k) k z g t.0 t.2) (all_grown room s mask (suc k) zs t.0.history t.1 t.3) (torn_all room s mask (suc k) zs t.0.history t.1 t.3) (all_met room s mask (suc k) zs t.0.history t.1 t.3))
  where
    then_met : (room : Room) (s : Settings) (g : History) (k : ℕ) (z : SlotState) (one rest : Landings) → HasLanded room s g k z one ⊎ HasStayed g z one → GrowsTo one.history rest.history → (torn one.history ≡ true → rest.history ≡ one.history)
        → AreJudged s rest.history (length one.history) rest.answers → AreJudged s rest.history (length g) (one.answers ++ rest.answers)
    then_met room s g k z one rest (inl p) more ends others =
        let met : IsMet s rest.history (length g) p.landing one.history = one_met room s rest.history g k p.stamp p.landing one.history more.0 p.lands more.1 ends in
        subst (λ ls. AreJudged s rest.history (length g) (ls ++ rest.answers)) (sym p.answers) (met.judged, subst (λ n. AreJudged s rest.history n rest.answers) (sym met.count) others)
    then_met room s g k z one rest (inr p) more ends others =
        subst (λ ls. AreJudged s rest.history (length g) (ls ++ rest.answers)) (sym p.answers) (subst (λ (x : History). AreJudged s rest.history (length x) rest.answers) p.history others)

-- ---- a group

-- one of a group that fails is failed with it, or has a verdict of its own
own_cases : (s : Settings) (h : History) (all : Group) (k : ℕ) (b : Stamp) → (or_failed (own_verdict s h all k b) ≡ outcomes.GroupFailed) ⊎ ((is_to_place (verdict s h k b) ≡ false) × (or_failed (own_verdict s h all k b) ≡ verdict s h k b))
own_cases s h all k b = by_place (is_to_place (verdict s h k b)) (is_named_below k b.tid all) refl
  where
    by_place : (p q : Bool) → is_to_place (verdict s h k b) ≡ p
        → (or_failed (cond (is_to_place (verdict s h k b) && q) outcomes.GroupFailed (verdict s h k b)) ≡ outcomes.GroupFailed) ⊎ ((is_to_place (verdict s h k b) ≡ false) × (or_failed (cond (is_to_place (verdict s h k b) && q) outcomes.GroupFailed (verdict s h k b)) ≡ verdict s h k b))
    by_place true true e = inl (ap (λ p. or_failed (cond (p && true) outcomes.GroupFailed (verdict s h k b))) e)
    by_place true false e = inl (ap (λ p. or_failed (cond (p && false) outcomes.GroupFailed (verdict s h k b))) e ∙ ap (λ p. cond p outcomes.GroupFailed (verdict s h k b)) e)
    by_place false q e = inr (e, ap (λ p. or_failed (cond (p && q) outcomes.GroupFailed (verdict s h k b))) e ∙ ap (λ p. cond p outcomes.GroupFailed (verdict s h k b)) e)

failed_met : (s : Settings) (whole h : History) (all : Group) (k : ℕ) (b : Stamp) (l : Landing) (more : History) → l.cpu ≡ k → b.tid ≡ l.tid → l.outcome ≡ or_failed (own_verdict s h all k b) → whole ≡ h ++ more → (torn h ≡ true → whole ≡ h) → IsMet s whole (length h) l h
failed_met s whole h all k b l more at names is grown ends = by_case (own_cases s h all k b)
  where
    by_case : (or_failed (own_verdict s h all k b) ≡ outcomes.GroupFailed) ⊎ ((is_to_place (verdict s h k b) ≡ false) × (or_failed (own_verdict s h all k b) ≡ verdict s h k b)) → IsMet s whole (length h) l h
    by_case (inl e) = record { judged = λ q. absurd (let w : is_judged outcomes.GroupFailed ≡ true = ap is_judged (sym (is ∙ e)) ∙ q in cc); count = ap (λ o. after_landing o whole (length h)) (is ∙ e) }
    by_case (inr e) = left_met s whole h k b l h more at names (record { other = e.0; outcome = is ∙ e.1; history = refl }) grown ends

-- the answers of a group, by what becomes of each
abbrev group_of : Settings → History → History → (ℕ → Stamp → Outcome) → Group → List Landing
group_of s h left o xs = map (λ x. group_landing s h left x.0 x.1 (o x.0 x.1)) xs

all_failed : (s : Settings) (whole h left : History) (all xs : Group) (o : ℕ → Stamp → Outcome) (more : History) (rest : List Landing) → ((k : ℕ) (b : Stamp) → o k b ≡ or_failed (own_verdict s h all k b)) → whole ≡ h ++ more → (torn h ≡ true → whole ≡ h)
    → AreJudged s whole (length h) rest → AreJudged s whole (length h) (group_of s h left o xs ++ rest)
all_failed s whole h left all [] o more rest is grown ends t = t
all_failed s whole h left all (x ∷ xs) o more rest is grown ends t =
    let met : IsMet s whole (length h) (group_landing s h left x.0 x.1 (o x.0 x.1)) h = failed_met s whole h all x.0 x.1 (group_landing s h left x.0 x.1 (o x.0 x.1)) more refl refl (is x.0 x.1) grown ends in
    (met.judged, subst (λ n. AreJudged s whole n (group_of s h left o xs ++ rest)) (sym met.count) (all_failed s whole h left all xs o more rest is grown ends t))

all_full : (s : Settings) (whole h left : History) (xs : Group) (o : ℕ → Stamp → Outcome) (rest : List Landing) → ((k : ℕ) (b : Stamp) → o k b ≡ outcomes.HistoryFull) → AreJudged s whole (length h) rest → AreJudged s whole (length h) (group_of s h left o xs ++ rest)
all_full s whole h left [] o rest is t = t
all_full s whole h left (x ∷ xs) o rest is t = (
  λ q. absurd (let w : is_judged outcomes.HistoryFull ≡ true = ap is_judged (sym (is x.0 x.1)) ∙ q in cc),
  subst (λ n. AreJudged s whole n (group_of s h left o xs ++ rest)) (sym (ap (λ p. after_landing p whole (length h)) (is x.0 x.1))) (all_full s whole h left xs o rest is t),
)

all_gone : (s : Settings) (whole h left : History) (xs : Group) (o : ℕ → Stamp → Outcome) (rest : List Landing) → ((k : ℕ) (b : Stamp) → o k b ≡ outcomes.Gone) → AreJudged s whole (length whole) rest → AreJudged s whole (length whole) (group_of s h left o xs ++ rest)
all_gone s whole h left [] o rest is t = t
all_gone s whole h left (x ∷ xs) o rest is t = (
  λ q. absurd (let w : is_judged outcomes.Gone ≡ true = ap is_judged (sym (is x.0 x.1)) ∙ q in cc),
  subst (λ n. AreJudged s whole n (group_of s h left o xs ++ rest)) (sym (ap (λ p. after_landing p whole (length whole)) (is x.0 x.1))) (all_gone s whole h left xs o rest is t),
)

any_gone : (s : Settings) (whole h left : History) (n : ℕ) (x : ℕ × Stamp) (xs : Group) (o : ℕ → Stamp → Outcome) (rest : List Landing) → ((k : ℕ) (b : Stamp) → o k b ≡ outcomes.Gone) → AreJudged s whole (length whole) rest → AreJudged s whole n (group_of s h left o (x ∷ xs) ++ rest)
any_gone s whole h left n x xs o rest is t = (
  λ q. absurd (let w : is_judged outcomes.Gone ≡ true = ap is_judged (sym (is x.0 x.1)) ∙ q in cc),
  subst (λ n. AreJudged s whole n (group_of s h left o xs ++ rest)) (sym (ap (λ p. after_landing p whole n) (is x.0 x.1))) (all_gone s whole h left xs o rest is t),
)

-- one that is placed behind messages
steps_posts : (ms : List Message) (k : ℕ) (b : Stamp) (more : History) → steps_to_placing (map (λ m. Posted m) ms ++ placing k b ∷ more) ≡ length (map (λ m. Posted m) ms ++ placing k b ∷ [])
steps_posts [] k b more = refl
steps_posts (m ∷ ms) k b more = ap suc (steps_posts ms k b more)

placed_behind : (s : Settings) (whole g left : History) (h : History) (ms : List Message) (x : ℕ × Stamp) (xs : Group) (o : ℕ → Stamp → Outcome) (more : History) (rest : List Landing) → ((k : ℕ) (b : Stamp) → o k b ≡ outcomes.Placed)
    → whole ≡ g ++ ((map (λ m. Posted m) ms ++ placing x.0 x.1 ∷ []) ++ more) → AreJudged s whole (length (g ++ (map (λ m. Posted m) ms ++ placing x.0 x.1 ∷ []))) (group_of s h left o xs ++ rest)
    → AreJudged s whole (length g) (group_of s h left o (x ∷ xs) ++ rest)
placed_behind s whole g left h ms x xs o more rest is grown t =
    let new : History = map (λ m. Posted m) ms ++ placing x.0 x.1 ∷ [] in
    let drops : drop (length g) whole ≡ map (λ m. Posted m) ms ++ placing x.0 x.1 ∷ more = ap (drop (length g)) grown ∙ drop-append_seam g (new ++ more) ∙ append_assoc (map (λ m. Posted m) ms) (placing x.0 x.1 ∷ []) more in
    let count : after_landing (o x.0 x.1) whole (length g) ≡ length (g ++ new) =
    ap (λ p. after_landing p whole (length g)) (is x.0 x.1) ∙ ap (λ n. length g + n) (ap steps_to_placing drops ∙ steps_posts ms x.0 x.1 more) ∙ sym (length-append g new) in (
      λ q. absurd (let w : is_judged outcomes.Placed ≡ true = ap is_judged (sym (is x.0 x.1)) ∙ q in cc),
      subst (λ n. AreJudged s whole n (group_of s h left o xs ++ rest)) (sym count) t,
    )

all_placed : (s : Settings) (whole g left h : History) (xs : Group) (o : ℕ → Stamp → Outcome) (more : History) (rest : List Landing) → ((k : ℕ) (b : Stamp) → o k b ≡ outcomes.Placed) → whole ≡ g ++ (placings xs ++ more)
    → AreJudged s whole (length (g ++ placings xs)) rest → AreJudged s whole (length g) (group_of s h left o xs ++ rest)
all_placed s whole g left h [] o more rest is grown t = subst (λ (y : History). AreJudged s whole (length y) rest) (append-nil g) t
all_placed s whole g left h (x ∷ xs) o more rest is grown t =
    placed_behind s whole g left h [] x xs o (placings xs ++ more) rest is grown
    (all_placed s whole (g ++ placing x.0 x.1 ∷ []) left h xs o more rest is (grown ∙ sym (append_assoc g (placing x.0 x.1 ∷ []) (placings xs ++ more))) (subst (λ (y : History). AreJudged s whole (length y) rest) (sym (append_assoc g (placing x.0 x.1 ∷ []) (placings xs))) t))

-- those who make way are told, and nothing else is added; or the enclave is torn down
abbrev Told : History → History → Type 0
Told h told = (ms : List Message) × (told ≡ h ++ map (λ m. Posted m) ms)

told_then : (a b c : History) → Told a b → Told b c → Told a c
told_then a b c f g = (f.0 ++ g.0, g.1 ∙ ap (λ l. l ++ map (λ m. Posted m) g.0) f.1 ∙ append_assoc a (map (λ m. Posted m) f.0) (map (λ m. Posted m) g.0) ∙ ap (λ l. a ++ l) (sym (map-append (λ m. Posted m) f.0 g.0)))

gives_told : (room : Room) (h : History) (o : Option Message) (mid : History) → GivesWay room h o true mid → Told h mid
gives_told room h None mid t = ([], t.1 ∙ sym (append-nil h))
gives_told room h (Some m) mid t = (m ∷ [], t.1)

way_then : (first : Bool) (room : Room) (h mid told : History) (o : Option Message) (P : Type 0) → GivesWay room h o first mid → (P → Told mid told) → IfFits first P ((true ≡ false) × (told ≡ mid)) → Told h told
way_then true room h mid told o P g f w = told_then h mid told (gives_told room h o mid g) (f w)
way_then false room h mid told o P g f w = absurd (let e : true ≡ false = w.0 in cc)

way_told : (room : Room) (s : Settings) (xs : Group) (h told : History) → GiveWay room s xs h true told → Told h told
way_told room s [] h told t = ([], t.1 ∙ sym (append-nil h))
way_told room s (x ∷ xs) h told t = way_then t.0 room h t.1 told (preemption s h x.0) (GiveWay room s xs t.1 true told) t.2 (λ w. way_told room s xs t.1 told w) t.3

gives_torn : (room : Room) (h : History) (o : Option Message) (mid : History) → GivesWay room h o false mid → torn mid ≡ true
gives_torn room h None mid t = absurd (let e : false ≡ true = t.0 in cc)
gives_torn room h (Some m) mid t = ap torn t.1 ∙ torn_now h

torn_then : (first : Bool) (room : Room) (h mid told : History) (o : Option Message) (P : Type 0) → GivesWay room h o first mid → (P → torn told ≡ true) → IfFits first P ((false ≡ false) × (told ≡ mid)) → torn told ≡ true
torn_then true room h mid told o P g f w = f w
torn_then false room h mid told o P g f w = ap torn w.1 ∙ gives_torn room h o mid g

way_torn : (room : Room) (s : Settings) (xs : Group) (h told : History) → GiveWay room s xs h false told → torn told ≡ true
way_torn room s [] h told t = absurd (let e : false ≡ true = t.0 in cc)
way_torn room s (x ∷ xs) h told t = torn_then t.0 room h t.1 told (preemption s h x.0) (GiveWay room s xs t.1 false told) t.2 (λ w. way_torn room s xs t.1 told w) t.3

placed_group : (room : Room) (s : Settings) (whole h told left : History) (xs : Group) (o : ℕ → Stamp → Outcome) (more : History) (rest : List Landing) → ((k : ℕ) (b : Stamp) → o k b ≡ outcomes.Placed) → GiveWay room s xs h true told → left ≡ told ++ placings xs → whole ≡ left ++ more
    → AreJudged s whole (length left) rest → AreJudged s whole (length h) (group_of s h left o xs ++ rest)
placed_group room s whole h told left [] o more rest is way grown all t = subst (λ (y : History). AreJudged s whole (length y) rest) (grown ∙ append-nil told ∙ way.1) t
placed_group room s whole h told left (x ∷ xs) o more rest is way grown all t =
    let w : Told h told = way_told room s (x ∷ xs) h told way in
    let posted : History = map (λ m. Posted m) w.0 in
    let one : History = posted ++ placing x.0 x.1 ∷ [] in
    let to_left : left ≡ (h ++ one) ++ placings xs =
    grown ∙ ap (λ l. l ++ placings (x ∷ xs)) w.1 ∙ append_assoc h posted (placings (x ∷ xs)) ∙ ap (λ l. h ++ l) (sym (append_assoc posted (placing x.0 x.1 ∷ []) (placings xs))) ∙ sym (append_assoc h one (placings xs)) in
    let to_whole : whole ≡ (h ++ one) ++ (placings xs ++ more) = all ∙ ap (λ l. l ++ more) to_left ∙ append_assoc (h ++ one) (placings xs) more in
    placed_behind s whole h left h w.0 x xs o (placings xs ++ more) rest is (to_whole ∙ append_assoc h one (placings xs ++ more))
    (all_placed s whole (h ++ one) left h xs o more rest is to_whole (subst (λ (y : History). AreJudged s whole (length y) rest) to_left t))

gone_group : (room : Room) (s : Settings) (whole h told left : History) (xs : Group) (o : ℕ → Stamp → Outcome) (rest : List Landing) → ((k : ℕ) (b : Stamp) → o k b ≡ outcomes.Gone) → GiveWay room s xs h false told → left ≡ told → (torn left ≡ true → whole ≡ left)
    → AreJudged s whole (length left) rest → AreJudged s whole (length h) (group_of s h left o xs ++ rest)
gone_group room s whole h told left [] o rest is way grown ends t = absurd (let e : false ≡ true = way.0 in cc)
gone_group room s whole h told left (x ∷ xs) o rest is way grown ends t =
    let same : whole ≡ left = ends (ap torn grown ∙ way_torn room s (x ∷ xs) h told way) in
    any_gone s whole h left (length h) x xs o rest is (subst (λ (y : History). AreJudged s whole (length y) rest) (sym same) t)

abbrev outcome_by : Settings → History → Group → Bool → Bool → Bool → ℕ → Stamp → Outcome
outcome_by s h g p q f k b = cond p (cond q outcomes.HistoryFull (cond f outcomes.Placed outcomes.Gone)) (or_failed (own_verdict s h g k b))

by_all : (room : Room) (s : Settings) (whole h left : History) (g : Group) (more : History) (rest : List Landing) (p q f : Bool) → PutsIf (p && not q) room s h g f left → whole ≡ left ++ more → (torn left ≡ true → whole ≡ left) → AreJudged s whole (length left) rest
    → AreJudged s whole (length h) (group_of s h left (outcome_by s h g p q f) g ++ rest)
by_all room s whole h left g more rest false q f puts all ends t =
    all_failed s whole h left g g (outcome_by s h g false q f) more rest (λ k b. refl) (all ∙ ap (λ l. l ++ more) puts.1) (λ up. ends (ap torn puts.1 ∙ up) ∙ puts.1) (subst (λ (y : History). AreJudged s whole (length y) rest) puts.1 t)
by_all room s whole h left g more rest true true f puts all ends t =
    all_full s whole h left g (outcome_by s h g true true f) rest (λ k b. refl) (subst (λ (y : History). AreJudged s whole (length y) rest) puts.1 t)
by_all room s whole h left g more rest true false true puts all ends t =
    placed_group room s whole h puts.0 left g (outcome_by s h g true false true) more rest (λ k b. refl) puts.1 puts.2 all t
by_all room s whole h left g more rest true false false puts all ends t =
    gone_group room s whole h puts.0 left g (outcome_by s h g true false false) rest (λ k b. refl) puts.1 (puts.2 ∙ append-nil puts.0) ends t

-- a whole commit
pub commit_met : (room : Room) (s : Settings) (mask : ℕ) (zs : List SlotState) (h : History) (r : Landings) → LandsCommit room s mask zs h r → AreJudged s r.history (length h) r.answers
commit_met room s mask zs h r t =
    let first = t.first in
    let g : Group = group_in mask 0 zs in
    let more : GrowsTo t.group.history t.rest.history = all_grown room s mask 0 t.group.slots t.group.history t.rest t.others in
    let group : AreJudged s t.rest.history (length h) (group_of s h t.group.history (outcome_by s h g (are_to_place s h g g) (is_full s h (group_entries h g)) first.fit) g ++ t.rest.answers) =
    by_all room s t.rest.history h t.group.history g more.0 t.rest.answers (are_to_place s h g g) (is_full s h (group_entries h g)) first.fit first.puts more.1
    (torn_all room s mask 0 t.group.slots t.group.history t.rest t.others) (all_met room s mask 0 t.group.slots t.group.history t.rest t.others) in
    subst (λ (q : Landings). AreJudged s q.history (length h) q.answers) (sym t.whole) (subst (λ ls. AreJudged s t.rest.history (length h) (ls ++ t.rest.answers)) (sym first.answers) group)

-- a late landing
pub late_met : (room : Room) (s : Settings) (h : History) (k : ℕ) (b : Stamp) (l : Landing) (left : History) → Lands room s h k b l left → AreJudged s left (length h) (l ∷ [])
late_met room s h k b l left t = let met = one_met room s left h k b l left [] t (sym (append-nil left)) (λ up. refl) in (met.judged, tt)

-- the landings of a machine's commit, and a late one
pub commit_judged : (m n : State) (mask : ℕ) (ls : List Landing) (t : Bool) → Step m (events.Commit mask) (replies.Landed ls t) n → AreJudged m.settings n.history (length m.history) ls
commit_judged m n mask ls t step = by_refusal (refusal m (events.Commit mask)) step
  where
    by_refusal : (o : Option Refusal) → Serves o m (events.Commit mask) (replies.Landed ls t) n → AreJudged m.settings n.history (length m.history) ls
    by_refusal (Some f) s = absurd (let e : replies.Landed ls t ≡ replies.Refused f = s.0 in cc)
    by_refusal None s =
        elim s [
          | inl c ↦
              let e : replies.Landed ls t ≡ replies.Landed c.made.answers (torn c.made.history) = c.reply in
              let same : ls ≡ c.made.answers = cc in
              let history : n.history ≡ c.made.history = ap (λ (q : State). q.history) c.left in
              subst (λ xs. AreJudged m.settings n.history (length m.history) xs) (sym same) (subst (λ (h : History). AreJudged m.settings h (length m.history) c.made.answers) (sym history) (commit_met (fits m) m.settings mask m.slots m.history c.made c.lands))
          | inr q ↦ absurd (let e : replies.Landed ls t ≡ replies.Refused refusals.OutOfMemory = q.0 in cc)
        ]

pub late_judged : (m n : State) (k : ℕ) (l : Landing) (t : Bool) → Step m (events.Late k) (replies.Late k l t) n → AreJudged m.settings n.history (length m.history) (l ∷ [])
late_judged m n k l t step = by_refusal (refusal m (events.Late k)) step
  where
    by_refusal : (o : Option Refusal) → Serves o m (events.Late k) (replies.Late k l t) n → AreJudged m.settings n.history (length m.history) (l ∷ [])
    by_refusal (Some f) s = absurd (let e : replies.Late k l t ≡ replies.Refused f = s.0 in cc)
    by_refusal None s =
        elim s [
          | inl c ↦
              let e : replies.Late k l t ≡ replies.Late k c.landing (torn n.history) = c.reply in
              let same : l ≡ c.landing = cc in
              subst (λ x. AreJudged m.settings n.history (length m.history) (x ∷ [])) (sym same) (late_met (fits m) m.settings m.history c.transaction.cpu c.transaction.slot c.landing n.history c.lands)
          | inr q ↦ absurd (let e : replies.Late k l t ≡ replies.Refused refusals.OutOfMemory = q.0 in cc)
        ]
