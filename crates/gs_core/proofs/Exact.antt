-- What lands by the ring's bytes, and what it leaves, is one.
use Rattle.std.proofs.Common.{ℕ, suc, ◌≡◌, Bool, true, false, cond, Option, None, Some, IfSome, List, [], ◌∷◌, ◌++◌, map, refl, ap, sym, subst, ◌∙◌}
use Rattle.std.proofs.lemmas.Bool.{false≢true}
use Rattle.gs_layout.specs.declared.message.Message.{Message}
use Rattle.gs_layout.specs.declared.outcome.Outcome.{Outcome}
use Rattle.gs_layout.specs.declared.outcome.Outcome.TheVariants as outcomes
use Rattle.gs_slots.specs.declared.state.Stamp.{Stamp}
use Rattle.gs_slots.specs.declared.state.SlotState.{SlotState}
use Rattle.gs_slots.specs.declared.state.SlotState.TheVariants.{Idle, Stamped, Done}
use Rattle.gs_slots.specs.Reading.{by_cpu}
use Rattle.gs_status.specs.Masks.{has}
use Rattle.gs_journal.specs.History.{History, seq, at}
use Rattle.gs_kernel.specs.declared.settings.Settings.{Settings}
use Rattle.gs_kernel.specs.declared.landing.Landing.{Landing}
use Rattle.gs_kernel.specs.declared.effect.Effect.{Effect}
use Rattle.gs_kernel.specs.declared.effect.Effect.TheVariants.{Post}
use Rattle.gs_kernel.specs.Group.{GiveWay, GivesWay, Group, IfFits, LandsCommit, LandsGroup, PutsIf, group_in, group_landing, group_outcome, is_group_placed, left_of, placings}
use Rattle.gs_kernel.specs.Kernel.{preemption}
use Rattle.gs_kernel.specs.Landing.{verdict}
use Rattle.gs_kernel.specs.Legal.{Tells, message_in}
use Rattle.gs_kernel.specs.Lands.{Landings, Lands, LandsAll, LandsIf, LandsIn, Settles, SettlesIf, is_to_place, listed, placement, then_others}
use Rattle.gs_core.specs.Machine.{IsFit, fits_into}

not_both : (ring n : ℕ) (h : History) (x : Effect) → IfSome (message_in x) (IsFit ring n h true) → (m : Message) → message_in x ≡ Some m → IsFit ring n h false m → ⊥
not_both ring n h x fits m is not_fits =
    let fit : fits_into ring n h m ≡ true = subst (λ o. IfSome o (IsFit ring n h true)) is fits in
    false≢true (sym not_fits ∙ fit)

-- a message fits or does not
pub tells_one : (ring n : ℕ) (h : History) (x : Effect) (b c : Bool) (h1 h2 : History) → Tells (IsFit ring n) h x b h1 → Tells (IsFit ring n) h x c h2 → (b ≡ c) × (h1 ≡ h2)
tells_one ring n h x true true h1 h2 t u = (refl, t.1 ∙ sym u.1)
tells_one ring n h x false false h1 h2 t u = (refl, t.1 ∙ sym u.1)
tells_one ring n h x true false h1 h2 t u = absurd (not_both ring n h x t.0 u.0.0 u.0.1 u.0.2)
tells_one ring n h x false true h1 h2 t u = absurd (not_both ring n h x u.0 t.0.0 t.0.1 t.0.2)

settles_one : (ring n : ℕ) (s : Settings) (h : History) (k : ℕ) (b : Stamp) (o p : Outcome) (h1 h2 : History) → Settles (IsFit ring n) s h k b (verdict s h k b) o h1 → Settles (IsFit ring n) s h k b (verdict s h k b) p h2 → (o ≡ p) × (h1 ≡ h2)
settles_one ring n s h k b o p h1 h2 t u = by_verdict (is_to_place (verdict s h k b)) t u
  where
    by_verdict : (q : Bool) → SettlesIf q (IsFit ring n) s h k b (verdict s h k b) o h1 → SettlesIf q (IsFit ring n) s h k b (verdict s h k b) p h2 → (o ≡ p) × (h1 ≡ h2)
    by_verdict false t u = (t.0 ∙ sym u.0, t.1 ∙ sym u.1)
    by_verdict true t u =
        let one = tells_one ring n h (placement s h k b) t.0 u.0 h1 h2 t.2 u.2 in
        (t.1 ∙ (ap (λ f. cond f outcomes.Placed outcomes.Gone) one.0 ∙ sym u.1), one.1)

pub lands_one : (ring n : ℕ) (s : Settings) (h : History) (k : ℕ) (b : Stamp) (l m : Landing) (h1 h2 : History) → Lands (IsFit ring n) s h k b l h1 → Lands (IsFit ring n) s h k b m h2 → (l ≡ m) × (h1 ≡ h2)
lands_one ring n s h k b l m h1 h2 t u =
    let one = settles_one ring n s h k b l.outcome m.outcome h1 h2 t.settles u.settles in
    (t.values ∙ ((λ i. record { cpu = k; tid = b.tid; outcome = one.0 i; seen = seq s.first_tseq h b.tid; at = at s.cpus (one.1 i) b.tid }) ∙ sym u.values), one.1)

one_in : (ring n : ℕ) (s : Settings) (h : History) (k : ℕ) (z : SlotState) (o p : Option Landing) (x y : SlotState) (h1 h2 : History) → LandsIn (IsFit ring n) s h k z o x h1 → LandsIn (IsFit ring n) s h k z p y h2 → (o ≡ p) × (x ≡ y) × (h1 ≡ h2)
one_in ring n s h k (Stamped b) o p x y h1 h2 t u =
    let one = lands_one ring n s h k b t.0 u.0 h1 h2 t.1 u.1 in
    (t.2 ∙ (ap Some one.0 ∙ sym u.2), t.3 ∙ (ap (λ (l : Landing). Done b l.outcome l.at l.seen) one.0 ∙ sym u.3), one.1)
one_in ring n s h k Idle o p x y h1 h2 t u = (t.0 ∙ sym u.0, t.1 ∙ sym u.1, t.2 ∙ sym u.2)
one_in ring n s h k (Done b q a m) o p x y h1 h2 t u = (t.0 ∙ sym u.0, t.1 ∙ sym u.1, t.2 ∙ sym u.2)

one_if : (ring n : ℕ) (s : Settings) (wanted : Bool) (k : ℕ) (z : SlotState) (h : History) (q r : Landings) → LandsIf (IsFit ring n) s wanted k z h q → LandsIf (IsFit ring n) s wanted k z h r → q ≡ r
one_if ring n s false k z h q r t u = t ∙ sym u
one_if ring n s true k z h q r t u =
    let one = one_in ring n s h k z t.0 u.0 t.1 u.1 q.history r.history t.2 u.2 in
    let answers_are : q.answers ≡ r.answers = t.3 ∙ (ap listed one.0 ∙ sym u.3) in
    let slots_are : q.slots ≡ r.slots = t.4 ∙ (ap (λ (x : SlotState). x ∷ []) one.1 ∙ sym u.4) in
    λ i. record { answers = answers_are i; history = one.2 i; slots = slots_are i }

pub all_one : (ring n : ℕ) (s : Settings) (mask k : ℕ) (zs : List SlotState) (h : History) (q r : Landings) → LandsAll (IsFit ring n) s mask k zs h q → LandsAll (IsFit ring n) s mask k zs h r → q ≡ r
all_one ring n s mask k [] h q r t u = t ∙ sym u
all_one ring n s mask k (z ∷ zs) h q r t u =
    let one : t.0 ≡ u.0 = one_if ring n s (has mask k) k z h t.0 u.0 t.2 u.2 in
    let rest : t.1 ≡ u.1 = all_one ring n s mask (suc k) zs u.0.history t.1 u.1 (subst (λ (x : Landings). LandsAll (IsFit ring n) s mask (suc k) zs x.history t.1) one t.3) u.3 in
    t.4 ∙ ((λ i. then_others (one i) (rest i)) ∙ sym u.4)

-- ---- a group

gives_one : (ring n : ℕ) (h : History) (o : Option Message) (b c : Bool) (h1 h2 : History) → GivesWay (IsFit ring n) h o b h1 → GivesWay (IsFit ring n) h o c h2 → (b ≡ c) × (h1 ≡ h2)
gives_one ring n h None b c h1 h2 t u = (t.0 ∙ sym u.0, t.1 ∙ sym u.1)
gives_one ring n h (Some m) b c h1 h2 t u = tells_one ring n h (Post m) b c h1 h2 t u

give_one : (ring n : ℕ) (s : Settings) (g : Group) (h : History) (b c : Bool) (h1 h2 : History) → GiveWay (IsFit ring n) s g h b h1 → GiveWay (IsFit ring n) s g h c h2 → (b ≡ c) × (h1 ≡ h2)
give_one ring n s [] h b c h1 h2 t u = (t.0 ∙ sym u.0, t.1 ∙ sym u.1)
give_one ring n s (x ∷ g) h b c h1 h2 t u =
    let one = gives_one ring n h (preemption s h x.0) t.0 u.0 t.1 u.1 t.2 u.2 in
    by_first t.0 t.3 (subst (λ (p : Bool × History). IfFits p.0 (GiveWay (IsFit ring n) s g p.1 c h2) ((c ≡ false) × (h2 ≡ p.1))) (λ i. (sym one.0 i, sym one.1 i)) u.3) (give_one ring n s g t.1 b c h1 h2)
  where
    by_first : (first : Bool) → IfFits first (GiveWay (IsFit ring n) s g t.1 b h1) ((b ≡ false) × (h1 ≡ t.1)) → IfFits first (GiveWay (IsFit ring n) s g t.1 c h2) ((c ≡ false) × (h2 ≡ t.1))
        → (GiveWay (IsFit ring n) s g t.1 b h1 → GiveWay (IsFit ring n) s g t.1 c h2 → (b ≡ c) × (h1 ≡ h2)) → (b ≡ c) × (h1 ≡ h2)
    by_first true p q more = more p q
    by_first false p q more = (p.0 ∙ sym q.0, p.1 ∙ sym q.1)

puts_one : (ring n : ℕ) (s : Settings) (placed : Bool) (h : History) (g : Group) (b c : Bool) (h1 h2 : History) → PutsIf placed (IsFit ring n) s h g b h1 → PutsIf placed (IsFit ring n) s h g c h2 → (b ≡ c) × (h1 ≡ h2)
puts_one ring n s false h g b c h1 h2 t u = (t.0 ∙ sym u.0, t.1 ∙ sym u.1)
puts_one ring n s true h g b c h1 h2 t u =
    let one = give_one ring n s g h b c t.0 u.0 t.1 u.1 in
    (one.0, t.2 ∙ ((λ i. one.1 i ++ cond (one.0 i) (placings g) []) ∙ sym u.2))

group_one : (ring n : ℕ) (s : Settings) (mask : ℕ) (zs : List SlotState) (h : History) (q r : Landings) → LandsGroup (IsFit ring n) s mask zs h q → LandsGroup (IsFit ring n) s mask zs h r → q ≡ r
group_one ring n s mask zs h q r t u =
    let g : Group = group_in mask 0 zs in
    let one = puts_one ring n s (is_group_placed s h g) h g t.fit u.fit q.history r.history t.puts u.puts in
    let answers_are : q.answers ≡ r.answers = t.answers ∙ ((λ i. map (λ x. group_landing s h (one.1 i) x.0 x.1 (group_outcome s h g (one.0 i) x.0 x.1)) g) ∙ sym u.answers) in
    let slots_are : q.slots ≡ r.slots = t.slots ∙ ((λ i. by_cpu (λ k z. left_of (λ c b. group_landing s h (one.1 i) c b (group_outcome s h g (one.0 i) c b)) (has mask k) k z) 0 zs) ∙ sym u.slots) in
    λ i. record { answers = answers_are i; history = one.1 i; slots = slots_are i }

-- and a commit: the others behind the group
joined : Landings → Landings → Landings
joined a b = record { answers = a.answers ++ b.answers; history = b.history; slots = b.slots }

pub commit_one : (ring n : ℕ) (s : Settings) (mask : ℕ) (zs : List SlotState) (h : History) (q r : Landings) → LandsCommit (IsFit ring n) s mask zs h q → LandsCommit (IsFit ring n) s mask zs h r → q ≡ r
unfolding joined
commit_one ring n s mask zs h q r t u =
    let first : t.group ≡ u.group = group_one ring n s mask zs h t.group u.group t.first u.first in
    let others : LandsAll (IsFit ring n) s mask 0 u.group.slots u.group.history t.rest = subst (λ (x : Landings). LandsAll (IsFit ring n) s mask 0 x.slots x.history t.rest) first t.others in
    let rest : t.rest ≡ u.rest = all_one ring n s mask 0 u.group.slots u.group.history t.rest u.rest others u.others in
    t.whole ∙ ((λ i. joined (first i) (rest i)) ∙ sym u.whole)
