-- Landings one after another.
use Rattle.std.proofs.Common.{◌≡◌, ℕ, suc, ◌+◌, ◌<◌, ◌≤◌, ◌⊎◌, inl, inr, cond, Bool, true, false, Option, None, Some, Ok, Err, IfSome, List, [], ◌∷◌, ◌++◌, length, take, drop, slice_get, slice_set, get_or, drop-cons, length-take, refl, ap, sym, subst, ◌∙◌, append_assoc, length-append, arith}
use Rattle.std.proofs.lemmas.List.{take_more}
use Rattle.std.proofs.Common.{append-nil}
use Rattle.gs_layout.specs.declared.message.Message.{Message}
use Rattle.gs_layout.specs.declared.outcome.Outcome.{Outcome}
use Rattle.gs_layout.specs.declared.outcome.Outcome.TheVariants as outcomes
use Rattle.gs_slots.specs.declared.state.SlotState.{SlotState}
use Rattle.gs_slots.specs.declared.state.SlotState.TheVariants.{Idle, Stamped, Done}
use Rattle.gs_slots.specs.declared.state.Stamp.{Stamp}
use Rattle.gs_slots.specs.Reading.{state_in}
use Rattle.gs_slots.specs.State.{Held}
use Rattle.gs_status.specs.Masks.{has}
use Rattle.gs_journal.specs.declared.entry.Entry.TheVariants.{Torn}
use Rattle.gs_journal.specs.History.{History, at}
use Rattle.gs_kernel.specs.declared.settings.Settings.{Settings}
use Rattle.gs_kernel.specs.declared.landing.Landing.{Landing}
use Rattle.gs_kernel.specs.Kernel.{preemption}
use Rattle.gs_kernel.specs.Landing.{verdict, placing}
use Rattle.gs_kernel.specs.declared.effect.Effect.{Effect}
use Rattle.gs_kernel.specs.declared.effect.Effect.TheVariants.{Append}
use Rattle.gs_kernel.specs.Legal.{Room, RoomOf, Tells, entries_in, message_in}
use Rattle.gs_kernel.specs.Lands.{Adds, Landings, LandingsOf, Lands, LandsAll, LandsAllBy, LandsBytes, LandsHeld, LandsIf, LandsIfBy, LandsIn, LandsOn, Settles, SettlesIf, is_to_place, listed, placement, then_others}
use Rattle.gs_kernel.proofs.Placings.{placed_seq, placement_at, placing_when, to_place, torn_at}

-- a transaction that is to be placed is placed, or the enclave is torn down in place of that
pub record IsPut (room : Room) (s : Settings) (h : History) (k : ℕ) (b : Stamp) (o : Outcome) (h' : History) : Type 0 where
  pub placed : verdict s h k b ≡ outcomes.Placed
  pub fit : Bool
  pub outcome : o ≡ cond fit outcomes.Placed outcomes.Gone
  pub tells : Tells room h (placement s h k b) fit h'

-- or nothing comes of it
pub record IsLeft (s : Settings) (h : History) (k : ℕ) (b : Stamp) (o : Outcome) (h' : History) : Type 0 where
  pub other : is_to_place (verdict s h k b) ≡ false
  pub outcome : o ≡ verdict s h k b
  pub history : h' ≡ h

pub settles_cases : (room : Room) (s : Settings) (h : History) (k : ℕ) (b : Stamp) (o : Outcome) (h' : History) → Settles room s h k b (verdict s h k b) o h' → IsPut room s h k b o h' ⊎ IsLeft s h k b o h'
settles_cases room s h k b o h' t = by_verdict (is_to_place (verdict s h k b)) refl t
  where
    by_verdict : (p : Bool) → is_to_place (verdict s h k b) ≡ p → SettlesIf p room s h k b (verdict s h k b) o h' → IsPut room s h k b o h' ⊎ IsLeft s h k b o h'
    by_verdict true e t = inl (record { placed = to_place _ e; fit = t.0; outcome = t.1; tells = t.2 })
    by_verdict false e t = inr (record { other = e; outcome = t.0; history = t.1 })

-- what a placing and a tear-down keep of a history, a landing keeps
pub landing_keeps : (P : History → Type 0) (room : Room) (s : Settings) (h : History) (k : ℕ) (b : Stamp) (o : Outcome) (h' : History) → Settles room s h k b (verdict s h k b) o h'
    → (verdict s h k b ≡ outcomes.Placed → P (h ++ entries_in (placement s h k b))) → P (h ++ Torn ∷ []) → P h → P h'
landing_keeps P room s h k b o h' t placed torn was = by_case (settles_cases room s h k b o h' t)
  where
    by_fit : (fit : Bool) → verdict s h k b ≡ outcomes.Placed → Tells room h (placement s h k b) fit h' → P h'
    by_fit true e t = subst P (sym t.1) (placed e)
    by_fit false e t = subst P (sym t.1) torn

    by_case : IsPut room s h k b o h' ⊎ IsLeft s h k b o h' → P h'
    by_case (inl p) = by_fit p.fit p.placed p.tells
    by_case (inr p) = subst P (sym p.history) was

-- what is to be placed lands with the number that was stamped: on its CPU, or nowhere if the enclave was torn down
pub lands_placed : (room : Room) (s : Settings) (h : History) (k : ℕ) (b : Stamp) (h' : History) → k < s.cpus → verdict s h k b ≡ outcomes.Placed → Tells room h (placement s h k b) true h'
    → Lands room s h k b (record { cpu = k; tid = b.tid; outcome = outcomes.Placed; seen = b.tseq; at = Some k }) h'
lands_placed room s h k b h' lt placed tells =
    let p = placing_when s h k b placed in
    let there : Some k ≡ at s.cpus h' b.tid = sym (ap (λ (g : History). at s.cpus g b.tid) tells.1 ∙ placement_at s h k b lt p) in
    record {
      settles = subst (λ (v : Outcome). Settles room s h k b v outcomes.Placed h') (sym placed) (true, refl, tells);
      values = λ i. record { cpu = k; tid = b.tid; outcome = outcomes.Placed; seen = placed_seq s h k b p i; at = there i };
    }

pub lands_gone : (room : Room) (s : Settings) (h : History) (k : ℕ) (b : Stamp) (h' : History) → verdict s h k b ≡ outcomes.Placed → Tells room h (placement s h k b) false h'
    → Lands room s h k b (record { cpu = k; tid = b.tid; outcome = outcomes.Gone; seen = b.tseq; at = None }) h'
lands_gone room s h k b h' placed tells =
    let nowhere : None ≡ at s.cpus h' b.tid = sym (ap (λ (g : History). at s.cpus g b.tid) tells.1 ∙ torn_at s.cpus h b.tid) in
    record {
      settles = subst (λ (v : Outcome). Settles room s h k b v outcomes.Gone h') (sym placed) (false, refl, tells);
      values = λ i. record { cpu = k; tid = b.tid; outcome = outcomes.Gone; seen = placed_seq s h k b (placing_when s h k b placed) i; at = nowhere i };
    }

-- what was stamped in a slot landed
pub record HasLanded (room : Room) (s : Settings) (h : History) (k : ℕ) (z : SlotState) (r : Landings) : Type 0 where
  pub stamp : Stamp
  pub landing : Landing
  pub was : z ≡ Stamped stamp
  pub lands : Lands room s h k stamp landing r.history
  pub answers : r.answers ≡ landing ∷ []
  pub slots : r.slots ≡ Done stamp landing.outcome landing.at landing.seen ∷ []

-- or the slot stays as it is
pub record HasStayed (h : History) (z : SlotState) (r : Landings) : Type 0 where
  pub answers : r.answers ≡ []
  pub history : r.history ≡ h
  pub slots : r.slots ≡ z ∷ []

pub if_cases : (room : Room) (s : Settings) (wanted : Bool) (k : ℕ) (z : SlotState) (h : History) (r : Landings) → LandsIf room s wanted k z h r → HasLanded room s h k z r ⊎ HasStayed h z r
if_cases room s false k z h r t = inr (record { answers = ap (λ (q : Landings). q.answers) t; history = ap (λ (q : Landings). q.history) t; slots = ap (λ (q : Landings). q.slots) t })
if_cases room s true k (Stamped b) h r t = inl (record { stamp = b; landing = t.2.0; was = refl; lands = t.2.1; answers = t.3 ∙ ap listed t.2.2; slots = t.4 ∙ ap (λ (y : SlotState). y ∷ []) t.2.3 })
if_cases room s true k Idle h r t = inr (record { answers = t.3 ∙ ap listed t.2.0; history = t.2.2; slots = t.4 ∙ ap (λ (y : SlotState). y ∷ []) t.2.1 })
if_cases room s true k (Done b p a n) h r t = inr (record { answers = t.3 ∙ ap listed t.2.0; history = t.2.2; slots = t.4 ∙ ap (λ (y : SlotState). y ∷ []) t.2.1 })

-- what each landing keeps of a history, landings keep
pub all_keep : (P : History → Type 0) (room : Room) (s : Settings) (mask k : ℕ) (zs : List SlotState) (h : History) (r : Landings)
    → ((i c : ℕ) (b : Stamp) (o : Outcome) (g h' : History) → c ≡ k + i → slice_get zs i ≡ Some (Stamped b) → Settles room s g c b (verdict s g c b) o h' → P g → P h')
    → LandsAll room s mask k zs h r → P h → P r.history
all_keep P room s mask k [] h r step t p = subst (λ (q : Landings). P q.history) (sym t) p
all_keep P room s mask k (z ∷ zs) h r step t p =
    subst (λ (q : Landings). P q.history) (sym t.4)
    (all_keep P room s mask (suc k) zs t.0.history t.1 (λ i c b o g h' is. step (suc i) c b o g h' (omega (arith, is))) t.3 (by_case t.0 (if_cases room s (has mask k) k z h t.0 t.2)))
  where
    by_case : (one : Landings) → HasLanded room s h k z one ⊎ HasStayed h z one → P one.history
    by_case one (inl l) = step 0 k l.stamp l.landing.outcome h one.history (omega arith) (ap Some l.was) l.lands.settles p
    by_case one (inr q) = subst P (sym q.history) p

-- one condition of the ring in place of another
abbrev pub Entails : Room → Room → Type 0
Entails a b = (h : History) (fit : Bool) (m : Message) → a h fit m → b h fit m

some_map : {A : Type 0} (P Q : A → Type 0) (o : Option A) → ((x : A) → P x → Q x) → IfSome o P → IfSome o Q
some_map P Q None f p = tt
some_map P Q (Some x) f p = f x p

pub tells_map : (a b : Room) (h : History) (x : Effect) (fit : Bool) (h' : History) → Entails a b → Tells a h x fit h' → Tells b h x fit h'
tells_map a b h x true h' f t = (some_map (a h true) (b h true) (message_in x) (f h true) t.0, t.1)
tells_map a b h x false h' f t = ((t.0.0, t.0.1, f h false t.0.0 t.0.2), t.1)

pub settles_map : (a b : Room) (s : Settings) (h : History) (k : ℕ) (x : Stamp) (v o : Outcome) (h' : History) → Entails a b → Settles a s h k x v o h' → Settles b s h k x v o h'
settles_map a b s h k x v o h' f t = by_verdict (is_to_place v) t
  where
    by_verdict : (p : Bool) → SettlesIf p a s h k x v o h' → SettlesIf p b s h k x v o h'
    by_verdict true t = (t.0, t.1, tells_map a b h (placement s h k x) t.0 h' f t.2)
    by_verdict false t = t

pub lands_map : (a b : Room) (s : Settings) (h : History) (k : ℕ) (x : Stamp) (l : Landing) (h' : History) → Entails a b → Lands a s h k x l h' → Lands b s h k x l h'
lands_map a b s h k x l h' f t = record { settles = settles_map a b s h k x (verdict s h k x) l.outcome h' f t.settles; values = t.values }

pub in_map : (a b : Room) (s : Settings) (h : History) (k : ℕ) (z : SlotState) (o : Option Landing) (z' : SlotState) (h' : History) → Entails a b → LandsIn a s h k z o z' h' → LandsIn b s h k z o z' h'
in_map a b s h k (Stamped x) o z' h' f t = (t.0, lands_map a b s h k x t.0 h' f t.1, t.2, t.3)
in_map a b s h k Idle o z' h' f t = t
in_map a b s h k (Done x p q n) o z' h' f t = t

held_map : (a b : Room) (s : Settings) (h : History) (k : ℕ) (x : Held) (o : Option Landing) (x' : Held) (h' : History) → Entails a b → LandsHeld a s h k x o x' h' → LandsHeld b s h k x o x' h'
held_map a b s h k (Ok z) o x' h' f t = (t.0, in_map a b s h k z o t.0 h' f t.1, t.2)
held_map a b s h k (Err e) o x' h' f t = t

-- one way to land in place of another
abbrev pub EntailsOn : {Z : Type 0} → LandsOn Z → LandsOn Z → Type 0
EntailsOn A B = (h : History) (k : ℕ) (z : _) (o : Option Landing) (z' : _) (h' : History) → A h k z o z' h' → B h k z o z' h'

pub if_map : {Z : Type 0} (A B : LandsOn Z) (wanted : Bool) (k : ℕ) (z : Z) (h : History) (r : LandingsOf Z) → EntailsOn A B → LandsIfBy A wanted k z h r → LandsIfBy B wanted k z h r
if_map A B false k z h r f t = t
if_map A B true k z h r f t = (t.0, t.1, f h k z t.0 t.1 r.history t.2, t.3, t.4)

pub all_map_by : {Z : Type 0} (A B : LandsOn Z) (mask k : ℕ) (zs : List Z) (h : History) (r : LandingsOf Z) → EntailsOn A B → LandsAllBy A mask k zs h r → LandsAllBy B mask k zs h r
all_map_by A B mask k [] h r f t = t
all_map_by A B mask k (z ∷ zs) h r f t = (t.0, t.1, if_map A B (has mask k) k z h t.0 f t.2, all_map_by A B mask (suc k) zs t.0.history t.1 f t.3, t.4)

pub all_map : (a b : Room) (s : Settings) (mask k : ℕ) (zs : List SlotState) (h : History) (r : Landings) → Entails a b → LandsAll a s mask k zs h r → LandsAll b s mask k zs h r
all_map a b s mask k zs h r f = all_map_by (LandsIn a s) (LandsIn b s) mask k zs h r (λ g n z o z' g' t. in_map a b s g n z o z' g' f t)

pub bytes_map : (a b : Room) (s : Settings) → Entails a b → EntailsOn (LandsBytes a s) (LandsBytes b s)
bytes_map a b s f h k x o x' h' t = held_map a b s h k (state_in k x) o (state_in k x') h' f t

-- a ring later on tells of no more
pub room_later : {P : Type 0} (same : P → P → Type 0) (consumed : P → ℕ) (sent : P → List Message → Type 0) (tight : P → Message → Type 0) (p q : P) → ((a b c : P) → same a b → same b c → same a c) → same p q → consumed q ≡ consumed p
    → Entails (RoomOf same consumed sent tight q) (RoomOf same consumed sent tight p)
room_later same consumed sent tight p q trans s t h true m x = (x.0, trans p q x.0 s x.1, x.2 ∙ t, x.3, x.4, x.5, x.6, x.7)
room_later same consumed sent tight p q trans s t h false m x = (x.0, trans p q x.0 s x.1, x.2 ∙ t, x.3, x.4)

-- one more slot lands behind others
others_assoc : {Z : Type 0} (a b c : LandingsOf Z) → then_others a (then_others b c) ≡ then_others (then_others a b) c
others_assoc a b c = λ i. record { answers = sym (append_assoc a.answers b.answers c.answers) i; history = c.history; slots = sym (append_assoc a.slots b.slots c.slots) i }

pub all_push : {Z : Type 0} (L : LandsOn Z) (mask k n : ℕ) (zs : List Z) (z : Z) (h : History) (r one : LandingsOf Z) → n ≡ k + length zs → LandsAllBy L mask k zs h r → LandsIfBy L (has mask n) n z r.history one
    → LandsAllBy L mask k (zs ++ z ∷ []) h (then_others r one)
all_push {Z} L mask k n [] z h r one is t x = (
  one,
  record { answers = []; history = one.history; slots = [] },
  subst (λ j. LandsIfBy L (has mask j) j z h one) (omega (arith, is)) (subst (λ (y : History). LandsIfBy L (has mask n) n z y one) (ap (λ (q : LandingsOf Z). q.history) t) x),
  refl,
  ap (λ q. then_others q one) t ∙ (λ i. record { answers = sym (append-nil one.answers) i; history = one.history; slots = sym (append-nil one.slots) i }),
)
all_push {Z} L mask k n (y ∷ zs) z h r one is t x = (
  t.0,
  then_others t.1 one,
  t.2,
  all_push L mask (suc k) n zs z t.0.history t.1 one (omega (arith, is)) t.3 (subst (λ (w : History). LandsIfBy L (has mask n) n z w one) (ap (λ (q : LandingsOf Z). q.history) t.4) x),
  ap (λ q. then_others q one) t.4 ∙ sym (others_assoc t.0 t.1 one),
)

-- each slot stays one
if_count : {Z : Type 0} (L : LandsOn Z) (wanted : Bool) (k : ℕ) (z : Z) (h : History) (r : LandingsOf Z) → LandsIfBy L wanted k z h r → length r.slots ≡ 1
if_count {Z} L false k z h r t = ap (λ (q : LandingsOf Z). length q.slots) t
if_count {Z} L true k z h r t = ap length t.4

pub all_count : {Z : Type 0} (L : LandsOn Z) (mask k : ℕ) (zs : List Z) (h : History) (r : LandingsOf Z) → LandsAllBy L mask k zs h r → length r.slots ≡ length zs
all_count {Z} L mask k [] h r t = ap (λ (q : LandingsOf Z). length q.slots) t
all_count {Z} L mask k (z ∷ zs) h r t =
    ap (λ (q : LandingsOf Z). length q.slots) t.4 ∙ (length-append t.0.slots t.1.slots ∙ omega (arith, if_count L (has mask k) k z h t.0 t.2, all_count L mask (suc k) zs t.0.history t.1 t.3))

-- no more than two entries
placement_few : (s : Settings) (h : History) (k : ℕ) (x : Stamp) → length (entries_in (placement s h k x)) ≤ 2
placement_few s h k x = by_who (preemption s h k)
  where
    by_who : (o : Option Message) → length (entries_in (Append o (placing k x))) ≤ 2
    by_who None = omega arith
    by_who (Some m) = omega arith

tells_few : (room : Room) (h : History) (x : Effect) (fit : Bool) (h' : History) → length (entries_in x) ≤ 2 → Tells room h x fit h' → (length h ≤ length h') × (length h' ≤ length h + 2)
tells_few room h x true h' few t = let n = ap length t.1 ∙ length-append h (entries_in x) in (omega (arith, n), omega (arith, n, few))
tells_few room h x false h' few t = let n = ap length t.1 ∙ length-append h (Torn ∷ []) in (omega (arith, n), omega (arith, n))

same_few : (h h' : History) → h' ≡ h → (length h ≤ length h') × (length h' ≤ length h + 2)
same_few h h' e = (omega (arith, ap length e), omega (arith, ap length e))

pub settles_few : (room : Room) (s : Settings) (h : History) (k : ℕ) (x : Stamp) (v o : Outcome) (h' : History) → Settles room s h k x v o h' → (length h ≤ length h') × (length h' ≤ length h + 2)
settles_few room s h k x v o h' t = by_verdict (is_to_place v) t
  where
    by_verdict : (p : Bool) → SettlesIf p room s h k x v o h' → (length h ≤ length h') × (length h' ≤ length h + 2)
    by_verdict true t = tells_few room h (placement s h k x) t.0 h' (placement_few s h k x) t.2
    by_verdict false t = same_few h h' t.1

pub in_few : (room : Room) (s : Settings) (h : History) (k : ℕ) (z : SlotState) (o : Option Landing) (z' : SlotState) (h' : History) → LandsIn room s h k z o z' h' → (length h ≤ length h') × (length h' ≤ length h + 2)
in_few room s h k (Stamped x) o z' h' t = settles_few room s h k x (verdict s h k x) t.0.outcome h' t.1.settles
in_few room s h k Idle o z' h' t = same_few h h' t.2
in_few room s h k (Done x p q n) o z' h' t = same_few h h' t.2

pub held_few : (room : Room) (s : Settings) (h : History) (k : ℕ) (x : Held) (o : Option Landing) (x' : Held) (h' : History) → LandsHeld room s h k x o x' h' → (length h ≤ length h') × (length h' ≤ length h + 2)
held_few room s h k (Ok z) o x' h' t = in_few room s h k z o t.0 h' t.1
held_few room s h k (Err e) o x' h' t = same_few h h' t.2

-- a slot that was not wanted, and one that was
pub unasked_adds : {Z : Type 0} (L : LandsOn Z) (wanted : Bool) (k : ℕ) (z : Z) (h : History) (before : List Landing) → wanted ≡ false → Adds (LandsIfBy L wanted k z h) before before (z ∷ []) h
unasked_adds L wanted k z h before is =
    record {
      made = record { answers = []; history = h; slots = z ∷ [] };
      lands = subst (λ w. LandsIfBy L w k z h (record { answers = []; history = h; slots = z ∷ [] })) (sym is) refl;
      answers = sym (append-nil before);
      slots = refl;
      history = refl;
    }

pub asked_adds : {Z : Type 0} (L : LandsOn Z) (wanted : Bool) (k : ℕ) (z : Z) (h : History) (o : Option Landing) (z' : Z) (h' : History) (before after : List Landing) → wanted ≡ true → L h k z o z' h' → after ≡ before ++ listed o
    → Adds (LandsIfBy L wanted k z h) before after (z' ∷ []) h'
asked_adds L wanted k z h o z' h' before after is t q =
    record {
      made = record { answers = listed o; history = h'; slots = z' ∷ [] };
      lands = subst (λ w. LandsIfBy L w k z h (record { answers = listed o; history = h'; slots = z' ∷ [] })) (sym is) (o, z', t, refl, refl);
      answers = q;
      slots = refl;
      history = refl;
    }

-- the first slots landed, and the rest is as it was
pub record SoFar {Z : Type 0} (R : LandingsOf Z → Type 0) (before after : List Landing) (region rest : List Z) (h' : History) : Type 0 where
  pub made : LandingsOf Z
  pub lands : R made
  pub answers : after ≡ before ++ made.answers
  pub slots : region ≡ made.slots ++ rest
  pub history : h' ≡ made.history

pub get_middle : {A : Type 0} (xs ys : List A) (z : A) → slice_get (xs ++ z ∷ ys) (length xs) ≡ Some z
get_middle [] ys z = refl
get_middle (x ∷ xs) ys z = get_middle xs ys z

pub set_middle : {A : Type 0} (xs ys : List A) (z w : A) → slice_set (xs ++ z ∷ ys) (length xs) w ≡ xs ++ w ∷ ys
set_middle [] ys z w = refl
set_middle (x ∷ xs) ys z w = ap (λ r. x ∷ r) (set_middle xs ys z w)

same_value : {A : Type 0} (x z : A) → Some z ≡ Some x → x ≡ z
same_value x z e = cc

pub so_far_push : {Z : Type 0} (L : LandsOn Z) (mask i : ℕ) (old region : List Z) (x y : Z) (h now later : History) (before mid after : List Landing) → i < length old
    → SoFar (LandsAllBy L mask 0 (take i old) h) before mid region (drop i old) now → slice_get region i ≡ Some x → Adds (LandsIfBy L (has mask i) i x now) mid after (y ∷ []) later
    → SoFar (LandsAllBy L mask 0 (take (i + 1) old) h) before after (slice_set region i y) (drop (i + 1) old) later
so_far_push {Z} L mask i old region x y h now later before mid after lt t found one =
    let a : LandingsOf Z = t.made in
    let z : Z = get_or old i x in
    let rest : List Z = drop (i + 1) old in
    let front : length (take i old) ≡ i = omega (arith, length-take i old) in
    let n : length a.slots ≡ i = all_count L mask 0 (take i old) h a t.lands ∙ front in
    let cut : drop i old ≡ z ∷ rest = drop-cons old i x lt ∙ ap (λ m. z ∷ drop m old) (let q : suc i ≡ i + 1 = omega arith in q) in
    let whole : region ≡ a.slots ++ z ∷ rest = t.slots ∙ ap (λ (w : List Z). a.slots ++ w) cut in
    let here : Some z ≡ Some x = sym (get_middle a.slots rest z) ∙ (ap (slice_get (a.slots ++ z ∷ rest)) n ∙ (ap (λ (w : List Z). slice_get w i) (sym whole) ∙ found)) in
    let same : x ≡ z = same_value x z here in
    let lands : LandsIfBy L (has mask i) i z a.history one.made = subst (λ (w : Z). LandsIfBy L (has mask i) i w a.history one.made) same (subst (λ (w : History). LandsIfBy L (has mask i) i x w one.made) t.history one.lands) in
    let set_here : slice_set region i y ≡ a.slots ++ y ∷ rest = ap (λ (w : List Z). slice_set w i y) whole ∙ (ap (λ j. slice_set (a.slots ++ z ∷ rest) j y) (sym n) ∙ set_middle a.slots rest z y) in
    record {
      made = then_others a one.made;
      lands = subst (λ (zs : List Z). LandsAllBy L mask 0 zs h (then_others a one.made)) (sym (take_more old i x lt)) (all_push L mask 0 i (take i old) z h a one.made (omega (arith, front)) t.lands lands);
      answers = one.answers ∙ (ap (λ (w : List Landing). w ++ one.made.answers) t.answers ∙ append_assoc before a.answers one.made.answers);
      slots = set_here ∙ (sym (append_assoc a.slots (y ∷ []) rest) ∙ ap (λ (w : List Z). (a.slots ++ w) ++ rest) one.slots);
      history = one.history;
    }
