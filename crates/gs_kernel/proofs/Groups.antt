-- What a group that lands keeps of a history.
use Rattle.std.proofs.Common.{List, ◌≡◌, ℕ, suc, ◌<◌, ◌≤◌, ◌==◌, ◌++◌, ◌∷◌, [], Bool, true, false, not, nat_lt, nat_le, length, ◌+◌, length-append, cond, Option, None, Some, refl, ap, sym, subst, ◌∙◌, append_assoc, append-nil, arith, take, slice_get, zero, map}
use Rattle.std.specs.Prelude.{◌&&◌}
use Rattle.std.specs.List.{list_any}
use Rattle.std.specs.Option.{option_map}
use Rattle.std.proofs.lemmas.Bool.{and_parts, or_parts, false≢true}
use Rattle.std.proofs.lemmas.Bool.Decides.{nat_tests}
use Rattle.gs_slots.specs.declared.state.Stamp.{Stamp}
use Rattle.gs_slots.specs.declared.state.SlotState.{SlotState}
use Rattle.gs_slots.specs.declared.state.SlotState.TheVariants.{Idle, Stamped, Done}
use Rattle.gs_slots.specs.Reading.{by_cpu, state_or_idle, told_by}
use Rattle.gs_slots.specs.State.{Held}
use Rattle.gs_status.specs.Masks.{has}
use Rattle.gs_layout.specs.declared.message.Change.TheVariants.{Preempted}
use Rattle.gs_layout.specs.declared.message.Message.{Message}
use Rattle.gs_layout.specs.declared.outcome.Outcome.TheVariants as outcomes
use Rattle.gs_layout.specs.Message.{is_about}
use Rattle.gs_journal.specs.declared.entry.Entry.{Entry}
use Rattle.gs_journal.specs.declared.entry.Entry.TheVariants.{Posted, Torn}
use Rattle.gs_journal.specs.History.{History, record_in, on, at_below, messages}
use Rattle.gs_journal.proofs.Laws.{at_is, messages-push}
use Rattle.gs_threads.proofs.Laws.{messages_other, on_elsewhere, on_here, on_off, record_by, seq_by}
use Rattle.gs_kernel.specs.declared.settings.Settings.{Settings}
use Rattle.gs_kernel.specs.declared.settings.TheConstants.{LAST_TSEQ}
use Rattle.gs_kernel.specs.declared.effect.Effect.TheVariants.{Append, Post}
use Rattle.gs_kernel.specs.Kernel.{is_full, is_spent, is_spent_there, next_about, preemption}
use Rattle.gs_kernel.specs.Landing.{IsToPlace, verdict, is_generation, placing, placing_entries}
use Rattle.gs_kernel.specs.Legal.{Room, Tells}
use Rattle.gs_kernel.specs.declared.landing.Landing.{Landing}
use Rattle.gs_kernel.specs.Lands.{Landings, LandsAll, is_to_place}
use Rattle.gs_kernel.specs.Group.{GiveWay, GivesWay, Group, IfFits, LandsCommit, Puts, PutsIf, are_to_place, done_if, group_entries, group_in, group_landing, group_outcome, grouped, is_group_placed, left_of, is_named_below, own_verdict, placings}
use Rattle.gs_kernel.specs.Ready.{AreApart, AreBelow, AreFree, AreNumbered, AreReady, IsApart, IsReady, Rises}
use Rattle.gs_kernel.specs.Threads.{is_runnable, may_run_on}
use Rattle.gs_kernel.proofs.Landings.{Entails, all_map, tells_map}
use Rattle.gs_kernel.proofs.Entries.{beside_placed, beside_posted}
use Rattle.gs_kernel.proofs.Placings.{IsPlacing, on_none, placing_when, still_none, stood, to_place}

ready : (s : Settings) (h : History) (k : ℕ) (b : Stamp) → IsToPlace s h k b → IsReady s h k b
ready s h k b p = record { up = p.up; generation = p.generation; current = p.current; runnable = p.runnable; nowhere = p.nowhere; allowed = p.allowed }

ready_placing : (s : Settings) (h : History) (k : ℕ) (b : Stamp) → on h k ≡ None → IsReady s h k b → IsPlacing s h k b
ready_placing s h k b free p = record { up = p.up; generation = p.generation; current = p.current; runnable = p.runnable; nowhere = p.nowhere; allowed = p.allowed; free = free }

-- it stays so as a thread on a CPU is told that it makes way
ready_told : (s : Settings) (h : History) (j u k : ℕ) (b : Stamp) → j < s.cpus → on h j ≡ Some u → IsReady s h k b → IsReady s (h ++ Posted (next_about s h u (Preempted j)) ∷ []) k b
ready_told s h j u k b lt there p =
    let m : Message = next_about s h u (Preempted j) in
    let h' : History = h ++ Posted m ∷ [] in
    let nowhere : at_below s.cpus h b.tid ≡ None = sym (at_is s.cpus h b.tid) ∙ p.nowhere in
    let other : is_about b.tid m ≡ false = by_test b.tid nowhere (u == b.tid) refl in
    let same = messages_other h m b.tid other in
    let row : record_in h' b.tid ≡ record_in h b.tid = record_by h h' b.tid same in
    record {
      up = (beside_posted h m).torn ∙ p.up;
      generation = ap (is_generation b.generation) (beside_posted h m).active ∙ p.generation;
      current = ap (λ n. b.tseq == n) (seq_by s.first_tseq h h' b.tid same) ∙ p.current;
      runnable = ap is_runnable row ∙ p.runnable;
      nowhere = at_is s.cpus h' b.tid ∙ still_none s.cpus h h' b.tid (λ c e. stood h m c b.tid e) nowhere;
      allowed = ap (may_run_on k) row ∙ p.allowed;
    }
  where
    by_test : (t : ℕ) → at_below s.cpus h t ≡ None → (x : Bool) → (u == t) ≡ x → (u == t) ≡ false
    by_test t none false q = q
    by_test t none true q = let e : u ≡ t = grind (arith, nat_tests) in absurd (on_none s.cpus j h t none lt (there ∙ ap Some e))

-- who is on a CPU after another thread was placed was there before
placed_before : (h : History) (d : Stamp) (j c t : ℕ) → (d.tid == t) ≡ false → on (h ++ placing j d ∷ []) c ≡ Some t → on h c ≡ Some t
placed_before h d j c t other e = by_cpu (j == c) refl
  where
    some_is : (x y : ℕ) → Some x ≡ Some y → x ≡ y
    some_is x y q = cc

    by_cpu : (b : Bool) → (j == c) ≡ b → on h c ≡ Some t
    by_cpu false q = sym (on_elsewhere h d.tid d.tseq j d.generation c q) ∙ e
    by_cpu true q =
        let same : j ≡ c = grind (arith, nat_tests) in
        let is : d.tid ≡ t = some_is d.tid t (sym (on_here h d.tid d.tseq j d.generation c same) ∙ e) in
        let z : (d.tid == t) ≡ true = grind (arith, nat_tests) in
        absurd (false≢true (sym other ∙ z))

-- and as another thread is placed
ready_placed : (s : Settings) (h : History) (j k : ℕ) (d b : Stamp) → (d.tid == b.tid) ≡ false → IsReady s h k b → IsReady s (h ++ placing j d ∷ []) k b
ready_placed s h j k d b other p =
    let h' : History = h ++ placing j d ∷ [] in
    let same : messages h' b.tid ≡ messages h b.tid = messages-push h (placing j d) b.tid ∙ append-nil (messages h b.tid) in
    let row : record_in h' b.tid ≡ record_in h b.tid = record_by h h' b.tid same in
    let nowhere : at_below s.cpus h b.tid ≡ None = sym (at_is s.cpus h b.tid) ∙ p.nowhere in
    record {
      up = (beside_placed h d.tid d.tseq j d.generation).torn ∙ p.up;
      generation = ap (is_generation b.generation) (beside_placed h d.tid d.tseq j d.generation).active ∙ p.generation;
      current = ap (λ n. b.tseq == n) (seq_by s.first_tseq h h' b.tid same) ∙ p.current;
      runnable = ap is_runnable row ∙ p.runnable;
      nowhere = at_is s.cpus h' b.tid ∙ still_none s.cpus h h' b.tid (λ c e. placed_before h d j c b.tid other e) nowhere;
      allowed = ap (may_run_on k) row ∙ p.allowed;
    }

-- a CPU stays free
none_if : (o : Option ℕ) → ((t : ℕ) → o ≡ Some t → ⊥) → o ≡ None
none_if None never = refl
none_if (Some t) never = absurd (never t refl)

free_told : (h : History) (m : Message) (c : ℕ) → on h c ≡ None → on (h ++ Posted m ∷ []) c ≡ None
free_told h m c free = none_if (on (h ++ Posted m ∷ []) c) (λ t e. absurd (let z : None ≡ Some t = sym free ∙ stood h m c t e in cc))

free_placed : (h : History) (j : ℕ) (d : Stamp) (c : ℕ) → (j == c) ≡ false → on h c ≡ None → on (h ++ placing j d ∷ []) c ≡ None
free_placed h j d c other free = on_elsewhere h d.tid d.tseq j d.generation c other ∙ free

-- ---- of all of a group

all_told : (s : Settings) (h : History) (j u : ℕ) (g : Group) → j < s.cpus → on h j ≡ Some u → AreReady s h g → AreReady s (h ++ Posted (next_about s h u (Preempted j)) ∷ []) g
all_told s h j u [] lt there p = tt
all_told s h j u (x ∷ g) lt there p = (p.0, ready_told s h j u x.0 x.1 lt there p.1, all_told s h j u g lt there p.2)

all_free : (h : History) (m : Message) (g : Group) → AreFree h g → AreFree (h ++ Posted m ∷ []) g
all_free h m [] f = tt
all_free h m (x ∷ g) f = (free_told h m x.0 f.0, all_free h m g f.1)

all_placed : (s : Settings) (h : History) (x : ℕ × Stamp) (g : Group) → IsApart x g → AreReady s h g → AreReady s (h ++ placing x.0 x.1 ∷ []) g
all_placed s h x [] a p = tt
all_placed s h x (y ∷ g) a p = (p.0, ready_placed s h x.0 y.0 x.1 y.1 a.1 p.1, all_placed s h x g a.2 p.2)

all_left : (h : History) (x : ℕ × Stamp) (g : Group) → IsApart x g → AreFree h g → AreFree (h ++ placing x.0 x.1 ∷ []) g
all_left h x [] a f = tt
all_left h x (y ∷ g) a f = (free_placed h x.0 x.1 y.0 a.0 f.0, all_left h x g a.2 f.1)

-- what is kept by telling a thread on a CPU that it makes way, by placing, and by a tear-down
pub record IsKeptBy (s : Settings) (P : History → Type 0) (Q : ℕ → Stamp → Type 0) : Type 0 where
  pub told : (h : History) (t k : ℕ) → k < s.cpus → on h k ≡ Some t → P h → P (h ++ Posted (next_about s h t (Preempted k)) ∷ [])
  pub placed : (h : History) (k : ℕ) (b : Stamp) → k < s.cpus → IsPlacing s h k b → Q k b → P h → P (h ++ placing k b ∷ [])
  pub torn : (h : History) → P h → P (h ++ Torn ∷ [])

-- those that are placed are so
abbrev pub AllOf : (ℕ → Stamp → Type 0) → Group → Type 0
AllOf Q [] = Unit {0}
AllOf Q (x ∷ g) = Q x.0 x.1 × AllOf Q g

-- ---- those on the CPUs of a group make way

-- and if all were told, the whole group is ready, and the CPUs of these are free
record GaveWay (s : Settings) (P : History → Type 0) (all done g : Group) (fit : Bool) (h : History) : Type 0 where
  kept : P h
  ready : fit ≡ true → AreReady s h all
  before : fit ≡ true → AreFree h done
  free : fit ≡ true → AreFree h g

-- one of them
record MadeWay (s : Settings) (P : History → Type 0) (all done : Group) (k : ℕ) (first : Bool) (h : History) : Type 0 where
  kept : P h
  ready : first ≡ true → AreReady s h all
  before : first ≡ true → AreFree h done
  free : first ≡ true → on h k ≡ None

makes_way : (room : Room) (s : Settings) (P : History → Type 0) (Q : ℕ → Stamp → Type 0) (all done : Group) (k : ℕ) (h : History) (first : Bool) (mid : History) → IsKeptBy s P Q → k < s.cpus
    → GivesWay room h (preemption s h k) first mid → AreReady s h all → AreFree h done → P h → MadeWay s P all done k first mid
makes_way room s P Q all done k h first mid keeps lt gives are free p = by_who (on h k) refl gives
  where
    by_fit : (t : ℕ) (b : Bool) → on h k ≡ Some t → GivesWay room h (Some (next_about s h t (Preempted k))) b mid → MadeWay s P all done k b mid
    by_fit t true there g =
        let m : Message = next_about s h t (Preempted k) in
        subst (MadeWay s P all done k true) (sym g.1) (record {
          kept = keeps.told h t k lt there p;
          ready = λ e. all_told s h k t all lt there are;
          before = λ e. all_free h m done free;
          free = λ e. on_off h m t k there (let y : (t == t) ≡ true = grind (arith, nat_tests) in y);
        })
    by_fit t false there g =
        subst (MadeWay s P all done k false) (sym g.1) (record {
          kept = keeps.torn h p;
          ready = λ e. absurd (false≢true e);
          before = λ e. absurd (false≢true e);
          free = λ e. absurd (false≢true e);
        })

    by_who : (o : Option ℕ) → on h k ≡ o → GivesWay room h (option_map (λ t. next_about s h t (Preempted k)) o) first mid → MadeWay s P all done k first mid
    by_who None there g = subst (MadeWay s P all done k first) (sym g.1) (record { kept = p; ready = λ e. are; before = λ e. free; free = λ e. there })
    by_who (Some t) there g = by_fit t first there g

make_way : (room : Room) (s : Settings) (P : History → Type 0) (Q : ℕ → Stamp → Type 0) (all done g : Group) (h : History) (fit : Bool) (h' : History) → IsKeptBy s P Q → AreBelow s.cpus g
    → GiveWay room s g h fit h' → AreReady s h all → AreFree h done → P h → GaveWay s P all done g fit h'
make_way room s P Q all done [] h fit h' keeps below gives are free p =
    subst (GaveWay s P all done [] fit) (sym gives.1) (record { kept = p; ready = λ e. are; before = λ e. free; free = λ e. tt })
make_way room s P Q all done (x ∷ g) h fit h' keeps below gives are free p =
    by_first gives.0 (makes_way room s P Q all done x.0 h gives.0 gives.1 keeps below.0 gives.2 are free p) (λ w one. make_way room s P Q all (x ∷ done) g gives.1 fit h' keeps below.1 w (one.ready refl) (one.free refl, one.before refl) one.kept) gives.3
  where
    by_first : (first : Bool) → MadeWay s P all done x.0 first gives.1 → (GiveWay room s g gives.1 fit h' → MadeWay s P all done x.0 true gives.1 → GaveWay s P all (x ∷ done) g fit h')
        → IfFits first (GiveWay room s g gives.1 fit h') ((fit ≡ false) × (h' ≡ gives.1)) → GaveWay s P all done (x ∷ g) fit h'
    by_first true one more rest =
        let w : GaveWay s P all (x ∷ done) g fit h' = more rest one in
        record { kept = w.kept; ready = w.ready; before = λ e. (w.before e).1; free = λ e. ((w.before e).0, w.free e) }
    by_first false one more ends =
        subst (GaveWay s P all done (x ∷ g) fit) (sym ends.1) (record {
          kept = one.kept;
          ready = λ e. absurd (false≢true (sym ends.0 ∙ e));
          before = λ e. absurd (false≢true (sym ends.0 ∙ e));
          free = λ e. absurd (false≢true (sym ends.0 ∙ e));
        })

-- ---- and then all are placed

place_all : (s : Settings) (P : History → Type 0) (Q : ℕ → Stamp → Type 0) (g : Group) (h : History) → IsKeptBy s P Q → AllOf Q g → AreApart g → AreReady s h g → AreFree h g → P h → P (h ++ placings g)
place_all s P Q [] h keeps of apart are free p = subst P (sym (append-nil h)) p
place_all s P Q (x ∷ g) h keeps of apart are free p =
    subst P (append_assoc h (placing x.0 x.1 ∷ []) (placings g))
    (place_all s P Q g (h ++ placing x.0 x.1 ∷ []) keeps of.1 apart.1 (all_placed s h x g apart.0 are.2) (all_left h x g apart.0 free.1)
    (keeps.placed h x.0 x.1 are.0 (ready_placing s h x.0 x.1 free.0 are.1) of.0 p))

below_of : (s : Settings) (h : History) (g : Group) → AreReady s h g → AreBelow s.cpus g
below_of s h [] p = tt
below_of s h (x ∷ g) p = (p.0, below_of s h g p.2)

-- a group that is placed, or gone with the enclave
pub puts_keep : (room : Room) (s : Settings) (P : History → Type 0) (Q : ℕ → Stamp → Type 0) (g : Group) (h : History) (fit : Bool) (h' : History) → IsKeptBy s P Q → AllOf Q g → AreApart g → AreReady s h g
    → Puts room s h g fit h' → P h → P h'
puts_keep room s P Q g h fit h' keeps of apart are puts p =
    subst P (sym puts.2) (by_fit fit (make_way room s P Q g [] g h fit puts.0 keeps (below_of s h g are) puts.1 are tt p))
  where
    by_fit : (b : Bool) → GaveWay s P g [] g b puts.0 → P (puts.0 ++ cond b (placings g) [])
    by_fit true w = place_all s P Q g puts.0 keeps of apart (w.ready refl) (w.free refl) w.kept
    by_fit false w = subst P (sym (append-nil puts.0)) w.kept

-- ---- a group each of which would be placed by itself

pub own_placed : (s : Settings) (h : History) (g : Group) (k : ℕ) (b : Stamp) → is_to_place (own_verdict s h g k b) ≡ true → (verdict s h k b ≡ outcomes.Placed) × (is_named_below k b.tid g ≡ false)
own_placed s h g k b e = by_both (is_to_place (verdict s h k b)) refl (is_named_below k b.tid g) refl e
  where
    by_both : (p : Bool) → is_to_place (verdict s h k b) ≡ p → (q : Bool) → is_named_below k b.tid g ≡ q → is_to_place (cond (p && q) outcomes.GroupFailed (verdict s h k b)) ≡ true
        → (verdict s h k b ≡ outcomes.Placed) × (is_named_below k b.tid g ≡ false)
    by_both true p false q t = (to_place _ p, q)
    by_both true p true q t = absurd cc
    by_both false p q q' t = absurd (false≢true (sym p ∙ t))

are_ready : (s : Settings) (h : History) (all g : Group) (n : ℕ) → Rises n s.cpus g → are_to_place s h all g ≡ true → AreReady s h g
are_ready s h all [] n r e = tt
are_ready s h all (x ∷ g) n r e =
    let p = and_parts (is_to_place (own_verdict s h all x.0 x.1)) (are_to_place s h all g) e in
    (r.1, ready s h x.0 x.1 (placing_when s h x.0 x.1 (own_placed s h all x.0 x.1 p.0).0), are_ready s h all g (suc x.0) r.2 p.1)

-- one of them is apart from those for higher CPUs
not_equal : (a b : ℕ) → a < b → (a == b) ≡ false
not_equal a b lt = grind (arith, nat_tests)

other_thread : (a b : Bool) → a ≡ true → (a && b) ≡ false → b ≡ false
other_thread true b p e = e
other_thread false b p e = absurd (false≢true p)

lt_true : (a b : ℕ) → a < b → nat_lt a b ≡ true
lt_true a b lt = grind (arith, nat_tests)

is_apart : (s : Settings) (h : History) (all : Group) (x : ℕ × Stamp) (g : Group) (n : ℕ) → ((p : ℕ × Stamp → Bool) → list_any p all ≡ false → p x ≡ false) → x.0 < n → Rises n s.cpus g → are_to_place s h all g ≡ true → IsApart x g
is_apart s h all x [] n covers lt r e = tt
is_apart s h all x (y ∷ g) n covers lt r e =
    let p = and_parts (is_to_place (own_verdict s h all y.0 y.1)) (are_to_place s h all g) e in
    let low : x.0 < y.0 = omega (arith, lt, r.0) in
    let alone : (nat_lt x.0 y.0 && x.1.tid == y.1.tid) ≡ false = covers (λ z. nat_lt z.0 y.0 && z.1.tid == y.1.tid) (own_placed s h all y.0 y.1 p.0).1 in
    (not_equal x.0 y.0 low, other_thread (nat_lt x.0 y.0) (x.1.tid == y.1.tid) (lt_true x.0 y.0 low) alone, is_apart s h all x g (suc y.0) covers (omega (arith, low)) r.2 p.1)

are_apart : (s : Settings) (h : History) (all g : Group) (n : ℕ) → ((p : ℕ × Stamp → Bool) → list_any p all ≡ false → list_any p g ≡ false) → Rises n s.cpus g → are_to_place s h all g ≡ true → AreApart g
are_apart s h all [] n covers r e = tt
are_apart s h all (x ∷ g) n covers r e =
    let p = and_parts (is_to_place (own_verdict s h all x.0 x.1)) (are_to_place s h all g) e in (
      is_apart s h all x g (suc x.0) (λ q none. (or_parts (q x) (list_any q g) (covers q none)).0) (omega arith) r.2 p.1,
      are_apart s h all g (suc x.0) (λ q none. (or_parts (q x) (list_any q g) (covers q none)).1) r.2 p.1,
    )

-- whatever a group's message, a placing and a tear-down keep of a history, a group that lands keeps
pub group_keeps : (room : Room) (s : Settings) (P : History → Type 0) (Q : ℕ → Stamp → Type 0) (g : Group) (h : History) (fit : Bool) (h' : History) → IsKeptBy s P Q → AllOf Q g → Rises 0 s.cpus g
    → PutsIf (is_group_placed s h g) room s h g fit h' → P h → P h'
group_keeps room s P Q g h fit h' keeps of rises puts p = by_verdict (is_group_placed s h g) refl puts
  where
    by_verdict : (b : Bool) → is_group_placed s h g ≡ b → PutsIf b room s h g fit h' → P h'
    by_verdict true e t =
        let all : are_to_place s h g g ≡ true = (and_parts (are_to_place s h g g) (not (is_full s h (group_entries h g))) e).0 in
        puts_keep room s P Q g h fit h' keeps of (are_apart s h g g 0 (λ q none. none) rises all) (are_ready s h g g 0 rises all) t p
    by_verdict false e t = subst P (sym t.1) p

-- ---- what the kernel needs as it goes

-- one condition of the ring in place of another
gives_map : (a b : Room) (h : History) (o : Option Message) (fit : Bool) (h' : History) → Entails a b → GivesWay a h o fit h' → GivesWay b h o fit h'
gives_map a b h None fit h' f t = t
gives_map a b h (Some m) fit h' f t = tells_map a b h (Post m) fit h' f t

pub give_map : (a b : Room) (s : Settings) (g : Group) (h : History) (fit : Bool) (h' : History) → Entails a b → GiveWay a s g h fit h' → GiveWay b s g h fit h'
give_map a b s [] h fit h' f t = t
give_map a b s (x ∷ g) h fit h' f t = (t.0, t.1, gives_map a b h (preemption s h x.0) t.0 t.1 f t.2, by_first t.0 (λ w. give_map a b s g t.1 fit h' f w) t.3)
  where
    by_first : (first : Bool) → (GiveWay a s g t.1 fit h' → GiveWay b s g t.1 fit h') → IfFits first (GiveWay a s g t.1 fit h') ((fit ≡ false) × (h' ≡ t.1)) → IfFits first (GiveWay b s g t.1 fit h') ((fit ≡ false) × (h' ≡ t.1))
    by_first true more w = more w
    by_first false more w = w

puts_map : (placed : Bool) (a b : Room) (s : Settings) (h : History) (g : Group) (fit : Bool) (h' : History) → Entails a b → PutsIf placed a s h g fit h' → PutsIf placed b s h g fit h'
puts_map true a b s h g fit h' f t = (t.0, give_map a b s g h fit t.0 f t.1, t.2)
puts_map false a b s h g fit h' f t = t

pub commit_map : (a b : Room) (s : Settings) (mask : ℕ) (zs : List SlotState) (h : History) (r : Landings) → Entails a b → LandsCommit a s mask zs h r → LandsCommit b s mask zs h r
commit_map a b s mask zs h r f t =
    let w = t.first in
    let g : Group = group_in mask 0 zs in
    record {
      group = t.group;
      first = record { fit = w.fit; puts = puts_map (is_group_placed s h g) a b s h g w.fit t.group.history f w.puts; answers = w.answers; slots = w.slots };
      rest = t.rest;
      others = all_map a b s mask 0 t.group.slots t.group.history t.rest f t.others;
      whole = t.whole;
    }

-- who is on a CPU still can be told, after another thread made way
spent_told : (s : Settings) (h : History) (u j k : ℕ) → is_spent_there s h (on h k) ≡ false → is_spent_there s (h ++ Posted (next_about s h u (Preempted j)) ∷ []) (on (h ++ Posted (next_about s h u (Preempted j)) ∷ []) k) ≡ false
spent_told s h u j k few = by_now (on h' k) refl
  where
    m : Message
    m = next_about s h u (Preempted j)

    h' : History
    h' = h ++ Posted m ∷ []

    before : (t : ℕ) → on h' k ≡ Some t → on h k ≡ Some t
    before t e = stood h m k t e

    by_thread : (t : ℕ) (b : Bool) → (u == t) ≡ b → on h' k ≡ Some t → is_spent s h' t ≡ false
    by_thread t true q e =
        let same : u ≡ t = grind (arith, nat_tests) in
        let off : on h' k ≡ None = on_off h m t k (before t e) q in
        absurd (let z : None ≡ Some t = sym off ∙ e in cc)
    by_thread t false q e =
        ap (λ n. nat_le LAST_TSEQ n) (seq_by s.first_tseq h h' t (messages_other h m t q)) ∙ (ap (is_spent_there s h) (sym (before t e)) ∙ few)

    by_now : (o : Option ℕ) → on h' k ≡ o → is_spent_there s h' o ≡ false
    by_now None e = refl
    by_now (Some t) e = by_thread t (u == t) refl e

-- so it is of all
pub numbered_told : (s : Settings) (h : History) (u j : ℕ) (g : Group) → AreNumbered s h g → AreNumbered s (h ++ Posted (next_about s h u (Preempted j)) ∷ []) g
numbered_told s h u j [] n = tt
numbered_told s h u j (x ∷ g) n = (n.0, spent_told s h u j x.0 n.1, numbered_told s h u j g n.2)

-- the thread on a CPU made way, if there was one
pub numbered_gave : (room : Room) (s : Settings) (h : History) (j : ℕ) (first : Bool) (mid : History) (g : Group) → GivesWay room h (preemption s h j) first mid → first ≡ true → AreNumbered s h g → AreNumbered s mid g
numbered_gave room s h j first mid g gives fits n = by_who (on h j) gives
  where
    by_fit : (t : ℕ) (b : Bool) → b ≡ true → GivesWay room h (Some (next_about s h t (Preempted j))) b mid → AreNumbered s mid g
    by_fit t true e w = subst (λ z. AreNumbered s z g) (sym w.1) (numbered_told s h t j g n)
    by_fit t false e w = absurd (false≢true e)

    by_who : (o : Option ℕ) → GivesWay room h (option_map (λ t. next_about s h t (Preempted j)) o) first mid → AreNumbered s mid g
    by_who None w = subst (λ z. AreNumbered s z g) (sym w.1) n
    by_who (Some t) w = by_fit t first fits w

pub gave_few : (room : Room) (h : History) (o : Option Message) (fit : Bool) (h' : History) → GivesWay room h o fit h' → (length h ≤ length h') × (length h' ≤ length h + 1)
gave_few room h None fit h' t = (omega (arith, ap length t.1), omega (arith, ap length t.1))
gave_few room h (Some m) true h' t = let n = ap length t.1 ∙ length-append h (Posted m ∷ []) in (omega (arith, n), omega (arith, n))
gave_few room h (Some m) false h' t = let n = ap length t.1 ∙ length-append h (Torn ∷ []) in (omega (arith, n), omega (arith, n))

pub ready_then : (s : Settings) (h : History) (x : ℕ × Stamp) (g : Group) → AreApart (x ∷ g) → AreReady s h (x ∷ g) → AreReady s (h ++ placing x.0 x.1 ∷ []) g
ready_then s h x g apart are = all_placed s h x g apart.0 are.2

pub free_then : (h : History) (x : ℕ × Stamp) (g : Group) → AreApart (x ∷ g) → AreFree h (x ∷ g) → AreFree (h ++ placing x.0 x.1 ∷ []) g
free_then h x g apart free = all_left h x g apart.0 free.1

-- an entry alone is told
pub told_alone : (room : Room) (h : History) (e : Entry) (fit : Bool) (h' : History) → Tells room h (Append None e) fit h' → h' ≡ h ++ e ∷ []
told_alone room h e true h' t = t.1
told_alone room h e false h' t = absurd (let z : None ≡ Some t.0.0 = t.0.1 in cc)

-- the first made way, and then the rest
pub gave_then : (a b : Room) (s : Settings) (x : ℕ × Stamp) (g : Group) (h : History) (first : Bool) (mid : History) (fit : Bool) (h' : History) → first ≡ true → Entails b a → GivesWay a h (preemption s h x.0) first mid → GiveWay b s g mid fit h'
    → GiveWay a s (x ∷ g) h fit h'
gave_then a b s x g h first mid fit h' e later one rest = (true, mid, subst (λ q. GivesWay a h (preemption s h x.0) q mid) e one, give_map b a s g mid fit h' later rest)

-- ---- a group that is placed, in the kernel's steps

are_numbered : (s : Settings) (h : History) (all g : Group) (n : ℕ) → Rises n s.cpus g → are_to_place s h all g ≡ true → AreNumbered s h g
are_numbered s h all [] n r e = tt
are_numbered s h all (x ∷ g) n r e =
    let p = and_parts (is_to_place (own_verdict s h all x.0 x.1)) (are_to_place s h all g) e in
    let w = placing_when s h x.0 x.1 (own_placed s h all x.0 x.1 p.0).0 in
    (r.1, w.numbers, are_numbered s h all g (suc x.0) r.2 p.1)

entry_least : (o : Option ℕ) → 1 ≤ placing_entries o
entry_least None = omega arith
entry_least (Some t) = omega arith

entries_least : (h : History) (g : Group) → length g ≤ group_entries h g
entries_least h [] = omega arith
entries_least h (x ∷ g) = omega (arith, entry_least (on h x.0), entries_least h g)

not_full : (s : Settings) (h : History) (n : ℕ) → is_full s h n ≡ false → length h + n ≤ s.history
not_full s h n e = grind (arith, nat_tests)

not_true : (b : Bool) → not b ≡ true → b ≡ false
not_true false e = refl
not_true true e = absurd (false≢true e)

-- no CPU is taken up anew as a thread makes way
fewer_entries : (h : History) (m : Message) (k : ℕ) → placing_entries (on (h ++ Posted m ∷ []) k) ≤ placing_entries (on h k)
fewer_entries h m k = by_now (on (h ++ Posted m ∷ []) k) refl
  where
    by_now : (o : Option ℕ) → on (h ++ Posted m ∷ []) k ≡ o → placing_entries o ≤ placing_entries (on h k)
    by_now None e = entry_least (on h k)
    by_now (Some t) e = let q = ap placing_entries (stood h m k t e) in omega (arith, q)

all_fewer : (h : History) (m : Message) (g : Group) → group_entries (h ++ Posted m ∷ []) g ≤ group_entries h g
all_fewer h m [] = omega arith
all_fewer h m (x ∷ g) = omega (arith, fewer_entries h m x.0, all_fewer h m g)

-- what one that makes way adds, is one entry less to come
gave_one : (room : Room) (s : Settings) (h : History) (k : ℕ) (mid : History) (g : Group) → GivesWay room h (preemption s h k) true mid → (length mid + 1 ≤ length h + placing_entries (on h k)) × (group_entries mid g ≤ group_entries h g)
gave_one room s h k mid g gives = by_who (on h k) gives
  where
    by_who : (o : Option ℕ) → GivesWay room h (option_map (λ t. next_about s h t (Preempted k)) o) true mid → (length mid + 1 ≤ length h + placing_entries o) × (group_entries mid g ≤ group_entries h g)
    by_who None w = (omega (arith, ap length w.1), let q = ap (λ z. group_entries z g) w.1 in omega (arith, q))
    by_who (Some t) w =
        let m : Message = next_about s h t (Preempted k) in
        let n = ap length w.1 ∙ length-append h (Posted m ∷ []) in
        let q = ap (λ z. group_entries z g) w.1 in
        (omega (arith, n), omega (arith, q, all_fewer h m g))

gave_count : (room : Room) (s : Settings) (g : Group) (h : History) (fit : Bool) (h' : History) → fit ≡ true → GiveWay room s g h fit h' → length h' + length g ≤ length h + group_entries h g
gave_count room s [] h fit h' e t = let n = ap length t.1 in omega (arith, n)
gave_count room s (x ∷ g) h fit h' e t = by_first t.0 t.2 t.3 (λ w. gave_count room s g t.1 fit h' e w)
  where
    by_first : (first : Bool) → GivesWay room h (preemption s h x.0) first t.1 → IfFits first (GiveWay room s g t.1 fit h') ((fit ≡ false) × (h' ≡ t.1)) → (GiveWay room s g t.1 fit h' → length h' + length g ≤ length t.1 + group_entries t.1 g)
        → length h' + suc (length g) ≤ length h + (placing_entries (on h x.0) + group_entries h g)
    by_first true one rest more = let p = gave_one room s h x.0 t.1 g one in let q = more rest in omega (arith, p.0, p.1, q)
    by_first false one rest more = absurd (false≢true (sym rest.0 ∙ e))

-- what is known of a group that is placed, before and after the threads on its CPUs made way
pub record Stands (s : Settings) (h : History) (g : Group) : Type 0 where
  pub numbered : AreNumbered s h g
  pub ready : AreReady s h g
  pub apart : AreApart g
  pub least : length g ≤ group_entries h g
  pub most : length h + group_entries h g ≤ s.history

pub stands : (s : Settings) (h : History) (g : Group) → Rises 0 s.cpus g → is_group_placed s h g ≡ true → Stands s h g
stands s h g rises e =
    let p = and_parts (are_to_place s h g g) (not (is_full s h (group_entries h g))) e in
    record {
      numbered = are_numbered s h g g 0 rises p.0;
      ready = are_ready s h g g 0 rises p.0;
      apart = are_apart s h g g 0 (λ q none. none) rises p.0;
      least = entries_least h g;
      most = not_full s h (group_entries h g) (not_true _ p.1);
    }

pub record StandsThen (s : Settings) (h : History) (g : Group) (h' : History) : Type 0 where
  pub ready : AreReady s h' g
  pub free : AreFree h' g
  pub count : length h' + length g ≤ length h + group_entries h g

pub stands_then : (room : Room) (s : Settings) (h : History) (g : Group) (fit : Bool) (h' : History) → fit ≡ true → Stands s h g → GiveWay room s g h fit h' → StandsThen s h g h'
stands_then room s h g fit h' e w t =
    let nothing : IsKeptBy s (λ z. Unit {0}) (λ k b. Unit {0}) = record { told = λ z t k lt there p. tt; placed = λ z k b lt p q r. tt; torn = λ z p. tt } in
    let gave = make_way room s (λ z. Unit {0}) (λ k b. Unit {0}) g [] g h fit h' nothing (below_of s h g w.ready) t w.ready tt tt in
    record { ready = gave.ready e; free = gave.free e; count = gave_count room s g h fit h' e t }

-- CPUs that rise are the enclave's
pub rise_below : (s : Settings) (n : ℕ) (g : Group) → Rises n s.cpus g → AreBelow s.cpus g
rise_below s n [] r = tt
rise_below s n (x ∷ g) r = (r.1, rise_below s (suc x.0) g r.2)

pub rises_below : (n m more : ℕ) (g : Group) → m ≤ more → Rises n m g → Rises n more g
rises_below n m more [] le r = tt
rises_below n m more (x ∷ g) le r = (r.0, omega (arith, r.1, le), rises_below (suc x.0) m more g le r.2)

pub below_more : (n m : ℕ) (g : Group) → n ≤ m → AreBelow n g → AreBelow m g
below_more n m [] le b = tt
below_more n m (x ∷ g) le b = (omega (arith, b.0, le), below_more n m g le b.1)

-- the group of the first slots, and then of one more
pub grouped_first : (mask k i : ℕ) (zs : List SlotState) (z : SlotState) → slice_get zs i ≡ Some z → group_in mask k (take (i + 1) zs) ≡ group_in mask k (take i zs) ++ grouped (has mask (k + i)) (k + i) z
grouped_first mask k i [] z e = absurd cc
grouped_first mask k zero (y ∷ zs) z e =
    let same : y ≡ z = cc in
    let n : k ≡ k + 0 = omega arith in
    append-nil (grouped (has mask k) k y) ∙ ((λ j. grouped (has mask k) k (same j)) ∙ ap (λ m. grouped (has mask m) m z) n)
grouped_first mask k (suc i) (y ∷ zs) z e =
    let n : suc k + i ≡ k + suc i = omega arith in
    let m : suc i + 1 ≡ suc (i + 1) = omega arith in
    ap (λ q. group_in mask k (take q (y ∷ zs))) m
    ∙ (ap (λ g. grouped (has mask k) k y ++ g) (grouped_first mask (suc k) i zs z e ∙ ap (λ q. group_in mask (suc k) (take i zs) ++ grouped (has mask q) q z) n)
    ∙ sym (append_assoc (grouped (has mask k) k y) (group_in mask (suc k) (take i zs)) (grouped (has mask (k + suc i)) (k + suc i) z)))

pub get_told : (hs : List Held) (i : ℕ) (x : Held) → slice_get hs i ≡ Some x → slice_get (map state_or_idle hs) i ≡ Some (state_or_idle x)
get_told [] i x e = absurd cc
get_told (y ∷ hs) zero x e = let same : y ≡ x = cc in ap (λ h. Some (state_or_idle h)) same
get_told (y ∷ hs) (suc i) x e = get_told hs i x e

pub told_count : (k : ℕ) (region : List (List ℕ)) → length (told_by k region) ≡ length region
told_count k [] = refl
told_count k (z ∷ zs) = ap suc (told_count (suc k) zs)

-- ---- a commit without a group

both_empty : {A : Type 0} (xs ys : List A) → xs ++ ys ≡ [] → (xs ≡ []) × (ys ≡ [])
both_empty [] ys e = (refl, e)
both_empty (x ∷ xs) ys e = absurd cc

pub none_put : (room : Room) (s : Settings) (h : History) (placed : Bool) → PutsIf placed room s h [] true h
none_put room s h true = (h, (refl, refl), sym (append-nil h))
none_put room s h false = (refl, refl)

slot_stays : (l : ℕ → Stamp → Landing) (wanted : Bool) (k : ℕ) (z : SlotState) → grouped wanted k z ≡ [] → left_of l wanted k z ≡ z
slot_stays l false k z e = refl
slot_stays l true k Idle e = refl
slot_stays l true k (Done b o a n) e = refl
slot_stays l true k (Stamped b) e = by_flag b.flags.group e
  where
    by_flag : (f : Bool) → cond {A = Group} f ((k, b) ∷ []) [] ≡ [] → done_if f b (l k b) ≡ Stamped b
    by_flag true e = absurd cc
    by_flag false e = refl

slots_stay : (l : ℕ → Stamp → Landing) (mask k : ℕ) (zs : List SlotState) → group_in mask k zs ≡ [] → by_cpu (λ c z. left_of l (has mask c) c z) k zs ≡ zs
slots_stay l mask k [] e = refl
slots_stay l mask k (z ∷ zs) e =
    let p = both_empty (grouped (has mask k) k z) (group_in mask (suc k) zs) e in
    λ i. slot_stays l (has mask k) k z p.0 i ∷ slots_stay l mask (suc k) zs p.1 i

-- it lands its slots one after another, and nothing else
pub commit_alone : (room : Room) (s : Settings) (mask : ℕ) (zs : List SlotState) (h : History) (r : Landings) → group_in mask 0 zs ≡ [] → LandsAll room s mask 0 zs h r → LandsCommit room s mask zs h r
commit_alone room s mask zs h r e t =
    let l : ℕ → Stamp → Landing = λ c b. group_landing s h h c b (group_outcome s h (group_in mask 0 zs) true c b) in
    record {
      group = record { answers = []; history = h; slots = zs };
      first = record {
        fit = true;
        puts = subst (λ (g : Group). PutsIf (is_group_placed s h g) room s h g true h) (sym e) (none_put room s h (is_group_placed s h []));
        answers = ap (λ (g : Group). map (λ x. l x.0 x.1) g) (sym e);
        slots = sym (slots_stay l mask 0 zs e);
      };
      rest = r;
      others = t;
      whole = refl;
    }
