-- What a call of a locked enclave adds to the history.
use Rattle.std.proofs.Common.{◌≡◌, ℕ, suc, ◌≤◌, Bool, true, false, Option, None, Some, Result, Ok, Err, List, [], ◌∷◌, ◌++◌, length, refl, ap, sym, subst, ◌∙◌, arith, append_assoc, append-nil, length-append, inl, inr, ◌⊎◌}
use Rattle.gs_layout.specs.declared.outcome.Outcome.{Outcome}
use Rattle.gs_layout.specs.declared.message.Message.{Message}
use Rattle.gs_slots.specs.Reading.{state_in, told_by}
use Rattle.gs_slots.specs.State.{Held}
use Rattle.gs_slots.specs.declared.state.SlotState.{SlotState}
use Rattle.gs_slots.specs.declared.state.SlotState.TheVariants.{Idle, Stamped, Done}
use Rattle.gs_slots.specs.declared.state.Stamp.{Stamp}
use Rattle.gs_journal.specs.declared.entry.Entry.{Entry}
use Rattle.gs_journal.specs.declared.entry.Entry.TheVariants.{Posted, Torn}
use Rattle.gs_journal.specs.History.{History}
use Rattle.gs_kernel.specs.declared.settings.Settings.{Settings}
use Rattle.gs_kernel.specs.declared.landing.Landing.{Landing}
use Rattle.gs_kernel.specs.declared.effect.Effect.TheVariants.{Append}
use Rattle.gs_layout.specs.declared.refusal.Refusal.{Refusal}
use Rattle.gs_kernel.specs.declared.executed.Executed.{Executed}
use Rattle.gs_kernel.specs.declared.executed.Executed.TheVariants as executed
use Rattle.gs_kernel.specs.declared.command.Command.{Command}
use Rattle.gs_kernel.specs.declared.command.Command.TheVariants as told
use Rattle.gs_kernel.specs.Kernel.{preemption}
use Rattle.gs_kernel.specs.Landing.{placing}
use Rattle.gs_kernel.specs.Group.{CommitsRegion, GiveWay, GivesWay, Group, IfFits, Puts, PutsIf, group_in, is_group_placed, placings}
use Rattle.gs_kernel.specs.Lands.{LandingsOf, LandsBytes, LandsHeld, LandsIfBy, LandsIn, LandsRegion, placement}
use Rattle.gs_kernel.specs.Legal.{Legal, Room, Tells, effect, entries_in}
use Rattle.gs_kernel.proofs.Laws.{IsLeft, IsPut, settles_cases}
use Rattle.gs_replies.specs.declared.reply.Reply.{Reply}
use Rattle.gs_replies.specs.declared.reply.Reply.TheVariants as replies
use Rattle.gs_runner.specs.declared.call.Called.{Called}
use Rattle.gs_runner.specs.declared.call.Called.TheVariants.{Served, Committed}
use Rattle.gs_runner.specs.declared.command.Command.TheVariants as commands
use Rattle.gs_runner.specs.Calls.{Commits, LegalCall, LegalLand, LegalPage, named_cpu}
use Rattle.gs_status.specs.Masks.{has}
use Rattle.gs_runner.specs.Enclaves.{generation_number}
use Rattle.gs_runner.proofs.Generations.{quiet, told_rises, torn_rises}

-- a history goes on, and its generations do not fall
pub record GoesOn (h h' : History) : Type 0 where
  pub more : List Entry
  pub all : h' ≡ h ++ more
  pub rises : generation_number h ≤ generation_number h'

stays : (h h' : History) → h' ≡ h → GoesOn h h'
stays h h' e = record { more = []; all = e ∙ sym (append-nil h); rises = let s : generation_number h' ≡ generation_number h = ap generation_number e in omega (arith, s) }

pub goes_longer : (h h' : History) → GoesOn h h' → length h ≤ length h'
goes_longer h h' g = let n = ap length g.all in let k = length-append h g.more in omega (arith, n, k)

goes_then : (a b c : History) → GoesOn a b → GoesOn b c → GoesOn a c
goes_then a b c p q = record { more = p.more ++ q.more; all = q.all ∙ ap (λ l. l ++ q.more) p.all ∙ append_assoc a p.more q.more; rises = omega (arith, p.rises, q.rises) }

tears : (h h' : History) → h' ≡ h ++ Torn ∷ [] → GoesOn h h'
tears h h' e = record { more = Torn ∷ []; all = e; rises = subst (λ (k : History). generation_number h ≤ generation_number k) (sym e) (torn_rises h) }

pub legal_goes : (room : Room) (s : Settings) (h : History) (given : Bool) (c : Command) (r : Result Executed Refusal) (h' : History) → Legal room s h given c r h' → GoesOn h h'
legal_goes room s h given c (Err f) h' t = stays h h' t.1
legal_goes room s h given c (Ok executed.Done) h' t = record { more = entries_in (effect s h c); all = t.tells.1; rises = subst (λ (k : History). generation_number h ≤ generation_number k) (sym t.tells.1) (told_rises s h given c t.free) }
legal_goes room s h given c (Ok executed.Torn) h' t = tears h h' t.tells.1

-- a placing gives no generation
places : (h : History) (o : Option Message) (k : ℕ) (b : Stamp) → generation_number h ≤ generation_number (h ++ entries_in (Append o (placing k b)))
places h None k b = let q = quiet h (placing k b) refl in omega (arith, q)
places h (Some m) k b =
    let p = quiet h (Posted m) refl in
    let q = quiet (h ++ Posted m ∷ []) (placing k b) refl in
    subst (λ (x : History). generation_number h ≤ generation_number x) (append_assoc h (Posted m ∷ []) (placing k b ∷ [])) (omega (arith, p, q))

told_goes : (room : Room) (s : Settings) (h : History) (k : ℕ) (b : Stamp) (fit : Bool) (h' : History) → Tells room h (placement s h k b) fit h' → GoesOn h h'
told_goes room s h k b true h' t = record { more = entries_in (placement s h k b); all = t.1; rises = subst (λ (x : History). generation_number h ≤ generation_number x) (sym t.1) (places h (preemption s h k) k b) }
told_goes room s h k b false h' t = tears h h' t.1

settled_goes : (room : Room) (s : Settings) (h : History) (k : ℕ) (b : Stamp) (o : Outcome) (h' : History) → IsPut room s h k b o h' ⊎ IsLeft s h k b o h' → GoesOn h h'
settled_goes room s h k b o h' (inl p) = told_goes room s h k b p.fit h' p.tells
settled_goes room s h k b o h' (inr p) = stays h h' p.history

in_goes : (room : Room) (s : Settings) (h : History) (k : ℕ) (z : SlotState) (o : Option Landing) (z' : SlotState) (h' : History) → LandsIn room s h k z o z' h' → GoesOn h h'
in_goes room s h k (Stamped b) o z' h' t = settled_goes room s h k b t.0.outcome h' (settles_cases room s h k b t.0.outcome h' t.1.settles)
in_goes room s h k Idle o z' h' t = stays h h' t.2
in_goes room s h k (Done b p a n) o z' h' t = stays h h' t.2

held_goes : (room : Room) (s : Settings) (h : History) (k : ℕ) (x : Held) (o : Option Landing) (x' : Held) (h' : History) → LandsHeld room s h k x o x' h' → GoesOn h h'
held_goes room s h k (Ok z) o x' h' t = in_goes room s h k z o t.0 h' t.1
held_goes room s h k (Err e) o x' h' t = stays h h' t.2

-- slots land one after another
if_goes : (room : Room) (s : Settings) (w : Bool) (k : ℕ) (b : List ℕ) (h : History) (r : LandingsOf (List ℕ)) → LandsIfBy (LandsBytes room s) w k b h r → GoesOn h r.history
if_goes room s false k b h r t = stays h r.history (ap (λ (q : LandingsOf (List ℕ)). q.history) t)
if_goes room s true k b h r t = held_goes room s h k (state_in k b) t.0 (state_in k t.1) r.history t.2

region_goes : (room : Room) (s : Settings) (mask k : ℕ) (bs : List (List ℕ)) (h : History) (r : LandingsOf (List ℕ)) → LandsRegion room s mask k bs h r → GoesOn h r.history
region_goes room s mask k [] h r t = stays h r.history (ap (λ (q : LandingsOf (List ℕ)). q.history) t)
region_goes room s mask k (b ∷ bs) h r t =
    subst (λ (q : LandingsOf (List ℕ)). GoesOn h q.history) (sym t.4) (goes_then h t.0.history t.1.history (if_goes room s (has mask k) k b h t.0 t.2) (region_goes room s mask (suc k) bs t.0.history t.1 t.3))

-- a group makes its threads give way, and is placed
way_goes : (room : Room) (h : History) (o : Option Message) (fit : Bool) (h' : History) → GivesWay room h o fit h' → GoesOn h h'
way_goes room h None fit h' t = stays h h' t.1
way_goes room h (Some m) true h' t = record { more = Posted m ∷ []; all = t.1; rises = let q = quiet h (Posted m) refl in subst (λ (x : History). generation_number h ≤ generation_number x) (sym t.1) (omega (arith, q)) }
way_goes room h (Some m) false h' t = tears h h' t.1

ways_go : (room : Room) (s : Settings) (g : Group) (h : History) (fit : Bool) (h' : History) → GiveWay room s g h fit h' → GoesOn h h'
ways_go room s [] h fit h' t = stays h h' t.1
ways_go room s (x ∷ g) h fit h' t = goes_then h t.1 h' (way_goes room h (preemption s h x.0) t.0 t.1 t.2) (by_first t.0 t.3 (λ u. ways_go room s g t.1 fit h' u))
  where
    by_first : (first : Bool) → IfFits first (GiveWay room s g t.1 fit h') ((fit ≡ false) × (h' ≡ t.1)) → (GiveWay room s g t.1 fit h' → GoesOn t.1 h') → GoesOn t.1 h'
    by_first true u more = more u
    by_first false u more = stays t.1 h' u.1

placings_go : (h : History) (g : Group) → generation_number h ≤ generation_number (h ++ placings g)
placings_go h [] = let n : generation_number (h ++ []) ≡ generation_number h = ap generation_number (append-nil h) in omega (arith, n)
placings_go h (x ∷ g) =
    let q = quiet h (placing x.0 x.1) refl in
    let more = placings_go (h ++ placing x.0 x.1 ∷ []) g in
    subst (λ (y : History). generation_number h ≤ generation_number y) (append_assoc h (placing x.0 x.1 ∷ []) (placings g)) (omega (arith, q, more))

puts_goes : (room : Room) (s : Settings) (h : History) (g : Group) (fit : Bool) (h' : History) → Puts room s h g fit h' → GoesOn h h'
puts_goes room s h g true h' t =
    goes_then h t.0 h' (ways_go room s g h true t.0 t.1) (record { more = placings g; all = t.2; rises = subst (λ (x : History). generation_number t.0 ≤ generation_number x) (sym t.2) (placings_go t.0 g) })
puts_goes room s h g false h' t = goes_then h t.0 h' (ways_go room s g h false t.0 t.1) (stays t.0 h' (t.2 ∙ append-nil t.0))

puts_if_goes : (placed : Bool) (room : Room) (s : Settings) (h : History) (g : Group) (fit : Bool) (h' : History) → PutsIf placed room s h g fit h' → GoesOn h h'
puts_if_goes true room s h g fit h' t = puts_goes room s h g fit h' t
puts_if_goes false room s h g fit h' t = stays h h' t.1

commit_goes : (room : Room) (s : Settings) (mask : ℕ) (region : List (List ℕ)) (h : History) (r : LandingsOf (List ℕ)) → CommitsRegion room s mask region h r → GoesOn h r.history
commit_goes room s mask region h r t =
    let g : Group = group_in mask 0 (told_by 0 region) in
    subst (λ (q : LandingsOf (List ℕ)). GoesOn h q.history) (sym t.whole)
    (goes_then h t.group.history t.rest.history (puts_if_goes (is_group_placed s h g) room s h g t.first.fit t.group.history t.first.puts) (region_goes room s mask 0 t.group.slots t.group.history t.rest t.others))

-- what lands is a call's
land_goes : (room : Room) (s : Settings) (h : History) (b : List ℕ) (r : Reply) (h' : History) → LegalLand room s h b r h' → GoesOn h h'
land_goes room s h b (replies.Refused x) h' t = stays h h' t.1
land_goes room s h b (replies.Landed ls down) h' t = let n : ℕ = named_cpu b in held_goes room s h n (state_in n b) (Some t.2) (state_in n t.4.0) h' t.4.1
land_goes room s h b _ h' t = absurd t

commits_go : (room : Room) (s : Settings) (h : History) (mask : ℕ) (region : List (List ℕ)) (r : Reply) (left : List (List ℕ)) (h' : History) → Commits room s h mask region r left h' → GoesOn h h'
commits_go room s h mask region (replies.Refused x) left h' t = stays h h' t.2
commits_go room s h mask region (replies.Landed ls down) left h' t = subst (GoesOn h) (sym t.2.history) (commit_goes room s mask region h t.2.made t.2.lands)
commits_go room s h mask region _ left h' t = absurd t

page_goes : (s : Settings) (h : History) (given : Bool) (from max : ℕ) (r : Reply) (h' : History) → LegalPage s h given from max r h' → GoesOn h h'
page_goes s h given from max (replies.Refused x) h' t = stays h h' t.1
page_goes s h given from max (replies.Page a b c) h' t = stays h h' t.2
page_goes s h given from max _ h' t = absurd t

pub call_goes : (room : Room) (s : Settings) (h : History) (given : Bool) (c : Called) (r : Reply) (h' : History) → LegalCall room s h given c r h' → GoesOn h h'
call_goes room s h given (Served (commands.Kernel c)) r h' t = legal_goes room s h given c t.0 h' t.2
call_goes room s h given (Served commands.Crash) r h' t = legal_goes room s h given told.Leave t.0 h' t.2
call_goes room s h given (Served (commands.Page from max)) r h' t = page_goes s h given from max r h' t
call_goes room s h given (Served (commands.Land b)) r h' t = land_goes room s h b r h' t
call_goes room s h given (Committed xs) r h' t = commits_go room s h t.mask t.region r t.left h' t.commits
