-- A legal step of the kernel, over histories alone.
use Rattle.std.specs.Prelude.{Bool, true, false, ℕ, ◌≡◌, Option, None, Some, IfSome, Result, Ok, Err, OnErr, List, [], ◌++◌, ◌∷◌, unwrap_or}
use Rattle.gs_layout.specs.declared.message.Message.{Message}
use Rattle.gs_layout.specs.declared.message.Message.TheVariants.{TimerTick}
use Rattle.gs_layout.specs.declared.refusal.Refusal.{Refusal}
use Rattle.gs_layout.specs.declared.refusal.Refusal.TheVariants as refusals
use Rattle.gs_journal.specs.declared.entry.Entry.{Entry}
use Rattle.gs_journal.specs.declared.entry.Entry.TheVariants.{Posted, Role, Begin, Left, Taken, Given, Torn}
use Rattle.gs_journal.specs.History.{History, attaching, posted}
use Rattle.gs_kernel.specs.First.{first_that}
use Rattle.gs_kernel.specs.declared.settings.Settings.{Settings}
use Rattle.gs_kernel.specs.declared.command.Command.{Command}
use Rattle.gs_kernel.specs.declared.command.Command.TheVariants as commands
use Rattle.gs_kernel.specs.declared.effect.Effect.{Effect}
use Rattle.gs_kernel.specs.declared.effect.Effect.TheVariants.{Post, Append}
use Rattle.gs_kernel.specs.declared.executed.Executed.{Executed}
use Rattle.gs_kernel.specs.declared.executed.Executed.TheVariants as executed
use Rattle.gs_kernel.specs.declared.executed.Executed.TheVariants.{Done}
use Rattle.gs_kernel.specs.Kernel.{KernelOf, IsRefusal, or_else, unless_torn, is_full, create_refusal, thread_refusal, take_refusal, give_refusal, tick_refusal, hand_off_refusal, next_generation, creation, happening, preemption}
use Rattle.gs_kernel.specs.Attaching.{leave_refusal, begin_refusal, activate_refusal}

-- the first refusal specific to a command, by whether the last page was given since the last begin
abbrev pub own_refusal : Settings → History → Bool → Command → Option Refusal
own_refusal s h given (commands.Create f) = create_refusal s h f
own_refusal s h given (commands.Thread t e) = thread_refusal s h t e
own_refusal s h given (commands.Take c) = take_refusal s h c
own_refusal s h given (commands.Give c) = give_refusal s h c
own_refusal s h given (commands.Tick c) = tick_refusal s c
own_refusal s h given (commands.HandOff c) = hand_off_refusal s h c
own_refusal s h given commands.Leave = leave_refusal h
own_refusal s h given commands.Begin = begin_refusal h
own_refusal s h given (commands.Activate c) = activate_refusal s h given c

-- the most entries that it adds
abbrev pub most_entries : Command → ℕ
most_entries (commands.Take c) = 2
most_entries (commands.HandOff c) = 2
most_entries (commands.Activate c) = 2
most_entries _ = 1

-- the first refusal that holds while the enclave stands, of a command that has this one of its own and adds so many entries at most. Its own comes
-- first, and then that the journal has no room
abbrev pub standing_with : Settings → History → Option Refusal → ℕ → Option Refusal
standing_with s h own n = or_else own (first_that ((is_full s h n, Some refusals.HistoryFull) ∷ []) None)

-- the first refusal of a command that holds while the enclave stands
abbrev pub standing_refusal : Settings → History → Bool → Command → Option Refusal
standing_refusal s h given c = standing_with s h (own_refusal s h given c) (most_entries c)

-- the first refusal of a command that holds
abbrev pub refusal : Settings → History → Bool → Command → Option Refusal
refusal s h given c = unless_torn h (standing_refusal s h given c)

-- what a command adds to the history
abbrev pub effect : Settings → History → Command → Effect
effect s h (commands.Create f) = Post (creation s.first_tseq h f)
effect s h (commands.Thread t e) = Post (happening s h t e)
effect s h (commands.Take c) = Append (preemption s h c) (Taken c)
effect s h (commands.Give c) = Append None (Given c)
effect s h (commands.Tick c) = Post (TimerTick c)
effect s h (commands.HandOff c) = Append (preemption s h c) (Role (next_generation h) c)
effect s h commands.Leave = Append None Left
effect s h commands.Begin = Append None (Begin (next_generation h))
effect s h (commands.Activate c) = Append (preemption s h c) (Role (unwrap_or (attaching h) 0) c)

-- whether it adds a thread
abbrev pub creates : Command → Bool
creates (commands.Create f) = true
creates _ = false

-- the message among what is added, if there is one
abbrev pub message_in : Effect → Option Message
message_in (Post m) = Some m
message_in (Append victim e) = victim

-- all that is added
abbrev pub entries_in : Effect → List Entry
entries_in (Post m) = Posted m ∷ []
entries_in (Append None e) = e ∷ []
entries_in (Append (Some m) e) = Posted m ∷ e ∷ []

-- the last of it
abbrev pub last_in : Effect → Entry
last_in (Post m) = Posted m
last_in (Append victim e) = e

-- the ring's condition: behind this history this message fits, or does not
abbrev pub Room : Type 1
Room = History → Bool → Message → Type 0

-- as an end of a ring tells. From its state, with nothing consumed, it can come to one in which the history is posted, and from there to one in which
-- the message is too. Or it can come to one in which the history is posted and the message may be refused
abbrev pub RoomOf : {P : Type 0} → (P → P → Type 0) → (P → ℕ) → (P → List Message → Type 0) → (P → Message → Type 0) → P → Room
RoomOf {P = P} same consumed sent tight p h true m = (q : P) × same p q × (consumed q ≡ consumed p) × sent q (posted h) × (r : P) × same q r × (consumed r ≡ consumed q) × sent r (posted h ++ m ∷ [])
RoomOf {P = P} same consumed sent tight p h false m = (q : P) × same p q × (consumed q ≡ consumed p) × sent q (posted h) × tight q m

-- the message, if there is one, fits, and all is added; or it does not, and in place of all of it the enclave is torn down
abbrev pub Tells : Room → History → Effect → Bool → History → Type 0
Tells room h x true h' = IfSome (message_in x) (room h true) × (h' ≡ h ++ entries_in x)
Tells room h x false h' = ((m : Message) × (message_in x ≡ Some m) × room h false m) × (h' ≡ h ++ Torn ∷ [])

-- a command that nothing refuses, and what it adds
pub record Serves (room : Room) (s : Settings) (h : History) (given : Bool) (c : Command) (fits : Bool) (h' : History) : Type 0 where
  pub free : refusal s h given c ≡ None
  pub tells : Tells room h (effect s h c) fits h'

-- whether all was done, with no tear-down in place of it
abbrev pub is_done : Executed → Bool
is_done Done = true
is_done executed.Torn = false

-- from this history the kernel may return this for a command, and leave this. It was refused by the first refusal that holds, or as out of
-- memory if none does, and nothing changed. Or it was done: its message fits, and what it adds was added. Or its message does not fit, and
-- the enclave was torn down in place of that
abbrev pub Legal : Room → Settings → History → Bool → Command → Result Executed Refusal → History → Type 0
Legal room s h given c (Err r) h' = IsRefusal (refusal s h given c) r × (h' ≡ h)
Legal room s h given c (Ok x) h' = Serves room s h given c (is_done x) h'

-- What no call touches: the ring and what was consumed from it, the numbers, and whether the last page was given. What was sent is what the
-- journal says was posted.
pub record Frame {P : Type 0} (same : P → P → Type 0) (consumed : P → ℕ) (sent : P → List Message → Type 0) (a b : KernelOf P) : Type 0 where
  pub ring : same a.poster b.poster
  pub stays : consumed b.poster ≡ consumed a.poster
  pub told : sent b.poster (posted b.history)
  pub settings : b.settings ≡ a.settings
  pub pages : b.paged ≡ a.paged

-- whether the last page was given since the last begin, after what came of a command: it was not once a begin was done
abbrev pub paged_by : Result Executed Refusal → Command → Bool → Bool
paged_by (Ok Done) commands.Begin p = false
paged_by _ _ p = p

-- A call that tells a kernel to do something: the step is legal. If it is refused, all is as before, but that more threads may find room. The frame
-- stays, but that once a begin was done no page was given since.
pub record IsServed {P : Type 0} (same : P → P → Type 0) (consumed : P → ℕ) (sent : P → List Message → Type 0) (tight : P → Message → Type 0) (a : KernelOf P) (c : Command) (r : Result Executed Refusal) (b : KernelOf P) : Type 0 where
  pub legal : Legal (RoomOf same consumed sent tight a.poster) a.settings a.history a.paged c r b.history
  pub refused : OnErr r (b ≡ record a { rows = b.rows })
  pub frame : Frame same consumed sent (record a { paged = paged_by r c a.paged }) b
