-- The calls of a locked enclave, and which lists of them are legal histories.
use Rattle.std.specs.Prelude.{◌≡◌, Bool, true, false, not, ◌&&◌, ℕ, suc, ◌≤◌, nat_le, Option, None, Some, Result, Ok, Err, List, [], ◌∷◌, ◌++◌, length}
use Rattle.gs_layout.specs.declared.refusal.Refusal.{Refusal}
use Rattle.gs_layout.specs.declared.refusal.Refusal.TheVariants as refusals
use Rattle.gs_layout.specs.Reading.{number_at}
use Rattle.gs_status.specs.Masks.{has}
use Rattle.gs_slots.specs.Reading.{state_in}
use Rattle.gs_slots.specs.State.{Held}
use Rattle.gs_slots.specs.declared.state.SlotState.TheVariants.{Idle, Stamped, Done}
use Rattle.gs_journal.specs.declared.entry.Entry.{Entry}
use Rattle.gs_journal.specs.declared.entry.Entry.TheVariants.{Begin, Role}
use Rattle.gs_journal.specs.History.{History, posted, torn}
use Rattle.gs_kernel.specs.declared.settings.Settings.{Settings}
use Rattle.gs_kernel.specs.declared.landing.Landing.{Landing}
use Rattle.gs_kernel.specs.declared.command.Command.TheVariants as told
use Rattle.gs_kernel.specs.declared.executed.Executed.{Executed}
use Rattle.gs_kernel.specs.declared.executed.Executed.TheVariants as executed
use Rattle.gs_kernel.specs.First.{first_that}
use Rattle.gs_kernel.specs.Kernel.{IsRefusal, last_entry, unless_torn}
use Rattle.gs_kernel.specs.Attaching.{page_refusal}
use Rattle.gs_kernel.specs.Commit.{commit_refusal}
use Rattle.gs_kernel.specs.Dumped.{dumped}
use Rattle.gs_kernel.specs.Group.{CommitsRegion}
use Rattle.gs_kernel.specs.Lands.{Adds, LandsBytes}
use Rattle.gs_kernel.specs.Legal.{Legal, Room, refusal}
use Rattle.gs_replies.specs.declared.reply.Reply.{Reply}
use Rattle.gs_replies.specs.declared.reply.Reply.TheVariants as replies
use Rattle.gs_replies.specs.Replies.{page_reply, reply_of}
use Rattle.gs_runner.specs.declared.command.Command.{Command}
use Rattle.gs_runner.specs.declared.command.Command.TheVariants as commands
use Rattle.gs_runner.specs.declared.call.Called.{Called}
use Rattle.gs_runner.specs.declared.call.Called.TheVariants.{Served, Committed}
use Rattle.gs_runner.specs.declared.call.Call.{Call}

-- over the ring between threads a message may not fit only once as many are posted as it has parcels
abbrev pub ThreadRoom : ℕ → Room
ThreadRoom parcels h true m = Unit {0}
ThreadRoom parcels h false m = parcels ≤ length (posted h)

abbrev pub is_refused : Reply → Bool
is_refused (replies.Refused r) = true
is_refused _ = false

-- whether the last page was given since the last begin, after a call with this reply
abbrev pub given_by : Reply → Bool → Bool
given_by (replies.Done (Begin g)) given = false
given_by (replies.Page count None bytes) given = true
given_by _ given = given

-- a history goes on by so many entries
abbrev pub GoesOnBy : ℕ → History → History → Type 0
GoesOnBy n h h' = (more : List Entry) × (h' ≡ h ++ more) × (length more ≡ n)

-- ---- crashes and pages

-- the reply to a crash, by what became of a leaving
abbrev pub crash_reply : Result Executed Refusal → Reply
crash_reply (Err f) = replies.Refused f
crash_reply (Ok executed.Torn) = replies.Torn
crash_reply (Ok executed.Done) = replies.Crashed

-- why no page is given, apart from memory
abbrev pub call_page_refusal : History → Bool → Option Refusal
call_page_refusal h given = unless_torn h (page_refusal h given)

-- a page was given, or that was refused
abbrev pub LegalPage : Settings → History → Bool → ℕ → ℕ → Reply → History → Type 0
LegalPage s h given from max (replies.Refused r) h' = IsRefusal (call_page_refusal h given) r × (h' ≡ h)
LegalPage s h given from max (replies.Page count next bytes) h' = (call_page_refusal h given ≡ None) × (replies.Page count next bytes ≡ page_reply (dumped s h from max)) × (h' ≡ h)
LegalPage s h given from max _ h' = ⊥

-- ---- bytes that land

-- whether nothing in a slot of which this is read can land: it is idle, or done
abbrev pub is_settled : Held → Bool
is_settled (Ok Idle) = true
is_settled (Ok (Stamped b)) = false
is_settled (Ok (Done b o a n)) = true
is_settled (Err e) = false

-- the CPU that a slot's bytes name
abbrev pub named_cpu : List ℕ → ℕ
named_cpu bytes = number_at 2 2 bytes

-- why bytes do not land, apart from memory: the first that applies
unfoldable pub standing_land_refusal : Settings → List ℕ → Option Refusal
standing_land_refusal s bytes =
    first_that ((nat_le s.cpus (named_cpu bytes), Some refusals.BadCpu) ∷ (is_settled (state_in (named_cpu bytes) bytes), Some refusals.NoSuchTransaction) ∷ []) None

abbrev pub land_refusal : Settings → History → List ℕ → Option Refusal
land_refusal s h bytes = unless_torn h (standing_land_refusal s bytes)

-- bytes land in the slot of the CPU that they name, with this answer
abbrev pub LandsNamed : Room → Settings → History → List ℕ → Landing → History → Type 0
LandsNamed room s h bytes l h' = (left : List ℕ) × LandsBytes room s h (named_cpu bytes) bytes (Some l) left h'

-- they landed by themselves, or that was refused
abbrev pub LegalLand : Room → Settings → History → List ℕ → Reply → History → Type 0
LegalLand room s h bytes (replies.Refused r) h' = IsRefusal (land_refusal s h bytes) r × (h' ≡ h)
LegalLand room s h bytes (replies.Landed ls down) h' =
    (land_refusal s h bytes ≡ None) × (down ≡ torn h') × (l : Landing) × (ls ≡ l ∷ []) × LandsNamed room s h bytes l h'
LegalLand room s h bytes _ h' = ⊥

-- ---- commits

-- whether the slot of CPU k of a mask lands: it is neither idle nor done
abbrev pub is_wanted : ℕ → ℕ → List ℕ → Bool
is_wanted mask k b = has mask k && not (is_settled (state_in k b))

abbrev pub landed_if : Bool → ℕ → List ℕ → List (ℕ × List ℕ)
landed_if true k b = (k, b) ∷ []
landed_if false k b = []

-- the slots of a mask that land, each with its CPU, in increasing order of CPU. The first of the region is that of CPU k
abbrev pub landed_slots : ℕ → ℕ → List (List ℕ) → List (ℕ × List ℕ)
landed_slots mask k [] = []
landed_slots mask k (b ∷ bs) = landed_if (is_wanted mask k b) k b ++ landed_slots mask (suc k) bs

-- the slots of a mask landed, its group first, and the region is this then; or that was refused, and the region stays
abbrev pub Commits : Room → Settings → History → ℕ → List (List ℕ) → Reply → List (List ℕ) → History → Type 0
Commits room s h mask region (replies.Refused r) left h' = IsRefusal (commit_refusal s h mask) r × (left ≡ region) × (h' ≡ h)
Commits room s h mask region (replies.Landed ls down) left h' = (commit_refusal s h mask ≡ None) × (down ≡ torn h') × Adds (CommitsRegion room s mask region h) [] ls left h'
Commits room s h mask region _ left h' = ⊥

-- these slots are just those that land of some mask, in a region with a slot for each CPU, and they were committed
pub record LegalCommit (room : Room) (s : Settings) (h : History) (xs : List (ℕ × List ℕ)) (r : Reply) (h' : History) : Type 0 where
  pub mask : ℕ
  pub region : List (List ℕ)
  pub left : List (List ℕ)
  pub cpus : length region ≡ s.cpus
  pub slots : xs ≡ landed_slots mask 0 region
  pub commits : Commits room s h mask region r left h'

-- ---- legal histories

-- why a command is refused, apart from memory: the first that applies
abbrev pub call_refusal : Settings → History → Bool → Command → Option Refusal
call_refusal s h given (commands.Kernel c) = refusal s h given c
call_refusal s h given commands.Crash = refusal s h given told.Leave
call_refusal s h given (commands.Page from max) = call_page_refusal h given
call_refusal s h given (commands.Land bytes) = land_refusal s h bytes

-- a call with this reply is legal on this history, and leaves that
abbrev pub LegalCall : Room → Settings → History → Bool → Called → Reply → History → Type 0
LegalCall room s h given (Served (commands.Kernel c)) r h' = (x : Result Executed Refusal) × (r ≡ reply_of x (last_entry h')) × Legal room s h given c x h'
LegalCall room s h given (Served commands.Crash) r h' = (x : Result Executed Refusal) × (r ≡ crash_reply x) × Legal room s h given told.Leave x h'
LegalCall room s h given (Served (commands.Page from max)) r h' = LegalPage s h given from max r h'
LegalCall room s h given (Served (commands.Land bytes)) r h' = LegalLand room s h bytes r h'
LegalCall room s h given (Committed xs) r h' = LegalCommit room s h xs r h'

-- one call of the list, which leaves this history
pub record IsCall (parcels : ℕ) (s : Settings) (h : History) (given : Bool) (c : Call) (h' : History) : Type 0 where
  pub legal : LegalCall (ThreadRoom parcels) s h given c.called c.reply h'
  pub at : c.at ≡ length h
  pub entries : GoesOnBy c.entries h h'
  pub accepted : is_refused c.reply ≡ false

-- the calls lead from one history to the other, each on what the one before left
abbrev pub Leads : ℕ → Settings → History → Bool → List Call → History → Bool → Type 0
Leads parcels s h given [] h' given' = (h' ≡ h) × (given' ≡ given)
Leads parcels s h given (c ∷ cs) h' given' = (mid : History) × IsCall parcels s h given c mid × Leads parcels s mid (given_by c.reply given) cs h' given'

-- the calls are a legal history: they lead from the opening entry to this one
abbrev pub IsLegalHistory : ℕ → Settings → List Call → History → Bool → Type 0
IsLegalHistory parcels s cs h given = Leads parcels s (Role s.first_generation 0 ∷ []) false cs h given

-- the calls are a legal history for a journal, in an enclave of some numbers
abbrev pub IsLegal : ℕ → List Call → History → Type 0
IsLegal parcels cs h = (s : Settings) × (given : Bool) × IsLegalHistory parcels s cs h given
