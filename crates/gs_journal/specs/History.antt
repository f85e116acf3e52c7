-- What a history says: the list of all that ever happened, the oldest first.
use Rattle.std.specs.Prelude.{Bool, true, false, ℕ, zero, suc, ◌+◌, ◌==◌, ◌≡◌, Option, None, Some, List, [], ◌∷◌, if◌then◌else◌, length, take, slice_get, unwrap_or}
use Rattle.std.specs.List.{list_any, flat_map, filter}
use Rattle.gs_layout.specs.declared.message.Message.{Message}
use Rattle.gs_layout.specs.declared.record.Record.{Record}
use Rattle.gs_layout.specs.Message.{is_about, is_creation, takes_off}
use Rattle.gs_journal.specs.declared.entry.Entry.{Entry}
use Rattle.gs_journal.specs.declared.entry.Entry.TheVariants.{Posted, Placed, Role, Begin, Left, Taken, Given, Torn}
use Rattle.gs_journal.specs.Standing.{standing, latest}
use Rattle.gs_journal.specs.Record.{record_of}

abbrev pub History : Type 0
History = List Entry

abbrev pub posted_by : Entry → List Message
posted_by (Posted m) = m ∷ []
posted_by _ = []

-- all messages that were posted, in order, ticks too
unfoldable pub posted : History → List Message
posted h = flat_map posted_by h

-- the messages about a thread, in order
unfoldable pub messages : History → ℕ → List Message
messages h t = filter (is_about t) (posted h)

abbrev pub seq_after : ℕ → ℕ → ℕ
seq_after first zero = 0
seq_after first (suc n) = first + suc n

-- a thread's sequence number: the first one plus the count of its messages, or 0 if there are none
unfoldable pub seq : ℕ → History → ℕ → ℕ
seq first h t = seq_after first (length (messages h t))

-- a thread's record
unfoldable pub record_in : History → ℕ → Record
record_in h t = record_of (messages h t)

-- the creations of all threads that ever were
unfoldable pub created : History → List Message
created h = filter is_creation (posted h)

-- the thread that an entry places on a CPU
abbrev pub placed_on : ℕ → Entry → Option ℕ
placed_on c (Placed t s d g) = if d == c then Some t else None
placed_on c _ = None

-- whether an entry takes a thread off its CPU
abbrev pub ends_run : ℕ → Entry → Bool
ends_run t Torn = true
ends_run t (Posted m) = takes_off t m
ends_run t _ = false

-- who is on a CPU: the thread last placed there, unless a later entry took it off
unfoldable pub on : History → ℕ → Option ℕ
on h c = standing (placed_on c) ends_run h

abbrev pub is_thread : ℕ → Option ℕ → Bool
is_thread t None = false
is_thread t (Some u) = u == t

-- the least CPU below a count that a thread is on
abbrev pub at_below : ℕ → History → ℕ → Option ℕ
at_below zero h t = None
at_below (suc c) h t = elim (at_below c h t) [ Some d ↦ Some d | None ↦ if is_thread t (on h c) then Some c else None ]

-- where a thread is, in an enclave of so many CPUs
unfoldable pub at : ℕ → History → ℕ → Option ℕ
at cpus h t = at_below cpus h t

abbrev pub role_by : Entry → Option (ℕ × ℕ)
role_by (Role g c) = Some (g, c)
role_by _ = None

abbrev pub ends_role : (ℕ × ℕ) → Entry → Bool
ends_role r (Begin g) = true
ends_role r Left = true
ends_role r Torn = true
ends_role r _ = false

-- the active agent: generation and CPU of the last Role, unless Begin, Left or Torn follows
unfoldable pub active : History → Option (ℕ × ℕ)
active h = standing role_by ends_role h

abbrev pub begin_by : Entry → Option ℕ
begin_by (Begin g) = Some g
begin_by _ = None

abbrev pub ends_begin : ℕ → Entry → Bool
ends_begin r (Role g c) = true
ends_begin r Left = true
ends_begin r Torn = true
ends_begin r _ = false

-- the agent that attaches: generation of the last Begin, unless Role, Left or Torn follows
unfoldable pub attaching : History → Option ℕ
attaching h = standing begin_by ends_begin h

abbrev pub generation_by : Entry → Option ℕ
generation_by (Role g c) = Some g
generation_by (Begin g) = Some g
generation_by _ = None

-- the generation: that of the last Role or Begin
unfoldable pub generation : History → Option ℕ
generation h = latest generation_by h

abbrev pub taken_by : ℕ → Entry → Option Bool
taken_by c (Taken d) = if d == c then Some true else None
taken_by c (Given d) = if d == c then Some false else None
taken_by c _ = None

unfoldable pub last_taken : History → ℕ → Option Bool
last_taken h c = latest (taken_by c) h

-- whether the other class holds a CPU: the last of Taken and Given is Taken
unfoldable pub taken : History → ℕ → Bool
taken h c = unwrap_or (last_taken h c) false

abbrev pub is_torn : Entry → Bool
is_torn Torn = true
is_torn _ = false

-- whether the enclave was torn down
unfoldable pub torn : History → Bool
torn h = list_any is_torn h

-- at each entry, with the entries before it
abbrev pub AtEach : (History → Entry → Type 0) → History → Type 0
AtEach P h = (i : ℕ) (e : Entry) → slice_get h i ≡ Some e → P (take i h) e

-- at each beginning
abbrev pub AtEachPrefix : (History → Type 0) → History → Type 0
AtEachPrefix P h = (i : ℕ) → P (take i h)
