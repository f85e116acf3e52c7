-- What a journal's text shows of an entry as of no other.
use Rattle.std.specs.Prelude.{true, ℕ, ◌≡◌, ◌≢◌, ◌<◌, ◌^◌, List, Option, None, Some, codes}
use Rattle.gs_layout.specs.declared.message.Change.{Change}
use Rattle.gs_layout.specs.declared.message.Change.TheVariants.{Created, Blocked, Wakeup, Preempted, Yield, Dead, Affinity}
use Rattle.gs_layout.specs.declared.message.Message.{Message}
use Rattle.gs_layout.specs.declared.message.Message.TheVariants.{Thread, TimerTick}
use Rattle.gs_layout.specs.Name.{is_name}
use Rattle.gs_journal.specs.declared.entry.Entry.{Entry}
use Rattle.gs_journal.specs.declared.entry.Entry.TheVariants.{Posted, Placed, Role, Begin, Left, Taken, Given, Torn}

-- each number of a CPU, a change, a message and an entry is one of these
abbrev pub CpuHasNumber : (ℕ → Type 0) → Option ℕ → Type 0
CpuHasNumber P None = Unit {0}
CpuHasNumber P (Some c) = P c

abbrev pub ChangeHasNumbers : (ℕ → Type 0) → Change → Type 0
ChangeHasNumbers P (Created f) = P f.mask
ChangeHasNumbers P (Blocked c) = P c
ChangeHasNumbers P Wakeup = Unit {0}
ChangeHasNumbers P (Preempted c) = P c
ChangeHasNumbers P (Yield c) = P c
ChangeHasNumbers P (Dead c) = CpuHasNumber P c
ChangeHasNumbers P (Affinity c off mask) = CpuHasNumber P c × P mask

abbrev pub MessageHasNumbers : (ℕ → Type 0) → Message → Type 0
MessageHasNumbers P (Thread t s c) = P t × P s × ChangeHasNumbers P c
MessageHasNumbers P (TimerTick c) = P c

abbrev pub HasNumbers : (ℕ → Type 0) → Entry → Type 0
HasNumbers P (Posted m) = MessageHasNumbers P m
HasNumbers P (Placed t s c g) = P t × P s × P c × P g
HasNumbers P (Role g c) = P g × P c
HasNumbers P (Begin g) = P g
HasNumbers P Left = Unit {0}
HasNumbers P (Taken c) = P c
HasNumbers P (Given c) = P c
HasNumbers P Torn = Unit {0}

-- a thread that is created has one of these names
abbrev pub HasNames : (List ℕ → Type 0) → Entry → Type 0
HasNames P (Posted (Thread t s (Created f))) = P f.name
HasNames P _ = Unit {0}

-- a number that a line shows whole: of more than 64 digits the last 64 are written
abbrev pub HasShortText : ℕ → Type 0
HasShortText n = n < 10 ^ 64

-- a name that stands for itself: `-` stands for the empty one, in a line as in a script
abbrev pub IsItself : List ℕ → Type 0
IsItself name = (is_name name ≡ true) × (name ≢ codes "-")

-- an entry that its line shows as no other: no number is too long, and the name of a new thread stands for itself
abbrev pub IsLegible : Entry → Type 0
IsLegible e = HasNumbers HasShortText e × HasNames IsItself e
