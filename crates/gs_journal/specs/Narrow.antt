-- How three lists say the entries of a journal. What is wide of an entry are the facts of a new thread, or a new mask. Each stands in a list of its
-- own, at the place that the narrow entry holds.
use Rattle.std.specs.Prelude.{ℕ, ◌<◌, false, None, List, [], ◌∷◌, map, slice_get, unwrap_or}
use Rattle.gs_layout.specs.declared.facts.Class.TheVariants as classes
use Rattle.gs_layout.specs.declared.facts.Facts.{Facts}
use Rattle.gs_layout.specs.declared.message.Change.{Change}
use Rattle.gs_layout.specs.declared.message.Change.TheVariants.{Created, Blocked, Wakeup, Preempted, Yield, Dead, Affinity}
use Rattle.gs_layout.specs.declared.message.Message.{Message}
use Rattle.gs_layout.specs.declared.message.Message.TheVariants.{Thread, TimerTick}
use Rattle.gs_journal.specs.declared.entry.Entry.{Entry}
use Rattle.gs_journal.specs.declared.entry.Entry.TheVariants.{Posted, Placed, Role, Begin, Left, Taken, Given, Torn}
use Rattle.gs_journal.specs.declared.narrow.Narrow.{Narrow}
use Rattle.gs_journal.specs.declared.narrow.Narrow.TheVariants as narrow
use Rattle.gs_journal.specs.declared.wide.NewMask.{NewMask}

-- the narrow entry of a message about a thread, where what is wide stands at these places
abbrev pub packed_change : ℕ → ℕ → ℕ → ℕ → Change → Narrow
packed_change f m t s (Created g) = narrow.Created f t s
packed_change f m t s (Blocked c) = narrow.Blocked c t s
packed_change f m t s Wakeup = narrow.Wakeup t s
packed_change f m t s (Preempted c) = narrow.Preempted c t s
packed_change f m t s (Yield c) = narrow.Yield c t s
packed_change f m t s (Dead c) = narrow.Dead c t s
packed_change f m t s (Affinity c off n) = narrow.Affinity m t s

abbrev pub packed_message : ℕ → ℕ → Message → Narrow
packed_message f m (Thread t s c) = packed_change f m t s c
packed_message f m (TimerTick c) = narrow.Tick c

-- the narrow entry, where what is wide stands at these places
abbrev pub packed : ℕ → ℕ → Entry → Narrow
packed f m (Posted message) = packed_message f m message
packed f m (Placed t s c g) = narrow.Placed c t s g
packed f m (Role g c) = narrow.Role c g
packed f m (Begin g) = narrow.Begin g
packed f m Left = narrow.Left
packed f m (Taken c) = narrow.Taken c
packed f m (Given c) = narrow.Given c
packed f m Torn = narrow.Torn

abbrev pub facts_of_change : Change → List Facts
facts_of_change (Created f) = f ∷ []
facts_of_change _ = []

abbrev pub facts_of_message : Message → List Facts
facts_of_message (Thread t s c) = facts_of_change c
facts_of_message (TimerTick c) = []

-- the facts of an entry: those of a new thread, or none
abbrev pub facts_of : Entry → List Facts
facts_of (Posted m) = facts_of_message m
facts_of _ = []

abbrev pub masks_of_change : Change → List NewMask
masks_of_change (Affinity c off m) = record { mask = m; cpu = c; off = off } ∷ []
masks_of_change _ = []

abbrev pub masks_of_message : Message → List NewMask
masks_of_message (Thread t s c) = masks_of_change c
masks_of_message (TimerTick c) = []

-- the mask of an entry: a new one, or none
abbrev pub masks_of : Entry → List NewMask
masks_of (Posted m) = masks_of_message m
masks_of _ = []

-- what stands for the facts behind the end, where there are none
abbrev pub no_facts : Facts
no_facts = record { mask = 0; runnable = false; class = classes.Zero; name = [] }

-- the facts at a place
abbrev pub facts_at : List Facts → ℕ → Facts
facts_at facts p = unwrap_or (slice_get facts p) no_facts

-- what stands for a new mask behind the end, where there is none
abbrev pub no_mask : NewMask
no_mask = record { mask = 0; cpu = None; off = false }

-- the new mask at a place
abbrev pub mask_at : List NewMask → ℕ → NewMask
mask_at masks p = unwrap_or (slice_get masks p) no_mask

-- the change to a new mask
abbrev pub change_to : NewMask → Change
change_to n = Affinity n.cpu n.off n.mask

-- the entry that a narrow one says, beside the lists of what is wide
abbrev pub unpacked : List Facts → List NewMask → Narrow → Entry
unpacked facts masks (narrow.Created p t s) = Posted (Thread t s (Created (facts_at facts p)))
unpacked facts masks (narrow.Affinity p t s) = Posted (Thread t s (change_to (mask_at masks p)))
unpacked facts masks (narrow.Wakeup t s) = Posted (Thread t s Wakeup)
unpacked facts masks (narrow.Blocked c t s) = Posted (Thread t s (Blocked c))
unpacked facts masks (narrow.Preempted c t s) = Posted (Thread t s (Preempted c))
unpacked facts masks (narrow.Yield c t s) = Posted (Thread t s (Yield c))
unpacked facts masks (narrow.Dead c t s) = Posted (Thread t s (Dead c))
unpacked facts masks (narrow.Tick c) = Posted (TimerTick c)
unpacked facts masks (narrow.Placed c t s g) = Placed t s c g
unpacked facts masks (narrow.Role c g) = Role g c
unpacked facts masks (narrow.Begin g) = Begin g
unpacked facts masks narrow.Left = Left
unpacked facts masks (narrow.Taken c) = Taken c
unpacked facts masks (narrow.Given c) = Given c
unpacked facts masks narrow.Torn = Torn

-- the entries that the three lists say
unfoldable pub entries_of : List Facts → List NewMask → List Narrow → List Entry
entries_of facts masks ns = map (unpacked facts masks) ns

-- the place that a narrow entry holds is one of so many facts, or of so many masks
abbrev pub IsWithin : ℕ → ℕ → Narrow → Type 0
IsWithin f m (narrow.Created p t s) = p < f
IsWithin f m (narrow.Affinity p t s) = p < m
IsWithin f m _ = Unit {0}

abbrev pub AllWithin : ℕ → ℕ → List Narrow → Type 0
AllWithin f m [] = Unit {0}
AllWithin f m (x ∷ xs) = IsWithin f m x × AllWithin f m xs
