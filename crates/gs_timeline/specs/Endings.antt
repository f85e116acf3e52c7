-- Why a stay ended, and what that is called.
use Rattle.std.specs.Prelude.{ℕ, List, Option, None, Some, codes}
use Rattle.gs_layout.specs.declared.message.Change.{Change}
use Rattle.gs_layout.specs.declared.message.Change.TheVariants as changes
use Rattle.gs_layout.specs.declared.message.Message.TheVariants.{Thread}
use Rattle.gs_journal.specs.declared.entry.Entry.{Entry}
use Rattle.gs_journal.specs.declared.entry.Entry.TheVariants as entries
use Rattle.gs_timeline.specs.declared.ending.Ending.{Ending}
use Rattle.gs_timeline.specs.declared.ending.Ending.TheVariants.{Preempted, Blocked, Yielded, Died, Affinity, Torn, Replaced, StillThere}

-- by the change of a thread that ended it
abbrev pub ending_by : Change → Ending
ending_by (changes.Preempted c) = Preempted
ending_by (changes.Blocked c) = Blocked
ending_by (changes.Yield c) = Yielded
ending_by (changes.Dead c) = Died
ending_by (changes.Affinity c off m) = Affinity
ending_by _ = Replaced

-- by the entry that ended it, if one did
abbrev pub ending_of : Option Entry → Ending
ending_of None = StillThere
ending_of (Some (entries.Posted (Thread t s c))) = ending_by c
ending_of (Some entries.Torn) = Torn
ending_of (Some _) = Replaced

-- its name
abbrev pub ending_text : Ending → List ℕ
ending_text Preempted = codes "preempted"
ending_text Blocked = codes "blocked"
ending_text Yielded = codes "yielded"
ending_text Died = codes "died"
ending_text Affinity = codes "affinity"
ending_text Torn = codes "torn"
ending_text Replaced = codes "replaced"
ending_text StillThere = codes "still there"
