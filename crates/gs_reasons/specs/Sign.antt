-- What an entry says something of.
use Rattle.std.specs.Prelude.{Bool, true, false, ◌&&◌, ℕ, ◌==◌}
use Rattle.gs_layout.specs.Message.{takes_off_cpu}
use Rattle.gs_layout.specs.declared.message.Change.{Change}
use Rattle.gs_layout.specs.declared.message.Change.TheVariants.{Created, Blocked, Wakeup, Dead, Affinity}
use Rattle.gs_layout.specs.declared.message.Message.TheVariants.{Thread, TimerTick}
use Rattle.gs_journal.specs.declared.entry.Entry.{Entry}
use Rattle.gs_journal.specs.declared.entry.Entry.TheVariants.{Posted, Placed, Role, Begin, Left, Taken, Given, Torn}
use Rattle.gs_reasons.specs.declared.sign.Sign.{Sign}
use Rattle.gs_reasons.specs.declared.sign.Sign.TheVariants as signs

-- a change says that its thread was created, whether it may run, which mask it has, or that it died
abbrev pub says_creation : Change → Bool
says_creation (Created f) = true
says_creation _ = false

abbrev pub says_runs : Change → Bool
says_runs (Created f) = true
says_runs (Blocked c) = true
says_runs Wakeup = true
says_runs _ = false

abbrev pub says_mask : Change → Bool
says_mask (Created f) = true
says_mask (Affinity c off m) = true
says_mask _ = false

abbrev pub says_death : Change → Bool
says_death (Dead c) = true
says_death _ = false

-- a change of thread u says something of this
abbrev pub is_in_change : Sign → ℕ → Change → Bool
is_in_change signs.Created u c = says_creation c
is_in_change (signs.Death t) u c = (t == u) && says_death c
is_in_change (signs.Off t) u c = (t == u) && takes_off_cpu c
is_in_change (signs.About t) u c = t == u
is_in_change (signs.Runs t) u c = (t == u) && says_runs c
is_in_change (signs.Mask t) u c = (t == u) && says_mask c
is_in_change _ u c = false

abbrev pub is_agent : Sign → Bool
is_agent signs.Agent = true
is_agent _ = false

-- what says which agent is active, and which generation is the latest
abbrev pub is_generation : Sign → Bool
is_generation signs.Agent = true
is_generation signs.Generation = true
is_generation _ = false

abbrev pub is_seat : Sign → ℕ → Bool
is_seat (signs.Seat c) d = c == d
is_seat _ d = false

abbrev pub is_held : Sign → ℕ → Bool
is_held (signs.Held c) d = c == d
is_held _ d = false

abbrev pub is_torn_or_agent : Sign → Bool
is_torn_or_agent signs.TornDown = true
is_torn_or_agent signs.Agent = true
is_torn_or_agent _ = false

-- whether an entry says something of this
abbrev pub is_sign : Sign → Entry → Bool
is_sign g (Posted (Thread u n c)) = is_in_change g u c
is_sign g (Posted (TimerTick c)) = false
is_sign g (Placed t n d a) = is_seat g d
is_sign g (Role a c) = is_generation g
is_sign g (Begin a) = is_generation g
is_sign g Left = is_agent g
is_sign g (Taken d) = is_held g d
is_sign g (Given d) = is_held g d
is_sign g Torn = is_torn_or_agent g
