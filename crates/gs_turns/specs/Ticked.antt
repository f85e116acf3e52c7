-- The ticks of a CPU in a history.
use Rattle.std.specs.Prelude.{Bool, ℕ, zero, suc, ◌==◌, false, Option, None, Some, List, [], ◌∷◌, ◌++◌, if◌then◌else◌, drop, take, slice_get}
use Rattle.std.specs.List.{count_by}
use Rattle.gs_layout.specs.declared.message.Message.TheVariants.{TimerTick}
use Rattle.gs_journal.specs.declared.entry.Entry.{Entry}
use Rattle.gs_journal.specs.declared.entry.Entry.TheVariants.{Posted}
use Rattle.gs_journal.specs.History.{History}

-- the CPU that an entry is a tick of
abbrev pub tick_cpu : Entry → Option ℕ
tick_cpu (Posted (TimerTick c)) = Some c
tick_cpu _ = None

abbrev pub is_of : ℕ → Option ℕ → Bool
is_of c None = false
is_of c (Some d) = d == c

-- whether an entry is a tick of a CPU
abbrev pub is_tick : ℕ → Entry → Bool
is_tick c e = is_of c (tick_cpu e)

-- how many of the entries from one on and before another are ticks of a CPU
abbrev pub ticked : History → ℕ → ℕ → ℕ → ℕ
ticked h c from to = count_by (is_tick c) (drop from (take to h))

abbrev pub is_tick_there : ℕ → Option Entry → Bool
is_tick_there c None = false
is_tick_there c (Some e) = is_tick c e

-- the places of the ticks of a CPU among the first entries, in order
unfoldable pub tick_places : History → ℕ → ℕ → List ℕ
tick_places h c zero = []
tick_places h c (suc n) = if is_tick_there c (slice_get h n) then tick_places h c n ++ n ∷ [] else tick_places h c n

-- the places of the ticks of a CPU behind one entry more
abbrev pub tick_then : ℕ → ℕ → Entry → List ℕ → List ℕ
tick_then c n e ps = if is_tick c e then ps ++ n ∷ [] else ps
