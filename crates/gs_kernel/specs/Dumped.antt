-- The pages that tell an agent of the threads that live.
use Rattle.std.specs.Prelude.{Bool, ◌||◌, ◌<◌, ◌≤◌, ◌≡◌, true, ℕ, Option, None, Some, IfSome, List, [], ◌∷◌, is_none, take, drop}
use Rattle.gs_layout.specs.declared.message.TheConstants.{MOST_TIDS}
use Rattle.gs_layout.specs.Spelling.{IsCpuOrNone}
use Rattle.gs_status.specs.Masks.{has}
use Rattle.gs_dump.specs.declared.record.DumpRecord.{DumpRecord}
use Rattle.gs_dump.specs.Page.{Contents}
use Rattle.gs_journal.specs.History.{History}
use Rattle.gs_kernel.specs.declared.settings.Settings.{Settings}
pub use Rattle.gs_kernel.specs.Shown.{live_from}

-- the tid of the first of them
abbrev pub first_tid : List DumpRecord → Option ℕ
first_tid [] = None
first_tid (l ∷ ls) = Some l.tid

-- the page that begins at a tid, of so many threads at most: the first that live from there on, and where the next page begins
abbrev pub dumped : Settings → History → ℕ → ℕ → Contents
dumped s h a max = record { records = take max (live_from s h a); next = first_tid (drop max (live_from s h a)) }

-- whether the last page was given, once this one was too: the last one is that behind which no next one begins
abbrev pub paged_after : Contents → Bool → Bool
paged_after p given = is_none p.next || given

-- what a page asks of a thread: a tid, a number and a CPU in its mask, and that it may be where it is
pub record IsTold (l : DumpRecord) : Type 0 where
  pub tid_low : 1 ≤ l.tid
  pub tid_high : l.tid ≤ MOST_TIDS
  pub tseq : 1 ≤ l.known.tseq
  pub mask : 0 < l.known.facts.mask
  pub cpu : IsCpuOrNone l.cpu
  pub runs : IfSome l.cpu (λ c. (l.known.facts.runnable ≡ true) × (has l.known.facts.mask c ≡ true))
