-- A thread that lives keeps a CPU in its mask.
use Rattle.std.proofs.Common.{ℕ, ◌<◌, ◌++◌, ◌∷◌, [], Bool, true, false, cond, sym, subst}
use Rattle.gs_layout.specs.declared.message.Change.{Change}
use Rattle.gs_layout.specs.declared.message.Change.TheVariants as changes
use Rattle.gs_layout.specs.declared.message.Message.TheVariants.{Thread, TimerTick}
use Rattle.gs_layout.specs.declared.record.Record.{Record}
use Rattle.gs_layout.specs.declared.record.Record.TheVariants.{Absent, Dead, Live}
use Rattle.gs_layout.specs.Message.{is_about}
use Rattle.gs_layout.specs.Record.{after}
use Rattle.gs_journal.specs.declared.entry.Entry.TheVariants.{Posted}
use Rattle.gs_journal.specs.History.{History, record_in}
use Rattle.gs_journal.proofs.Laws.{record_push}
use Rattle.gs_kernel.specs.Threads.{HasMask}

-- the mask that a change gives a thread, if it gives one, has a CPU
abbrev pub GivesMask : Change → Type 0
GivesMask (changes.Created f) = 0 < f.mask
GivesMask (changes.Affinity o off mask) = 0 < mask
GivesMask _ = Unit {0}

pub masked_after : (r : Record) (t s : ℕ) (c : Change) → HasMask r → GivesMask c → HasMask (after r (Thread t s c))
masked_after Absent t s (changes.Created f) has gives = gives
masked_after Absent t s (changes.Blocked c) has gives = tt
masked_after Absent t s changes.Wakeup has gives = tt
masked_after Absent t s (changes.Preempted c) has gives = tt
masked_after Absent t s (changes.Yield c) has gives = tt
masked_after Absent t s (changes.Dead o) has gives = tt
masked_after Absent t s (changes.Affinity o off mask) has gives = tt
masked_after Dead t s c has gives = tt
masked_after (Live f) t s (changes.Created g) has gives = gives
masked_after (Live f) t s (changes.Blocked c) has gives = has
masked_after (Live f) t s changes.Wakeup has gives = has
masked_after (Live f) t s (changes.Preempted c) has gives = has
masked_after (Live f) t s (changes.Yield c) has gives = has
masked_after (Live f) t s (changes.Dead o) has gives = tt
masked_after (Live f) t s (changes.Affinity o off mask) has gives = gives

-- after a message about a thread, and after a tick
pub masked_told : (h : History) (t s : ℕ) (c : Change) → ((u : ℕ) → HasMask (record_in h u)) → GivesMask c → (u : ℕ) → HasMask (record_in (h ++ Posted (Thread t s c) ∷ []) u)
masked_told h t s c has gives u = subst HasMask (sym (record_push u h (Posted (Thread t s c)))) (by_thread (is_about u (Thread t s c)))
  where
    by_thread : (b : Bool) → HasMask (cond b (after (record_in h u) (Thread t s c)) (record_in h u))
    by_thread true = masked_after (record_in h u) t s c (has u) gives
    by_thread false = has u

pub masked_tick : (h : History) (c : ℕ) → ((u : ℕ) → HasMask (record_in h u)) → (u : ℕ) → HasMask (record_in (h ++ Posted (TimerTick c) ∷ []) u)
masked_tick h c has u = subst HasMask (sym (record_push u h (Posted (TimerTick c)))) (by_thread (is_about u (TimerTick c)))
  where
    by_thread : (b : Bool) → HasMask (cond b (record_in h u) (record_in h u))
    by_thread true = has u
    by_thread false = has u
