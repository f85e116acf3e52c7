-- What stands behind each verdict, and what the entry at the reason's place says.
use Rattle.std.specs.Prelude.{true, false, ℕ, ◌==◌, ◌≡◌, ⊤, is_some}
use Rattle.gs_layout.specs.declared.outcome.Outcome.{Outcome}
use Rattle.gs_layout.specs.declared.outcome.Outcome.TheVariants as outcomes
use Rattle.gs_journal.specs.History.{History, seq, record_in, on, at, active, taken, torn}
use Rattle.gs_slots.specs.declared.state.Stamp.{Stamp}
use Rattle.gs_kernel.specs.declared.settings.Settings.{Settings}
use Rattle.gs_kernel.specs.Kernel.{is_agent_on, is_full, is_spent_there}
use Rattle.gs_kernel.specs.Landing.{is_generation, placing_entries}
use Rattle.gs_kernel.specs.Threads.{is_runnable, may_run_on}
use Rattle.gs_threads.specs.Rows.{is_live}

-- the clause that makes an outcome, of a transaction that is stamped so, to CPU k
abbrev pub Because : Outcome → Settings → History → ℕ → Stamp → Type 0
Because outcomes.Placed s h k b = ⊤
Because outcomes.Gone s h k b = torn h ≡ true
Because outcomes.Displaced s h k b = is_generation b.generation (active h) ≡ false
Because outcomes.NoThread s h k b = is_live (record_in h b.tid) ≡ false
Because outcomes.Stale s h k b = (is_live (record_in h b.tid) ≡ true) × ((b.tseq == seq s.first_tseq h b.tid) ≡ false)
Because outcomes.NotRunnable s h k b = (is_live (record_in h b.tid) ≡ true) × (is_runnable (record_in h b.tid) ≡ false)
Because outcomes.AlreadyPlaced s h k b = is_some (at s.cpus h b.tid) ≡ true
Because outcomes.NotAllowed s h k b = (is_live (record_in h b.tid) ≡ true) × (may_run_on k (record_in h b.tid) ≡ false)
Because outcomes.CpuIsAgent s h k b = is_agent_on k (active h) ≡ true
Because outcomes.CpuTaken s h k b = taken h k ≡ true
Because outcomes.CpuBusy s h k b = is_some (on h k) ≡ true
Because outcomes.SeqSpent s h k b = is_spent_there s h (on h k) ≡ true
Because outcomes.HistoryFull s h k b = is_full s h (placing_entries (on h k)) ≡ true
Because outcomes.Malformed s h k b = ⊥
Because outcomes.GroupFailed s h k b = ⊥
