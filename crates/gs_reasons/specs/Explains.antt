-- The entry that explains an outcome, and what it says.
use Rattle.std.specs.Prelude.{true, false, ℕ, ◌<◌, ◌≤◌, ◌≡◌, ◌⊎◌, ⊤, None, Some}
use Rattle.gs_layout.specs.declared.outcome.Outcome.{Outcome}
use Rattle.gs_layout.specs.declared.outcome.Outcome.TheVariants as outcomes
use Rattle.gs_layout.specs.declared.record.Record.TheVariants.{Absent}
use Rattle.gs_status.specs.Masks.{has}
use Rattle.gs_slots.specs.declared.state.Stamp.{Stamp}
use Rattle.gs_journal.specs.History.{History, seq, record_in, on, at, role_by, placed_on, taken_by}
use Rattle.gs_kernel.specs.declared.settings.Settings.{Settings}
use Rattle.gs_kernel.specs.Kernel.{is_full}
use Rattle.gs_kernel.specs.Landing.{is_generation, placing_entries}
use Rattle.gs_reasons.specs.declared.sign.Sign.{Sign}
use Rattle.gs_reasons.specs.declared.sign.Sign.TheVariants as signs
use Rattle.gs_reasons.specs.Place.{last_place}
use Rattle.gs_reasons.specs.Sign.{is_sign}
use Rattle.gs_reasons.specs.Entries.{AtPlace, runs_by, masks_by, number_by, torn_by}

-- nothing was ever said of this
abbrev pub NeverSaid : History → Sign → Type 0
NeverSaid h g = last_place (is_sign g) h ≡ None

-- The last entry about the stamped thread gives it the number that it has, which is not the stamp's. It is a later one, if the stamp's is not above
-- the thread's
pub record Outdates (first : ℕ) (h : History) (b : Stamp) (n : ℕ) : Type 0 where
  pub now : n ≡ seq first h b.tid
  pub other : b.tseq ≡ n → ⊥
  pub later : b.tseq ≤ seq first h b.tid → b.tseq < n

-- somebody is on the CPU, and was put there by the last placing there
pub record IsSeated (h : History) (c u : ℕ) : Type 0 where
  pub there : on h c ≡ Some u
  pub by : AtPlace h (signs.Seat c) (λ e. placed_on c e ≡ Some u)

-- what explains the outcome of a transaction that is stamped so, to CPU k
abbrev pub Explains : Outcome → Settings → History → ℕ → Stamp → Type 0
Explains outcomes.Placed s h k b = ⊤
Explains outcomes.Gone s h k b = AtPlace h signs.TornDown (λ e. torn_by e ≡ Some true)
Explains outcomes.Displaced s h k b = NeverSaid h signs.Agent ⊎ AtPlace h signs.Agent (λ e. is_generation b.generation (role_by e) ≡ false)
Explains outcomes.NoThread s h k b = (NeverSaid h (signs.Death b.tid) × (record_in h b.tid ≡ Absent)) ⊎ AtPlace h (signs.Death b.tid) (λ e. ⊤)
Explains outcomes.Stale s h k b = AtPlace h (signs.About b.tid) (λ e. (n : ℕ) × (number_by b.tid e ≡ Some n) × Outdates s.first_tseq h b n)
Explains outcomes.NotRunnable s h k b = AtPlace h (signs.Runs b.tid) (λ e. runs_by b.tid e ≡ Some false)
Explains outcomes.AlreadyPlaced s h k b = (c : ℕ) × (at s.cpus h b.tid ≡ Some c) × IsSeated h c b.tid
Explains outcomes.NotAllowed s h k b = AtPlace h (signs.Mask b.tid) (λ e. (m : ℕ) × (masks_by b.tid e ≡ Some m) × (has m k ≡ false))
Explains outcomes.CpuIsAgent s h k b = AtPlace h signs.Agent (λ e. (g : ℕ) × (role_by e ≡ Some (g, k)))
Explains outcomes.CpuTaken s h k b = AtPlace h (signs.Held k) (λ e. taken_by k e ≡ Some true)
Explains outcomes.CpuBusy s h k b = (u : ℕ) × IsSeated h k u
Explains outcomes.SeqSpent s h k b = (u : ℕ) × IsSeated h k u
Explains outcomes.HistoryFull s h k b = is_full s h (placing_entries (on h k)) ≡ true
Explains outcomes.Malformed s h k b = ⊥
Explains outcomes.GroupFailed s h k b = ⊥
