-- What holds of a group while it lands.
use Rattle.std.specs.Prelude.{◌≡◌, true, false, ◌==◌, ℕ, suc, ◌<◌, ◌≤◌, None, [], ◌∷◌}
use Rattle.gs_slots.specs.declared.state.Stamp.{Stamp}
use Rattle.gs_journal.specs.History.{History, seq, record_in, on, at, active, torn}
use Rattle.gs_kernel.specs.declared.settings.Settings.{Settings}
use Rattle.gs_kernel.specs.Group.{Group}
use Rattle.gs_kernel.specs.Kernel.{is_spent_there}
use Rattle.gs_kernel.specs.Landing.{is_generation}
use Rattle.gs_kernel.specs.Threads.{is_runnable, may_run_on}

-- what holds of a transaction of the group until it is placed, whoever is on its CPU
pub record IsReady (s : Settings) (h : History) (k : ℕ) (b : Stamp) : Type 0 where
  pub up : torn h ≡ false
  pub generation : is_generation b.generation (active h) ≡ true
  pub current : (b.tseq == seq s.first_tseq h b.tid) ≡ true
  pub runnable : is_runnable (record_in h b.tid) ≡ true
  pub nowhere : at s.cpus h b.tid ≡ None
  pub allowed : may_run_on k (record_in h b.tid) ≡ true

abbrev pub AreReady : Settings → History → Group → Type 0
AreReady s h [] = Unit {0}
AreReady s h (x ∷ g) = (x.0 < s.cpus) × IsReady s h x.0 x.1 × AreReady s h g

abbrev pub AreFree : History → Group → Type 0
AreFree h [] = Unit {0}
AreFree h (x ∷ g) = (on h x.0 ≡ None) × AreFree h g

-- another CPU, and another thread, than each of these
abbrev pub IsApart : ℕ × Stamp → Group → Type 0
IsApart x [] = Unit {0}
IsApart x (y ∷ g) = ((x.0 == y.0) ≡ false) × ((x.1.tid == y.1.tid) ≡ false) × IsApart x g

abbrev pub AreApart : Group → Type 0
AreApart [] = Unit {0}
AreApart (x ∷ g) = IsApart x g × AreApart g

-- the CPUs are the enclave's, and who is on one can be told
abbrev pub AreNumbered : Settings → History → Group → Type 0
AreNumbered s h [] = Unit {0}
AreNumbered s h (x ∷ g) = (x.0 < s.cpus) × (is_spent_there s h (on h x.0) ≡ false) × AreNumbered s h g

-- the CPUs of the group rise from one on, and are below another
abbrev pub Rises : ℕ → ℕ → Group → Type 0
Rises n m [] = Unit {0}
Rises n m (x ∷ g) = (n ≤ x.0) × (x.0 < m) × Rises (suc x.0) m g

-- the CPUs are below this one
abbrev pub AreBelow : ℕ → Group → Type 0
AreBelow n [] = Unit {0}
AreBelow n (x ∷ g) = (x.0 < n) × AreBelow n g
