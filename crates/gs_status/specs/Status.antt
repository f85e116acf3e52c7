-- What the kernel shows of a thread, and the word that shows it.
use Rattle.std.specs.Prelude.{Bool, true, false, ℕ, ◌+◌, ◌*◌, ◌^◌, ◌<◌, ◌≡◌, Option, None, Some, is_some}
use Rattle.gs_status.specs.declared.mask.TheConstants.{MOST_CPUS}
use Rattle.gs_status.specs.declared.status.TheConstants.{CPU_BIT, FLAGS_BIT, NO_CPU_BYTE}

-- a thread's sequence number, the CPU that it is on, whether it may run, and whether it lives
pub record Status : Type 0 where
  pub tseq : ℕ
  pub cpu : Option ℕ
  pub runnable : Bool
  pub alive : Bool

-- a sequence number has 32 bits, and a CPU is below the most that there may be. A thread on a CPU may run, and one that may run lives
pub record IsStatus (s : Status) : Type 0 where
  pub of_32_bits : s.tseq < 2 ^ 32
  pub within : (c : ℕ) → s.cpu ≡ Some c → c < MOST_CPUS
  pub runs : (c : ℕ) → s.cpu ≡ Some c → s.runnable ≡ true
  pub lives : s.runnable ≡ true → s.alive ≡ true

-- the byte of a CPU, or the one that stands for none
abbrev pub cpu_byte : Option ℕ → ℕ
cpu_byte None = NO_CPU_BYTE
cpu_byte (Some c) = c

abbrev pub bit : Bool → ℕ
bit true = 1
bit false = 0

-- the word: from bit 0 the sequence number, from CPU_BIT the byte of the CPU, and from FLAGS_BIT runnable, alive, on a CPU
abbrev pub packed : Status → ℕ
packed s =
    s.tseq + cpu_byte s.cpu * 2 ^ CPU_BIT + bit s.runnable * 2 ^ FLAGS_BIT + bit s.alive * 2 ^ (FLAGS_BIT + 1) + bit (is_some s.cpu) * 2 ^ (FLAGS_BIT + 2)

-- the word shows this status
pub record Spells (s : Status) (word : ℕ) : Type 0 where
  pub status : IsStatus s
  pub same : packed s ≡ word
