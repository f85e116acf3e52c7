-- The bytes of a message. All numbers are little-endian, and every byte that no field names is zero.
use Rattle.std.specs.Prelude.{◌≡◌, Bool, true, false, ◌&&◌, nat_le, nat_lt, ℕ, ◌+◌, ◌-◌, ◌*◌, ◌/◌, ◌^◌, ◌<◌, ◌≤◌, Option, None, Some, List, [], ◌∷◌, ◌++◌, length, replicate, if◌then◌else◌}
use Rattle.byteorder.specs.Endian.{little_bytes}
use Rattle.gs_layout.specs.declared.wire.TheConstants.{AFFINITY_LEN, ALIGNMENT, HEADER_LEN, MASK_LEN, NAME_AT}
use Rattle.gs_status.specs.declared.mask.TheConstants.{MOST_CPUS}
use Rattle.gs_layout.specs.declared.cpu.TheConstants.{NO_CPU}
use Rattle.gs_layout.specs.declared.facts.Class.{Class}
use Rattle.gs_layout.specs.declared.facts.Facts.{Facts}
use Rattle.gs_layout.specs.declared.kind.Kind.{Kind}
use Rattle.gs_layout.specs.declared.kind.Kind.TheVariants as kinds
use Rattle.gs_layout.specs.declared.message.Change.{Change}
use Rattle.gs_layout.specs.declared.message.Change.TheVariants.{Created, Blocked, Wakeup, Preempted, Yield, Dead, Affinity}
use Rattle.gs_layout.specs.declared.message.Message.{Message}
use Rattle.gs_layout.specs.declared.message.TheConstants.{MOST_TIDS}
use Rattle.gs_layout.specs.declared.message.Message.TheVariants.{Thread, TimerTick}
use Rattle.gs_layout.specs.Class.{class_number}
use Rattle.gs_layout.specs.Kind.{kind_number}
use Rattle.gs_layout.specs.Message.{tseq_of}
use Rattle.gs_layout.specs.Name.{is_name}

abbrev pub kind_of_change : Change → Kind
kind_of_change (Created f) = kinds.Created
kind_of_change (Blocked c) = kinds.Blocked
kind_of_change Wakeup = kinds.Wakeup
kind_of_change (Preempted c) = kinds.Preempted
kind_of_change (Yield c) = kinds.Yield
kind_of_change (Dead c) = kinds.Dead
kind_of_change (Affinity c off m) = kinds.Affinity

abbrev pub kind_of : Message → Kind
kind_of (Thread t s c) = kind_of_change c
kind_of (TimerTick c) = kinds.TimerTick

-- the thread that a message is about, 0 for a tick
abbrev pub tid_of : Message → ℕ
tid_of (Thread t s c) = t
tid_of (TimerTick c) = 0

abbrev pub cpu_of_change : Change → Option ℕ
cpu_of_change (Created f) = None
cpu_of_change (Blocked c) = Some c
cpu_of_change Wakeup = None
cpu_of_change (Preempted c) = Some c
cpu_of_change (Yield c) = Some c
cpu_of_change (Dead c) = c
cpu_of_change (Affinity c off m) = c

-- the CPU that the thread was on just before, or the CPU of the tick
abbrev pub cpu_of : Message → Option ℕ
cpu_of (Thread t s c) = cpu_of_change c
cpu_of (TimerTick c) = Some c

-- the number of a CPU, or the one that stands for none
abbrev pub cpu_number : Option ℕ → ℕ
cpu_number None = NO_CPU
cpu_number (Some c) = c

abbrev pub flags_of_change : Change → ℕ
flags_of_change (Created f) = if f.runnable then 1 else 0
flags_of_change (Affinity c off m) = if off then 1 else 0
flags_of_change _ = 0

-- bit 0: of a creation, whether the thread is runnable; of a new mask, whether the thread was taken
-- off its CPU
abbrev pub flags_of : Message → ℕ
flags_of (Thread t s c) = flags_of_change c
flags_of (TimerTick c) = 0

-- the mask of a creation or of a new mask
abbrev pub mask_of : Message → Option ℕ
mask_of (Thread t s (Created f)) = Some f.mask
mask_of (Thread t s (Affinity c off m)) = Some m
mask_of _ = None

-- the class of a creation
abbrev pub class_of : Message → Option Class
class_of (Thread t s (Created f)) = Some f.class
class_of _ = None

-- the name of a creation
abbrev pub name_of : Message → Option (List ℕ)
name_of (Thread t s (Created f)) = Some f.name
name_of _ = None

-- the next multiple of 8
abbrev pub round_up : ℕ → ℕ
round_up n = (n + (ALIGNMENT - 1)) / ALIGNMENT * ALIGNMENT

abbrev pub size_of_change : Change → ℕ
size_of_change (Created f) = round_up (NAME_AT + length f.name)
size_of_change (Affinity c off m) = AFFINITY_LEN
size_of_change _ = HEADER_LEN

-- how many bytes a message has
abbrev pub size_of : Message → ℕ
size_of (Thread t s c) = size_of_change c
size_of (TimerTick c) = HEADER_LEN

-- the header, by its numbers
abbrev pub header_bytes : ℕ → ℕ → ℕ → ℕ → ℕ → ℕ → List ℕ
header_bytes len kind tid tseq cpu flags =
    little_bytes 2 len ++ little_bytes 2 kind ++ little_bytes 4 tid ++ little_bytes 4 tseq ++ little_bytes 2 cpu ++ little_bytes 2 flags

-- the zeros behind a name
abbrev pub padding : ℕ → List ℕ
padding name_len = replicate (round_up (NAME_AT + name_len) - (NAME_AT + name_len)) 0

-- a name, and the zeros behind it
abbrev pub name_bytes : List ℕ → List ℕ
name_bytes name = name ++ padding (length name)

-- of a creation: mask, class, the name's length, the name, zeros
abbrev pub facts_bytes : Facts → List ℕ
facts_bytes f = (little_bytes MASK_LEN f.mask ++ class_number f.class ∷ length f.name ∷ []) ++ name_bytes f.name

abbrev pub more_of_change : Change → List ℕ
more_of_change (Created f) = facts_bytes f
more_of_change (Affinity c off m) = little_bytes MASK_LEN m
more_of_change _ = []

-- the bytes behind the header
abbrev pub more_of : Message → List ℕ
more_of (Thread t s c) = more_of_change c
more_of (TimerTick c) = []

-- the header of a message
abbrev pub header_of : Message → List ℕ
header_of m = header_bytes (size_of m) (kind_number (kind_of m)) (tid_of m) (tseq_of m) (cpu_number (cpu_of m)) (flags_of m)

-- the one list of bytes that the layout gives a message: its header, behind that of a creation mask, class, name and zeros, and of a new
-- mask the mask
abbrev pub spelling : Message → List ℕ
spelling m = header_of m ++ more_of m

-- a mask that a message may have: some CPU, and none that there cannot be
abbrev pub IsMask : ℕ → Type 0
IsMask mask = (0 < mask) × (mask < 2 ^ MOST_CPUS)

abbrev pub is_cpu_or_none : Option ℕ → Bool
is_cpu_or_none None = true
is_cpu_or_none (Some c) = nat_lt c MOST_CPUS

-- a CPU that there may be, or none
abbrev pub IsCpuOrNone : Option ℕ → Type 0
IsCpuOrNone None = Unit {0}
IsCpuOrNone (Some c) = c < MOST_CPUS

-- the ranges of what happened to a thread
abbrev pub IsSpellableChange : Change → Type 0
IsSpellableChange (Created f) = IsMask f.mask × (is_name f.name ≡ true)
IsSpellableChange (Blocked c) = c < MOST_CPUS
IsSpellableChange Wakeup = Unit {0}
IsSpellableChange (Preempted c) = c < MOST_CPUS
IsSpellableChange (Yield c) = c < MOST_CPUS
IsSpellableChange (Dead c) = IsCpuOrNone c
IsSpellableChange (Affinity None off m) = IsMask m × (off ≡ false)
IsSpellableChange (Affinity (Some c) off m) = IsMask m × (c < MOST_CPUS)

-- whether this is a thread's number
abbrev pub is_tid : ℕ → Bool
is_tid tid = nat_le 1 tid && nat_le tid MOST_TIDS

-- whether these are a thread's number and the number of a message about it, which has 4 bytes
abbrev pub are_numbers : ℕ → ℕ → Bool
are_numbers tid tseq = is_tid tid && nat_le 1 tseq

-- the same as ranges
pub record AreNumbers (tid tseq : ℕ) : Type 0 where
  pub tid_low : 1 ≤ tid
  pub tid_high : tid ≤ MOST_TIDS
  pub tseq_low : 1 ≤ tseq
  pub tseq_high : tseq < 2 ^ 32

-- what has a spelling: the ranges of the layout
abbrev pub IsSpellable : Message → Type 0
IsSpellable (Thread t s c) = AreNumbers t s × IsSpellableChange c
IsSpellable (TimerTick c) = c < MOST_CPUS
