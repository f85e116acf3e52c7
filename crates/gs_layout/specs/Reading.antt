-- What stands in the bytes of a message.
use Rattle.std.specs.Prelude.{◌≡◌, Bool, ◌==◌, ℕ, Option, None, Some, unwrap_or, List, ◌++◌, take, drop, slice_index, if◌then◌else◌}
use Rattle.std.specs.List.{list_all}
use Rattle.byteorder.specs.Endian.{little_number}
use Rattle.gs_layout.specs.declared.wire.TheConstants.{AFFINITY_LEN, CLASS_AT, CPU_AT, FLAGS_AT, HEADER_LEN, KIND_AT, LEAST_CREATION_LEN, MASK_AT, MASK_LEN, NAME_AT, NAME_LEN_AT, TID_AT, TSEQ_AT}
use Rattle.gs_layout.specs.declared.cpu.TheConstants.{NO_CPU}
use Rattle.gs_layout.specs.declared.facts.Class.{Class}
use Rattle.gs_layout.specs.declared.facts.Class.TheVariants.{Zero, One}
use Rattle.gs_layout.specs.declared.facts.Facts.{Facts}
use Rattle.gs_layout.specs.declared.kind.Kind.{Kind}
use Rattle.gs_layout.specs.declared.kind.Kind.TheVariants as kinds
use Rattle.gs_layout.specs.declared.message.Change.{Change}
use Rattle.gs_layout.specs.declared.message.Change.TheVariants.{Created, Blocked, Wakeup, Preempted, Yield, Dead, Affinity}
use Rattle.gs_layout.specs.declared.message.Message.{Message}
use Rattle.gs_layout.specs.declared.message.Message.TheVariants.{Thread, TimerTick}
use Rattle.gs_layout.specs.Spelling.{IsSpellable, spelling}

-- the bytes begin with the spelling of the message
pub record Begins (bytes : List ℕ) (m : Message) : Type 0 where
  pub spellable : IsSpellable m
  pub rest : List ℕ
  pub whole : bytes ≡ spelling m ++ rest

-- the bytes begin with some message
abbrev pub IsMessage : List ℕ → Type 0
IsMessage bytes = (m : Message) × Begins bytes m

-- the number of n bytes that stands at a place
abbrev pub number_at : ℕ → ℕ → List ℕ → ℕ
number_at place n bytes = little_number n (drop place bytes)

abbrev pub are_zeros : List ℕ → Bool
are_zeros bytes = list_all (λ b. b == 0) bytes

-- the kind that a number stands for
abbrev pub kind_numbered : ℕ → Option Kind
kind_numbered n =
    if n == 1 then Some kinds.Created else if n == 2 then Some kinds.Blocked else if n == 3 then Some kinds.Wakeup else if n == 4 then Some kinds.Preempted else if n == 5 then Some kinds.Yield else if n == 6 then Some kinds.Dead else if n == 7 then Some kinds.Affinity else if n == 8 then Some kinds.TimerTick else None

abbrev pub cpu_numbered : ℕ → Option ℕ
cpu_numbered n = if n == NO_CPU then None else Some n

abbrev pub class_numbered : ℕ → Class
class_numbered n = if n == 0 then Zero else One

abbrev pub cpu_in : List ℕ → Option ℕ
cpu_in bytes = cpu_numbered (number_at CPU_AT 2 bytes)

-- whether bit 0 of the flags is set, and nothing else
abbrev pub flag_in : List ℕ → Bool
flag_in bytes = number_at FLAGS_AT 2 bytes == 1

abbrev pub name_in : List ℕ → List ℕ
name_in bytes = take (slice_index bytes NAME_LEN_AT) (drop NAME_AT bytes)

abbrev pub facts_in : List ℕ → Facts
facts_in bytes = record {
  runnable = flag_in bytes;
  mask = number_at MASK_AT MASK_LEN bytes;
  class = class_numbered (slice_index bytes CLASS_AT);
  name = name_in bytes;
}

-- the change of a kind that the fields name; a tick is no change
abbrev pub change_with : Kind → List ℕ → Change
change_with kinds.Created bytes = Created (facts_in bytes)
change_with kinds.Blocked bytes = Blocked (number_at CPU_AT 2 bytes)
change_with kinds.Wakeup bytes = Wakeup
change_with kinds.Preempted bytes = Preempted (number_at CPU_AT 2 bytes)
change_with kinds.Yield bytes = Yield (number_at CPU_AT 2 bytes)
change_with kinds.Dead bytes = Dead (cpu_in bytes)
change_with kinds.Affinity bytes = Affinity (cpu_in bytes) (flag_in bytes) (number_at MASK_AT MASK_LEN bytes)
change_with kinds.TimerTick bytes = Wakeup

-- the message of a kind that the fields name
abbrev pub message_with : Kind → List ℕ → Message
message_with kinds.TimerTick bytes = TimerTick (number_at CPU_AT 2 bytes)
message_with k bytes = Thread (number_at TID_AT 4 bytes) (number_at TSEQ_AT 4 bytes) (change_with k bytes)

-- the fewest bytes that a message of a kind has
abbrev pub least : Kind → ℕ
least kinds.Created = LEAST_CREATION_LEN
least kinds.Affinity = AFFINITY_LEN
least _ = HEADER_LEN

-- the kind that the bytes name; they name one if they begin with a message
abbrev pub kind_in : List ℕ → Kind
kind_in bytes = unwrap_or (kind_numbered (number_at KIND_AT 2 bytes)) kinds.TimerTick

-- the message that the bytes begin with, if they do
abbrev pub message_in : List ℕ → Message
message_in bytes = message_with (kind_in bytes) bytes
