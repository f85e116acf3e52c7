-- What a run does to the bytes that its reader has and its writer holds, if these are known.
use Rattle.std.specs.Prelude.{ℕ, ◌<◌, ◌≤◌, List, Option, Result, IfSome, length, take}
use Rattle.std.specs.Io.KnownBytes.{Appends, Consumes, IsAtEnd, Keeps}
use Rattle.gs_script.specs.Held.{Faults}
use Rattle.gs_script.specs.declared.fault.ScriptFault.{ScriptFault}
use Rattle.gs_script.specs.declared.script.TheConstants.{MOST_BYTES}
use Rattle.gs_trace.specs.declared.answering.Unanswered.{Unanswered}
use Rattle.gs_trace.specs.declared.answering.Unanswered.TheVariants.{Script, WriteFailed}
use Rattle.gs_trace.specs.declared.pipe.TheConstants.{MOST_READ_BYTES}
use Rattle.gs_trace.specs.declared.run.Ended.{Ended}

-- these bytes were read: all that the reader had, or more than a script may have, but then at most so many
pub record IsRead (had left : Option (List ℕ)) (bytes : List ℕ) : Type 0 where
  pub consumed : Consumes had left bytes
  pub whole : length bytes ≤ MOST_BYTES → IsAtEnd left
  pub bounded : length bytes ≤ MOST_READ_BYTES

-- at most so many bytes were read
abbrev pub ConsumesAtMost : ℕ → Option (List ℕ) → Option (List ℕ) → Type 0
ConsumesAtMost most had left = (bytes : List ℕ) × Consumes had left bytes × (length bytes ≤ most)

-- what is to be written for all that the reader had was written. `IsAnswer input ended out` says what is to be written for an input,
-- and how that ends
abbrev pub AnswersAll : (List ℕ → Ended → List ℕ → Type 0) → Ended → Option (List ℕ) → Option (List ℕ) → Option (List ℕ) → Type 0
AnswersAll IsAnswer ended had before after = IfSome had (λ input. (out : List ℕ) × IsAnswer input ended out × Appends before after out)

-- this was read, and what is to be written for it was written
abbrev pub AnswersOf : (List ℕ → Ended → List ℕ → Type 0) → List ℕ → Ended → Option (List ℕ) → Option (List ℕ) → Option (List ℕ) → Option (List ℕ) → Type 0
AnswersOf IsAnswer input ended had left before after = (out : List ℕ) × IsRead had left input × IsAnswer input ended out × Appends before after out

-- what is to be written for what was read was written
abbrev pub AnswersRead : (List ℕ → Ended → List ℕ → Type 0) → Ended → Option (List ℕ) → Option (List ℕ) → Option (List ℕ) → Option (List ℕ) → Type 0
AnswersRead IsAnswer ended had left before after = (input : List ℕ) × AnswersOf IsAnswer input ended had left before after

-- of what is to be written for all that the reader had a beginning was written, short of the whole
abbrev pub BeginsAnswer : (List ℕ → Ended → List ℕ → Type 0) → Option (List ℕ) → Option (List ℕ) → Option (List ℕ) → Type 0
BeginsAnswer IsAnswer had before after = IfSome had (λ input. (ended : Ended) × (out : List ℕ) × (n : ℕ) × IsAnswer input ended out × Appends before after (take n out) × (n < length out))

-- bytes that satisfy this were written
abbrev pub Writes : (List ℕ → Type 0) → Option (List ℕ) → Option (List ℕ) → Type 0
Writes Is before after = (out : List ℕ) × Is out × Appends before after out

-- of bytes that satisfy this a beginning was written, short of the whole
abbrev pub Begins : (List ℕ → Type 0) → Option (List ℕ) → Option (List ℕ) → Type 0
Begins Is before after = (out : List ℕ) × (n : ℕ) × Is out × Appends before after (take n out) × (n < length out)

-- what an error leaves: nothing was written if a script has this fault, or memory ran out, and else a beginning of bytes that satisfy this
abbrev pub Leaves : {A : Type 0} → Result A ScriptFault → (List ℕ → Type 0) → Option (List ℕ) → Option (List ℕ) → Unanswered → Type 0
Leaves read Is before after (Script e) = Faults e read × Keeps before after
Leaves read Is before after WriteFailed = Begins Is before after
