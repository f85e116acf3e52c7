-- What is spelt in the bytes of a slot is read back from them.
use Rattle.std.proofs.Common.{◌-◌, ◌≡◌, Bool, true, false, cond, ℕ, Option, None, Some, List, [], ◌++◌, replicate, refl}
use Rattle.std.specs.Prelude.{◌==◌, ◌&&◌, unwrap_or}
use Rattle.std.proofs.lemmas.Bool.{and_parts}
use Rattle.byteorder.specs.Endian.{little_bytes, little_number}
use Rattle.gs_slots.specs.declared.wire.TheConstants.{DONE, END_AT, OUTCOME_AT, SLOT_LEN, STAMPED}
use Rattle.gs_layout.specs.declared.outcome.Outcome.{Outcome}
use Rattle.gs_layout.specs.declared.outcome.Outcome.TheVariants as outcomes
use Rattle.gs_layout.specs.Outcome.{outcome_number, outcome_numbered}
use Rattle.gs_layout.specs.Spelling.{IsCpuOrNone, is_cpu_or_none}
use Rattle.gs_layout.proofs.Laws.{cpu_back, cpu_from, reads}
use Rattle.gs_slots.specs.declared.state.SlotState.{SlotState}
use Rattle.gs_slots.specs.declared.state.SlotState.TheVariants.{Idle, Stamped, Done}
use Rattle.gs_slots.specs.declared.flags.Flags.{Flags}
use Rattle.gs_slots.specs.declared.state.Stamp.{Stamp}
use Rattle.gs_slots.specs.Flags.{flags_byte, flags_in}
use Rattle.gs_slots.specs.Reading.{fields_in, stamp_in}
use Rattle.gs_slots.specs.State.{is_malformed}
use Rattle.gs_slots.specs.Spelling.{IsSpellableState, IsSpellableStamp, is_blank, is_result, result_bytes, slot_spelling, stamp_bytes}

flags_back : (f : Flags) → flags_in (flags_byte f) ≡ f
flags_back f = by_flag f.preempt f.group
  where
    by_flag : (p g : Bool) → flags_in (flags_byte (record { preempt = p; group = g })) ≡ record { preempt = p; group = g }
    by_flag true true = refl
    by_flag true false = refl
    by_flag false true = refl
    by_flag false false = refl

outcome_back : (o : Outcome) → unwrap_or (outcome_numbered (little_number 2 (little_bytes 2 (outcome_number o) ++ []))) outcomes.Malformed ≡ o
outcome_back outcomes.Placed = refl
outcome_back outcomes.Gone = refl
outcome_back outcomes.Displaced = refl
outcome_back outcomes.NoThread = refl
outcome_back outcomes.Stale = refl
outcome_back outcomes.NotRunnable = refl
outcome_back outcomes.AlreadyPlaced = refl
outcome_back outcomes.NotAllowed = refl
outcome_back outcomes.CpuIsAgent = refl
outcome_back outcomes.CpuTaken = refl
outcome_back outcomes.CpuBusy = refl
outcome_back outcomes.SeqSpent = refl
outcome_back outcomes.HistoryFull = refl
outcome_back outcomes.Malformed = refl
outcome_back outcomes.GroupFailed = refl

stamp_back : (kind cpu : ℕ) (s : Stamp) (rest : List ℕ) → IsSpellableStamp s → stamp_in (stamp_bytes kind cpu s ++ rest) ≡ s
stamp_back kind cpu s rest fits = λ i. record {
  generation = reads 4 s.generation fits.generation i;
  tid = reads 4 s.tid fits.tid i;
  tseq = reads 4 s.tseq fits.tseq i;
  flags = flags_back s.flags i;
}

-- if a slot can hold a result, its CPU is one or none
some_is_set : (a b c f d : Bool) → (a && b && c && f && false && d) ≡ true → ⊥
some_is_set a b c f d e =
    let left = (and_parts (a && b && c && f && false) d e).0 in
    let none = (and_parts (a && b && c && f) false left).1 in
    cc

none_of_blank : (s : Stamp) (at : Option ℕ) (seen : ℕ) → is_blank s at seen ≡ true → IsCpuOrNone at
none_of_blank s None seen e = tt
none_of_blank s (Some c) seen e = absurd (some_is_set (s.generation == 0) (s.tid == 0) (s.tseq == 0) (flags_byte s.flags == 0) (seen == 0) e)

pub cpu_of_result : (s : Stamp) (o : Outcome) (at : Option ℕ) (seen : ℕ) → is_result s o at seen ≡ true → IsCpuOrNone at
cpu_of_result s o at seen e = by_outcome (is_malformed o) e
  where
    by_outcome : (b : Bool) → cond b (is_blank s at seen) (is_cpu_or_none at) ≡ true → IsCpuOrNone at
    by_outcome true e = none_of_blank s at seen e
    by_outcome false e = cpu_from at e

-- the fields of a state's spelling say that state
pub read_back : (cpu : ℕ) (s : SlotState) → IsSpellableState s → fields_in (slot_spelling cpu s) ≡ s
read_back cpu Idle fits = refl
read_back cpu (Stamped s) fits = λ i. Stamped (stamp_back STAMPED cpu s (replicate (SLOT_LEN - OUTCOME_AT) 0) fits.1 i)
read_back cpu (Done s outcome at seen) fits =
    λ i. Done (stamp_back DONE cpu s (result_bytes outcome at seen ++ replicate (SLOT_LEN - END_AT) 0) fits.1.0 i) (outcome_back outcome i) (cpu_back at (cpu_of_result s outcome at seen fits.0) i) (reads 4 seen fits.1.1 i)
