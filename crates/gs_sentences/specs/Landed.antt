-- Why a transaction was not placed, as a sentence.
use Rattle.std.specs.Prelude.{ℕ, Option, None, Some, List, ◌++◌, decimal}
use Rattle.gs_layout.specs.declared.outcome.Outcome.{Outcome}
use Rattle.gs_layout.specs.declared.outcome.Outcome.TheVariants as outcomes
use Rattle.gs_lines.specs.Lines.{outcome_text}
use Rattle.gs_reasons.specs.declared.group.GroupFault.{GroupFault}
use Rattle.gs_reasons.specs.declared.group.GroupFault.TheVariants.{Slot, Twice}
use Rattle.gs_sentences.specs.Told.{Landed}
use Rattle.gs_sentences.specs.declared.landed.Overflow.{Overflow}
use Rattle.gs_sentences.specs.declared.landed.Stamped.{Stamped}
use Rattle.gs_sentences.specs.Shared.{agent_text, dead_text, held_text, mask_text, seat_text, since_text, told_text, torn_text}
use Rattle.gs_sentences.specs.declared.words.Words.TheVariants as words
use Rattle.gs_sentences.specs.Words.{said}

-- how many bytes a message needs, and how many are free
abbrev pub overflow_text : Overflow → List ℕ
overflow_text o = said words.TheMessageNeeds ++ decimal o.needs ++ said words.BytesWithItsPadAnd ++ decimal o.free ++ said words.AreFree

-- what fails a group
abbrev pub fault_text : GroupFault → List ℕ
fault_text (Slot k t o) = said words.Thread ++ decimal t ++ said words.ForCpu ++ decimal k ++ said words.LandedAs ++ outcome_text o
fault_text (Twice t k l) = said words.Thread ++ decimal t ++ said words.IsNamedForCpu ++ decimal k ++ said words.AndForCpu ++ decimal l

abbrev pub group_text : Option GroupFault → List ℕ
group_text None = said words.ItsGroupFailed
group_text (Some f) = said words.ItsGroupFailedAs ++ fault_text f

-- what was stamped is of another generation than the active one
abbrev pub displaced_text : Stamped → List ℕ
displaced_text b = said words.StampedUnderGeneration ++ decimal b.generation ++ said words.OnLine ++ decimal b.line ++ said words.Semicolon

-- what was stamped has another number than the thread
abbrev pub stale_text : Stamped → ℕ → ℕ → List ℕ
stale_text b t n = said words.StampedAtSeq ++ decimal b.tseq ++ said words.OnLine ++ decimal b.line ++ said words.AndThread ++ decimal t ++ said words.HasSeq ++ decimal n

-- on which CPU the thread is
abbrev pub somewhere_text : Option ℕ → List ℕ
somewhere_text None = said words.IsOnACpu
somewhere_text (Some k) = said words.IsOnCpu ++ decimal k

-- the tear-down that took the transaction with it: its own, or an earlier one
abbrev pub gone_text : Landed → Option Overflow → List ℕ
gone_text x None = torn_text x.cause
gone_text x (Some o) = overflow_text o

-- the journal has too few entries left
abbrev pub full_text : ℕ → ℕ → List ℕ
full_text entries limit = said words.TheJournalHas ++ decimal entries ++ said words.OfAtMost ++ decimal limit ++ said words.EntriesAndTooFewAreLeft

abbrev pub outcome_reason : Landed → Outcome → List ℕ
outcome_reason x outcomes.Placed = said words.Placed
outcome_reason x outcomes.Gone = gone_text x x.overflow
outcome_reason x outcomes.Displaced = displaced_text x.stamped ++ agent_text x.cause
outcome_reason x outcomes.NoThread = dead_text x.landing.tid x.cause
outcome_reason x outcomes.Stale = stale_text x.stamped x.landing.tid x.landing.seen ++ told_text x.cause
outcome_reason x outcomes.NotRunnable = said words.Thread ++ decimal x.landing.tid ++ said words.IsBlocked ++ since_text x.cause
outcome_reason x outcomes.AlreadyPlaced = said words.Thread ++ decimal x.landing.tid ++ somewhere_text x.landing.at ++ since_text x.cause
outcome_reason x outcomes.NotAllowed = said words.Thread ++ decimal x.landing.tid ++ said words.MayNotRunOnCpu ++ decimal x.landing.cpu ++ said words.ByItsMask ++ mask_text x.cause
outcome_reason x outcomes.CpuIsAgent = agent_text x.cause
outcome_reason x outcomes.CpuTaken = held_text x.landing.cpu x.cause
outcome_reason x outcomes.CpuBusy = seat_text x.landing.cpu x.cause
outcome_reason x outcomes.SeqSpent = seat_text x.landing.cpu x.cause ++ said words.AndHasItsLastSequenceNumber
outcome_reason x outcomes.HistoryFull = full_text x.entries x.limit
outcome_reason x outcomes.Malformed = said words.TheSlotOfCpu ++ decimal x.landing.cpu ++ said words.IsMalformed
outcome_reason x outcomes.GroupFailed = group_text x.fault

-- why a transaction was not placed
abbrev pub landed_text : Landed → List ℕ
landed_text x = outcome_reason x x.landing.outcome
