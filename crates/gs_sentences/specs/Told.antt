-- What a sentence tells of.
use Rattle.std.specs.Prelude.{ℕ, Option}
use Rattle.gs_layout.specs.declared.refusal.Refusal.{Refusal}
use Rattle.gs_journal.specs.declared.entry.Entry.{Entry}
use Rattle.gs_kernel.specs.declared.landing.Landing.{Landing}
use Rattle.gs_core.specs.declared.event.Event.{Event}
use Rattle.gs_reasons.specs.declared.group.GroupFault.{GroupFault}
use Rattle.gs_sentences.specs.declared.landed.Overflow.{Overflow}
use Rattle.gs_sentences.specs.declared.landed.Stamped.{Stamped}
use Rattle.gs_sentences.specs.declared.numbers.Numbers.{Numbers}

-- an entry of the journal that is a reason, the script's line that added it, and its place in the journal
pub record Cause : Type 0 where
  pub line : ℕ
  pub place : ℕ
  pub entry : Entry

-- a transaction that landed and was not placed: what was stamped, and the last entry that made the landing what it is. If it tore the enclave down, what did
-- not fit. Then what failed its group, and how many entries the journal had and may have
pub record Landed : Type 0 where
  pub landing : Landing
  pub stamped : Stamped
  pub cause : Option Cause
  pub overflow : Option Overflow
  pub fault : Option GroupFault
  pub entries : ℕ
  pub limit : ℕ

-- an event that was refused, without the policy that it may name, the last entry that made that so, and what stands in no entry
pub record Refused : Type 0 where
  pub refusal : Refusal
  pub event : Event (Unit {0})
  pub cause : Option Cause
  pub numbers : Numbers
