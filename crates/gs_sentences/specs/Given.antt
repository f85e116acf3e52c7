-- What is lent to a sentence.
use Rattle.std.specs.Prelude.{ℕ, Option, None, Some, get_or}
use Rattle.gs_journal.specs.declared.entry.Entry.{Entry}
use Rattle.gs_journal.specs.declared.entry.Entry.TheVariants.{Left}
use Rattle.gs_journal.specs.History.{History}
use Rattle.gs_sentences.specs.declared.cause.Cause as lent_cause
use Rattle.gs_sentences.specs.declared.landed.Landed as lent_landed
use Rattle.gs_sentences.specs.declared.refused.Refused as lent_refused
use Rattle.gs_sentences.specs.declared.reason.Reason as lent_reason
use Rattle.gs_sentences.specs.declared.reason.Reason.TheVariants as lent
use Rattle.gs_sentences.specs.Told.{Cause, Landed, Refused}
use Rattle.gs_sentences.specs.Reason.{Reason}
use Rattle.gs_sentences.specs.Reason as reasons

-- the entry at a place of a history
abbrev pub entry_in : History → ℕ → Entry
entry_in h i = get_or h i Left

abbrev pub cause_given : lent_cause.Cause → Cause
cause_given c = record { line = c.line; place = c.place; entry = entry_in c.journal.now.entries c.place }

abbrev pub causes_given : Option lent_cause.Cause → Option Cause
causes_given None = None
causes_given (Some c) = Some (cause_given c)

abbrev pub landed_given : lent_landed.Landed → Landed
landed_given x = record { landing = x.landing.now; stamped = x.stamped; cause = causes_given x.cause; overflow = x.overflow; fault = x.fault.now; entries = x.entries; limit = x.limit }

abbrev pub refused_given : lent_refused.Refused → Refused
refused_given x = record { refusal = x.refusal; event = x.event.now; cause = causes_given x.cause; numbers = x.numbers }

abbrev pub reason_given : lent_reason.Reason → Reason
reason_given (lent.Landed x) = reasons.Landed (landed_given x)
reason_given (lent.Refused x) = reasons.Refused (refused_given x)
reason_given (lent.Torn o) = reasons.Torn o
reason_given (lent.Skipped n) = reasons.Skipped n
reason_given (lent.Orphans n) = reasons.Orphans n
reason_given (lent.Stopped s) = reasons.Stopped s
