-- Why transactions landed as they did.
use Rattle.std.specs.Prelude.{Bool, true, false, not, ◌&&◌, ℕ, zero, suc, ◌+◌, ◌==◌, Option, None, Some, List, [], ◌∷◌, ◌++◌, codes, length, take, drop, slice_get, if◌then◌else◌, unwrap_or}
use Rattle.gs_layout.specs.declared.outcome.Outcome.{Outcome}
use Rattle.gs_layout.specs.declared.outcome.Outcome.TheVariants as outcomes
use Rattle.gs_journal.specs.declared.entry.Entry.{Entry}
use Rattle.gs_journal.specs.declared.entry.Entry.TheVariants.{Placed}
use Rattle.gs_journal.specs.History.{History}
use Rattle.gs_kernel.specs.Lands.{is_to_place}
use Rattle.gs_kernel.specs.declared.landing.Landing.{Landing}
use Rattle.gs_core.specs.declared.event.Event.{Event}
use Rattle.gs_core.specs.declared.event.Event.TheVariants as events
use Rattle.gs_core.specs.declared.transaction.Transaction.{Transaction}
use Rattle.gs_lines.specs.Lines.{landing_text, line}
use Rattle.gs_reasons.specs.Place.{last_place}
use Rattle.gs_reasons.specs.Cause.{cause_of}
use Rattle.gs_reasons.specs.Group.{fault_of_group}
use Rattle.gs_reasons.specs.declared.group.GroupFault.{GroupFault}
use Rattle.gs_sentences.specs.Told.{Landed}
use Rattle.gs_sentences.specs.declared.landed.Overflow.{Overflow}
use Rattle.gs_sentences.specs.declared.landed.Stamped.{Stamped}
use Rattle.gs_sentences.specs.Reason.{Reason}
use Rattle.gs_sentences.specs.Reason as reasons
use Rattle.gs_sentences.specs.Reasons.{reason_text}
use Rattle.gs_explain.specs.Moment.{Moment, cause_at}

-- whether an outcome is that it went with the enclave
abbrev pub is_gone : Outcome → Bool
is_gone outcomes.Gone = true
is_gone _ = false

-- an entry that places a thread
abbrev pub is_placing : Entry → Bool
is_placing (Placed t s k g) = true
is_placing _ = false

-- how many entries there are up to the first placing, that one with them: all, if there is none
abbrev pub steps_to_placing : History → ℕ
steps_to_placing [] = 0
steps_to_placing (e ∷ es) = if is_placing e then 1 else suc (steps_to_placing es)

-- How many entries there are once a transaction has landed, of a history of which there were so many before it. One that is placed adds those up to its
-- placing, one that is gone all that are left, and any other none
abbrev pub after_landing : Outcome → History → ℕ → ℕ
after_landing outcomes.Placed h n = n + steps_to_placing (drop n h)
after_landing outcomes.Gone h n = length h
after_landing _ h n = n

-- the place of the transaction of this number
abbrev pub place_numbered : ℕ → Option ℕ
place_numbered zero = None
place_numbered (suc n) = Some n

-- the place of the last transaction that was stamped for a CPU
abbrev pub last_for : ℕ → List Transaction → Option ℕ
last_for k xs = last_place (λ (x : Transaction). x.cpu == k) xs

-- the place of the transaction that a landing is of: that of the event's number, or else what was stamped last for the CPU
abbrev pub landed_place : Event (Unit {0}) → List Transaction → Landing → Option ℕ
landed_place (events.Late n) xs l = place_numbered n
landed_place _ xs l = last_for l.cpu xs

abbrev pub transaction_at : List Transaction → Option ℕ → Option Transaction
transaction_at xs None = None
transaction_at xs (Some i) = slice_get xs i

abbrev pub line_at : List ℕ → Option ℕ → ℕ
line_at lines None = 0
line_at lines (Some i) = unwrap_or (slice_get lines i) 0

-- what was stamped, and on which line
abbrev pub stamped_by : Option Transaction → ℕ → Stamped
stamped_by (Some x) line = record { generation = x.slot.generation; tseq = x.slot.tseq; line = line }
stamped_by None line = record { generation = 0; tseq = 0; line = line }

abbrev pub stamped_at : Moment → Option ℕ → Stamped
stamped_at x o = stamped_by (transaction_at x.transactions o) (line_at x.stamped o)

-- whether a landing is of a transaction that was stamped as one of a group
abbrev pub is_of_group : Option Transaction → Bool
is_of_group (Some x) = x.slot.flags.group
is_of_group None = false

abbrev pub is_grouped : Moment → Landing → Bool
is_grouped x l = is_of_group (transaction_at x.transactions (landed_place x.event x.transactions l))

-- the first of these, as long as they pass a test
abbrev pub leading : {A : Type 0} → (A → Bool) → List A → List A
leading p [] = []
leading p (x ∷ xs) = if p x then x ∷ leading p xs else []

-- what failed the group of these landings, which comes first
abbrev pub group_fault : Moment → List Landing → Option GroupFault
group_fault x ls = fault_of_group (leading (is_grouped x) ls)

-- what did not fit, if the landing is the one that tore the enclave down
abbrev pub overflow_if : Bool → Overflow → Option Overflow
overflow_if b o = if b then Some o else None

-- why a transaction landed so: the cause is among the first entries, so many
abbrev pub landed : Moment → Option GroupFault → Bool → ℕ → Landing → Landed
landed x fault stood n l =
    record {
      landing = l;
      stamped = stamped_at x (landed_place x.event x.transactions l);
      cause = cause_at x (cause_of (take n x.history) l);
      overflow = overflow_if (stood && is_gone l.outcome) x.overflow;
      fault = fault;
      entries = n;
      limit = x.settings.history;
    }

abbrev pub why_landed : Moment → Option GroupFault → Bool → ℕ → Landing → Option Reason
why_landed x fault stood n l = if is_to_place l.outcome then None else Some (reasons.Landed (landed x fault stood n l))

-- a reason stands in a line of its own
abbrev pub because : Option Reason → List ℕ
because None = []
because (Some r) = codes "  " ++ reason_text r ++ 10 ∷ []

-- landings, each with its reason if it was not placed. There were so many entries before the first of them, and the enclave stood or not
abbrev pub landings_shown : Moment → Option GroupFault → Bool → ℕ → List Landing → List ℕ
landings_shown x fault stood n [] = []
landings_shown x fault stood n (l ∷ ls) =
    (line (landing_text l) ++ because (why_landed x fault stood (after_landing l.outcome x.history n) l))
    ++ landings_shown x fault (stood && not (is_gone l.outcome)) (after_landing l.outcome x.history n) ls
