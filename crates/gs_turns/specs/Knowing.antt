-- What is known of a thread, as a history is walked.
use Rattle.std.specs.Prelude.{◌≡◌, ℕ, Option, None, Some, List, get_or, take, unwrap_or}
use Rattle.std.specs.Option.{option_or}
use Rattle.gs_layout.specs.declared.message.Message.TheVariants.{Thread}
use Rattle.gs_journal.specs.declared.entry.Entry.{Entry}
use Rattle.gs_journal.specs.declared.entry.Entry.TheVariants.{Placed, Posted}
use Rattle.gs_journal.specs.History.{History}
use Rattle.gs_turns.specs.declared.stance.Known.{Known}
use Rattle.gs_turns.specs.declared.stance.Stance.{Stance}
use Rattle.gs_turns.specs.declared.stance.Stance.TheVariants.{Ready}
use Rattle.gs_turns.specs.Since.{since}
use Rattle.gs_turns.specs.Stances.{class_by, class_in, is_ready, last_cpu, placed_at, stance_by}

-- a thread behind the first n entries: since when it is ready, its class, and where it was last placed
abbrev pub known : History → ℕ → ℕ → Known
known h n t = record { since = since (is_ready t) h n; class = class_in (take n h) t; cpu = last_cpu (take n h) t }

-- one that no entry was about
abbrev pub unseen : Known
unseen = record { since = None; class = None; cpu = None }

-- since when it is ready behind an entry that leaves it so
abbrev pub since_then : ℕ → Option Stance → Option ℕ → Option ℕ
since_then n None o = o
since_then n (Some Ready) o = Some (unwrap_or o n)
since_then n (Some _) o = None

-- what entry n makes of it
abbrev pub heard : ℕ → ℕ → Entry → Known → Known
heard n t x k = record { since = since_then n (stance_by t x) k.since; class = option_or (class_by t x) k.class; cpu = option_or (placed_at t x) k.cpu }

-- one in a list by tid
abbrev pub known_in : List Known → ℕ → Known
known_in all t = get_or all t unseen

-- one that waits no longer
abbrev pub ended : Known → Known
ended k = record k { since = None }

-- the thread that an entry is about
abbrev pub subject : Entry → Option ℕ
subject (Posted (Thread t s c)) = Some t
subject (Placed t s c g) = Some t
subject _ = None

-- a list by tid that says what is known of each thread behind the first n entries
abbrev pub AreKnown : History → ℕ → List Known → Type 0
AreKnown h n all = (t : ℕ) → known_in all t ≡ known h n t
