-- What turns and landings come to, as far as they are gone through.
use Rattle.std.specs.Prelude.{◌≡◌, ◌<◌, ℕ, List, Option, get_or, length, map}
use Rattle.std.specs.List.{count_by}
use Rattle.gs_kernel.specs.declared.landing.Landing.{Landing}
use Rattle.gs_layout.specs.declared.facts.Class.{Class}
use Rattle.gs_turns.specs.Turns.{waited}
use Rattle.gs_turns.specs.declared.time.Time.{Time}
use Rattle.gs_turns.specs.declared.turn.Turn.{Turn}
use Rattle.gs_tallies.specs.Accounts.{IsAccount, has_outcome}
use Rattle.gs_tallies.specs.Tallies.{sums_of, waited_ticks}
use Rattle.gs_tallies.specs.declared.account.Account.{Account}
use Rattle.gs_tallies.specs.declared.landings.LandingDraft.{LandingDraft}
use Rattle.gs_tallies.specs.declared.tally.TurnDraft.{TurnDraft}

-- how long the thread of a turn waited
abbrev pub wait_of : Turn → Time
wait_of t = record { entries = waited t; ticks = waited_ticks t }

abbrev pub entries_in : Time → ℕ
entries_in w = w.entries

abbrev pub ticks_in : Time → ℕ
ticks_in w = w.ticks

-- turns come to it: their sums, and how long each waited
pub record IsTurnDraft (ts : List Turn) (d : TurnDraft) : Type 0 where
  pub sums : d.sums ≡ sums_of ts
  pub waits : d.waits.items ≡ map wait_of ts

-- landings come to it: so many to each outcome
pub record IsLandingDraft (ls : List Landing) (d : LandingDraft) : Type 0 where
  pub long : length d.counts ≡ 15
  pub counts : (o : ℕ) → o < 15 → get_or d.counts o 0 ≡ count_by (has_outcome o) ls

-- this is what the turns and landings in the groups of a place come to
abbrev pub IsAccountIn : List TurnDraft → List LandingDraft → ℕ → Option Class → Option ℕ → Account → Type 0
IsAccountIn turns landings place k t a =
    (ts : List Turn) (ls : List Landing) → ((d : TurnDraft) → IsTurnDraft ts (get_or turns place d)) → ((d : LandingDraft) → IsLandingDraft ls (get_or landings place d)) → IsAccount k t ts ls a
