-- What is told of a late landing behind the script's line.
use Rattle.std.specs.Prelude.{◌≡◌, ◌<◌, ◌≤◌, nat_le, if◌then◌else◌, Bool, true, false, ℕ, Option, None, Some, List, [], ◌∷◌, ◌++◌, length}
use Rattle.std.specs.List.{All}
use Rattle.gs_layout.specs.declared.outcome.Outcome.{Outcome}
use Rattle.gs_layout.specs.declared.outcome.Outcome.TheVariants as outcomes
use Rattle.gs_lines.specs.Lines.{late_text, line}
use Rattle.gs_sentences.specs.Told.{Cause, Landed}
use Rattle.gs_sentences.specs.Reason as reasons
use Rattle.gs_explain.specs.declared.content.Noted.{Noted}
use Rattle.gs_explain.specs.declared.content.Told.{Told}
use Rattle.gs_explain.specs.declared.kept.Kept.{Kept}
use Rattle.gs_explain.specs.declared.kept.TheConstants.{MOST_KEPT}
use Rattle.gs_explain.specs.declared.piece.Piece.{Piece}
use Rattle.gs_explain.specs.Landings.{because}
use Rattle.gs_sentences.specs.Parts.{part}
use Rattle.gs_explain.specs.Retold.{IsWithin}

-- whether a late landing that came out so was not placed, and tore nothing down
abbrev pub is_kept_out : Outcome → Bool
is_kept_out outcomes.Placed = false
is_kept_out outcomes.Gone = false
is_kept_out _ = true

-- an entry that is a reason, as it is kept, and as it is told
abbrev pub source_of : Option Cause → Option Noted
source_of None = None
source_of (Some c) = Some (record { line = c.line; place = c.place; entry = c.entry })

abbrev pub cause_from : Option Noted → Option Cause
cause_from None = None
cause_from (Some s) = Some (record { line = s.line; place = s.place; entry = s.entry })

-- how many entries a sentence tells of, if it does
abbrev pub entries_told : Outcome → ℕ → ℕ
entries_told outcomes.HistoryFull n = n
entries_told _ n = 0

-- what is told of a late landing
abbrev pub late_told : ℕ → Landed → Told
late_told n x = record { number = n; landing = x.landing; stamped = x.stamped; source = source_of x.cause; entries = entries_told x.landing.outcome x.entries; limit = x.limit }

-- the landing that a sentence then tells of
abbrev pub landed_from : Told → Landed
landed_from t = record { landing = t.landing; stamped = t.stamped; cause = cause_from t.source; overflow = None; fault = None; entries = t.entries; limit = t.limit }

-- the reply, and its reason in a line of its own
abbrev pub told_text : Told → List ℕ
told_text t = line (late_text t.number t.landing) ++ because (Some (reasons.Landed (landed_from t)))

-- a text has what was told between two places
pub record IsKept (text : List ℕ) (kept : Kept) : Type 0 where
  pub some : kept.from < kept.to
  pub within : kept.to ≤ length text
  pub says : part kept.from kept.to text ≡ told_text kept.told

-- what is told at the end stands in a text, and what is kept
pub record AreHeld (text : List ℕ) (pieces : List Piece) (kepts : List Kept) : Type 0 where
  pub told : All (IsWithin (length text)) pieces
  pub kept : All (IsKept text) kepts

-- what is kept, once more is: if it was much, it is kept no more
abbrev pub kept_put : Kept → List Kept → List Kept
kept_put kept kepts = if nat_le MOST_KEPT (length kepts) then kept ∷ [] else kepts ++ kept ∷ []
