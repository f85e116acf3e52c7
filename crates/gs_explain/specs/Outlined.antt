-- Objects that are put together at the end.
use Rattle.std.specs.Prelude.{◌≡◌, ◌<◌, ◌≤◌, ◌+◌, ◌-◌, ◌==◌, if◌then◌else◌, true, false, ℕ, zero, suc, Option, List, [], ◌∷◌, ◌++◌, drop, get_or, length}
use Rattle.std.specs.List.{All, flat_map}
use Rattle.std.specs.Option.{IfSome}
use Rattle.std.specs.Str.{IsUtf8}
use Rattle.std.specs.Str.Lines.{lines as lines_in}
use Rattle.serde_json.specs.Written.{compact_text}
use Rattle.gs_lines.specs.Lines.{late_text, line}
use Rattle.gs_script.specs.Words.{is_text}
use Rattle.gs_sentences.specs.Parts.{part}
use Rattle.gs_sentences.specs.Reason as reasons
use Rattle.gs_sentences.specs.Tails.{is_part}
use Rattle.gs_explain.specs.Composed.{object_pieces, rest_pieces}
use Rattle.gs_explain.specs.Objects.{none_why, reason_data, row_data}
use Rattle.gs_explain.specs.Tailed.{refused_object, refused_rest}
use Rattle.gs_explain.specs.ToldAgain.{landed_from}
use Rattle.gs_explain.specs.declared.content.Told.{Told as Late}
use Rattle.gs_explain.specs.declared.kept.Kept.{Kept}
use Rattle.gs_explain.specs.declared.outline.Outline.{Outline}
use Rattle.gs_explain.specs.declared.outline.Told.{Told}
use Rattle.gs_explain.specs.declared.outline.Told.TheVariants as tolds
use Rattle.gs_explain.specs.declared.outlines.Short.{Short}

-- how many entries such an event added
abbrev pub told_count : Told → ℕ
told_count (tolds.Parts count from lines whys) = count
told_count (tolds.Refused where_at t) = 0

-- what its object has behind its line's number, by the line
abbrev pub told_rest : List ℕ → List ℕ → Told → List ℕ
told_rest said text (tolds.Parts count from lines whys) = rest_pieces said (part from (from + lines) text) (part (from + lines) (from + lines + whys) text)
told_rest said text (tolds.Refused where_at t) = refused_rest said where_at t

-- the object of an event, of which a text has the lines of the reply and the reasons, unless it was refused and is told by numbers
abbrev pub told_object : ℕ × List ℕ → ℕ → List ℕ → Told → List ℕ
told_object said first text (tolds.Parts count from lines whys) = object_pieces said first count (part from (from + lines) text) (part (from + lines) (from + lines + whys) text)
told_object said first text (tolds.Refused where_at t) = refused_object said first where_at t

abbrev pub outline_text : List ℕ → Outline → List ℕ
outline_text text o = told_object (o.number, o.line.now) o.first text o.told

-- the objects of events
abbrev pub outlines_text : List ℕ → List Outline → List ℕ
outlines_text text os = flat_map (outline_text text) os

-- an event is noted so
pub record Notes (line : ℕ × List ℕ) (place added begin middle end : ℕ) (o : Outline) : Type 0 where
  pub said : (o.number, o.line.now) ≡ line
  pub first : o.first ≡ place
  pub told : o.told ≡ tolds.Parts added begin (middle - begin) (end - middle)

-- an event that added no entry is noted so
pub record NotesTold (line : ℕ × List ℕ) (place : ℕ) (t : Told) (o : Outline) : Type 0 where
  pub said : (o.number, o.line.now) ≡ line
  pub first : o.first ≡ place
  pub told : o.told ≡ t

-- one more such event is added
abbrev pub AddsTold : ℕ × List ℕ → ℕ → Told → List Outline → List Outline → Type 0
AddsTold line place t old new = (o : Outline) × (NotesTold line place t o × (new ≡ old ++ o ∷ []))

-- a text has the lines of a reply from a place on, and reasons behind them
pub record HasParts (text : List ℕ) (from mid to : ℕ) : Type 0 where
  pub within : to ≤ length text
  pub lines : IsUtf8 (part from mid text)
  pub whys : IsUtf8 (drop 1 (part mid to text))

-- a text has what is told of an event there, or numbers tell it
abbrev pub IsKept : List ℕ → Told → Type 0
IsKept text (tolds.Parts count from lines whys) = HasParts text from (from + lines) (from + lines + whys)
IsKept text (tolds.Refused where_at t) = is_part t ≡ false

-- what an object is put together of is text
pub record IsOutlined (text : List ℕ) (o : Outline) : Type 0 where
  pub line : is_text o.line.now ≡ true
  pub told : IsKept text o.told

-- the object of a commit that stamped nothing and added no entry
abbrev pub nothing_object : ℕ × List ℕ → ℕ → List ℕ
nothing_object said first = line (compact_text (row_data said first first [] (none_why [])))

-- a text has what is told of each event that added no entry and has such an object
pub record Tells (text : List ℕ) (row : ℕ × List ℕ → ℕ → List ℕ) (t : Told) : Type 0 where
  pub kept : IsKept text t
  pub told : (said : ℕ × List ℕ) (first : ℕ) → told_object said first text t ≡ row said first

-- a text has what is told of each such commit
abbrev pub TellsNothing : List ℕ → Told → Type 0
TellsNothing text t = Tells text nothing_object t

-- the object of a late landing that was not placed, tore nothing down and added no entry, by what is told of it
abbrev pub late_object : Late → ℕ × List ℕ → ℕ → List ℕ
late_object t said first = line (compact_text (row_data said first first (lines_in (line (late_text t.number t.landing))) (reason_data (reasons.Landed (landed_from t)) ∷ [])))

-- a text has what is told of each such landing
pub record TellsLate (text : List ℕ) (k : Kept) : Type 0 where
  pub begins : k.from ≤ k.mid
  pub ends : k.mid ≤ k.to
  pub tells : Tells text (late_object k.told) (tolds.Parts 0 k.from (k.mid - k.from) (k.to - k.mid))

-- a text has what is told of events, of a commit that stamped nothing, if there was one, and of late landings that are kept
pub record AreOutlined (text : List ℕ) (os : List Outline) (once : Option Told) (kepts : List Kept) : Type 0 where
  pub events : All (IsOutlined text) os
  pub nothing : IfSome once (TellsNothing text)
  pub lates : All (TellsLate text) kepts

-- a list has the same beginning, and more
abbrev pub Grows : {A : Type 0} → List A → List A → Type 0
Grows {A} old new = (more : List A) × (new ≡ old ++ more)

-- what is told of an event that is not there
abbrev pub untold : Told
untold = tolds.Parts 0 0 0 0

-- what is told of an event in few bytes, by what is told aside
abbrev pub told_of : List Told → Short → Told
told_of asides s = if s.count == 255 then get_or asides s.at untold else tolds.Parts s.count s.at s.lines s.whys

-- an event in few bytes, as any is told
abbrev pub widened : List Told → Short → Outline
widened asides s = record { line = s.line; number = s.number; first = s.first; told = told_of asides s }

-- the same event so many lines later
abbrev pub later : Outline → ℕ → Outline
later o k = record { line = o.line; number = o.number + k; first = o.first; told = o.told }

-- an event that comes again on so many lines right behind
abbrev pub again : Outline → ℕ → List Outline
again o zero = []
again o (suc n) = again o n ++ later o (suc n) ∷ []

-- an event in few bytes, and each time that it comes again
abbrev pub events : List Told → Short → List Outline
events asides s = widened asides s ∷ again (widened asides s) s.times

-- all that are told in few bytes
abbrev pub all_events : List Told → List Short → List Outline
all_events asides shorts = flat_map (events asides) shorts

-- so many are told aside that what is told of it is there
abbrev pub HasTold : ℕ → Short → Type 0
HasTold len s = s.count ≡ 255 → s.at < len
