-- The pieces of a turn's line, one after another, are its object as compact JSON.
use Rattle.std.proofs.Common.{◌≡◌, refl, ◌∙◌, ℕ, Option, None, Some, List, ◌++◌, append_assoc, codes}
use Rattle.std.specs.Prelude.{decimal}
use Rattle.std.specs.Fmt.{digits}
use Rattle.json.specs.Print.{escape_byte}
use Rattle.serde_json.specs.Written.{compact_text}
use Rattle.gs_layout.specs.declared.facts.Class.{Class}
use Rattle.gs_layout.specs.declared.facts.Class.TheVariants.{Zero, One}
use Rattle.gs_lines.specs.Lines.{line}
use Rattle.gs_timeline.specs.Endings.{ending_text}
use Rattle.gs_timeline.specs.declared.ending.Ending.{Ending}
use Rattle.gs_timeline.specs.declared.ending.Ending.TheVariants.{Preempted, Blocked, Yielded, Died, Affinity, Torn, Replaced, StillThere}
use Rattle.gs_timeline.specs.declared.stay.Stay.{Stay}
use Rattle.gs_turns.specs.Turns.{ran, waited}
use Rattle.gs_turns.specs.declared.turn.Turn.{Turn}
use Rattle.gs_tables.specs.Timehist.{class_json, line_of, object_of, turn_data_at, turn_pieces}

-- one behind another, whichever way they are put together
regroup : (a k b c d e f g h i x1 x2 u2 u3 u4 u5 j l y1 y2 v2 v3 v4 v5 m n : List ℕ)
    → (a ++ k ++ b ++ c ++ d ++ e) ++ (f ++ g ++ h ++ i) ++ (((x1 ++ x2) ++ u2 ++ u3 ++ u4 ++ u5) ++ j ++ l ++ ((y1 ++ y2) ++ v2 ++ v3 ++ v4 ++ v5) ++ (m ++ n))
    ≡ (a ++ (k ++ (b ++ (c ++ (d ++ (e ++ (f ++ (g ++ (h ++ (i ++ (x1 ++ ((x2 ++ (u2 ++ (u3 ++ (u4 ++ u5)))) ++ (j ++ (l ++ (y1 ++ ((y2 ++ (v2 ++ (v3 ++ (v4 ++ v5)))) ++ m)))))))))))))))) ++ n
regroup a k b c d e f g h i x1 x2 u2 u3 u4 u5 j l y1 y2 v2 v3 v4 v5 m n = simp append_assoc

abbrev times : ℕ → ℕ → List ℕ
times entries ticks = codes "{\"entries\":" ++ (decimal entries ++ (codes ",\"ticks\":" ++ (decimal ticks ++ codes "}")))

abbrev nested : ℕ → Turn → List ℕ
nested at t =
    (codes "{\"class\":" ++ (class_json t.class ++ (codes ",\"cpu\":" ++ (decimal t.stay.cpu ++ (codes ",\"ended\":\"" ++ (ending_text t.ending ++ (codes "\",\"entry\":" ++ (decimal t.stay.from ++ (codes ",\"line\":" ++ (decimal at ++ (
    codes ",\"ran\":" ++ (times (ran t) t.ran_ticks ++ (codes ",\"tid\":" ++ (decimal t.stay.tid ++ (codes ",\"waited\":" ++ (times (waited t) t.waited_ticks ++ codes "}")))))))))))))))) ++ codes "\n"

abbrev turn_by : Stay → ℕ → ℕ → ℕ → Option ℕ → Option Class → Ending → Turn
turn_by s since w r b k e = record { stay = s; since = since; class = k; before = b; waited_ticks = w; ran_ticks = r; ending = e }

-- by cases of the words in it
by_words : (at : ℕ) (s : Stay) (since w r : ℕ) (b : Option ℕ) (k : Option Class) (e : Ending) → nested at (turn_by s since w r b k e) ≡ line (compact_text (turn_data_at at (turn_by s since w r b k e)))
unfolding escape_byte digits
by_words at s since w r b None Preempted = refl
by_words at s since w r b None Blocked = refl
by_words at s since w r b None Yielded = refl
by_words at s since w r b None Died = refl
by_words at s since w r b None Affinity = refl
by_words at s since w r b None Torn = refl
by_words at s since w r b None Replaced = refl
by_words at s since w r b None StillThere = refl
by_words at s since w r b (Some Zero) Preempted = refl
by_words at s since w r b (Some Zero) Blocked = refl
by_words at s since w r b (Some Zero) Yielded = refl
by_words at s since w r b (Some Zero) Died = refl
by_words at s since w r b (Some Zero) Affinity = refl
by_words at s since w r b (Some Zero) Torn = refl
by_words at s since w r b (Some Zero) Replaced = refl
by_words at s since w r b (Some Zero) StillThere = refl
by_words at s since w r b (Some One) Preempted = refl
by_words at s since w r b (Some One) Blocked = refl
by_words at s since w r b (Some One) Yielded = refl
by_words at s since w r b (Some One) Died = refl
by_words at s since w r b (Some One) Affinity = refl
by_words at s since w r b (Some One) Torn = refl
by_words at s since w r b (Some One) Replaced = refl
by_words at s since w r b (Some One) StillThere = refl

pub whole_turn : (lines : List ℕ) (t : Turn) → turn_pieces (line_of lines t.stay.from) t ≡ object_of lines t
whole_turn lines t =
    regroup (codes "{\"class\":") (class_json t.class) (codes ",\"cpu\":") (decimal t.stay.cpu) (codes ",\"ended\":\"") (ending_text t.ending) (codes "\",\"entry\":") (decimal t.stay.from) (codes ",\"line\":") (decimal (line_of lines t.stay.from))
    (codes ",\"ran\":") (codes "{\"entries\":") (decimal (ran t)) (codes ",\"ticks\":") (decimal t.ran_ticks) (codes "}") (codes ",\"tid\":") (decimal t.stay.tid)
    (codes ",\"waited\":") (codes "{\"entries\":") (decimal (waited t)) (codes ",\"ticks\":") (decimal t.waited_ticks) (codes "}") (codes "}") (codes "\n")
    ∙ by_words (line_of lines t.stay.from) t.stay t.since t.waited_ticks t.ran_ticks t.before t.class t.ending
