-- Worked rows: the bar of a stay, and what is told of decisions.
use Rattle.std.proofs.Common.{◌≡◌, refl, codes, true, false, List, [], ◌∷◌}
use Rattle.std.specs.Fmt.{digits}
use Rattle.gs_layout.specs.declared.facts.Class.TheVariants.{One}
use Rattle.gs_layout.specs.declared.message.Change.TheVariants.{Blocked, Created}
use Rattle.gs_layout.specs.declared.message.Message.TheVariants.{Thread}
use Rattle.gs_layout.specs.declared.outcome.Outcome.TheVariants as outcomes
use Rattle.gs_journal.specs.declared.entry.Entry.TheVariants.{Placed, Posted, Role}
use Rattle.gs_journal.specs.History.{History, on}
use Rattle.gs_journal.specs.Standing.{last_of, standing}
use Rattle.gs_timeline.specs.Bars.{bars}
use Rattle.gs_timeline.specs.Counts.{decisions}
use Rattle.gs_timeline.specs.Places.{scale_of}
use Rattle.gs_timeline.specs.Stays.{all_stays, runs, seats}
use Rattle.gs_timeline.specs.declared.notes.Mark.{Mark}
use Rattle.gs_timeline.specs.declared.notes.What.TheVariants.{Landed, Late, Stamped}

-- thread 1 of class 1 is created, placed on CPU 1 by entry 2, and blocked by entry 3
life : History
life =
    Role 1 0
    ∷ Posted (Thread 1 1 (Created (record { runnable = true; mask = 2; class = One; name = [] })))
    ∷ Placed 1 1 1 1
    ∷ Posted (Thread 1 2 (Blocked 1))
    ∷ []

-- an entry is 60 wide, so the bar is from 150 + 2 * 60 to 150 + 3 * 60. It is 8 lower than one of class 0
one_bar : bars (scale_of 4 0 9) life 2
    ≡ codes "<rect x=\"270\" y=\"328\" width=\"60\" height=\"18\" rx=\"3\" class=\"wide o1\"><title>"
    ∷ codes ": blocked</title></rect>\n"
    ∷ codes "<text x=\"330\" y=\"355\" class=\"end\">B</text>\n"
    ∷ []
unfolding life all_stays seats runs on standing last_of digits
one_bar = refl

-- a picture that ends with entry 2 does not show where the stay ends, so there is no letter
cut_bar : bars (scale_of 4 0 2) life 2
    ≡ codes "<rect x=\"270\" y=\"328\" width=\"60\" height=\"18\" rx=\"3\" class=\"wide o1\"><title>" ∷ codes ": blocked</title></rect>\n" ∷ []
unfolding life all_stays seats runs on standing last_of digits
cut_bar = refl

-- and one of the first two entries has no bar at all
no_bar : bars (scale_of 4 0 1) life 2 ≡ []
unfolding life all_stays seats runs on standing last_of
no_bar = refl

-- a stamp, a landing that is stale, and a late one that is displaced, before entry 9
three_marks : List Mark
three_marks =
    record { line = 2; entries = 1; cpu = 1; tid = 1; what = Stamped false false }
    ∷ record { line = 3; entries = 1; cpu = 1; tid = 1; what = Landed outcomes.Stale }
    ∷ record { line = 4; entries = 9; cpu = 1; tid = 1; what = Late 1 outcomes.Displaced }
    ∷ []

two_told : decisions (scale_of 4 0 9) three_marks
    ≡ codes "Decisions: stamped 1, placed 0, not placed 1</text>\n" ∷ codes "m-5-5l10 10m0-10l-10 10\"/>\n" ∷ codes "stale 1</text>\n" ∷ []
unfolding three_marks digits
two_told = refl
