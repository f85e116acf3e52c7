-- The bars of a picture: where each is, how wide, in which colour, and what it tells of the end of its stay.
use Rattle.std.specs.Prelude.{ℕ, ◌+◌, ◌-◌, ◌*◌, List, [], ◌∷◌, ◌++◌, Bool, ◌&&◌, nat_le, nat_lt, flat_map, slice_get, codes, decimal, Option, Some, if◌then◌else◌}
use Rattle.gs_layout.specs.declared.facts.Class.{Class}
use Rattle.gs_layout.specs.declared.facts.Class.TheVariants.{One}
use Rattle.gs_journal.specs.History.{History}
use Rattle.gs_timeline.specs.declared.bars.TheConstants.{BORDERED, LETTERED, LOWER}
use Rattle.gs_timeline.specs.declared.ending.Ending.{Ending}
use Rattle.gs_timeline.specs.declared.ending.Ending.TheVariants.{Preempted, Blocked, Yielded, Died, Affinity, Torn, Replaced, StillThere}
use Rattle.gs_timeline.specs.declared.layout.TheConstants.{BAR, RING, ROW}
use Rattle.gs_timeline.specs.declared.part.Part.{Part}
use Rattle.gs_timeline.specs.declared.stay.Stay.{Stay}
use Rattle.gs_timeline.specs.Endings.{ending_of, ending_text}
use Rattle.gs_timeline.specs.Lives.{class_of}
use Rattle.gs_timeline.specs.Marks.{shade_of}
use Rattle.gs_timeline.specs.Places.{Scale, behind, x_in}
use Rattle.gs_timeline.specs.Stays.{all_stays}

-- how a part shows entries
abbrev pub scale : Part → Scale
scale p = record { first = p.first; count = p.count; sharing = p.sharing; unit = p.unit }

-- how wide a stay is
abbrev pub width_in : Scale → Stay → ℕ
width_in v s = x_in v s.to - x_in v s.from

-- the ground of a CPU's row
abbrev pub row : ℕ → ℕ
row c = RING + ROW * (c + 1)

-- how much lower than others a bar of this class is
abbrev pub lower : Option Class → ℕ
lower (Some One) = LOWER
lower _ = 0

-- a bar with a border, or without one
abbrev pub style : ℕ → List ℕ
style width = if nat_le BORDERED width then codes "\" rx=\"3\" class=\"wide " else codes "\" class=\"bar "

-- the bar of a stay of a thread of this class. It begins where the entry stands that put the thread there, and ends where the one stands
-- that took it off
abbrev pub bar_front : Scale → Option Class → Stay → List ℕ
bar_front v class s =
    codes "<rect x=\"" ++ (decimal (x_in v s.from) ++ (codes "\" y=\"" ++ (decimal (row s.cpu + lower class) ++ (codes "\" width=\"" ++ (decimal (width_in v s)
    ++ (codes "\" height=\"" ++ (decimal (BAR - lower class) ++ (style (width_in v s) ++ (shade_of s.tid class ++ codes "\"><title>")))))))))

-- why the stay ended, which the title of its bar ends with. What the title says before that is not defined here
abbrev pub reason : Ending → List ℕ
reason e = codes ": " ++ (ending_text e ++ codes "</title></rect>\n")

-- and by its letter. A stay that goes on to the end of the history has none, since its end is not shown
abbrev pub letter : Ending → List ℕ
letter Preempted = codes "P</text>\n"
letter Blocked = codes "B</text>\n"
letter Yielded = codes "Y</text>\n"
letter Died = codes "D</text>\n"
letter Affinity = codes "A</text>\n"
letter Torn = codes "T</text>\n"
letter Replaced = codes "R</text>\n"
letter StillThere = codes "S</text>\n"

-- the letter, below the end of the bar
abbrev pub end_of : Scale → Ending → Stay → List ℕ
end_of v e s = codes "<text x=\"" ++ (decimal (x_in v s.to) ++ (codes "\" y=\"" ++ (decimal (row s.cpu + BAR + 9) ++ (codes "\" class=\"end\">" ++ letter e))))

-- which has room below a bar of some width, if the end is shown
abbrev pub has_letter : Scale → Stay → Bool
has_letter v s = nat_le LETTERED (width_in v s) && (nat_le v.first s.to && nat_lt s.to (behind v.first v.count))

-- if there is room for it. That there is none if not is not said
abbrev pub ends : Scale → Ending → Stay → List (List ℕ)
ends v e s = if has_letter v s then end_of v e s ∷ [] else []

-- what is drawn of a stay
abbrev pub bar_pieces : Scale → Option Class → Ending → Stay → List (List ℕ)
bar_pieces v class e s = bar_front v class s ∷ reason e ∷ ends v e s

-- and of a stay of a history, by the classes of threads, if it ends at a later pixel than it begins. Others are drawn together
abbrev pub pieces_of : Scale → (ℕ → Option Class) → History → Stay → List (List ℕ)
pieces_of v classes h s = if nat_lt 0 (width_in v s) then bar_pieces v (classes s.tid) (ending_of (slice_get h s.to)) s else []

-- what is drawn of the stays on so many CPUs
abbrev pub bars : Scale → History → ℕ → List (List ℕ)
bars v h cpus = flat_map (pieces_of v (class_of h) h) (all_stays h cpus)
