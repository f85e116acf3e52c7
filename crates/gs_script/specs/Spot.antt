-- Where a line's first fault stands, and what is wanted there.
use denote.Ref.{Bor}
use Rattle.std.specs.Prelude.{◌+◌, ℕ, max, min, nat_lt, List, [], ◌∷◌, ◌++◌, map, length, flat_map, find, if◌then◌else◌, Option, Some, None, codes}
use Rattle.gs_status.specs.declared.mask.TheConstants.{MOST_CPUS}
use Rattle.gs_layout.specs.declared.wire.TheConstants.{ALIGNMENT}
use Rattle.gs_ring.specs.declared.block.TheConstants.{LEAST_CAPACITY, MOST_CAPACITY}
use Rattle.gs_kernel.specs.declared.settings.TheConstants.{LEAST_CPUS, LEAST_GENERATION, LEAST_HISTORY, MOST_FIRST_TSEQ, MOST_GENERATION, MOST_HISTORY}
use Rattle.gs_script.specs.declared.forms.Form.{Form as TheForm}
use Rattle.gs_script.specs.declared.wanted.Wanted.{Wanted}
use Rattle.gs_script.specs.declared.wanted.Wanted.TheVariants as wants
use Rattle.gs_script.specs.Grammar.{Form, Kind, Number, Multiple, Name, after_word, has_count, is_empty, literal}
use Rattle.gs_script.specs.Naming.{Naming, policy_kind}
use Rattle.gs_script.specs.Rows.{Row, is, masks, rows, stamp_flag, runnables, u16s, u32s}
use Rattle.gs_script.specs.Header.{header_forms}

-- the kind of word that each of these is
abbrev pub kind_of : Wanted → Kind
kind_of wants.Mask = masks
kind_of wants.Class = Number 0 1
kind_of wants.State = runnables
kind_of wants.Name = Name
kind_of wants.Thread = u32s
kind_of wants.Cpu = u16s
kind_of wants.Messages = u32s
kind_of wants.Transaction = u32s
kind_of wants.PageThreads = u16s
kind_of wants.Flag = stamp_flag
kind_of (wants.Named word) = policy_kind word
kind_of wants.Cpus = Number LEAST_CPUS MOST_CPUS
kind_of wants.Ring = literal (codes "ring")
kind_of wants.Capacity = Multiple ALIGNMENT LEAST_CAPACITY MOST_CAPACITY
kind_of wants.FirstTseq = literal (codes "first-tseq")
kind_of wants.Tseq = Number 0 MOST_FIRST_TSEQ
kind_of wants.FirstGen = literal (codes "first-gen")
kind_of wants.Generation = Number LEAST_GENERATION MOST_GENERATION
kind_of wants.History = literal (codes "history")
kind_of wants.Entries = Number LEAST_HISTORY MOST_HISTORY
kind_of wants.Policy = literal (codes "policy")

-- the form of a line whose words are to be these, and then such as name a policy
abbrev pub form_of : TheForm → Form
form_of form = map kind_of form.front.now ++ map policy_kind form.policy.now

abbrev pub forms_of : List TheForm → List Form
forms_of forms = map form_of forms

-- the forms of lines whose words are to be these
abbrev pub kinds_of : List (Bor (List Wanted)) → List Form
kinds_of forms = map (λ form. map kind_of form.now) forms

-- the forms of lines that begin with these words: of one that names no policy, and of those that name one
abbrev pub fronted : List Form → Bor (List Wanted) × Bor (List Wanted) → List Form
fronted named fronts = map kind_of fronts.0.now ∷ map (λ form. map kind_of fronts.1.now ++ form) named

-- the kind of word that a form wants first, if it wants one
abbrev pub first_kind : Form → List Kind
first_kind [] = []
first_kind (kind ∷ form) = kind ∷ []

-- the kinds of word that these forms want next
abbrev pub next_kinds : List Form → List Kind
next_kinds forms = flat_map first_kind forms

-- where the fault of a line's words stands: before it are so many of the words, and these kinds may stand there
pub record Spot : Type 0 where
  pub place : ℕ
  pub wanted : List Kind

-- the same of the words behind one more
abbrev pub one_on : Spot → Spot
one_on s = record { place = s.place + 1; wanted = s.wanted }

-- where `first_fault` finds its fault: at the first word that no form takes which took those before it, or behind the last word
abbrev pub first_spot : List Form → List (List ℕ) → Spot
first_spot forms [] = record { place = 0; wanted = next_kinds forms }
first_spot forms (word ∷ words) =
    if is_empty (flat_map (after_word word) forms) then record { place = 0; wanted = next_kinds forms } else one_on (first_spot (flat_map (after_word word) forms) words)

-- the most words that one of these forms has
abbrev pub longest : List Form → ℕ
longest [] = 0
longest (form ∷ forms) = max (length form) (longest forms)

-- where `line_fault` finds its: of more words than any form has, at the first behind the longest one. Of too few it is behind the last
abbrev pub line_spot : List Form → List (List ℕ) → Spot
line_spot forms words = if has_count forms (length words) then first_spot forms words else record { place = min (length words) (longest forms); wanted = [] }

-- of an event's line
abbrev pub row_spot : {A : Type 0} → Option (Row A) → List (List ℕ) → Spot
row_spot None words = record { place = 0; wanted = [] }
row_spot (Some row) words = one_on (line_spot row.forms words)

abbrev pub row_of : {A : Type 0} → Naming A → List ℕ → Option (Row A)
row_of naming first = find (λ row. is first row.word) (rows naming)

abbrev pub event_spot : {A : Type 0} → Naming A → List (List ℕ) → Spot
event_spot naming [] = record { place = 0; wanted = [] }
event_spot naming (first ∷ words) = row_spot (row_of naming first) words

-- of the words behind `cpus`
abbrev pub sizes_spot : {A : Type 0} → Naming A → List (List ℕ) → Spot
sizes_spot naming words = if nat_lt (length words) 3 then record { place = length words; wanted = [] } else first_spot (header_forms naming) words

-- of a line in the header's place
abbrev pub header_spot : {A : Type 0} → Naming A → List (List ℕ) → Spot
header_spot naming [] = record { place = 0; wanted = [] }
header_spot naming (first ∷ words) = if is first (codes "cpus") then one_on (sizes_spot naming words) else record { place = 0; wanted = [] }
