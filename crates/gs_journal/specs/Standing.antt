-- "The last one such that, unless a later one .." over any list, the oldest first.
use Rattle.std.specs.Prelude.{Bool, Option, None, Some, List, [], ◌∷◌, if◌then◌else◌, cond, false}
use Rattle.std.specs.List.{list_any}

abbrev pub or_here : {E A : Type 0} → Option (A × List E) → Option A → List E → Option (A × List E)
or_here (Some p) here later = Some p
or_here None (Some a) later = Some (a, later)
or_here None None later = None

-- the last element that starts something: what it starts, and the elements after it
unfoldable pub last_of : {E A : Type 0} → (E → Option A) → List E → Option (A × List E)
last_of starts [] = None
last_of starts (e ∷ es) = or_here (last_of starts es) (starts e) es

abbrev pub unless_ended : {E A : Type 0} → (A → E → Bool) → Option (A × List E) → Option A
unless_ended ends None = None
unless_ended ends (Some p) = if list_any (ends p.0) p.1 then None else Some p.0

-- what the last element that starts something starts, unless a later element ends it
unfoldable pub standing : {E A : Type 0} → (E → Option A) → (A → E → Bool) → List E → Option A
standing starts ends es = unless_ended ends (last_of starts es)

abbrev pub never : {E A : Type 0} → A → E → Bool
never a e = false

-- what the last element that starts something starts, whatever comes later
unfoldable pub latest : {E A : Type 0} → (E → Option A) → List E → Option A
latest starts es = standing starts never es

-- what stands after one more element
abbrev pub then_stands : {E A : Type 0} → Option A → (A → E → Bool) → E → Option A → Option A
then_stands (Some a) ends e o = Some a
then_stands None ends e None = None
then_stands None ends e (Some a) = cond (ends a e) None (Some a)

-- the latest after one more element
abbrev pub then_latest : {A : Type 0} → Option A → Option A → Option A
then_latest (Some a) o = Some a
then_latest None o = o
