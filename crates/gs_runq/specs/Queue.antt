-- Who waits, and in which order.
use Rattle.std.specs.Prelude.{Bool, false, ◌||◌, ◌==◌, ◌≤◌, ℕ, ◌≢◌, List, [], ◌∷◌, ◌++◌, if◌then◌else◌}
use Rattle.gs_layout.specs.declared.facts.Class.{Class}
use Rattle.gs_layout.specs.declared.facts.Class.TheVariants.{Zero, One}
use Rattle.gs_layout.specs.declared.message.TheConstants.{MOST_TIDS}

-- a number that a thread can have
abbrev pub IsTid : ℕ → Type 0
IsTid t = (1 ≤ t) × (t ≤ MOST_TIDS)

-- whether the thread is one of these
abbrev pub is_in : ℕ → List ℕ → Bool
is_in t [] = false
is_in t (x ∷ xs) = (x == t) || is_in t xs

-- these, in their order, without the thread
abbrev pub without : ℕ → List ℕ → List ℕ
without t [] = []
without t (x ∷ xs) = if x == t then without t xs else (x ∷ without t xs)

-- the thread is none of these
abbrev pub IsOut : ℕ → List ℕ → Type 0
IsOut t [] = Unit {0}
IsOut t (x ∷ xs) = (t ≢ x) × IsOut t xs

-- no thread stands twice
abbrev pub Apart : List ℕ → Type 0
Apart [] = Unit {0}
Apart (x ∷ xs) = IsOut x xs × Apart xs

-- the waiting threads of class 0 and of class 1, each class in the order in which they came. The room is how many of each class there can be with no
-- more memory
pub record Queue : Type 0 where
  pub zero_class : List ℕ
  pub one_class : List ℕ
  pub room : ℕ

-- nobody waits, and there is room for nobody
abbrev pub empty : Queue
empty = record { zero_class = []; one_class = []; room = 0 }

-- all that wait, in order: class 0 before class 1
abbrev pub order : Queue → List ℕ
order q = q.zero_class ++ q.one_class

-- the waiting threads of a class
abbrev pub class_of : Class → Queue → List ℕ
class_of Zero q = q.zero_class
class_of One q = q.one_class

-- a thread goes last of its class
abbrev pub put : Class → ℕ → Queue → Queue
put Zero t q = record q { zero_class = q.zero_class ++ t ∷ [] }
put One t q = record q { one_class = q.one_class ++ t ∷ [] }

-- a thread leaves, of whichever class
abbrev pub removed : ℕ → Queue → Queue
removed t q = record q { zero_class = without t q.zero_class; one_class = without t q.one_class }
