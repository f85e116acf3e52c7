-- How a line is kept, and what two lines of a queue keep.
use Rattle.std.specs.Prelude.{ℕ, ◌+◌, ◌-◌, min, vec_capacity, ◌<◌, ◌≤◌, ◌≡◌, ◌⊎◌, List, [], ◌∷◌, ◌++◌, length, slice_index}
use Rattle.gs_runq.specs.Line.{LineState}
use Rattle.gs_runq.specs.Queue.{IsOut, Apart}
use Rattle.gs_runq.specs.Linked.{Linked, walked}
use Rattle.gs_runq.specs.declared.line.Line.TheInside.{Inside}
use Rattle.gs_runq.specs.declared.line.TheConstants.{PLACES}

-- each of these has a place of its own in a table of this length
abbrev pub AllIn : ℕ → List ℕ → Type 0
AllIn n [] = Unit {0}
AllIn n (x ∷ xs) = (0 < x) × (x < n) × AllIn n xs

-- who stands in line, by the table of who follows whom
abbrev pub threads_of : List ℕ → ℕ → List ℕ
threads_of next count = walked count (slice_index next) 0

-- place 0 stands before the first and behind the last; a thread that has a place and is not in line follows itself
pub record IsLine (next previous : List ℕ) (count : ℕ) : Type 0 where
  pub sizes : length previous ≡ length next
  pub most : length next ≤ PLACES
  pub linked : Linked (slice_index next) (slice_index previous) 0 (threads_of next count) 0
  pub apart : Apart (threads_of next count)
  pub within : AllIn (length next) (threads_of next count)
  pub absent : (t : ℕ) → 0 < t → t < length next → IsOut t (threads_of next count) → slice_index next t ≡ t

-- a table that was lengthened up to a thread's place: the places that it had stay, and each further one leads to itself
pub record IsLonger (table longer : List ℕ) (t : ℕ) : Type 0 where
  pub count : length longer ≡ length table + (t + 1 - length table)
  pub kept : (i : ℕ) → i < length table → slice_index longer i ≡ slice_index table i
  pub own : (i : ℕ) → length table ≤ i → i < length longer → slice_index longer i ≡ i

-- memory is reserved for no place, or for all of them in both tables
abbrev pub AreReserved : ℕ → ℕ → Type 0
AreReserved next previous = (previous ≡ 0) ⊎ ((PLACES ≤ next) × (PLACES ≤ previous))

-- how many threads find a place in so much memory: place 0 is no thread's
abbrev pub room_in : ℕ → ℕ
room_in places = min places PLACES - 1

-- what a line is to its callers: the table that is given its memory last says how much room there is
abbrev pub line_view : Inside → LineState
line_view s = record { threads = threads_of s.next.items s.count; room = room_in (vec_capacity s.previous) }

-- what a line keeps
pub record LineInvariant (s : Inside) : Type 0 where
  pub line : IsLine s.next.items s.previous.items s.count
  pub reserved : AreReserved (vec_capacity s.next) (vec_capacity s.previous)

-- no thread stands twice, and none stands in both classes. The second line is given its room last
pub record IsQueue (zero_class one_class : LineState) : Type 0 where
  pub rooms : one_class.room ≤ zero_class.room
  pub apart : Apart (zero_class.threads ++ one_class.threads)
