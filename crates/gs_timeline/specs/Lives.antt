-- Which threads a history creates, and of which class each is.
use denote.Ref.{Bor}
use Rattle.std.specs.Prelude.{ℕ, ◌-◌, ◌==◌, List, [], ◌∷◌, flat_map, slice_get, Option, None, Some, if◌then◌else◌}
use Rattle.std.specs.Option.{option_map}
use Rattle.gs_layout.specs.declared.facts.Class.{Class}
use Rattle.gs_layout.specs.declared.message.Change.TheVariants.{Created}
use Rattle.gs_layout.specs.declared.message.Message.TheVariants.{Thread}
use Rattle.gs_journal.specs.declared.entry.Entry.{Entry}
use Rattle.gs_journal.specs.declared.entry.Entry.TheVariants.{Posted}
use Rattle.gs_journal.specs.History.{History}
use Rattle.gs_timeline.specs.declared.lives.Life.{Life}

-- the thread that an entry creates, if it creates one, and its class
abbrev pub created : Entry → List (ℕ × Class)
created (Posted (Thread t s (Created f))) = (t, f.class) ∷ []
created _ = []

-- the threads that a history creates, in order
abbrev pub creations : History → List (ℕ × Class)
creations h = flat_map created h

-- its class, if it is this thread
abbrev pub class_if : ℕ → Option (ℕ × Class) → Option Class
class_if t None = None
class_if t (Some c) = if c.0 == t then Some c.1 else None

-- the class of a thread among these: thread 1 is the first
abbrev pub class_among : List (ℕ × Class) → ℕ → Option Class
class_among cs t = class_if t (slice_get cs (t - 1))

-- the class of thread t, if it is the t-th that a history creates: the kernel numbers threads from 1 on, as it creates them
abbrev pub class_of : History → ℕ → Option Class
class_of h t = class_among (creations h) t

-- which thread a life is of, and its class
abbrev pub born : Life → ℕ × Class
born l = (l.tid, l.class)

-- the class of a life, if there is one
abbrev pub class_known : Option (Bor Life) → Option Class
class_known life = option_map (λ (l : Bor Life). l.now.class) life
