-- A journal as JSON Lines.
use Rattle.std.specs.Prelude.{Bool, ℕ, List, Option, None, Some, codes, decimal}
use Rattle.serde_json.specs.Data.{Data, Members, boolean, number, unsigned, string, null, object, member, no_members}
use Rattle.serde_json.specs.Written.{compact_text}
use Rattle.gs_layout.specs.declared.facts.Facts.{Facts}
use Rattle.gs_layout.specs.declared.message.Change.{Change}
use Rattle.gs_layout.specs.declared.message.Change.TheVariants.{Created, Blocked, Wakeup, Preempted, Yield, Dead, Affinity}
use Rattle.gs_layout.specs.declared.message.Message.{Message}
use Rattle.gs_layout.specs.declared.message.Message.TheVariants.{Thread, TimerTick}
use Rattle.gs_layout.specs.Class.{class_number}
use Rattle.gs_journal.specs.History.{History}
use Rattle.gs_journal.specs.declared.entry.Entry.{Entry}
use Rattle.gs_journal.specs.declared.entry.Entry.TheVariants.{Posted, Placed, Role, Begin, Left, Taken, Given, Torn}
use Rattle.gs_lines.specs.Lines.{line}
use Rattle.gs_history.specs.Journal.{each_from}

abbrev pub count : ℕ → Data
count n = number (unsigned n)

-- a mask as a text, since many readers of JSON round a number above 2^53
abbrev pub mask_data : ℕ → Data
mask_data mask = string (decimal mask)

-- a CPU, or null for none
abbrev pub cpu_data : Option ℕ → Data
cpu_data None = null
cpu_data (Some c) = count c

-- the members that each message about a thread has, of those that sort behind the others
abbrev pub thread_members : ℕ → ℕ → Members
thread_members t s = member (codes "seq") (count s) (member (codes "tid") (count t) no_members)

-- a creation
abbrev pub created_data : ℕ → ℕ → ℕ → Facts → Data
created_data n t s f =
    object (
    member (codes "class") (count (class_number f.class)) (
    member (codes "entry") (count n) (
    member (codes "kind") (string (codes "posted")) (
    member (codes "mask") (mask_data f.mask) (
    member (codes "message") (string (codes "created")) (
    member (codes "name") (string f.name) (
    member (codes "runnable") (boolean f.runnable) (
    thread_members t s))))))))

-- a message of this name that has the CPU of its thread and nothing more
abbrev pub left_data : ℕ → ℕ → ℕ → Option ℕ → List ℕ → Data
left_data n t s c name =
    object (
    member (codes "cpu") (cpu_data c) (
    member (codes "entry") (count n) (
    member (codes "kind") (string (codes "posted")) (
    member (codes "message") (string name) (
    thread_members t s)))))

-- a new mask
abbrev pub affinity_data : ℕ → ℕ → ℕ → Option ℕ → Bool → ℕ → Data
affinity_data n t s c off mask =
    object (
    member (codes "cpu") (cpu_data c) (
    member (codes "entry") (count n) (
    member (codes "kind") (string (codes "posted")) (
    member (codes "mask") (mask_data mask) (
    member (codes "message") (string (codes "affinity")) (
    member (codes "off") (boolean off) (
    thread_members t s)))))))

-- a wake-up
abbrev pub woken_data : ℕ → ℕ → ℕ → Data
woken_data n t s =
    object (
    member (codes "entry") (count n) (
    member (codes "kind") (string (codes "posted")) (
    member (codes "message") (string (codes "woken")) (
    thread_members t s))))

-- a message about a thread
abbrev pub changed_data : ℕ → ℕ → ℕ → Change → Data
changed_data n t s (Created f) = created_data n t s f
changed_data n t s (Blocked c) = left_data n t s (Some c) (codes "blocked")
changed_data n t s Wakeup = woken_data n t s
changed_data n t s (Preempted c) = left_data n t s (Some c) (codes "preempted")
changed_data n t s (Yield c) = left_data n t s (Some c) (codes "yielded")
changed_data n t s (Dead c) = left_data n t s c (codes "dead")
changed_data n t s (Affinity c off mask) = affinity_data n t s c off mask

-- a message
abbrev pub posted_data : ℕ → Message → Data
posted_data n (Thread t s c) = changed_data n t s c
posted_data n (TimerTick c) =
    object (
    member (codes "cpu") (count c) (
    member (codes "entry") (count n) (
    member (codes "kind") (string (codes "posted")) (
    member (codes "message") (string (codes "tick")) no_members))))

-- an entry that has no more than its place and its kind
abbrev pub bare_data : ℕ → List ℕ → Data
bare_data n kind = object (member (codes "entry") (count n) (member (codes "kind") (string kind) no_members))

-- an entry that has a CPU and nothing more
abbrev pub held_data : ℕ → ℕ → List ℕ → Data
held_data n c kind = object (member (codes "cpu") (count c) (member (codes "entry") (count n) (member (codes "kind") (string kind) no_members)))

-- an entry by its place: an object whose keys are sorted
abbrev pub entry_data : ℕ → Entry → Data
entry_data n (Posted m) = posted_data n m
entry_data n (Placed t s c g) =
    object (
    member (codes "cpu") (count c) (
    member (codes "entry") (count n) (
    member (codes "generation") (count g) (
    member (codes "kind") (string (codes "placed")) (
    thread_members t s)))))
entry_data n (Role g c) =
    object (
    member (codes "cpu") (count c) (
    member (codes "entry") (count n) (
    member (codes "generation") (count g) (
    member (codes "kind") (string (codes "role")) no_members))))
entry_data n (Begin g) =
    object (
    member (codes "entry") (count n) (
    member (codes "generation") (count g) (
    member (codes "kind") (string (codes "begin")) no_members)))
entry_data n Left = bare_data n (codes "left")
entry_data n (Taken c) = held_data n c (codes "taken")
entry_data n (Given c) = held_data n c (codes "given")
entry_data n Torn = bare_data n (codes "torn")

-- the JSON Lines of a journal: each entry's object as compact JSON, the first with place 0
abbrev pub json_lines : History → List ℕ
json_lines h = each_from (λ n e. line (compact_text (entry_data n e))) 0 h
