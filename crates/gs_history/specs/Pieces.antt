-- The JSON of an entry as it is put together: the words that never change in one piece each.
use Rattle.std.specs.Prelude.{Bool, ℕ, List, ◌++◌, Option, Some, codes, decimal}
use Rattle.json.specs.Print.{quoted}
use Rattle.serde_json.specs.Data.{boolean}
use Rattle.serde_json.specs.Written.{compact_text}
use Rattle.gs_layout.specs.declared.facts.Facts.{Facts}
use Rattle.gs_layout.specs.declared.message.Change.{Change}
use Rattle.gs_layout.specs.declared.message.Change.TheVariants.{Created, Blocked, Wakeup, Preempted, Yield, Dead, Affinity}
use Rattle.gs_layout.specs.declared.message.Message.{Message}
use Rattle.gs_layout.specs.declared.message.Message.TheVariants.{Thread, TimerTick}
use Rattle.gs_layout.specs.Class.{class_number}
use Rattle.gs_journal.specs.declared.entry.Entry.{Entry}
use Rattle.gs_journal.specs.declared.entry.Entry.TheVariants.{Posted, Placed, Role, Begin, Left, Taken, Given, Torn}
use Rattle.gs_history.specs.Json.{cpu_data}

-- the beginning of an object whose first member is a CPU
abbrev pub cpu_piece : Option ℕ → List ℕ
cpu_piece c = codes "{\"cpu\":" ++ compact_text (cpu_data c)

-- the place, behind other members
abbrev pub place_piece : ℕ → List ℕ
place_piece n = codes ",\"entry\":" ++ decimal n

-- the end of an object about a thread
abbrev pub thread_piece : ℕ → ℕ → List ℕ
thread_piece t s = codes ",\"seq\":" ++ (decimal s ++ (codes ",\"tid\":" ++ (decimal t ++ codes "}")))

-- a creation
abbrev pub created_pieces : ℕ → ℕ → ℕ → Facts → List ℕ
created_pieces n t s f = codes "{\"class\":" ++ (decimal (class_number f.class) ++ (place_piece n ++ (codes ",\"kind\":\"posted\",\"mask\":" ++ (quoted (decimal f.mask) ++ (codes ",\"message\":\"created\",\"name\":" ++ (quoted f.name ++ (codes ",\"runnable\":" ++ (compact_text (boolean f.runnable) ++ thread_piece t s))))))))

-- a message about a thread that was on a CPU, or on none, with these words behind the place
abbrev pub left_pieces : ℕ → ℕ → ℕ → Option ℕ → List ℕ → List ℕ
left_pieces n t s c words = cpu_piece c ++ (place_piece n ++ (words ++ thread_piece t s))

-- a new mask
abbrev pub affinity_pieces : ℕ → ℕ → ℕ → Option ℕ → Bool → ℕ → List ℕ
affinity_pieces n t s c off mask = cpu_piece c ++ (place_piece n ++ (codes ",\"kind\":\"posted\",\"mask\":" ++ (quoted (decimal mask) ++ (codes ",\"message\":\"affinity\",\"off\":" ++ (compact_text (boolean off) ++ thread_piece t s)))))

-- a wake-up
abbrev pub woken_pieces : ℕ → ℕ → ℕ → List ℕ
woken_pieces n t s = codes "{\"entry\":" ++ (decimal n ++ (codes ",\"kind\":\"posted\",\"message\":\"woken\"" ++ thread_piece t s))

-- a message about a thread
abbrev pub changed_pieces : ℕ → ℕ → ℕ → Change → List ℕ
changed_pieces n t s (Created f) = created_pieces n t s f
changed_pieces n t s (Blocked c) = left_pieces n t s (Some c) (codes ",\"kind\":\"posted\",\"message\":\"blocked\"")
changed_pieces n t s Wakeup = woken_pieces n t s
changed_pieces n t s (Preempted c) = left_pieces n t s (Some c) (codes ",\"kind\":\"posted\",\"message\":\"preempted\"")
changed_pieces n t s (Yield c) = left_pieces n t s (Some c) (codes ",\"kind\":\"posted\",\"message\":\"yielded\"")
changed_pieces n t s (Dead c) = left_pieces n t s c (codes ",\"kind\":\"posted\",\"message\":\"dead\"")
changed_pieces n t s (Affinity c off mask) = affinity_pieces n t s c off mask

-- an entry that has a CPU and its place, and then these words
abbrev pub held_pieces : ℕ → ℕ → List ℕ → List ℕ
held_pieces n c words = cpu_piece (Some c) ++ (place_piece n ++ words)

-- a message
abbrev pub posted_pieces : ℕ → Message → List ℕ
posted_pieces n (Thread t s c) = changed_pieces n t s c
posted_pieces n (TimerTick c) = held_pieces n c (codes ",\"kind\":\"posted\",\"message\":\"tick\"}")

-- a placing
abbrev pub placed_pieces : ℕ → ℕ → ℕ → ℕ → ℕ → List ℕ
placed_pieces n t s c g = cpu_piece (Some c) ++ (place_piece n ++ (codes ",\"generation\":" ++ (decimal g ++ (codes ",\"kind\":\"placed\"" ++ thread_piece t s))))

-- an entry, by its place
abbrev pub entry_pieces : ℕ → Entry → List ℕ
entry_pieces n (Posted m) = posted_pieces n m
entry_pieces n (Placed t s c g) = placed_pieces n t s c g
entry_pieces n (Role g c) = cpu_piece (Some c) ++ (place_piece n ++ (codes ",\"generation\":" ++ (decimal g ++ codes ",\"kind\":\"role\"}")))
entry_pieces n (Begin g) = codes "{\"entry\":" ++ (decimal n ++ (codes ",\"generation\":" ++ (decimal g ++ codes ",\"kind\":\"begin\"}")))
entry_pieces n Left = codes "{\"entry\":" ++ (decimal n ++ codes ",\"kind\":\"left\"}")
entry_pieces n (Taken c) = held_pieces n c (codes ",\"kind\":\"taken\"}")
entry_pieces n (Given c) = held_pieces n c (codes ",\"kind\":\"given\"}")
entry_pieces n Torn = codes "{\"entry\":" ++ (decimal n ++ codes ",\"kind\":\"torn\"}")
