-- What the lines of a journal say: the other way round.
use Rattle.std.specs.Prelude.{Bool, ℕ, ◌==◌, List, [], ◌∷◌, Option, None, Some, option_map, if◌then◌else◌, bytes_eq, codes, drop, filter_map, get_or}
use Rattle.std.specs.List.{slice_split}
use Rattle.std.specs.Str.Parse.{digits_value}
use Rattle.gs_layout.specs.declared.facts.Facts.{Facts}
use Rattle.gs_layout.specs.declared.facts.Class.TheVariants.{Zero, One}
use Rattle.gs_layout.specs.declared.message.Change.{Change}
use Rattle.gs_layout.specs.declared.message.Change.TheVariants.{Created, Blocked, Wakeup, Preempted, Yield, Dead, Affinity}
use Rattle.gs_layout.specs.declared.message.Message.{Message}
use Rattle.gs_layout.specs.declared.message.Message.TheVariants.{Thread, TimerTick}
use Rattle.gs_journal.specs.History.{History}
use Rattle.gs_journal.specs.declared.entry.Entry.{Entry}
use Rattle.gs_journal.specs.declared.entry.Entry.TheVariants.{Posted, Placed, Role, Begin, Left, Taken, Given, Torn}

-- the parts of a line between its spaces
abbrev pub words_of : List ℕ → List (List ℕ)
words_of text = slice_split (λ b. b == 32) text

-- the word at a place, which is counted from 0: whether it is this one, and the number that its digits write
abbrev pub word_at : ℕ → List (List ℕ) → List ℕ
word_at k ws = get_or ws k []

abbrev pub is_at : ℕ → List (List ℕ) → List ℕ → Bool
is_at k ws word = bytes_eq (word_at k ws) word

abbrev pub number_at : ℕ → List (List ℕ) → ℕ
number_at k ws = digits_value 10 (word_at k ws)

-- the CPU there, or none for `-`
abbrev pub cpu_at : ℕ → List (List ℕ) → Option ℕ
cpu_at k ws = if is_at k ws (codes "-") then None else Some (number_at k ws)

-- the name there, the empty one for `-`
abbrev pub name_at : ℕ → List (List ℕ) → List ℕ
name_at k ws = if is_at k ws (codes "-") then [] else word_at k ws

-- the facts of a new thread, by the words behind `created`
abbrev pub facts_in : List (List ℕ) → Facts
facts_in ws = record { runnable = is_at 3 ws (codes "r"); mask = number_at 5 ws; class = if is_at 7 ws (codes "0") then Zero else One; name = name_at 9 ws }

-- a word, and what is said by it and something more
abbrev pub Row : Type 0 → Type 0 → Type 0
Row X A = List ℕ × (X → A)

-- what the row of a word says, if there is one
abbrev pub said : {X A : Type 0} → List (Row X A) → List ℕ → X → Option A
said [] word x = None
said (row ∷ rows) word x = if bytes_eq word row.0 then Some (row.1 x) else said rows word x

-- a message about a thread, by the words behind its name
abbrev pub about : List ℕ → (List (List ℕ) → Change) → Row (List (List ℕ)) Message
about name change = (name, λ ws. Thread (number_at 0 ws) (number_at 2 ws) (change ws))

abbrev pub messages : List (Row (List (List ℕ)) Message)
messages =
    about (codes "created") (λ ws. Created (facts_in ws))
    ∷ about (codes "blocked") (λ ws. Blocked (number_at 4 ws))
    ∷ about (codes "woken") (λ ws. Wakeup)
    ∷ about (codes "preempted") (λ ws. Preempted (number_at 4 ws))
    ∷ about (codes "yielded") (λ ws. Yield (number_at 4 ws))
    ∷ about (codes "dead") (λ ws. Dead (cpu_at 4 ws))
    ∷ about (codes "affinity") (λ ws. Affinity (cpu_at 6 ws) (is_at 7 ws (codes "off")) (number_at 4 ws))
    ∷ (codes "tick", λ ws. TimerTick (number_at 1 ws))
    ∷ []

-- each entry but a message
abbrev pub others : List (Row (List (List ℕ)) Entry)
others =
    (codes "placed", λ ws. Placed (number_at 0 ws) (number_at 2 ws) (number_at 4 ws) (number_at 6 ws))
    ∷ (codes "role", λ ws. Role (number_at 3 ws) (number_at 1 ws))
    ∷ (codes "begin", λ ws. Begin (number_at 1 ws))
    ∷ (codes "left", λ ws. Left)
    ∷ (codes "taken", λ ws. Taken (number_at 0 ws))
    ∷ (codes "given", λ ws. Given (number_at 0 ws))
    ∷ (codes "torn", λ ws. Torn)
    ∷ []

-- what words say by the first of them
abbrev pub said_first : {A : Type 0} → List (Row (List (List ℕ)) A) → List (List ℕ) → Option A
said_first rows ws = said rows (word_at 0 ws) (drop 1 ws)

-- the entry that words say, if they say one
abbrev pub entry_of : List (List ℕ) → Option Entry
entry_of ws = if is_at 0 ws (codes "posted") then option_map Posted (said_first messages (drop 1 ws)) else said_first others ws

-- the entry of a line, whose first word is its place
abbrev pub entry_in : List ℕ → Option Entry
entry_in text = entry_of (drop 1 (words_of text))

-- the history that lines tell: the entry of each line, in order
abbrev pub history_in : List ℕ → History
history_in text = filter_map entry_in (slice_split (λ b. b == 10) text)
