-- A journal as lines of text.
use Rattle.std.specs.Prelude.{Bool, true, false, ℕ, ◌+◌, List, [], ◌∷◌, ◌++◌, Option, codes, decimal}
use Rattle.gs_layout.specs.declared.message.Change.{Change}
use Rattle.gs_layout.specs.declared.message.Change.TheVariants.{Created, Blocked, Wakeup, Preempted, Yield, Dead, Affinity}
use Rattle.gs_layout.specs.declared.message.Message.{Message}
use Rattle.gs_layout.specs.declared.message.Message.TheVariants.{Thread, TimerTick}
use Rattle.gs_journal.specs.History.{History}
use Rattle.gs_journal.specs.declared.entry.Entry.{Entry}
use Rattle.gs_journal.specs.declared.entry.Entry.TheVariants.{Posted, Placed, Role, Begin, Left, Taken, Given, Torn}
use Rattle.gs_lines.specs.Lines.{change_text, cpu_text, facts_text, line}

-- whether a new mask took a thread off its CPU: a word that is only there if it did
abbrev pub off_text : Bool → List ℕ
off_text true = codes " off"
off_text false = []

-- a new mask, and the CPU that the thread was on
abbrev pub mask_text : Option ℕ → Bool → ℕ → List ℕ
mask_text c off mask = codes " mask " ++ decimal mask ++ codes " cpu " ++ cpu_text c ++ off_text off

-- what a change tells beside the thread and its number: a creation its facts, a new mask the mask, and each but a wake-up the CPU
abbrev pub fields_text : Change → List ℕ
fields_text (Created f) = codes " " ++ facts_text f
fields_text (Blocked c) = codes " cpu " ++ decimal c
fields_text Wakeup = []
fields_text (Preempted c) = codes " cpu " ++ decimal c
fields_text (Yield c) = codes " cpu " ++ decimal c
fields_text (Dead c) = codes " cpu " ++ cpu_text c
fields_text (Affinity c off mask) = mask_text c off mask

-- a message, by the words that replies have for it
abbrev pub posted_words : Message → List ℕ
posted_words (Thread t s c) = change_text c ++ codes " " ++ decimal t ++ codes " seq " ++ decimal s ++ fields_text c
posted_words (TimerTick c) = codes "tick cpu " ++ decimal c

-- a generation behind other words
abbrev pub generation_text : ℕ → List ℕ
generation_text g = codes " generation " ++ decimal g

-- an entry, with all that it says
abbrev pub entry_words : Entry → List ℕ
entry_words (Posted m) = codes "posted " ++ posted_words m
entry_words (Placed t s c g) = codes "placed " ++ decimal t ++ codes " seq " ++ decimal s ++ codes " cpu " ++ decimal c ++ generation_text g
entry_words (Role g c) = codes "role cpu " ++ decimal c ++ generation_text g
entry_words (Begin g) = codes "begin" ++ generation_text g
entry_words Left = codes "left"
entry_words (Taken c) = codes "taken " ++ decimal c
entry_words (Given c) = codes "given " ++ decimal c
entry_words Torn = codes "torn"

-- an entry behind its place
abbrev pub numbered : ℕ → Entry → List ℕ
numbered n e = decimal n ++ codes " " ++ entry_words e

-- what is written of entries, one after another, each with its place, from a place on
abbrev pub each_from : (ℕ → Entry → List ℕ) → ℕ → History → List ℕ
each_from write n [] = []
each_from write n (e ∷ es) = write n e ++ each_from write (n + 1) es

-- the lines of a journal, one for each entry, whose first has place 0
abbrev pub journal_lines : History → List ℕ
journal_lines h = each_from (λ n e. line (numbered n e)) 0 h
