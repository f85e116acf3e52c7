-- What sentences about landings and about refusals share.
use Rattle.std.specs.Prelude.{ℕ, Option, None, Some, List, [], ◌++◌, codes, decimal}
use Rattle.gs_layout.specs.declared.message.Change.{Change}
use Rattle.gs_layout.specs.declared.message.Change.TheVariants.{Created, Blocked, Wakeup, Preempted, Yield, Dead, Affinity}
use Rattle.gs_layout.specs.declared.message.Message.TheVariants.{Thread}
use Rattle.gs_journal.specs.declared.entry.Entry.{Entry}
use Rattle.gs_journal.specs.declared.entry.Entry.TheVariants.{Posted, Placed, Role, Begin, Left, Torn}
use Rattle.gs_sentences.specs.Told.{Cause}
use Rattle.gs_sentences.specs.declared.words.Words.TheVariants as words
use Rattle.gs_sentences.specs.Words.{said}

-- the script's line that added an entry, and the entry's place in the journal
abbrev pub at_text : ℕ → ℕ → List ℕ
at_text line place = decimal line ++ said words.Entry ++ decimal place ++ said words.Close

abbrev pub place_text : Cause → List ℕ
place_text c = at_text c.line c.place

-- since when something is so, if an entry made it so
abbrev pub since_text : Option Cause → List ℕ
since_text None = []
since_text (Some c) = said words.SinceLine ++ place_text c

-- when something happened, if an entry tells of it
abbrev pub on_text : Option Cause → List ℕ
on_text None = []
on_text (Some c) = said words.OnLine ++ place_text c

-- which agent there is, by the last entry that says so
abbrev pub agent_by : Entry → List ℕ
agent_by (Role g k) = said words.Generation ++ decimal g ++ said words.IsActiveOnCpu ++ decimal k
agent_by (Begin g) = said words.Generation ++ decimal g ++ said words.Attaches
agent_by Left = said words.ThereIsNoAgent
agent_by Torn = said words.TheEnclaveIsTornDown
agent_by _ = said words.NoAgentIsActive

abbrev pub agent_text : Option Cause → List ℕ
agent_text None = said words.ThereNeverWasAnAgent
agent_text (Some c) = agent_by c.entry ++ said words.SinceLine ++ place_text c

-- that a thread is no more, or never was
abbrev pub dead_text : ℕ → Option Cause → List ℕ
dead_text t None = said words.ThereNeverWasAThread ++ decimal t
dead_text t (Some c) = said words.Thread ++ decimal t ++ said words.Died ++ said words.OnLine ++ place_text c

-- who was put on a CPU, by the last entry that says so
abbrev pub thread_by : Entry → List ℕ
thread_by (Placed t s k g) = said words.Thread ++ decimal t
thread_by _ = said words.AThread

abbrev pub seat_text : ℕ → Option Cause → List ℕ
seat_text k None = said words.AThreadIsOnCpu ++ decimal k
seat_text k (Some c) = thread_by c.entry ++ said words.IsOnCpu ++ decimal k ++ said words.SinceLine ++ place_text c

-- that the other class holds a CPU
abbrev pub held_text : ℕ → Option Cause → List ℕ
held_text k c = said words.TheOtherClassHoldsCpu ++ decimal k ++ since_text c

-- that the enclave was torn down
abbrev pub torn_text : Option Cause → List ℕ
torn_text c = said words.TheEnclaveWasTornDown ++ on_text c

-- what a message told of a thread
abbrev pub change_text : Change → List ℕ
change_text (Created f) = said words.SinceItsCreationOnLine
change_text (Blocked c) = said words.SinceItBlockedOnLine
change_text Wakeup = said words.SinceItWasWokenOnLine
change_text (Preempted c) = said words.SinceItMadeWayOnLine
change_text (Yield c) = said words.SinceItYieldedOnLine
change_text (Dead c) = said words.SinceItDiedOnLine
change_text (Affinity c off m) = said words.SinceItsNewMaskOfLine

abbrev pub told_by : Entry → List ℕ
told_by (Posted (Thread t n c)) = change_text c
told_by _ = said words.SinceLine

-- by what a thread has its sequence number
abbrev pub told_text : Option Cause → List ℕ
told_text None = []
told_text (Some c) = told_by c.entry ++ place_text c

-- the mask that an entry gives a thread
abbrev pub mask_of_change : Change → List ℕ
mask_of_change (Created f) = codes " " ++ decimal f.mask
mask_of_change (Affinity c off m) = codes " " ++ decimal m
mask_of_change _ = []

abbrev pub mask_by : Entry → List ℕ
mask_by (Posted (Thread t n c)) = mask_of_change c
mask_by _ = []

-- by which mask a thread may not run on a CPU
abbrev pub mask_text : Option Cause → List ℕ
mask_text None = []
mask_text (Some c) = mask_by c.entry ++ said words.SinceLine ++ place_text c
