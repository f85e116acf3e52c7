-- The lines that say an event: one row of a table for each kind of event.
use Rattle.std.specs.Prelude.{ℕ, ◌-◌, ◌^◌, List, [], ◌∷◌, map, Bool, bytes_eq, if◌then◌else◌, ◌==◌, ◌||◌, codes, get_or, Result, Ok, Err}
use denote.Ref.{Bor}
use Rattle.gs_layout.specs.declared.facts.Class.{Class}
use Rattle.gs_layout.specs.declared.facts.Class.TheVariants.{Zero, One}
use Rattle.gs_layout.specs.declared.name.Name.{Name as TheName}
use Rattle.gs_kernel.specs.declared.command.Command.{Command}
use Rattle.gs_kernel.specs.declared.command.Command.TheVariants as commands
use Rattle.gs_kernel.specs.declared.thread_event.ThreadEvent.{ThreadEvent}
use Rattle.gs_kernel.specs.declared.thread_event.ThreadEvent.TheVariants as happens
use Rattle.gs_slots.specs.declared.flags.Flags.{Flags}
use Rattle.gs_core.specs.declared.event.Event.{Event}
use Rattle.gs_core.specs.declared.event.Event.TheVariants as events
use Rattle.gs_script.specs.declared.fault.Reason.{Reason}
use Rattle.gs_script.specs.declared.fault.Reason.TheVariants.{BadWord, BadNumber, BadName}
use Rattle.gs_status.specs.declared.mask.TheConstants.{MOST_CPUS}
use Rattle.gs_script.specs.Words.{number}
use Rattle.gs_script.specs.Grammar.{is_of_kind, OneOf, Number, Name, Kind, Form, line_fault, or_fault}
use Rattle.gs_script.specs.Naming.{Naming}

-- the numbers that so many bits hold
abbrev pub u16s : Kind
u16s = Number 0 (2 ^ 16 - 1)

abbrev pub u32s : Kind
u32s = Number 0 (2 ^ 32 - 1)

-- a mask: a bit for each CPU that there may be
abbrev pub masks : Kind
masks = Number 0 (2 ^ MOST_CPUS - 1)

-- whether a thread may run, or is blocked
abbrev pub runnables : Kind
runnables = OneOf (codes "r" ∷ codes "b" ∷ [])

-- the word at a place
abbrev pub at : ℕ → List (List ℕ) → List ℕ
at k words = get_or words k []

abbrev pub is : List ℕ → List ℕ → Bool
is word text = bytes_eq word text

-- the name that a word spells: `-` alone is the empty one
abbrev pub name_of : List ℕ → TheName
name_of word = if is word (codes "-") then [] else word

abbrev pub class_of : ℕ → Class
class_of n = if n == 0 then Zero else One

-- what an event line says: its first word, the forms of the words after it, and the event of those
pub record Row (A : Type 0) : Type 0 where
  pub word : List ℕ
  pub forms : List Form
  pub event : List (List ℕ) → Event A

abbrev pub create : {A : Type 0} → Row A
create =
    record {
      word = codes "create";
      forms = (masks ∷ Number 0 1 ∷ runnables ∷ Name ∷ []) ∷ [];
      event = λ ws. events.Kernel (commands.Create (record { runnable = is (at 2 ws) (codes "r"); mask = number (at 0 ws); class = class_of (number (at 1 ws)); name = name_of (at 3 ws) }));
    }

-- a line that says what happens to a thread
abbrev pub to_thread : {A : Type 0} → List ℕ → ThreadEvent → Row A
to_thread word e = record { word = word; forms = (u32s ∷ []) ∷ []; event = λ ws. events.Kernel (commands.Thread (number (at 0 ws)) e) }

abbrev pub block : {A : Type 0} → Row A
block = to_thread (codes "block") happens.Block

abbrev pub wake : {A : Type 0} → Row A
wake = to_thread (codes "wake") happens.Wake

abbrev pub yield : {A : Type 0} → Row A
yield = to_thread (codes "yield") happens.Yield

abbrev pub die : {A : Type 0} → Row A
die = to_thread (codes "die") happens.Die

abbrev pub affinity : {A : Type 0} → Row A
affinity = record { word = codes "affinity"; forms = (u32s ∷ masks ∷ []) ∷ []; event = λ ws. events.Kernel (commands.Thread (number (at 0 ws)) (happens.Affinity (number (at 1 ws)))) }

-- a line that tells the kernel something of a CPU
abbrev pub of_cpu : List Form
of_cpu = (u16s ∷ []) ∷ []

abbrev pub to_cpu : {A : Type 0} → List ℕ → (ℕ → Command) → Row A
to_cpu word command = record { word = word; forms = of_cpu; event = λ ws. events.Kernel (command (number (at 0 ws))) }

abbrev pub take : {A : Type 0} → Row A
take = to_cpu (codes "take") commands.Take

abbrev pub give : {A : Type 0} → Row A
give = to_cpu (codes "give") commands.Give

abbrev pub tick : {A : Type 0} → Row A
tick = to_cpu (codes "tick") commands.Tick

abbrev pub handoff : {A : Type 0} → Row A
handoff = to_cpu (codes "handoff") commands.HandOff

abbrev pub activate : {A : Type 0} → Row A
activate = to_cpu (codes "activate") commands.Activate

-- a new agent begins: by the policy that words name, or by that of the one before
abbrev pub begins : {A : Type 0} → Naming A → List (List ℕ) → Event A
begins naming [] = events.Kernel commands.Begin
begins naming (w ∷ ws) = events.Begin (naming.named (w ∷ ws))

abbrev pub begin : {A : Type 0} → Naming A → Row A
begin naming = record { word = codes "begin"; forms = [] ∷ naming.forms; event = begins naming }

abbrev pub page : {A : Type 0} → Row A
page = record { word = codes "page"; forms = (u16s ∷ []) ∷ []; event = λ ws. events.Page (number (at 0 ws)) }

abbrev pub drain : {A : Type 0} → Row A
drain = record { word = codes "drain"; forms = (u32s ∷ []) ∷ []; event = λ ws. events.Drain (number (at 0 ws)) }

-- the words that may stand behind a stamp: it takes the thread off that is on the CPU, it is one of a group, or both
abbrev pub stamp_flag : Kind
stamp_flag = OneOf (codes "p" ∷ codes "g" ∷ codes "pg" ∷ [])

-- the flags that such a word names, or that none names
abbrev pub flags_of : List ℕ → Flags
flags_of word = record { preempt = is word (codes "p") || is word (codes "pg"); group = is word (codes "g") || is word (codes "pg") }

abbrev pub stamp : {A : Type 0} → Row A
stamp =
    record {
      word = codes "stamp";
      forms = (u16s ∷ u32s ∷ []) ∷ (u16s ∷ u32s ∷ stamp_flag ∷ []) ∷ [];
      event = λ ws. events.Stamp (number (at 0 ws)) (number (at 1 ws)) (flags_of (at 2 ws));
    }

-- a line whose first word says all: nothing stands behind it
abbrev pub alone : {A : Type 0} → List ℕ → Event A → Row A
alone word e = record { word = word; forms = [] ∷ []; event = λ ws. e }

abbrev pub decide : {A : Type 0} → Row A
decide = alone (codes "decide") events.Decide

abbrev pub crash : {A : Type 0} → Row A
crash = alone (codes "crash") events.Crash

abbrev pub leave : {A : Type 0} → Row A
leave = alone (codes "leave") (events.Kernel commands.Leave)

abbrev pub commit : {A : Type 0} → Row A
commit = record { word = codes "commit"; forms = (masks ∷ []) ∷ []; event = λ ws. events.Commit (number (at 0 ws)) }

abbrev pub late : {A : Type 0} → Row A
late = record { word = codes "late"; forms = (u32s ∷ []) ∷ []; event = λ ws. events.Late (number (at 0 ws)) }

abbrev pub view : {A : Type 0} → Row A
view = alone (codes "view") events.View

abbrev pub state : {A : Type 0} → Row A
state = alone (codes "state") events.State

abbrev pub unread : {A : Type 0} → Row A
unread = alone (codes "unread") events.Unread

abbrev pub rows : {A : Type 0} → Naming A → List (Row A)
rows naming = create ∷ block ∷ wake ∷ yield ∷ die ∷ affinity ∷ take ∷ give ∷ tick ∷ handoff ∷ crash ∷ leave ∷ begin naming ∷ page ∷ activate ∷ drain ∷ stamp ∷ decide ∷ commit ∷ late ∷ view ∷ state ∷ unread ∷ []

-- what a row reads in the words after its first
abbrev pub reads : {A : Type 0} → Row A → List (List ℕ) → Result (Event A) Reason
reads row words = or_fault (line_fault row.forms words) (row.event words)

-- what the first of these rows whose word it is reads
abbrev pub event_by : {A : Type 0} → List (Row A) → List ℕ → List (List ℕ) → Result (Event A) Reason
event_by [] first words = Err BadWord
event_by (row ∷ rows) first words = if is first row.word then reads row words else event_by rows first words

-- what an event line of these words says
abbrev pub event_of : {A : Type 0} → Naming A → List (List ℕ) → Result (Event A) Reason
event_of naming [] = Err BadWord
event_of naming (first ∷ words) = event_by (rows naming) first words

-- the bytes of words
abbrev pub shown : List (Bor (List ℕ)) → List (List ℕ)
shown words = map (λ word. word.now) words

-- what a word says that is to be a number
abbrev pub number_between : ℕ → ℕ → List ℕ → Result ℕ Reason
number_between low high word = if is_of_kind (Number low high) word then Ok (number word) else Err BadNumber

-- what words say that are to be one number
abbrev pub one_number : ℕ → List (List ℕ) → Result ℕ Reason
one_number high words = or_fault (line_fault ((Number 0 high ∷ []) ∷ []) words) (number (at 0 words))

-- what a word says that is to be a name
abbrev pub name_in : List ℕ → Result TheName Reason
name_in word = if is_of_kind Name word then Ok (name_of word) else Err BadName

-- what a word says that is to be a class
abbrev pub class_in : List ℕ → Result Class Reason
class_in word = if is_of_kind (Number 0 1) word then Ok (class_of (number word)) else Err BadNumber

-- what a word says that is to be a flag of a stamp: whether it takes a thread off, and whether it is one of a group
abbrev pub flags_in : List ℕ → Result Flags Reason
flags_in word = if is_of_kind stamp_flag word then Ok (flags_of word) else Err BadWord

-- what a word says that is to be `r` or `b`
abbrev pub runnable_in : List ℕ → Result Bool Reason
runnable_in word = if is_of_kind runnables word then Ok (is word (codes "r")) else Err BadWord
