-- What commands add, and rows of a legal step, computed.
use Rattle.std.proofs.Common.{◌≡◌, [], ◌∷◌, ◌++◌, None, Some, Ok, Err, true, false, refl}
use Rattle.gs_layout.specs.declared.facts.Facts.{Facts}
use Rattle.gs_layout.specs.declared.facts.Class.TheVariants.{Zero}
use Rattle.gs_layout.specs.declared.message.Change.TheVariants as changes
use Rattle.gs_layout.specs.declared.message.Change.TheVariants.{Blocked, Created, Preempted}
use Rattle.gs_layout.specs.declared.message.Message.TheVariants.{Thread, TimerTick}
use Rattle.gs_layout.specs.declared.refusal.Refusal.TheVariants as refusals
use Rattle.gs_journal.specs.declared.entry.Entry.TheVariants.{Posted, Placed, Role, Begin, Left, Taken, Torn}
use Rattle.gs_journal.specs.History.{History, on, at, active, attaching, generation, taken, last_taken, torn, seq, created, messages, posted, record_in}
use Rattle.gs_journal.specs.Record.{record_of}
use Rattle.gs_journal.specs.Standing.{standing, latest, last_of}
use Rattle.gs_journal.specs.State.{state}
use Rattle.gs_kernel.specs.declared.settings.Settings.{Settings}
use Rattle.gs_kernel.specs.declared.command.Command.TheVariants as commands
use Rattle.gs_kernel.specs.declared.executed.Executed.TheVariants as executed
use Rattle.gs_kernel.specs.declared.thread_event.ThreadEvent.TheVariants as threads
use Rattle.gs_kernel.specs.declared.effect.Effect.TheVariants.{Post}
use Rattle.gs_kernel.specs.Attaching.{activate_refusal, begin_refusal, leave_refusal, page_refusal}
use Rattle.gs_kernel.specs.Dumped.{dumped}
use Rattle.gs_kernel.specs.Shown.{live_from}
use Rattle.gs_kernel.specs.Kernel.{create_refusal, take_refusal, give_refusal, hand_off_refusal, tick_refusal}
use Rattle.gs_kernel.specs.Legal.{Legal, Room, effect, refusal}

two : Settings
two = record { cpus = 2; first_tseq = 0; first_generation = 1; history = 16 }

never : Room
never h true m = Unit {0}
never h false m = ⊥

always : Room
always h b m = Unit {0}

opened : History
opened = Role 1 0 ∷ []

facts : Facts
facts = record { runnable = true; mask = 3; class = Zero; name = [] }

runs : History
runs = opened ++ Posted (Thread 1 1 (Created facts)) ∷ Placed 1 1 1 1 ∷ []

tick_done : Legal never two opened false (commands.Tick 1) (Ok executed.Done) (opened ++ Posted (TimerTick 1) ∷ [])
unfolding never two opened tick_refusal torn
tick_done = record { free = refl; tells = (tt, refl) }

tick_torn : Legal always two opened false (commands.Tick 1) (Ok executed.Torn) (opened ++ Torn ∷ [])
unfolding always two opened tick_refusal torn
tick_torn = record { free = refl; tells = ((TimerTick 1, refl, tt), refl) }

tick_refused : Legal always two opened false (commands.Tick 2) (Err refusals.BadCpu) opened
unfolding never two opened tick_refusal torn
tick_refused = (refl, refl)

tick_short : Legal always two opened false (commands.Tick 1) (Err refusals.OutOfMemory) opened
unfolding never two opened tick_refusal torn
tick_short = (refl, refl)

create_done : Legal never two opened false (commands.Create facts) (Ok executed.Done) (opened ++ Posted (Thread 1 1 (Created facts)) ∷ [])
unfolding never two opened facts create_refusal torn created posted
create_done = record { free = refl; tells = (tt, refl) }

take_free : Legal never two opened false (commands.Take 1) (Ok executed.Done) (opened ++ Taken 1 ∷ [])
unfolding never two opened take_refusal torn active taken last_taken on standing latest last_of
take_free = record { free = refl; tells = (tt, refl) }

take_over : Legal never two runs false (commands.Take 1) (Ok executed.Done) (runs ++ Posted (Thread 1 2 (Preempted 1)) ∷ Taken 1 ∷ [])
unfolding never two opened runs facts take_refusal torn active taken last_taken on standing latest last_of seq messages posted
take_over = record { free = refl; tells = (tt, refl) }

take_torn : Legal always two runs false (commands.Take 1) (Ok executed.Torn) (runs ++ Torn ∷ [])
unfolding always two opened runs facts take_refusal torn active taken last_taken on standing latest last_of seq messages posted
take_torn = record { free = refl; tells = ((Thread 1 2 (Preempted 1), refl, tt), refl) }

take_refused : Legal always two runs false (commands.Take 0) (Err refusals.AgentThere) runs
unfolding never two opened runs facts take_refusal torn active standing last_of
take_refused = (refl, refl)

give_refused : Legal always two opened false (commands.Give 1) (Err refusals.NotTaken) opened
unfolding never two opened give_refusal torn taken last_taken standing latest last_of
give_refused = (refl, refl)

-- what happens to thread 1 on CPU 1 is told of it
blocks : effect two runs (commands.Thread 1 threads.Block) ≡ Post (Thread 1 2 (Blocked 1))
unfolding two opened runs facts on at standing last_of seq messages posted
blocks = refl

yields : effect two runs (commands.Thread 1 threads.Yield) ≡ Post (Thread 1 2 (changes.Yield 1))
unfolding two opened runs facts on at standing last_of seq messages posted
yields = refl

dies : effect two runs (commands.Thread 1 threads.Die) ≡ Post (Thread 1 2 (changes.Dead (Some 1)))
unfolding two opened runs facts on at standing last_of seq messages posted
dies = refl

-- a new mask takes it off, or leaves it
moves : effect two runs (commands.Thread 1 (threads.Affinity 1)) ≡ Post (Thread 1 2 (changes.Affinity (Some 1) true 1))
unfolding two opened runs facts on at standing last_of seq messages posted
moves = refl

stays_there : effect two runs (commands.Thread 1 (threads.Affinity 2)) ≡ Post (Thread 1 2 (changes.Affinity (Some 1) false 2))
unfolding two opened runs facts on at standing last_of seq messages posted
stays_there = refl

no_taking : (refusal two runs false (commands.Take 0) ∷ refusal two runs false (commands.Take 2) ∷ refusal two runs false (commands.Give 1) ∷ refusal two (runs ++ Taken 1 ∷ []) false (commands.Take 1) ∷ [])
    ≡ Some refusals.AgentThere ∷ Some refusals.BadCpu ∷ Some refusals.NotTaken ∷ Some refusals.CpuTaken ∷ []
unfolding two opened runs facts take_refusal give_refusal torn active taken last_taken on standing latest last_of
no_taking = refl

-- the journal is full: two entries more have no room, one has
no_room : (refusal (record two { history = 4 }) runs false (commands.Take 1) ∷ refusal (record two { history = 4 }) runs false (commands.Tick 1) ∷ [])
    ≡ Some refusals.HistoryFull ∷ None ∷ []
unfolding two opened runs facts take_refusal tick_refusal torn active taken last_taken on standing latest last_of seq messages posted
no_room = refl

hands_over : Legal never two opened false (commands.HandOff 1) (Ok executed.Done) (opened ++ Role 2 1 ∷ [])
unfolding never two opened hand_off_refusal take_refusal torn active taken last_taken on standing latest last_of generation
hands_over = record { free = refl; tells = (tt, refl) }

hands_over_preempting : Legal never two runs false (commands.HandOff 1) (Ok executed.Done) (runs ++ Posted (Thread 1 2 (Preempted 1)) ∷ Role 2 1 ∷ [])
unfolding never two opened runs facts hand_off_refusal take_refusal torn active taken last_taken on standing latest last_of seq messages posted generation
hands_over_preempting = record { free = refl; tells = (tt, refl) }

hands_over_torn : Legal always two runs false (commands.HandOff 1) (Ok executed.Torn) (runs ++ Torn ∷ [])
unfolding always two opened runs facts hand_off_refusal take_refusal torn active taken last_taken on standing latest last_of seq messages posted generation
hands_over_torn = record { free = refl; tells = ((Thread 1 2 (Preempted 1), refl, tt), refl) }

agent_there : Legal always two opened false (commands.HandOff 0) (Err refusals.AgentThere) opened
unfolding always two opened hand_off_refusal take_refusal torn active standing last_of
agent_there = (refl, refl)

-- the last generation: with nobody on the CPU it is what refuses
last_generation : History
last_generation = Role 4294967295 0 ∷ []

no_more_generations : Legal always two last_generation false (commands.HandOff 1) (Err refusals.GenSpent) last_generation
unfolding always two last_generation hand_off_refusal take_refusal torn active taken last_taken on standing latest last_of generation
no_more_generations = (refl, refl)

-- an agent leaves, the next one begins to attach, and becomes active once it was given the last page
alone : History
alone = opened ++ Left ∷ []

begun : History
begun = runs ++ Left ∷ Begin 2 ∷ []

leaves : Legal never two opened false commands.Leave (Ok executed.Done) (opened ++ Left ∷ [])
unfolding never two opened leave_refusal torn active attaching standing last_of
leaves = record { free = refl; tells = (tt, refl) }

nobody_leaves : Legal never two alone false commands.Leave (Err refusals.NotActive) alone
unfolding never two alone opened leave_refusal torn active attaching standing last_of
nobody_leaves = (refl, refl)

begins : Legal never two alone true commands.Begin (Ok executed.Done) (alone ++ Begin 2 ∷ [])
unfolding never two alone opened begin_refusal torn active attaching generation latest standing last_of
begins = record { free = refl; tells = (tt, refl) }

still_there : Legal never two begun true commands.Begin (Err refusals.StillAttached) begun
unfolding never two begun runs facts opened begin_refusal torn active attaching generation latest standing last_of
still_there = (refl, refl)

activates : Legal never two begun true (commands.Activate 1) (Ok executed.Done) (begun ++ Posted (Thread 1 2 (Preempted 1)) ∷ Role 2 1 ∷ [])
unfolding never two begun opened runs facts activate_refusal take_refusal torn active attaching taken last_taken on standing latest last_of seq messages posted
activates = record { free = refl; tells = (tt, refl) }

not_yet : Legal never two begun false (commands.Activate 1) (Err refusals.NotAttaching) begun
unfolding never two begun opened runs facts activate_refusal torn attaching standing last_of
not_yet = (refl, refl)

-- of two threads that live, a page of one tells of the first, and the next page is the last
both : History
both = opened ++ Posted (Thread 1 1 (Created facts)) ∷ Posted (Thread 2 1 (Created facts)) ∷ []

first_page : dumped two both 1 1 ≡ record { records = record { tid = 1; known = record { facts = facts; tseq = 1 }; cpu = None } ∷ []; next = Some 2 }
unfolding two both opened facts live_from created posted messages seq record_in record_of latest on at standing last_of state
first_page = refl

last_page : dumped two both 2 1 ≡ record { records = record { tid = 2; known = record { facts = facts; tseq = 1 }; cpu = None } ∷ []; next = None }
unfolding two both opened facts live_from created posted messages seq record_in record_of latest on at standing last_of state
last_page = refl

all_given : (page_refusal begun false ∷ page_refusal begun true ∷ page_refusal alone false ∷ []) ≡ None ∷ Some refusals.NotAttaching ∷ Some refusals.NotAttaching ∷ []
unfolding alone begun runs opened facts page_refusal attaching standing last_of
all_given = refl
