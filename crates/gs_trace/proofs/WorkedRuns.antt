-- Whole scripts, and what is written for them.
use Rattle.std.proofs.Common.{refl, inl, ℕ, true, List, [], ◌∷◌, ◌++◌, map, take, codes}
use Rattle.std.specs.Fmt.{digits}
use Rattle.gs_layout.specs.declared.facts.Class.TheVariants.{Zero}
use Rattle.gs_layout.specs.declared.facts.Facts.{Facts}
use Rattle.gs_layout.specs.declared.message.Change.TheVariants.{Created}
use Rattle.gs_layout.specs.declared.message.Message.{Message}
use Rattle.gs_layout.specs.declared.message.Message.TheVariants.{Thread, TimerTick}
use Rattle.gs_layout.specs.declared.refusal.Refusal.TheVariants as refusals
use Rattle.gs_journal.specs.declared.entry.Entry.TheVariants.{Posted, Role, Torn}
use Rattle.gs_journal.specs.History.{posted, created, torn}
use Rattle.gs_kernel.specs.Kernel.{create_refusal, tick_refusal}
use Rattle.gs_kernel.specs.declared.command.Command.TheVariants as commands
use Rattle.gs_kernel.specs.declared.executed.Executed.TheVariants as executed
use Rattle.gs_ring.specs.Places.{need, pad_len}
use Rattle.gs_policy.specs.declared.any.AnyPolicy.TheVariants as policies
use Rattle.gs_policy.specs.declared.any.AnyPolicy.{AnyPolicy}
use Rattle.gs_replies.specs.declared.config.Config.{Config}
use Rattle.gs_core.specs.declared.event.Event.{Event}
use Rattle.gs_core.specs.declared.event.Event.TheVariants as events
use Rattle.gs_replies.specs.declared.reply.Reply.{Reply}
use Rattle.gs_replies.specs.declared.reply.Reply.TheVariants as replies
use Rattle.gs_core.specs.Machine.{Plan, State, Step, start, planning}
use Rattle.gs_core.specs.Safe.{Run}
use Rattle.gs_core.proofs.Laws.{kept_faithful, kept_safe, kept_start, kept_step}
use Rattle.gs_trace.specs.declared.run.Ended.TheVariants.{Ran}
use Rattle.gs_lines.specs.Lines.{line}
use Rattle.gs_script.specs.Any.{any}
use Rattle.gs_trace.specs.Output.{IsOutput, any_plans}

two : Config AnyPolicy
two = record { cpus = 2; ring = 160; first_tseq = 0; first_generation = 1; history = 16777216; policy = policies.FirstCome (record {}) }

-- a thread of both CPUs
facts : List ℕ → Facts
facts name = record { runnable = true; mask = 3; class = Zero; name = name }

made : ℕ → List ℕ → Message
made t name = Thread t 1 (Created (facts name))

-- the machine after these messages were posted
abbrev after : List Message → State
after ms = record (planning any_plans (start two)) { history = Role 1 0 ∷ map Posted ms }

abbrev torn_after : List Message → State
torn_after ms = record (planning any_plans (start two)) { history = Role 1 0 ∷ (map Posted ms ++ Torn ∷ []) }

-- a tick waits until it is drained
abbrev seen : List Reply
seen = replies.Done (Posted (TimerTick 1)) ∷ replies.Unread (TimerTick 1 ∷ []) ∷ []

seen_tick : Step (planning any_plans (start two)) (events.Kernel (commands.Tick 1)) (replies.Done (Posted (TimerTick 1))) (after (TimerTick 1 ∷ []))
unfolding two torn tick_refusal posted need pad_len
seen_tick = inl (record { executed = executed.Done; reply = refl; tells = (refl, refl); others = refl })

seen_look : Step (after (TimerTick 1 ∷ [])) events.Unread (replies.Unread (TimerTick 1 ∷ [])) (after (TimerTick 1 ∷ []))
unfolding two torn posted
seen_look = inl (refl, refl)

seen_run : Run (planning any_plans (start two)) (events.Kernel (commands.Tick 1) ∷ events.Unread ∷ []) seen (after (TimerTick 1 ∷ []))
seen_run =
    let g = kept_step _ (events.Kernel (commands.Tick 1)) (replies.Done (Posted (TimerTick 1))) _ (kept_start any_plans two) tt seen_tick in
    (after (TimerTick 1 ∷ []), seen_tick, kept_safe _ g, kept_faithful _ g, (after (TimerTick 1 ∷ []), seen_look, kept_safe _ g, kept_faithful _ g, refl))

seen_written : IsOutput any any_plans (codes "cpus 2 ring 160" ++ 10 ∷ codes "tick 1" ++ 10 ∷ codes "unread") Ran (line (codes "tick 1") ++ line (codes "unread tick 0 seq 0 cpu 1"))
unfolding two digits
seen_written = (refl, record { replies = seen; left = after (TimerTick 1 ∷ []); run = seen_run; sufficed = refl; shown = refl })

-- four creations of 40 bytes fill a ring of 160, the tick tears the enclave down, and what comes then is refused
abbrev four : List Message
four = made 1 (codes "a") ∷ made 2 (codes "b") ∷ made 3 (codes "c") ∷ made 4 (codes "d") ∷ []

abbrev torn_replies : List Reply
torn_replies = replies.Done (Posted (made 1 (codes "a"))) ∷ replies.Done (Posted (made 2 (codes "b"))) ∷ replies.Done (Posted (made 3 (codes "c"))) ∷ replies.Done (Posted (made 4 (codes "d"))) ∷ replies.Torn ∷ replies.Refused refusals.Gone ∷ []

first : Step (planning any_plans (start two)) (events.Kernel (commands.Create (facts (codes "a")))) (replies.Done (Posted (made 1 (codes "a")))) (after (take 1 four))
unfolding two facts made torn create_refusal created posted need pad_len
first = inl (record { executed = executed.Done; reply = refl; tells = (refl, refl); others = refl })

second : Step (after (take 1 four)) (events.Kernel (commands.Create (facts (codes "b")))) (replies.Done (Posted (made 2 (codes "b")))) (after (take 2 four))
unfolding two facts made torn create_refusal created posted need pad_len
second = inl (record { executed = executed.Done; reply = refl; tells = (refl, refl); others = refl })

third : Step (after (take 2 four)) (events.Kernel (commands.Create (facts (codes "c")))) (replies.Done (Posted (made 3 (codes "c")))) (after (take 3 four))
unfolding two facts made torn create_refusal created posted need pad_len
third = inl (record { executed = executed.Done; reply = refl; tells = (refl, refl); others = refl })

fourth : Step (after (take 3 four)) (events.Kernel (commands.Create (facts (codes "d")))) (replies.Done (Posted (made 4 (codes "d")))) (after four)
unfolding two facts made torn create_refusal created posted need pad_len
fourth = inl (record { executed = executed.Done; reply = refl; tells = (refl, refl); others = refl })

tears : Step (after four) (events.Kernel (commands.Tick 1)) replies.Torn (torn_after four)
unfolding two facts made torn tick_refusal posted need pad_len
tears = inl (record { executed = executed.Torn; reply = refl; tells = ((TimerTick 1, refl, refl), refl); others = refl })

gone : Step (torn_after four) (events.Drain 1) (replies.Refused refusals.Gone) (torn_after four)
unfolding two facts made torn
gone = (refl, refl)

abbrev torn_events : List (Event Plan)
torn_events = events.Kernel (commands.Create (facts (codes "a"))) ∷ events.Kernel (commands.Create (facts (codes "b"))) ∷ events.Kernel (commands.Create (facts (codes "c"))) ∷ events.Kernel (commands.Create (facts (codes "d"))) ∷ events.Kernel (commands.Tick 1) ∷ events.Drain 1 ∷ []

torn_run : Run (planning any_plans (start two)) torn_events torn_replies (torn_after four)
torn_run =
    let g1 = kept_step _ (events.Kernel (commands.Create (facts (codes "a")))) (replies.Done (Posted (made 1 (codes "a")))) _ (kept_start any_plans two) tt first in
    let g2 = kept_step _ (events.Kernel (commands.Create (facts (codes "b")))) (replies.Done (Posted (made 2 (codes "b")))) _ g1 tt second in
    let g3 = kept_step _ (events.Kernel (commands.Create (facts (codes "c")))) (replies.Done (Posted (made 3 (codes "c")))) _ g2 tt third in
    let g4 = kept_step _ (events.Kernel (commands.Create (facts (codes "d")))) (replies.Done (Posted (made 4 (codes "d")))) _ g3 tt fourth in
    let g5 = kept_step _ (events.Kernel (commands.Tick 1)) replies.Torn _ g4 tt tears in
    let end : Run (torn_after four) (events.Drain 1 ∷ []) (replies.Refused refusals.Gone ∷ []) (torn_after four) = (torn_after four, gone, kept_safe _ g5, kept_faithful _ g5, refl) in
    (after (take 1 four), first, kept_safe _ g1, kept_faithful _ g1, (after (take 2 four), second, kept_safe _ g2, kept_faithful _ g2, (after (take 3 four), third, kept_safe _ g3, kept_faithful _ g3, (after four, fourth, kept_safe _ g4, kept_faithful _ g4, (torn_after four, tears, kept_safe _ g5, kept_faithful _ g5, end)))))

abbrev torn_script : List ℕ
torn_script =
    codes "cpus 2 ring 160"
    ++ 10 ∷ codes "create 3 0 r a"
    ++ 10 ∷ codes "create 3 0 r b"
    ++ 10 ∷ codes "create 3 0 r c"
    ++ 10 ∷ codes "create 3 0 r d"
    ++ 10 ∷ codes "tick 1"
    ++ 10 ∷ codes "drain 1"

torn_written : IsOutput any any_plans torn_script Ran (line (codes "created 1 seq 1") ++ line (codes "created 2 seq 1") ++ line (codes "created 3 seq 1") ++ line (codes "created 4 seq 1") ++ line (codes "torn") ++ line (codes "refused 18 Gone"))
unfolding two facts digits made
torn_written = (refl, record { replies = torn_replies; left = torn_after four; run = torn_run; sufficed = refl; shown = refl })
