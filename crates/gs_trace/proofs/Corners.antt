-- What the definitions say of an output at its edge.
use Rattle.std.proofs.Common.{◌≡◌, ℕ, List, [], ◌∷◌, ◌++◌, codes, refl, true, false, Some}
use Rattle.std.specs.Fmt.{digits}
use Rattle.gs_layout.specs.declared.refusal.Refusal.TheVariants as refusals
use Rattle.gs_policy.specs.declared.any.AnyPolicy.TheVariants as policies
use Rattle.gs_policy.specs.declared.any.AnyPolicy.{AnyPolicy}
use Rattle.gs_replies.specs.declared.config.Config.{Config}
use Rattle.gs_agent.specs.declared.drained.Stop.TheVariants as stops
use Rattle.gs_replies.specs.declared.reply.Reply.TheVariants as replies
use Rattle.gs_kernel.specs.Commit.{standing_commit_refusal}
use Rattle.gs_script.specs.declared.fault.Reason.TheVariants.{TooLong, NoHeader, BadName}
use Rattle.gs_script.specs.Any.{any}
use Rattle.gs_script.specs.Script.{fault}
use Rattle.gs_lines.specs.Lines.{line, lines}
use Rattle.gs_journal.specs.History.{active, torn}
use Rattle.gs_journal.specs.Standing.{standing, last_of}
use Rattle.gs_core.specs.Machine.{start, planning}
use Rattle.gs_core.proofs.Laws.{kept_faithful, kept_safe, kept_start}
use Rattle.gs_trace.specs.declared.run.Ended.{Ended}
use Rattle.gs_trace.specs.declared.run.Ended.TheVariants.{Ran, Faulted}
use Rattle.gs_trace.proofs.One.{one_output}
use Rattle.gs_core.specs.Short.{wants_memory}
use Rattle.gs_trace.specs.Output.{IsOutput, fault_line, any_plans}

-- the line of a fault
faulted : fault_line (fault 0 NoHeader) ≡ line (codes "fault line 0 NoHeader")
unfolding digits
faulted = refl

too_long : fault_line (fault 0 TooLong) ≡ line (codes "fault line 0 TooLong")
unfolding digits
too_long = refl

late_line : fault_line (fault 1048577 BadName) ≡ line (codes "fault line 1048577 BadName")
unfolding digits
late_line = refl

-- out of memory
wants_refused : wants_memory (replies.Refused refusals.OutOfMemory) ≡ true
wants_refused = refl

wants_stopped : wants_memory (replies.Drained (record { count = 0; skipped = 0; orphans = 0; stop = Some stops.Memory })) ≡ true
wants_stopped = refl

full_is_no_want : wants_memory (replies.Refused refusals.HistoryFull) ≡ false
full_is_no_want = refl

gap_is_no_want : wants_memory (replies.Drained (record { count = 0; skipped = 0; orphans = 0; stop = Some stops.Gap })) ≡ false
gap_is_no_want = refl

-- what is written for an input
header_alone_runs : IsOutput any any_plans (codes "cpus 2 ring 128") Ran []
header_alone_runs = (refl, record { replies = []; left = _; run = refl; sufficed = refl; shown = refl })

nothing_is_faulted : IsOutput any any_plans [] Faulted (line (codes "fault line 0 NoHeader"))
unfolding digits
nothing_is_faulted = (refl, refl)

nothing_else : (ended : Ended) (out : List ℕ) → IsOutput any any_plans (codes "cpus 2 ring 128") ended out → out ≡ []
nothing_else ended out h = (one_output any any_plans (λ replies cpus h. lines replies) (codes "cpus 2 ring 128") ended Ran out [] h header_alone_runs).1

first_config : Config AnyPolicy
first_config = record { cpus = 2; ring = 128; first_tseq = 0; first_generation = 1; history = 16777216; policy = policies.FirstCome (record {}) }

refused_runs : IsOutput any any_plans (codes "cpus 2 ring 128" ++ 10 ∷ codes "commit 4") Ran (line (codes "refused 4 EmptyMask"))
unfolding first_config digits active standing last_of torn standing_commit_refusal
refused_runs = (
  refl,
  record {
    replies = replies.Refused refusals.EmptyMask ∷ [];
    left = planning any_plans (start first_config);
    run = (planning any_plans (start first_config), (refl, refl), kept_safe _ (kept_start any_plans first_config), kept_faithful _ (kept_start any_plans first_config), refl);
    sufficed = refl;
    shown = refl;
  },
)
