-- What the tables say of which there may be several: groups, takings and changes.
use Rattle.std.specs.Prelude.{ℕ, ◌-◌, nat_lt, if◌then◌else◌, Result, Ok, Err}
use Rattle.toml.specs.Data.{Members}
use Rattle.gs_layout.specs.declared.facts.Class.TheVariants as class
use Rattle.gs_workload.specs.declared.fault.Part.{Part}
use Rattle.gs_workload.specs.declared.fault.Reason.TheVariants.{NotLater}
use Rattle.gs_workload.specs.declared.fault.Wrong.{Wrong}
use Rattle.gs_workload.specs.declared.key.Key.TheVariants as key
use Rattle.gs_workload.specs.declared.values.ChangeName.{ChangeName}
use Rattle.gs_workload.specs.declared.values.ChangeName.TheVariants as change
use Rattle.gs_workload.specs.declared.workload.Group.{Group}
use Rattle.gs_workload.specs.declared.workload.Taking.{Taking}
use Rattle.gs_workload.specs.declared.workload.Change.{Change}
use Rattle.gs_workload.specs.declared.workload.Change.TheVariants.{HandOff, Crash, Replace}
use Rattle.gs_workload.specs.declared.workload.Leaving.TheVariants as leaving
use Rattle.gs_workload.specs.declared.workload.TheConstants.{MOST_THREADS, MOST_TIME}
use Rattle.gs_workload.specs.Values.{◌>>=◌, number_said, span_said, mask_said, name_said, class_said, leaving_said, change_name_said}
use Rattle.gs_workload.specs.Fields.{value_at, keyed, needed, or_else, if_said, left_out, span_of, all_cpus}

-- the tick of a change
abbrev pub change_tick : Change → ℕ
change_tick (HandOff at cpu) = at
change_tick (Crash at) = at
change_tick (Replace at cpu) = at

-- what a group's table says, key by key: the first that is wrong is the fault
abbrev pub group_said : Part → ℕ → Members → Result Group Wrong
group_said part cpus t =
    keyed part key.Name (needed name_said (value_at key.Name t)) >>= (λ name.
    keyed part key.Count (or_else 1 (number_said 1 MOST_THREADS) (value_at key.Count t)) >>= (λ count.
    keyed part key.Class (or_else class.Zero class_said (value_at key.Class t)) >>= (λ class.
    keyed part key.Mask (or_else (all_cpus cpus) (mask_said cpus) (value_at key.Mask t)) >>= (λ mask.
    keyed part key.Run (needed (span_said 1 MOST_TIME) (value_at key.Run t)) >>= (λ run.
    keyed part key.Sleep (or_else (span_of 1) (span_said 1 MOST_TIME) (value_at key.Sleep t)) >>= (λ sleep.
    keyed part key.Bursts (if_said (number_said 1 MOST_TIME) (value_at key.Bursts t)) >>= (λ bursts.
    keyed part key.Leaving (or_else leaving.Block leaving_said (value_at key.Leaving t)) >>= (λ leaving.
    keyed part key.Created (or_else (span_of 0) (span_said 0 MOST_TIME) (value_at key.Created t)) >>= (λ created.
    Ok (record { mask = mask; name = name; count = count; class = class; run = run; sleep = sleep; bursts = bursts; leaving = leaving; created = created }))))))))))

-- what a taking's table says
abbrev pub taking_of : Part → ℕ → ℕ → ℕ → Result Taking Wrong
taking_of part cpu from until =
    if nat_lt from until then Ok (record { cpu = cpu; from = from; until = until }) else Err (record { part = part; key = key.Until; reason = NotLater })

abbrev pub taking_said : Part → ℕ → Members → Result Taking Wrong
taking_said part cpus t =
    keyed part key.Cpu (needed (number_said 0 (cpus - 1)) (value_at key.Cpu t)) >>= (λ cpu.
    keyed part key.From (needed (number_said 0 MOST_TIME) (value_at key.From t)) >>= (λ from.
    keyed part key.Until (needed (number_said 0 MOST_TIME) (value_at key.Until t)) >>= (λ until.
    taking_of part cpu from until)))

-- what a change's table says: a crash has no CPU
abbrev pub change_of : Part → ℕ → Members → ℕ → ChangeName → Result Change Wrong
change_of part cpus t at change.HandOff = keyed part key.Cpu (needed (number_said 0 (cpus - 1)) (value_at key.Cpu t)) >>= (λ cpu. Ok (HandOff at cpu))
change_of part cpus t at change.Crash = keyed part key.Cpu (left_out (value_at key.Cpu t)) >>= (λ none. Ok (Crash at))
change_of part cpus t at change.Replace = keyed part key.Cpu (needed (number_said 0 (cpus - 1)) (value_at key.Cpu t)) >>= (λ cpu. Ok (Replace at cpu))

abbrev pub change_said : Part → ℕ → Members → Result Change Wrong
change_said part cpus t =
    keyed part key.At (needed (number_said 0 MOST_TIME) (value_at key.At t)) >>= (λ at.
    keyed part key.What (needed change_name_said (value_at key.What t)) >>= (λ what.
    change_of part cpus t at what))
