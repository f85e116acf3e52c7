-- What a table of a document says at a key.
use Rattle.std.specs.Prelude.{ℕ, ◌-◌, ◌^◌, Option, Some, None, Result, Ok, Err}
use Rattle.toml.specs.Data.{Data, Members, get_member}
use Rattle.gs_workload.specs.declared.fault.Part.{Part}
use Rattle.gs_workload.specs.declared.fault.Reason.{Reason}
use Rattle.gs_workload.specs.declared.fault.Reason.TheVariants.{Missing, Unused}
use Rattle.gs_workload.specs.declared.fault.Wrong.{Wrong}
use Rattle.gs_workload.specs.declared.key.Key.{Key}
use Rattle.gs_workload.specs.declared.workload.Span.{Span}
use Rattle.gs_workload.specs.Keys.{key_word}

-- the value of a key
abbrev pub value_at : Key → Members → Option Data
value_at key t = get_member (key_word key) t

-- what was read at a key of a part, or what is wrong there
abbrev pub keyed : {A : Type 0} → Part → Key → Result A Reason → Result A Wrong
keyed part key (Ok x) = Ok x
keyed part key (Err reason) = Err (record { part = part; key = key; reason = reason })

-- what a value says that has to be there
abbrev pub needed : {A : Type 0} → (Data → Result A Reason) → Option Data → Result A Reason
needed read None = Err Missing
needed read (Some d) = read d

-- what a value says, or the default if it is left out
abbrev pub or_else : {A : Type 0} → A → (Data → Result A Reason) → Option Data → Result A Reason
or_else default read None = Ok default
or_else default read (Some d) = read d

-- what a value says, if it is there
abbrev pub some_said : {A : Type 0} → Result A Reason → Result (Option A) Reason
some_said (Ok x) = Ok (Some x)
some_said (Err reason) = Err reason

abbrev pub if_said : {A : Type 0} → (Data → Result A Reason) → Option Data → Result (Option A) Reason
if_said read None = Ok None
if_said read (Some d) = some_said (read d)

-- nothing, if no value is there
abbrev pub left_out : Option Data → Result (Unit {0}) Reason
left_out None = Ok tt
left_out (Some d) = Err Unused

-- always the same number of ticks
abbrev pub span_of : ℕ → Span
span_of n = record { least = n; most = n }

-- the mask of all CPUs
abbrev pub all_cpus : ℕ → ℕ
all_cpus cpus = 2 ^ cpus - 1
