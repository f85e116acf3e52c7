-- What a whole document says that has no unknown key.
use Rattle.std.specs.Prelude.{ℕ, ◌+◌, ◌%◌, ◌==◌, ◌≡◌, nat_lt, List, [], ◌∷◌, length, if◌then◌else◌, false, Option, Some, None, Result, Ok, Err}
use Rattle.std.specs.List.{sum_by}
use Rattle.toml.specs.Data.{Data, Members, as_table}
use Rattle.gs_layout.specs.declared.wire.TheConstants.{ALIGNMENT}
use Rattle.gs_kernel.specs.declared.settings.TheConstants.{LEAST_CPUS}
use Rattle.gs_ring.specs.declared.block.TheConstants.{LEAST_CAPACITY, MOST_CAPACITY}
use Rattle.gs_script.specs.Naming.{Naming}
use Rattle.gs_status.specs.declared.mask.TheConstants.{MOST_CPUS}
use Rattle.gs_workload.specs.declared.fault.Failure.{Failure}
use Rattle.gs_workload.specs.declared.fault.Failure.TheVariants as failure
use Rattle.gs_workload.specs.declared.fault.Kind.TheVariants as kind
use Rattle.gs_workload.specs.declared.fault.Part.{Part}
use Rattle.gs_workload.specs.declared.fault.Part.TheVariants as part_of
use Rattle.gs_workload.specs.declared.fault.Reason.{Reason}
use Rattle.gs_workload.specs.declared.fault.Reason.TheVariants.{NoGroup, NoMultiple, NotLater, NotOfKind, TooManyThreads}
use Rattle.gs_workload.specs.declared.fault.Wrong.{Wrong}
use Rattle.gs_workload.specs.declared.key.Key.{Key}
use Rattle.gs_workload.specs.declared.key.Key.TheVariants as key
use Rattle.gs_workload.specs.declared.machine.Head.{Head}
use Rattle.gs_workload.specs.declared.machine.TheConstants.{RING, TICKS}
use Rattle.gs_workload.specs.declared.workload.AgentPlan.{AgentPlan}
use Rattle.gs_workload.specs.declared.workload.Group.{Group}
use Rattle.gs_workload.specs.declared.workload.Taking.{Taking}
use Rattle.gs_workload.specs.declared.workload.Change.{Change}
use Rattle.gs_workload.specs.declared.workload.Workload.{Workload}
use Rattle.gs_workload.specs.declared.workload.TheConstants.{MOST_THREADS, MOST_TIME}
use Rattle.gs_workload.specs.Values.{◌>>=◌, flag_said, number_said, policy_value_said, span_said}
use Rattle.gs_workload.specs.Fields.{value_at, keyed, needed, or_else, if_said, span_of}
use Rattle.gs_workload.specs.Rows.{change_said, change_tick, group_said, taking_said}
use Rattle.gs_workload.specs.Entries.{list_said}

abbrev pub wrong : Part → Key → Reason → Wrong
wrong part key reason = record { part = part; key = key; reason = reason }

-- the policy that is named, if one is
abbrev pub policy_at : {A : Type 0} → Naming A → Part → Members → Result (Option A) Wrong
policy_at naming part t = keyed part key.Policy (if_said (policy_value_said naming) (value_at key.Policy t))

-- how many CPUs there are
abbrev pub cpus_said : Part → Members → Result ℕ Wrong
cpus_said part t = keyed part key.Cpus (needed (number_said LEAST_CPUS MOST_CPUS) (value_at key.Cpus t))

-- a capacity that a ring may have
abbrev pub ring_checked : Part → ℕ → Result ℕ Wrong
ring_checked part ring = if ring % ALIGNMENT == 0 then Ok ring else Err (wrong part key.Ring (NoMultiple ALIGNMENT))

abbrev pub ring_said : Part → Members → Result ℕ Wrong
ring_said part t = keyed part key.Ring (or_else RING (number_said LEAST_CAPACITY MOST_CAPACITY) (value_at key.Ring t)) >>= ring_checked part

-- what is said of the machine
abbrev pub head_said : {A : Type 0} → Naming A → Part → Members → Result (Head A) Wrong
head_said naming part t =
    cpus_said part t >>= (λ cpus.
    ring_said part t >>= (λ ring.
    policy_at naming part t >>= (λ policy.
    keyed part key.Ticks (or_else TICKS (number_said 1 MOST_TIME) (value_at key.Ticks t)) >>= (λ ticks.
    Ok (record { cpus = cpus; ring = ring; policy = policy; ticks = ticks })))))

-- what is said of the agent: in its own table, or by default
abbrev pub agent_plan_said : Part → Members → Result AgentPlan Wrong
agent_plan_said part t =
    keyed part key.Every (or_else 1 (number_said 1 MOST_TIME) (value_at key.Every t)) >>= (λ every.
    keyed part key.Late (or_else (span_of 0) (span_said 0 MOST_TIME) (value_at key.Late t)) >>= (λ late.
    keyed part key.Together (or_else false flag_said (value_at key.Together t)) >>= (λ together.
    Ok (record { every = every; late = late; together = together }))))

abbrev pub agent_in : Part → Option Members → Result AgentPlan Wrong
agent_in part None = Err (wrong part key.Agent (NotOfKind kind.Table))
agent_in part (Some t) = agent_plan_said part_of.Agent t

abbrev pub agent_at : Part → Option Data → Result AgentPlan Wrong
agent_at part None = Ok (record { every = 1; late = span_of 0; together = false })
agent_at part (Some d) = agent_in part (as_table d)

abbrev pub agent_said : Part → Members → Result AgentPlan Wrong
agent_said part t = agent_at part (value_at key.Agent t)

-- how many threads groups have together
abbrev pub threads : List Group → ℕ
threads groups = sum_by (λ g. g.count) groups

-- there are threads, and not too many
abbrev pub groups_checked : Part → List Group → Result (Unit {0}) Wrong
groups_checked part groups =
    if length groups == 0 then Err (wrong part key.Groups NoGroup)
    else if nat_lt MOST_THREADS (threads groups) then Err (wrong part key.Groups TooManyThreads)
    else Ok tt

-- the place of the first change that is not behind the one before, of changes from a place on, none of which may be before a tick
abbrev pub early_from : ℕ → ℕ → List Change → Option ℕ
early_from place least [] = None
early_from place least (c ∷ cs) = if nat_lt (change_tick c) least then Some place else early_from (place + 1) (change_tick c + 1) cs

abbrev pub first_early : List Change → Option ℕ
first_early changes = early_from 0 0 changes

abbrev pub in_order : Option ℕ → Result (Unit {0}) Wrong
in_order None = Ok tt
in_order (Some place) = Err (wrong (part_of.Change place) key.At NotLater)

abbrev pub changes_checked : List Change → Result (Unit {0}) Wrong
changes_checked changes = in_order (first_early changes)

-- what a workload says
pub record Content (A : Type 0) : Type 0 where
  pub head : Head A
  pub agent : AgentPlan
  pub groups : List Group
  pub takings : List Taking
  pub changes : List Change

-- what a document says: the first that is wrong, in this order, is the fault
abbrev pub workload_said : {A : Type 0} → Naming A → Members → Result (Content A) Wrong
workload_said naming t =
    head_said naming part_of.Whole t >>= (λ head.
    agent_said part_of.Whole t >>= (λ agent.
    list_said group_said part_of.Group part_of.Whole key.Groups head.cpus (value_at key.Groups t) >>= (λ groups.
    groups_checked part_of.Whole groups >>= (λ some.
    list_said taking_said part_of.Taking part_of.Whole key.Takings head.cpus (value_at key.Takings t) >>= (λ takings.
    list_said change_said part_of.Change part_of.Whole key.Changes head.cpus (value_at key.Changes t) >>= (λ changes.
    changes_checked changes >>= (λ order.
    Ok (record { head = head; agent = agent; groups = groups; takings = takings; changes = changes }))))))))

abbrev pub content_of : {A : Type 0} → Workload A → Content A
content_of w =
    record {
      head = record { cpus = w.cpus; ring = w.ring; policy = w.policy; ticks = w.ticks };
      agent = w.agent;
      groups = w.groups.items;
      takings = w.takings.items;
      changes = w.changes.items;
    }

-- a value was read so, unless memory ran out
abbrev pub Reads : {A : Type 0} → Result A Failure → Result A Wrong → Type 0
Reads (Ok x) said = said ≡ Ok x
Reads (Err (failure.Wrong wrong)) said = said ≡ Err wrong
Reads (Err failure.OutOfMemory) said = Unit {0}

-- the same of a workload
abbrev pub Gives : {A : Type 0} → Result (Workload A) Failure → Result (Content A) Wrong → Type 0
Gives (Ok w) said = said ≡ Ok (content_of w)
Gives (Err (failure.Wrong wrong)) said = said ≡ Err wrong
Gives (Err failure.OutOfMemory) said = Unit {0}
