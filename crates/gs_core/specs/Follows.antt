-- What a command makes of the agent's role.
use Rattle.std.specs.Prelude.{Bool, true, false, ℕ, Option, option_map}
use Rattle.gs_journal.specs.declared.entry.Entry.{Entry}
use Rattle.gs_journal.specs.declared.entry.Entry.TheVariants.{Role}
use Rattle.gs_kernel.specs.declared.command.Command.{Command}
use Rattle.gs_kernel.specs.declared.command.Command.TheVariants as commands
use Rattle.gs_agent.specs.Mind.{moved}
use Rattle.gs_agent.specs.Role.{RoleOf}

-- a role on a CPU, of a generation
abbrev pub on_cpu : {P : Type 0} → ℕ → ℕ → RoleOf P → RoleOf P
on_cpu g c r = record r { mind = moved c r.mind; generation = g }

-- a role, if there is one, after an entry: one of the entry's generation, on its CPU
abbrev pub follows : {P : Type 0} → Entry → Option (RoleOf P) → Option (RoleOf P)
follows (Role g c) o = option_map (on_cpu g c) o
follows _ o = o

-- whether no agent goes, begins or becomes active by a command
abbrev pub leads_nobody : Command → Bool
leads_nobody (commands.HandOff c) = false
leads_nobody commands.Leave = false
leads_nobody commands.Begin = false
leads_nobody (commands.Activate c) = false
leads_nobody _ = true
