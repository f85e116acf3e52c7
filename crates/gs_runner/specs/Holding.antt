-- What an agent's thread holds.
use Rattle.std.specs.Prelude.{ℕ, Option, None, Some, List, replicate}
use Rattle.gs_agent.specs.Role.{RoleOf}
use Rattle.gs_link.specs.declared.taker.RtrbTaker.{RtrbTaker}
use Rattle.gs_agent.specs.Mind.{nothing}
use Rattle.gs_replies.specs.declared.config.Config.{Config}
use Rattle.gs_slots.specs.Spelling.{idle_bytes}

pub record HeldOf (P : Type 0) : Type 0 where
  pub role : Option (RoleOf P)
  pub policy : P
  pub taker : RtrbTaker
  pub slots : List (List ℕ)

-- as an enclave starts with these numbers: the first agent is active on CPU 0 and has nothing in mind, and all slots are idle
abbrev pub first_held : {P : Type 0} → Config P → RtrbTaker → HeldOf P
first_held c t = record {
  role = Some (record { mind = nothing c.cpus (Some 0); generation = c.first_generation; policy = c.policy; next = None });
  policy = c.policy;
  taker = t;
  slots = replicate c.cpus idle_bytes;
}
