-- What the steps of a shift make of the role that is held.
use Rattle.std.specs.Prelude.{◌≡◌, Bool, false, ℕ, Option, None, Some, is_none}
use Rattle.std.specs.Option.{option_map}
use Rattle.gs_agent.specs.Role.{RoleOf}
use Rattle.gs_agent.specs.Drains.{Followed}
use Rattle.gs_agent.specs.declared.drained.Drained.{Drained}
use Rattle.gs_journal.specs.declared.entry.Entry.TheVariants as entries
use Rattle.gs_layout.specs.declared.message.Message.{Message}
use Rattle.gs_link.specs.declared.taker.RtrbTaker.{RtrbTaker}
use Rattle.gs_link.specs.Between.{Passed}
use Rattle.gs_agent.specs.Mind.{moved, nothing, picture_of}
use Rattle.gs_replies.specs.declared.reply.Reply.{Reply}
use Rattle.gs_replies.specs.declared.reply.Reply.TheVariants as replies
use Rattle.std.specs.Prelude.{List}

-- the role goes on as that of this generation, on this CPU
abbrev pub on_cpu : {P : Type 0} → ℕ → ℕ → RoleOf P → RoleOf P
on_cpu g c r = record r { mind = moved c r.mind; generation = g }

-- after a reply to a hand-off, an activation, a leaving or a crash: promoted, gone, or as before
abbrev pub follows : {P : Type 0} → Reply → Option (RoleOf P) → Option (RoleOf P)
follows (replies.Done (entries.Role g c)) o = option_map (on_cpu g c) o
follows (replies.Done entries.Left) o = None
follows replies.Crashed o = None
follows _ o = o

-- a drain of the role that is held
abbrev pub Drains : {P : Type 0} → Option (RoleOf P) → RtrbTaker → Option Drained → Option (RoleOf P) → RtrbTaker → Type 0
Drains (Some r) t (Some d) (Some q) u = (ms : List Message) × Passed t ms u × Followed (picture_of r.mind) ms d (picture_of q.mind) × (q ≡ record r { mind = q.mind })
Drains None t None None u = u ≡ t
Drains _ _ _ _ _ = ⊥

-- whether there is a role that needs no page
abbrev pub needs_none : {P : Type 0} → Option (RoleOf P) → Bool
needs_none None = false
needs_none (Some r) = is_none r.next

-- the role of an agent that attaches and knows nothing
abbrev pub newcomer : {P : Type 0} → ℕ → ℕ → P → RoleOf P
newcomer cpus g p = record { mind = nothing cpus None; generation = g; policy = p; next = Some 1 }

-- after a reply to a begin: this role, or the one before
abbrev pub begun_by : {P : Type 0} → Reply → RoleOf P → Option (RoleOf P) → Option (RoleOf P)
begun_by (replies.Done e) q o = Some q
begun_by _ q o = o
