-- The policy of a machine after events.
use Rattle.std.specs.Prelude.{List, ◌∷◌}
use Rattle.gs_core.specs.declared.event.Event.{Event}
use Rattle.gs_core.specs.declared.event.Event.TheVariants.{Begin}
use Rattle.gs_replies.specs.declared.reply.Reply.{Reply}
use Rattle.gs_replies.specs.declared.reply.Reply.TheVariants.{Done}

-- the policy after an event with this reply: the one by which a new agent begins, if the event names it and is not refused
abbrev pub policy_after : {P : Type 0} → Event P → Reply → P → P
policy_after (Begin p) (Done e) q = p
policy_after _ _ q = q

-- the policy after events, by their replies
abbrev pub policy_after_all : {P : Type 0} → List (Event P) → List Reply → P → P
policy_after_all (e ∷ es) (r ∷ rs) q = policy_after_all es rs (policy_after e r q)
policy_after_all _ _ q = q
