-- The account of a thread, which is short if nothing came to it.
use Rattle.std.specs.Prelude.{ℕ, Option, None, Some, []}
use Rattle.std.specs.Global.{Box}
use Rattle.gs_layout.specs.declared.facts.Class.{Class}
use Rattle.gs_tallies.specs.Accounts.{outcomes_of}
use Rattle.gs_tallies.specs.Tallies.{no_tally}
use Rattle.gs_tallies.specs.declared.account.Account.{Account}
use Rattle.gs_tallies.specs.declared.thread.Held.{Held}
use Rattle.gs_tallies.specs.declared.thread.Held.TheVariants.{Idle, Whole}

-- that of a thread of a class that was never placed, and that no slot names
abbrev pub idle : Class → ℕ → Account
idle k t = record { class = Some k; tid = Some t; tally = no_tally; landings = outcomes_of [] }

-- an account that is kept whole, or else that of a thread of a class to which nothing came
abbrev pub whole_or_idle : Class → ℕ → Option (Box Account) → Account
whole_or_idle k t None = idle k t
whole_or_idle k t (Some a) = a.value

-- the account that is lent
abbrev pub account_of : Held → Account
account_of (Idle k t) = idle k t
account_of (Whole a) = a.now
