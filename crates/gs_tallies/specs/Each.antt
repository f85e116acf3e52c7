-- What is told of each thread.
use Rattle.std.specs.Prelude.{ℕ, List}
use Rattle.gs_kernel.specs.declared.landing.Landing.{Landing}
use Rattle.gs_turns.specs.declared.stance.Known.{Known}
use Rattle.gs_turns.specs.declared.turn.Turn.{Turn}

-- by what each thread is told of: what is known of the threads, the turns, and what became of slots
pub record Grounds : Type 0 where
  pub known : List Known
  pub turns : List Turn
  pub landings : List Landing

-- whose turn it is
abbrev pub turn_tid : Turn → ℕ
turn_tid x = x.stay.tid

-- whom a slot names
abbrev pub landing_tid : Landing → ℕ
landing_tid l = l.tid
