-- What comes of a simulation.
use Rattle.std.specs.Prelude.{ℕ, List}
use Rattle.gs_kernel.specs.declared.landing.Landing.{Landing}
use Rattle.gs_session.specs.Session.{Session}

-- the script, the session that heard it, and the landings that its replies told of
pub record Simulated (A : Type 0) : Type 0 where
  pub text : List ℕ
  pub session : Session A
  pub landings : List Landing
