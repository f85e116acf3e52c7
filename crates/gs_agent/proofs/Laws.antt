-- What the proofs of the crates above cite of this crate.
pub use Rattle.gs_agent.proofs.Believing.{stamped_outcome}
pub use Rattle.gs_agent.proofs.Paged.{view_paged}
pub use Rattle.gs_agent.proofs.Views.{view_after_message, view_after_messages}
