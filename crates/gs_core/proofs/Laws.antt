-- What the proofs of the crates above cite of this crate.
pub use Rattle.gs_core.proofs.Added.{GrowsTo, all_history, grown_same, grown_then, settles_grown, stamped_history, step_grown}
pub use Rattle.gs_core.proofs.Exact.{commit_one, lands_one, tells_one}
pub use Rattle.gs_core.proofs.Faces.{drop_drop}
pub use Rattle.gs_core.proofs.Keeping.{kept_faithful, kept_safe, kept_start, kept_step}
