-- What the proofs of the crates above cite of this crate.
pub use Rattle.gs_runq.proofs.Queues.{in_put, in_removed, not_left, not_right, removed_absent}
