-- What the proofs of the crates above cite of this crate.
pub use Rattle.gs_history.proofs.ReadBack.{entry_read_back, history_read_back, same_lines}
