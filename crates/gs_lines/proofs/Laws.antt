-- What the proofs of the crates above cite of this crate.
pub use Rattle.gs_lines.proofs.Replies.{lines_more}
