-- What the proofs of the crates above cite of this crate.
pub use Rattle.gs_reader.proofs.Again.{message_again}
