-- What the proofs of the crates above cite of this crate.
pub use Rattle.gs_sets.proofs.Alike.{first_alike}
pub use Rattle.gs_sets.proofs.BitWords.{in_within, past_end}
