-- What the proofs of the crates above cite of this crate.
pub use Rattle.gs_view.proofs.Loading.{loaded_first, or_none}
