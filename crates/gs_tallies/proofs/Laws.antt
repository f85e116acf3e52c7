-- What the proofs of the crates above cite of this crate.
pub use Rattle.gs_tallies.proofs.Accounts.{zip_none, zip_one}
pub use Rattle.gs_tallies.proofs.Groups.{kept_more}
