-- What the proofs of the crates above cite of this crate.
pub use Rattle.gs_beliefs.proofs.Believed.{believed_on_clears, believed_on_hears, believed_on_places, believed_on_places_elsewhere, believed_on_unknown, count_after_outcome, count_hears, count_places, places_past}
pub use Rattle.gs_beliefs.proofs.Marks.{fewer_left, remaining}
