-- What the proofs of the crates above cite of this crate.
pub use Rattle.gs_status.proofs.Least.{least_before, least_beyond, least_is_all, least_none, least_passes, least_same}
pub use Rattle.gs_status.proofs.Marking.{IsMarked, marked_if}
pub use Rattle.gs_status.proofs.Masks.{has_by_bit, has_none_past, has_shifted, is_zero, nobody, none_past_word}
