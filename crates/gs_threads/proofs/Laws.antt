-- What the proofs of the crates above cite of this crate.
pub use Rattle.gs_threads.proofs.Clearing.{cleared_nobody, cleared_one, mirrors_torn}
pub use Rattle.gs_threads.proofs.Entries.{eqb_same, messages_about, messages_other, on_kept, on_off, on_still, record_by, record_more, same_eqb, seq_by}
pub use Rattle.gs_threads.proofs.Lookups.{after_tick, row_never}
pub use Rattle.gs_threads.proofs.Mirrored.{mirrors_at, mirrors_never, mirrors_none, mirrors_one, mirrors_row}
pub use Rattle.gs_threads.proofs.Mirroring.{mirrors_created, mirrors_posted}
pub use Rattle.gs_threads.proofs.Placing.{length-rows_placed, mirrors_placed, mirrors_quiet, on_elsewhere, on_here, on_quiet, posts_nothing}
pub use Rattle.gs_threads.proofs.Told.{length-rows_after, place_row}
pub use Rattle.gs_threads.proofs.Walks.{live_from-tids}
