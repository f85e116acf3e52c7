-- What the proofs of the crates above cite of this crate.
pub use Rattle.gs_journal.proofs.Folds.{record_in-fold}
pub use Rattle.gs_journal.proofs.Least.{at_least}
pub use Rattle.gs_journal.proofs.Past.{Was-mono, Was-now, catch_up_was, get_middle, known_live, numbered_get, numbered_push, same_view, snoc_induction, was_once}
pub use Rattle.gs_journal.proofs.Steps.{AtEach-push, AtEachPrefix-push, active-push, at_found, at_is, at_not, attaching-push, created-push, last_taken-push, latest-push, messages-push, on-push, on_more, on_nil, posted-length, posted-push, record_nil, record_of-push, record_push, same_created, same_messages, same_posted, seq_is, taken_is, torn-push}
