-- What the proofs of the crates above cite of this crate.
pub use Rattle.gs_status.proofs.Laws.{least_before as none_before}
pub use Rattle.gs_slots.proofs.Busy.{ahead, goes_up, none_left, quiet_read}
pub use Rattle.gs_slots.proofs.Exact.{read_spelt}
pub use Rattle.gs_slots.proofs.Filled.{all_left}
pub use Rattle.gs_slots.proofs.Flagged.{by_cpu_at, clears_once, flag_is, idle_or_same}
pub use Rattle.gs_slots.proofs.Lent.{by_cpu_count, by_cpu_more, by_cpu_stays, set_as_it_was}
pub use Rattle.gs_slots.proofs.States.{all_idle_read, collected_read, get_held, held_get, idle_read, set_held, stamps_read, state_at, states_count, states_set, told_is}
