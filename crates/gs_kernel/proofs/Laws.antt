-- What the proofs of the crates above cite of this crate.
pub use Rattle.gs_kernel.proofs.Abouts.{some_there}
pub use Rattle.gs_kernel.proofs.Commits.{stamp_ok}
pub use Rattle.gs_kernel.proofs.Entries.{SameBeside, active_none, active_now, attaching_ended, attaching_none, beside_placed, beside_posted, beside_quiet, torn_now}
pub use Rattle.gs_kernel.proofs.Groups.{AllOf, IsKeptBy, commit_alone, commit_map, group_keeps, own_placed}
pub use Rattle.gs_kernel.proofs.Kernels.{posted_new}
pub use Rattle.gs_kernel.proofs.Landings.{Entails, HasLanded, HasStayed, IsLeft, IsPut, all_count, all_keep, all_map, all_map_by, asked_adds, bytes_map, if_cases, if_map, in_map, landing_keeps, lands_map, room_later, settles_cases, tells_map}
pub use Rattle.gs_kernel.proofs.Lasts.{last_added, last_told}
pub use Rattle.gs_kernel.proofs.OneAgent.{active_begun, active_left, attaching_left, one_agent}
pub use Rattle.gs_kernel.proofs.OtherClass.{begins_when, hands_off_when}
pub use Rattle.gs_kernel.proofs.Regions.{Same, commit_read}
pub use Rattle.gs_kernel.proofs.Placings.{IsPlacing, on_none, placing_free, placing_then, placing_when, stood}
pub use Rattle.gs_kernel.specs.Landing.{IsToPlace}
pub use Rattle.gs_kernel.proofs.Refusals.{commits_within, first_passed, free_when, happens_when, neither, not_not}
pub use Rattle.gs_kernel.proofs.Seats.{get_other}
pub use Rattle.gs_kernel.proofs.Walked.{IsWalked, lowest_wanted, walked_end, walked_length, walked_none, walked_push}
pub use Rattle.gs_kernel.proofs.Counted.{count_some, count_without, has_below, none_in}
pub use Rattle.gs_kernel.proofs.Together.{region_stamped, rises_from, set_other}
