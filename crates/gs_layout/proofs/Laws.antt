-- What the proofs of the crates above cite of this crate.
pub use Rattle.gs_layout.proofs.Shared.{class_again, class_back, class_passes, cpu_again, cpu_back, cpu_below, cpu_from, cpu_passes, flag_again, flag_back, flag_passes, mask_passes, name_short, numbers_from, numbers_pass, reads, tid_from, tid_passes, zeros_are, zeros_pass}
pub use Rattle.gs_layout.proofs.NumberBytes.{IsBytes, IsBytes-drop, IsBytes-take, at_place}
pub use Rattle.gs_layout.proofs.Parcels.{spelled_begins}
pub use Rattle.gs_layout.proofs.ReadBack.{begun_is, kind_begun, read_back}
pub use Rattle.gs_layout.proofs.Spelled.{IsSize, size_message, spelled_length}
