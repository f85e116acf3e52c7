-- What the proofs of the crates above cite of this crate.
pub use Rattle.gs_reasons.proofs.Places.{go_on, place_all, place_more, place_nil, place_within, stop}
pub use Rattle.gs_reasons.proofs.Heard.{and_true}
pub use Rattle.gs_reasons.proofs.Says.{test_eq}
pub use Rattle.gs_reasons.proofs.Verdicts.{because_of}
pub use Rattle.gs_reasons.proofs.ExplainedRefusals.{explained_refusal}
pub use Rattle.gs_reasons.proofs.Finding.{commit_free, free_then, late_free, told_free}
