use Rattle.std.proofs.Common.{◌∙◌, ap, arith, length}
use Rattle.std.proofs.lemmas.List.{length-replicate}
use Rattle.gs_slots.specs.Busy.{is_busy_at, is_flagged_at}
use Rattle.gs_slots.specs.Spelling.{idle_bytes}
use Rattle.gs_slots.proofs.Busy.{none_busy, none_flagged}
use Rattle.gs_slots.proofs.region.Region.new.Goals as goal

pub invariant_of-result : goal.invariant_of-result
invariant_of-result c = record {
  few = omega (arith, ap length c.loop.invariant.idle, length-replicate c.loop.counter idle_bytes, c.loop.auto.counter-end, c.ranges.cpus.fits);
  covered = λ k lt free. ap (λ xs. is_busy_at xs k) c.loop.invariant.idle ∙ none_busy c.loop.counter k;
  single = λ e k lt. ap (λ xs. is_flagged_at xs k) c.loop.invariant.idle ∙ none_flagged c.loop.counter k;
}
