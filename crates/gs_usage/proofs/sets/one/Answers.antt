use Rattle.std.proofs.Common.{◌≡◌, ◌∙◌, ap, ℕ, ◌*◌, ◌^◌, ◌%◌, ◌<◌, arith}
use Rattle.std.proofs.lemmas.Nat.{pow_below}
use Rattle.gs_status.specs.declared.mask.TheConstants.{MOST_CPUS}
use Rattle.gs_status.specs.Masks.{has}
use Rattle.gs_usage.proofs.Bits.{has_one}
use Rattle.gs_usage.proofs.sets.one.Goals as goal

pub returns : goal.returns
returns c = λ i.
    let fits : 2 ^ c.args.place < 2 ^ MOST_CPUS = pow_below c.args.place MOST_CPUS c.requires in
    let same : 1 * 2 ^ c.args.place % 2 ^ MOST_CPUS ≡ 2 ^ c.args.place = omega (arith, fits) in
    ap (λ (m : ℕ). has m i) same ∙ has_one c.args.place i
