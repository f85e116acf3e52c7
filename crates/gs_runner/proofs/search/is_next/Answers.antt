use Rattle.std.proofs.Common.{◌≡◌, ℕ, ◌∙◌, Some, length, slice_get, refl, ap}
use Rattle.std.proofs.lemmas.Option.{slice_get_read}
use Rattle.gs_runner.specs.declared.kept.Kept.TheVariants.{Told}
use Rattle.gs_runner.proofs.Slipping.{told_stands}
use Rattle.gs_runner.proofs.search.is_next.Goals as goal

pub returns-then-is_between : goal.returns-then-is_between
returns-then-is_between c =
    let h = c.args.journal.now.entries in
    let ks = c.args.kept.now in
    let here = c.in-Some-Told.ensures.lookup in
    let found : slice_get ks c.args.passed ≡ Some (Told c.in-Some-Told.place c.in-Some-Told.end) = slice_get_read ks (length ks) c.args.passed c.in-Some-Told.field-0.now refl here.3.0 here.1 ∙ ap Some c.in-Some-Told.field-0-is in
    let place = c.is_between.ensures c.if-is_between.true in
    let there : slice_get ks c.args.passed ≡ Some (Told c.args.at c.in-Some-Told.end) = found ∙ ap (λ (n : ℕ). Some (Told n c.in-Some-Told.end)) place.0 in
    λ yes. told_stands h c.args.others.now ks c.args.passed c.args.at c.in-Some-Told.end c.args.entries c.args.command.now there place.1 (c.is_told_before.ensures yes)
