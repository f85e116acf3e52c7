use Rattle.std.proofs.Common.{◌≡◌, ◌+◌, ◌-◌, ◌<◌, ◌∙◌, ℕ, ap, arith, replicate, subst, suc, sym, take}
use Rattle.std.specs.List.{slice_range}
use Rattle.std.specs.Str.{IsAscii}
use Rattle.std.proofs.lemmas.List.{get_or-replicate, take-replicate}
use Rattle.std.proofs.lemmas.Str.{IsCharBoundary-from_ascii}
use Rattle.std.proofs.lemmas.Str.Ascii.{IsAscii-from_all}
use Rattle.gs_lines.proofs.column.blanks.Goals as goal

abbrev blank : ℕ
blank = 32

spaces : IsAscii (replicate 39 blank)
spaces = IsAscii-from_all (replicate 39 blank) (λ i d lt. subst (λ (b : ℕ). b < 128) (sym (get_or-replicate 39 i blank d lt)) (omega arith))

first_spaces : (k : ℕ) → k < 40 → slice_range (replicate 39 blank) 0 k ≡ replicate k blank
first_spaces k lt = ap (λ (n : ℕ). take n (replicate 39 blank)) (omega arith) ∙ take-replicate k 39 blank (omega arith)

pub range-requires-clause-end_boundary : goal.range-requires-clause-end_boundary
range-requires-clause-end_boundary c = IsCharBoundary-from_ascii (replicate 39 blank) (c.saturating_sub.result + 1) spaces (omega (arith, c.saturating_sub.ensures, c.requires))

pub returns-clause-value : goal.returns-clause-value
returns-clause-value c =
    let more : c.saturating_sub.result + 1 ≡ suc (c.args.width - c.args.len) = omega (arith, c.saturating_sub.ensures) in
    c.range.ensures.value ∙ first_spaces (c.saturating_sub.result + 1) (omega (arith, c.saturating_sub.ensures, c.requires)) ∙ ap (λ (k : ℕ). replicate k blank) more
