use Rattle.std.proofs.Common.{◌<◌, ◌∙◌, ◌+◌, ◌*◌, ◌^◌, ap, sym, subst, ℕ, List, length, suc, ◌∷◌, rules}
use Rattle.std.specs.Prelude.{bit_and, bit_or, bit_xor}
use Rattle.std.specs.Int.{bit_at}
use Rattle.gs_usage.specs.Counting.{totalled}
use Rattle.gs_usage.specs.declared.totals.Digit.{Digit}
use Rattle.gs_usage.proofs.Counting.{joined_digit, room_kept}
use Rattle.gs_usage.proofs.totals.+add_once.Goals as goal

pub add_once-requires : goal.add_once-requires
add_once-requires t c = (
  search rules,
  λ i lt.
      let d = c.in-Some.digit.now in
      let set = c.args.set in
      let others = c.in-Some.others.now in
      let a = totalled others i in
      let fits : totalled (d ∷ others) i + bit_at set i < 2 ^ suc (length others) = subst (λ (ds : List Digit). totalled ds i + bit_at set i < 2 ^ length ds) c.in-Some.ensures.cases.0 (c.requires i lt) in
      room_kept (bit_at (bit_xor (bit_xor d.word d.kept) set) i) (bit_at 0 i) (a + bit_at (bit_or (bit_and d.word d.kept) (bit_and set (bit_xor d.word d.kept))) i) (length others)
      (subst (λ (m : ℕ). m < 2 ^ suc (length others)) (joined_digit d.word d.kept set i a) fits),
)

pub returns-else-kept-eq0-clause-totals : goal.returns-else-kept-eq0-clause-totals
returns-else-kept-eq0-clause-totals t c = λ i lt.
    let d = c.in-Some.digit.now in
    let set = c.args.set in
    ap (λ (m : ℕ). bit_at (bit_xor (bit_xor d.word d.kept) set) i + bit_at 0 i + 2 * m) (c.add_once.ensures.totals i lt)
    ∙ (sym (joined_digit d.word d.kept set i (totalled c.in-Some.others.now i)) ∙ sym (ap (λ (ds : List Digit). totalled ds i + bit_at set i) c.in-Some.ensures.cases.0))
