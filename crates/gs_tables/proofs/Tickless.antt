-- The line in ticks of whom no tick came to.
use Rattle.std.proofs.Common.{◌≡◌, ◌∙◌, refl, sym, ap, ℕ, Option, Some, List, [], ◌∷◌, ◌++◌, append_assoc, codes}
use Rattle.std.specs.Fmt.{digits}
use Rattle.gs_tallies.specs.declared.account.Account.{Account}
use Rattle.gs_tallies.specs.declared.spread.Spread.{Spread}
use Rattle.gs_turns.specs.declared.time.Time.{Time}
use Rattle.gs_tables.specs.Latency.{IsTickless, spread_words, stays_words, times_words, waits_row, who}
use Rattle.gs_tables.specs.declared.latency.Unit.TheVariants.{Ticks}

abbrev nothing : Spread
nothing = record { half = 0; ninety = 0; ninety_nine = 0; all = 0 }

abbrev timed : ℕ → Time
timed n = record { entries = 0; ticks = n }

-- what stands behind the stays, by how many ticks they and the waits took
abbrev behind : ℕ → ℕ → Option Spread → List ℕ
behind r w s = times_words Ticks (record { stays = 0; ran = timed r; waited = timed w; preempted = 0; migrated = 0 }) ++ (spread_words s ++ 10 ∷ [])

abbrev pub no_ticks : List ℕ
no_ticks = codes "   ticks         0         0        0        0        0        0\n"

all_nothing : behind 0 0 (Some nothing) ≡ no_ticks
unfolding digits
all_nothing = refl

regroup : (o a b c d : List ℕ) → o ++ ((((a ++ b) ++ c) ++ d) ++ 10 ∷ []) ≡ ((o ++ a) ++ b) ++ (c ++ (d ++ 10 ∷ []))
regroup o a b c d = simp append_assoc

-- the columns before, and then the same end
pub ticks_row : (o : List ℕ) (a : Account) → IsTickless a → ((o ++ who a) ++ stays_words a.tally.sums) ++ no_ticks ≡ o ++ waits_row Ticks a
ticks_row o a none =
    let sums = a.tally.sums in
    let same : behind sums.ran.ticks sums.waited.ticks a.tally.waits_in_ticks ≡ no_ticks = ap (λ r. behind r sums.waited.ticks a.tally.waits_in_ticks) none.ran ∙ (ap (λ w. behind 0 w a.tally.waits_in_ticks) none.waited ∙ (ap (λ s. behind 0 0 s) none.waits ∙ all_nothing)) in
    ap (λ (e : List ℕ). ((o ++ who a) ++ stays_words sums) ++ e) (sym same) ∙ sym (regroup o (who a) (stays_words sums) (times_words Ticks sums) (spread_words a.tally.waits_in_ticks))
