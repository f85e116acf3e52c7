-- How fairly threads ran.
use Rattle.std.specs.Prelude.{ℕ, ◌*◌, ◌-◌, ◌/◌, ◌^◌, ◌==◌, fold, if◌then◌else◌, length, min, sum, List, Option, None, Some}
use Rattle.gs_turns.specs.Times.{in_word}

-- the least of some numbers, none of which exceeds what 64 bits hold
abbrev pub least_of : List ℕ → ℕ
least_of xs = fold min (2 ^ 64 - 1) xs

-- the sum of some numbers, or the most that 64 bits hold, if it exceeds that
abbrev pub total_of : List ℕ → ℕ
total_of xs = in_word (sum xs)

-- what the least of some numbers is of their mean, in percent
abbrev pub share_of : ℕ → ℕ → ℕ → ℕ
share_of least count total = in_word (in_word (least * count) * 100) / total

-- what the thread that ran least got of the fair time, which is the mean of what they ran. Without any time there is no share
abbrev pub worst_share : List ℕ → Option ℕ
worst_share rans = if total_of rans == 0 then None else Some (share_of (least_of rans) (length rans) (total_of rans))
