-- Worked rows: words of threads in each state, and what is in a mask.
use Rattle.std.proofs.Common.{◌≡◌, ◌^◌, refl, true, false, None, Some}
use Rattle.gs_status.specs.Status.{packed}
use Rattle.gs_status.specs.Masks.{has, has_past, has_none, least}

running : packed (record { tseq = 1; cpu = Some 1; runnable = true; alive = true }) ≡ 0x0000070100000001
running = refl

waiting : packed (record { tseq = 1; cpu = None; runnable = true; alive = true }) ≡ 0x000003ff00000001
waiting = refl

dead : packed (record { tseq = 2; cpu = None; runnable = false; alive = false }) ≡ 0x000000ff00000002
dead = refl

blocked : packed (record { tseq = 4294967295; cpu = None; runnable = false; alive = true }) ≡ 0x000002ffffffffff
blocked = refl

-- the least and the greatest CPU
on_the_first : packed (record { tseq = 0; cpu = Some 0; runnable = true; alive = true }) ≡ 0x0000070000000000
on_the_first = refl

on_the_last : packed (record { tseq = 3; cpu = Some 127; runnable = true; alive = true }) ≡ 0x0000077f00000003
on_the_last = refl

-- the set of CPUs 0 and 2
has_lowest : has 5 0 ≡ true
has_lowest = refl

has_not : has 5 1 ≡ false
has_not = refl

has_upper : has 5 2 ≡ true
has_upper = refl

has_highest : has (2 ^ 127) 127 ≡ true
has_highest = refl

has_beyond : has (2 ^ 127) 128 ≡ false
has_beyond = refl

past_two : has_past 4 2 ≡ true
past_two = refl

below_two : has_past 3 2 ≡ false
below_two = refl

below_all : has_past (2 ^ 127) 128 ≡ false
below_all = refl

has_nobody : has_none 0 ≡ true
has_nobody = refl

has_somebody : has_none (2 ^ 127) ≡ false
has_somebody = refl

-- the least CPU of a mask, and of those below 3
least_of_six : least (has 6) 128 ≡ Some 1
unfolding least
least_of_six = refl

least_of_nobody : least (has 0) 128 ≡ None
unfolding least
least_of_nobody = refl

least_below_three : least (has 8) 3 ≡ None
unfolding least
least_below_three = refl

least_highest : least (has (2 ^ 127)) 128 ≡ Some 127
unfolding least
least_highest = refl
