-- Worked rows: what words name beside the two policies that there are, if one's own is called `rr` and two numbers.
use Rattle.std.proofs.Common.{◌≡◌, ℕ, true, false, List, [], ◌∷◌, get_or, refl, codes, Result, Ok, Err}
use Rattle.std.specs.Fmt.{digits}
use Rattle.gs_policy.specs.declared.any.AnyPolicy.{AnyPolicy}
use Rattle.gs_policy.specs.declared.any.AnyPolicy.TheVariants as common
use Rattle.gs_script.specs.declared.fault.Reason.{Reason}
use Rattle.gs_script.specs.declared.fault.Reason.TheVariants.{BadCount, BadNumber, BadWord}
use Rattle.gs_script.specs.Any.{any}
use Rattle.gs_script.specs.Header.{policy_said}
use Rattle.gs_script.specs.Naming.{Naming}
use Rattle.gs_beside.specs.declared.beside.Beside.{Beside}
use Rattle.gs_beside.specs.declared.beside.Beside.TheVariants as either
use Rattle.gs_beside.specs.Own.{BeginsOtherwise, Own, is_free, word_alone}
use Rattle.gs_beside.specs.Beside.{beside}
use Rattle.gs_beside.specs.Otherwise.{any_otherwise, beside_otherwise}

record Turns : Type 0 where
  zero_slice : ℕ
  one_slice : ℕ

abbrev turns : Own Turns
turns =
    record {
      word = codes "rr";
      ranges = record { least = 0; most = 65535 } ∷ record { least = 0; most = 65535 } ∷ [];
      of = λ ns. record { zero_slice = get_or ns 0 0; one_slice = get_or ns 1 0 };
      numbers = λ p. p.zero_slice ∷ p.one_slice ∷ [];
      unnamed = record { zero_slice = 2; one_slice = 1 };
    }

abbrev said : List ℕ → Result (Beside Turns AnyPolicy) Reason
said text = policy_said (beside turns any) text

own_policy : said (codes "rr 2 5") ≡ Ok (either.Own (record { zero_slice = 2; one_slice = 5 }))
own_policy = refl

too_few : said (codes "rr 2") ≡ Err BadCount
too_few = refl

too_high : said (codes "rr 2 70000") ≡ Err BadNumber
too_high = refl

too_many : said (codes "rr 2 5 6") ≡ Err BadCount
too_many = refl

-- the first fault from the left
high_before_missing : said (codes "rr 70000") ≡ Err BadNumber
high_before_missing = refl

first_come : said (codes "first") ≡ Ok (either.Other (common.FirstCome (record {})))
first_come = refl

two_class : said (codes "two 4") ≡ Ok (either.Other (common.TwoClass (record { slice = 4 })))
two_class = refl

no_slice : said (codes "two") ≡ Err BadCount
no_slice = refl

unknown : said (codes "x") ≡ Err BadWord
unknown = refl

-- a header that names none has the policy that is said so, but `policy` alone says nothing
no_words : said [] ≡ Err BadCount
no_words = refl

none_named : (beside turns any).named [] ≡ either.Own (record { zero_slice = 2; one_slice = 1 })
none_named = refl

its_words : (beside turns any).words (either.Own (record { zero_slice = 2; one_slice = 500 })) ≡ codes "rr 2 500"
unfolding digits
its_words = refl

-- the same beside `home`, another policy of one's own, whose word stands alone
data Home : Type 0 where
  Homely : Home

abbrev home : Own Home
home = word_alone (codes "home") Homely

abbrev homes : Naming (Beside Home AnyPolicy)
homes = beside home any

abbrev both : List ℕ → Result (Beside Turns (Beside Home AnyPolicy)) Reason
both text = policy_said (beside turns homes) text

outer_policy : both (codes "rr 2 5") ≡ Ok (either.Own (record { zero_slice = 2; one_slice = 5 }))
outer_policy = refl

inner_policy : both (codes "home") ≡ Ok (either.Other (either.Own Homely))
inner_policy = refl

innermost_policy : both (codes "two 4") ≡ Ok (either.Other (either.Other (common.TwoClass (record { slice = 4 }))))
innermost_policy = refl

behind_inner_word : both (codes "home 1") ≡ Err BadCount
behind_inner_word = refl

neither : both (codes "x") ≡ Err BadWord
neither = refl

outer_unnamed : (beside turns homes).named [] ≡ either.Own (record { zero_slice = 2; one_slice = 1 })
outer_unnamed = refl

-- a word is free beside others, but not a second time
rr_free : is_free homes.forms (codes "rr") ≡ true
rr_free = refl

home_taken : is_free homes.forms (codes "home") ≡ false
home_taken = refl

-- the law in one line
rr_apart : (p : Beside Home AnyPolicy) → BeginsOtherwise (codes "rr") (homes.words p)
rr_apart = beside_otherwise home any refl refl (any_otherwise refl)
