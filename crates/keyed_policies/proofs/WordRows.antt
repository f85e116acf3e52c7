-- Worked rows: what words name.
use Rattle.std.proofs.Common.{◌≡◌, refl, codes, List, ℕ, Result, Ok, Err}
use Rattle.std.specs.Fmt.{digits}
use Rattle.gs_policy.specs.declared.any.AnyPolicy.{AnyPolicy}
use Rattle.gs_policy.specs.declared.any.AnyPolicy.TheVariants as common
use Rattle.gs_keyed.specs.declared.keyed.Keyed.{Keyed}
use Rattle.gs_script.specs.declared.fault.Reason.{Reason}
use Rattle.gs_script.specs.declared.fault.Reason.TheVariants.{BadCount, BadNumber}
use Rattle.gs_script.specs.Header.{policy_said}
use Rattle.gs_beside.specs.declared.beside.Beside.{Beside}
use Rattle.gs_beside.specs.declared.beside.Beside.TheVariants as either
use Rattle.keyed_policies.specs.declared.class_share.ClassShare.{ClassShare}
use Rattle.keyed_policies.specs.declared.home_first.HomeFirst.{HomeFirst}
use Rattle.keyed_policies.specs.Words.{keyed_policies}

abbrev said : List ℕ → Result (Beside (Keyed ClassShare) (Beside (Keyed HomeFirst) AnyPolicy)) Reason
said text = policy_said keyed_policies text

two_shares : said (codes "share 2 3") ≡ Ok (either.Own (record { key = record { zero_weight = 2; one_weight = 3 } }))
two_shares = refl

home_alone : said (codes "home") ≡ Ok (either.Other (either.Own (record { key = record {} })))
home_alone = refl

two_class : said (codes "two 4") ≡ Ok (either.Other (either.Other (common.TwoClass (record { slice = 4 }))))
two_class = refl

one_share : said (codes "share 2") ≡ Err BadCount
one_share = refl

too_high : said (codes "share 2 65536") ≡ Err BadNumber
too_high = refl

its_words : keyed_policies.words (either.Own (record { key = record { zero_weight = 2; one_weight = 3 } })) ≡ codes "share 2 3"
unfolding digits
its_words = refl
