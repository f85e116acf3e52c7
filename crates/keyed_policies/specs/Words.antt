-- How words name them: `home`, and `share` with the weights of class 0 and of class 1.
use Rattle.std.specs.Prelude.{◌≡◌, ℕ, List, [], ◌∷◌, true, false, codes, get_or, refl}
use Rattle.gs_policy.specs.declared.any.AnyPolicy.{AnyPolicy}
use Rattle.gs_keyed.specs.declared.keyed.Keyed.{Keyed}
use Rattle.gs_script.specs.Any.{any, policy_forms}
use Rattle.gs_script.specs.Naming.{Naming}
use Rattle.gs_script.specs.Rows.{is}
use Rattle.gs_beside.specs.declared.beside.Beside.{Beside}
use Rattle.gs_beside.specs.Own.{BeginsOtherwise, Own, Range, is_free, of_key, word_alone}
use Rattle.gs_beside.specs.Beside.{beside}
use Rattle.gs_beside.specs.Otherwise.{any_otherwise, beside_otherwise}
use Rattle.keyed_policies.specs.declared.class_share.ClassShare.{ClassShare}
use Rattle.keyed_policies.specs.declared.class_share_words.TheConstants.{MOST_WEIGHT}
use Rattle.keyed_policies.specs.declared.home_first.HomeFirst.{HomeFirst}

abbrev pub home : Own HomeFirst
home = word_alone (codes "home") (record {})

abbrev pub weight : Range
weight = record { least = 0; most = MOST_WEIGHT }

-- a header that names none has a weight of 1 for each class
abbrev pub share : Own ClassShare
share =
    record {
      word = codes "share";
      ranges = weight ∷ weight ∷ [];
      of = λ ns. record { zero_weight = get_or ns 0 0; one_weight = get_or ns 1 0 };
      numbers = λ p. p.zero_weight ∷ p.one_weight ∷ [];
      unnamed = record { zero_weight = 1; one_weight = 1 };
    }

-- the one beside the two that there are, and the other beside these
abbrev pub homes : Naming (Beside (Keyed HomeFirst) AnyPolicy)
homes = beside (of_key home) any

abbrev pub keyed_policies : Naming (Beside (Keyed ClassShare) (Beside (Keyed HomeFirst) AnyPolicy))
keyed_policies = beside (of_key share) homes

-- their words begin with others than a word that is not `home`, nor `share`, and is free beside the two
pub home_otherwise : {word : List ℕ} → is (codes "home") word ≡ false → is_free policy_forms word ≡ true → (p : Beside (Keyed HomeFirst) AnyPolicy) → BeginsOtherwise word (homes.words p)
home_otherwise home_other free = beside_otherwise (of_key home) any refl home_other (any_otherwise free)

pub keyed_otherwise : {word : List ℕ} → is (codes "share") word ≡ false → is (codes "home") word ≡ false → is_free policy_forms word ≡ true
    → (p : Beside (Keyed ClassShare) (Beside (Keyed HomeFirst) AnyPolicy)) → BeginsOtherwise word (keyed_policies.words p)
keyed_otherwise share_other home_other free = beside_otherwise (of_key share) homes refl share_other (home_otherwise home_other free)
