-- How words name it: `rr`, and the slices of class 0 and of class 1.
use Rattle.std.specs.Prelude.{◌≡◌, ℕ, List, [], ◌∷◌, true, false, codes, get_or, refl}
use Rattle.gs_beliefs.specs.declared.running.TheConstants.{MOST_TICKS}
use Rattle.gs_policy.specs.declared.any.AnyPolicy.{AnyPolicy}
use Rattle.gs_keyed.specs.declared.keyed.Keyed.{Keyed}
use Rattle.gs_script.specs.Any.{policy_forms}
use Rattle.gs_script.specs.Naming.{Naming}
use Rattle.gs_script.specs.Rows.{is}
use Rattle.gs_beside.specs.declared.beside.Beside.{Beside}
use Rattle.gs_beside.specs.Own.{BeginsOtherwise, Own, Range, is_free}
use Rattle.gs_beside.specs.Beside.{beside}
use Rattle.gs_beside.specs.Otherwise.{beside_otherwise}
use Rattle.keyed_policies.specs.declared.class_share.ClassShare.{ClassShare}
use Rattle.keyed_policies.specs.declared.home_first.HomeFirst.{HomeFirst}
use Rattle.keyed_policies.specs.Words.{keyed_otherwise, keyed_policies}
use Rattle.round_robin.specs.declared.policy.RoundRobin.{RoundRobin}

-- a slice in ticks
abbrev pub slice : Range
slice = record { least = 0; most = MOST_TICKS }

-- a header that names none has two ticks for class 0, and one for class 1
abbrev pub slices : Own RoundRobin
slices =
    record {
      word = codes "rr";
      ranges = slice ∷ slice ∷ [];
      of = λ ns. record { zero_slice = get_or ns 0 0; one_slice = get_or ns 1 0 };
      numbers = λ p. p.zero_slice ∷ p.one_slice ∷ [];
      unnamed = record { zero_slice = 2; one_slice = 1 };
    }

-- it, beside the two keys and the two policies that there are
abbrev pub policies : Naming (Beside RoundRobin (Beside (Keyed ClassShare) (Beside (Keyed HomeFirst) AnyPolicy)))
policies = beside slices keyed_policies

-- their words begin with others than a word that is none of `rr`, `share` and `home`, and is free beside the two
pub policies_otherwise : {word : List ℕ} → is (codes "rr") word ≡ false → is (codes "share") word ≡ false → is (codes "home") word ≡ false → is_free policy_forms word ≡ true
    → (p : Beside RoundRobin (Beside (Keyed ClassShare) (Beside (Keyed HomeFirst) AnyPolicy))) → BeginsOtherwise word (policies.words p)
policies_otherwise rr_other share_other home_other free = beside_otherwise slices keyed_policies refl rr_other (keyed_otherwise share_other home_other free)
