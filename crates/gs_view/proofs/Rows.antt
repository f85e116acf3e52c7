-- The definitions, computed on small rows.
use Rattle.std.proofs.Common.{◌≡◌, refl, ◌==◌, cond, None, Some, [], ◌∷◌}
use Rattle.gs_layout.specs.declared.known.Known.{Known}
use Rattle.gs_sets.specs.Bits.{is_in}
use Rattle.gs_view.specs.Index.{key_of}
use Rattle.gs_view.specs.Listed.{listed}

-- of the threads 1 and 3 something is known
two_listed : (a b : Known) → listed (λ t. cond (t == 1) (Some a) (cond (t == 3) (Some b) None)) 0 5 ≡ (1, a) ∷ (3, b) ∷ []
unfolding listed
two_listed a b = refl

-- the tids 1, 3 and 65 are in the set; tid 3 has the key 7, and the number at tid 2 is no key
has_three : key_of (record { live = 10 ∷ 2 ∷ []; keys = 0 ∷ 5 ∷ 6 ∷ 7 ∷ [] }) 3 ≡ Some 7
unfolding key_of is_in
has_three = refl

lacks_two : key_of (record { live = 10 ∷ 2 ∷ []; keys = 0 ∷ 5 ∷ 6 ∷ 7 ∷ [] }) 2 ≡ None
unfolding key_of is_in
lacks_two = refl
