-- The definitions, computed on small rows.
use Rattle.std.proofs.Common.{◌≡◌, refl, true, false, [], ◌∷◌}
use Rattle.gs_sets.specs.Bits.{is_in, left_of_word}

-- the numbers 1, 3 and 65 are in the set, and no others
has_three : is_in (10 ∷ 2 ∷ []) 3 ≡ true
unfolding is_in
has_three = refl

has_next_word : is_in (10 ∷ 2 ∷ []) 65 ≡ true
unfolding is_in
has_next_word = refl

lacks_two : is_in (10 ∷ 2 ∷ []) 2 ≡ false
unfolding is_in
lacks_two = refl

-- behind 2 the first word has 3 alone, whose bit comes second then
left_from_two : left_of_word (10 ∷ 2 ∷ []) 2 ≡ 2
unfolding left_of_word
left_from_two = refl
