-- The places of the words that are not empty, beside the words.
use Rattle.std.proofs.Common.{◌≡◌, refl, ap, sym, ◌∙◌, ℕ, ◌+◌, ◌*◌, ◌/◌, ◌^◌, ◌<◌, ◌≤◌, ◌⊎◌, inl, inr, true, false, List, [], length, get_or, arith}
use Rattle.std.specs.Prelude.{Bool, ◌≢◌, not}
use Rattle.std.proofs.lemmas.Bool.{cases_eq, cases_lt, false≢true, not-false}
use Rattle.std.proofs.lemmas.List.{get_or_past}
use Rattle.gs_sets.specs.declared.bits.TheConstants.{WORD}
use Rattle.gs_status.specs.Masks.{has_none}
use Rattle.gs_sets.specs.Bits.{is_in, left_of_word, IsFirst, IsNone, IsSummed}
use Rattle.gs_sets.proofs.BitWords.{empty_word, none_left, left_whole, past_end, same_words}

-- a number whose word is not among those that are not empty is not in
pub unsummed : (words sums : List ℕ) (n : ℕ) → IsSummed words sums → is_in sums (n / WORD) ≡ false → is_in words n ≡ false
unsummed words sums n summed none = empty_word words n (not-false (has_none (get_or words (n / WORD) 0)) (sym (summed.same (n / WORD)) ∙ none))

-- none from a number on, if none is left of its word and no later word has any
pub none_beyond : (words sums : List ℕ) (from : ℕ) → IsSummed words sums → has_none (left_of_word words from) ≡ true
    → IsNone (is_in sums) (from / WORD + 1) → IsNone (is_in words) from
none_beyond words sums from summed left none = λ n ge. by_word n ge (cases_lt (n / WORD) (from / WORD + 1))
  where
    by_word : (n : ℕ) → from ≤ n → (n / WORD < from / WORD + 1) ⊎ (from / WORD + 1 ≤ n / WORD) → is_in words n ≡ false
    by_word n ge (inl same) = none_left words from left n ge (omega (arith, same, ge))
    by_word n ge (inr after) = unsummed words sums n summed (none (n / WORD) after)

-- the first of the next word that has any
pub first_beyond : (words sums : List ℕ) (from w n : ℕ) → IsFirst (is_in words) (w * WORD) n → IsFirst (is_in sums) (from / WORD + 1) w
    → IsSummed words sums → has_none (left_of_word words from) ≡ true → IsFirst (is_in words) from n
first_beyond words sums from w n first word summed left =
    record {
      after = omega (arith, first.after, word.after);
      passes = first.passes;
      none_before = λ k ge lt. by_word k ge lt (cases_lt (k / WORD) (from / WORD + 1)) (cases_lt k (w * WORD));
    }
  where
    by_word : (k : ℕ) → from ≤ k → k < n → (k / WORD < from / WORD + 1) ⊎ (from / WORD + 1 ≤ k / WORD) → (k < w * WORD) ⊎ (w * WORD ≤ k) → is_in words k ≡ false
    by_word k ge lt (inl same) _ = none_left words from left k ge (omega (arith, same, ge))
    by_word k ge lt (inr after) (inl before) = unsummed words sums k summed (word.none_before (k / WORD) after (omega (arith, before)))
    by_word k ge lt _ (inr in_word) = first.none_before k in_word lt

-- a word that is not empty has a first number
pub word_has : (words sums : List ℕ) (w : ℕ) → IsSummed words sums → is_in sums w ≡ true → has_none (left_of_word words (w * WORD)) ≡ true → ⊥
word_has words sums w summed there none =
    let empty : has_none (get_or words w 0) ≡ true = sym (ap has_none (left_whole words w)) ∙ none in
    let full : not (has_none (get_or words w 0)) ≡ true = sym (summed.same w) ∙ there in
    let out : not (has_none (get_or words w 0)) ≡ false = ap not empty in
    absurd cc

-- the word of a number that is in is not empty
some_of : (words : List ℕ) (n : ℕ) → is_in words n ≡ true → not (has_none (get_or words (n / WORD) 0)) ≡ true
some_of words n there = by_test (has_none (get_or words (n / WORD) 0)) refl
  where
    by_test : (b : Bool) → has_none (get_or words (n / WORD) 0) ≡ b → not b ≡ true
    by_test false e = refl
    by_test true e = absurd (false≢true (sym (empty_word words n e) ∙ there))

-- no words, and none of them
pub summed_none : IsSummed [] []
summed_none = record {
  same = λ w. past_end [] w (omega arith);
  room = omega arith;
  within = omega arith;
}

-- with room for the places of more words
pub summed_sums : (words sums sums' : List ℕ) → IsSummed words sums → ((w : ℕ) → get_or sums' w 0 ≡ get_or sums w 0)
    → length sums ≤ length sums' → IsSummed words sums'
summed_sums words sums sums' summed same more =
    record {
      same = λ w. same_words sums sums' w same ∙ summed.same w;
      room = omega (arith, summed.room, more);
      within = summed.within;
    }

-- with more words, of which no number is in, and room for their places
pub summed_words : (words words' sums : List ℕ) → IsSummed words sums → ((w : ℕ) → get_or words' w 0 ≡ get_or words w 0)
    → length words' ≤ WORD * length sums → WORD * length words' ≤ 2 ^ 32 → IsSummed words' sums
summed_words words words' sums summed same room within =
    record {
      same = λ w. summed.same w ∙ ap (λ m. not (has_none m)) (sym (same w));
      room = room;
      within = within;
    }

-- a word that is not empty is one of them
pub summed_within : (words sums : List ℕ) (w : ℕ) → IsSummed words sums → is_in sums w ≡ true → w < length words
summed_within words sums w summed there = by_place (cases_lt w (length words))
  where
    full : not (has_none (get_or words w 0)) ≡ true
    full = sym (summed.same w) ∙ there

    by_place : (w < length words) ⊎ (length words ≤ w) → w < length words
    by_place (inl lt) = lt
    by_place (inr past) =
        let empty : not (has_none (get_or words w 0)) ≡ false = ap (λ m. not (has_none m)) (get_or_past words w 0 past) in
        let e = full in
        absurd cc

-- a number was put in or taken out, and its word has some number or none
pub summed_set : (words words' sums sums' : List ℕ) (n : ℕ) (holds some : Bool) → IsSummed words sums
    → is_in words' n ≡ holds → ((w : ℕ) → w ≢ n / WORD → get_or words' w 0 ≡ get_or words w 0) → length words' ≡ length words
    → is_in sums' (n / WORD) ≡ some → ((w : ℕ) → w ≢ n / WORD → is_in sums' w ≡ is_in sums w) → length sums' ≡ length sums
    → ((holds ≡ true) × (some ≡ true)) ⊎ (some ≡ not (has_none (get_or words' (n / WORD) 0))) → IsSummed words' sums'
summed_set words words' sums sums' n holds some summed here others size there elsewhere room by =
    record {
      same = λ w. by_word w (cases_eq w (n / WORD));
      room = omega (arith, summed.room, size, room);
      within = omega (arith, summed.within, size);
    }
  where
    is_some : not (has_none (get_or words' (n / WORD) 0)) ≡ some
    is_some = elim by [ inl both ↦ some_of words' n (here ∙ both.0) ∙ sym both.1 | inr e ↦ sym e ]

    by_word : (w : ℕ) → (w ≡ n / WORD) ⊎ (w ≢ n / WORD) → is_in sums' w ≡ not (has_none (get_or words' w 0))
    by_word w (inl e) = ap (is_in sums') e ∙ (there ∙ (sym is_some ∙ ap (λ (k : ℕ). not (has_none (get_or words' k 0))) (sym e)))
    by_word w (inr ne) = elsewhere w ne ∙ (summed.same w ∙ ap (λ (x : ℕ). not (has_none x)) (sym (others w ne)))
