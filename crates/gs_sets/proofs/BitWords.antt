-- A word that was written, added or shifted, and the numbers that are in the set.
use Rattle.std.proofs.Common.{◌≡◌, ◌≢◌, ap, sym, ◌∙◌, ℕ, ◌+◌, ◌-◌, ◌*◌, ◌/◌, ◌%◌, ◌^◌, ◌<◌, ◌≤◌, ◌⊎◌, inl, inr, Bool, true, false, List, length, get_or, set, arith, Some, get_or-set_same, get_or-set_other, ⊎_elim}
use Rattle.std.proofs.Math.Nat.{div-one, zero-div}
use Rattle.std.proofs.lemmas.Bool.{cases_lt}
use Rattle.std.proofs.lemmas.List.{get_or_past}
use Rattle.gs_sets.specs.declared.bits.TheConstants.{WORD}
use Rattle.gs_status.specs.declared.bit_word.TheConstants.{WORD_BITS}
use Rattle.gs_status.specs.Masks.{has, has_none, least}
use Rattle.gs_status.proofs.Laws.{has_shifted, is_zero, least_before, nobody, none_past_word}
use Rattle.gs_sets.specs.Bits.{is_in, left_of_word, IsFirst, IsNone}

-- a number is in if its bit is set in the word that was written
pub written_here : (words : List ℕ) (m n : ℕ) → n / WORD < length words → is_in (set words (n / WORD) m) n ≡ has m (n % WORD)
unfolding is_in
written_here words m n within = ap (λ k. has k (n % WORD)) (let e : get_or (set words (n / WORD) m) (n / WORD) 0 ≡ m = rw get_or-set_same in e)

-- a number's word was written, and the others are in as before
pub written_others : (words : List ℕ) (m n : ℕ) → n / WORD < length words
    → ((c : ℕ) → c ≢ n % WORD → has m c ≡ has (get_or words (n / WORD) 0) c) → (k : ℕ) → k ≢ n → is_in (set words (n / WORD) m) k ≡ is_in words k
unfolding is_in
written_others words m n within same k other = by_word (cases_lt (k / WORD) (n / WORD)) (cases_lt (n / WORD) (k / WORD))
  where
    elsewhere : k / WORD ≢ n / WORD → has (get_or (set words (n / WORD) m) (k / WORD) 0) (k % WORD) ≡ has (get_or words (k / WORD) 0) (k % WORD)
    elsewhere differs = ap (λ v. has v (k % WORD)) (get_or-set_other words (n / WORD) (k / WORD) m 0 differs)

    by_word : (k / WORD < n / WORD) ⊎ (n / WORD ≤ k / WORD) → (n / WORD < k / WORD) ⊎ (k / WORD ≤ n / WORD)
        → has (get_or (set words (n / WORD) m) (k / WORD) 0) (k % WORD) ≡ has (get_or words (k / WORD) 0) (k % WORD)
    by_word (inl below) _ = elsewhere (λ e. omega arith)
    by_word _ (inl above) = elsewhere (λ e. omega arith)
    by_word (inr le) (inr ge) =
        let here : k / WORD ≡ n / WORD = omega arith in
        let bit : k % WORD ≢ n % WORD = λ e. other (omega arith) in
        ap (λ w. has (get_or (set words (n / WORD) m) w 0) (k % WORD)) here
        ∙ (ap (λ v. has v (k % WORD)) (get_or-set_same words (n / WORD) m 0 within)
        ∙ (same (k % WORD) bit ∙ ap (λ w. has (get_or words w 0) (k % WORD)) (sym here)))

-- the words of a vector to which empty ones were added
pub words_grown : (old new : List ℕ) (n : ℕ) → length new ≡ n → ((k d : ℕ) → k < n → k < length old → get_or new k d ≡ get_or old k d)
    → ((k d : ℕ) → length old ≤ k → k < n → get_or new k d ≡ 0) → length old ≤ n → (w : ℕ) → get_or new w 0 ≡ get_or old w 0
words_grown old new n is kept added more w = by_place (cases_lt w (length old)) (cases_lt w n)
  where
    by_place : (w < length old) ⊎ (length old ≤ w) → (w < n) ⊎ (n ≤ w) → get_or new w 0 ≡ get_or old w 0
    by_place (inl lt) _ = kept w 0 (omega (arith, lt, more)) lt
    by_place (inr ge) (inl lt) = added w 0 ge lt ∙ sym (get_or_past old w 0 ge)
    by_place (inr ge) (inr ge') = get_or_past new w 0 (omega (arith, ge', is)) ∙ sym (get_or_past old w 0 ge)

-- the same words, the same numbers
pub same_words : (words words' : List ℕ) (n : ℕ) → ((w : ℕ) → get_or words' w 0 ≡ get_or words w 0) → is_in words' n ≡ is_in words n
unfolding is_in
same_words words words' n same = ap (λ v. has v (n % WORD)) (same (n / WORD))

-- of an empty word no number is in
pub empty_word : (words : List ℕ) (n : ℕ) → has_none (get_or words (n / WORD) 0) ≡ true → is_in words n ≡ false
unfolding is_in
empty_word words n none = ap (λ v. has v (n % WORD)) (is_zero _ none) ∙ nobody (n % WORD)

-- nor is one past the last word
pub past_end : (words : List ℕ) (n : ℕ) → length words ≤ n / WORD → is_in words n ≡ false
unfolding is_in
past_end words n past = ap (λ v. has v (n % WORD)) (get_or_past words (n / WORD) 0 past) ∙ nobody (n % WORD)

-- so a number that is in the set stands in one of the words
pub in_within : (words : List ℕ) (t : ℕ) → is_in words t ≡ true → t < WORD * length words
in_within words t there = ⊎_elim (λ lt. lt) (λ past. let away = past_end words t (omega (arith, past)) in let here = there in absurd cc) (cases_lt t (WORD * length words))

-- what is left of a word has the numbers from the first one on
in_word : (words : List ℕ) (n c : ℕ) → n % WORD + c < WORD → is_in words (n + c) ≡ has (left_of_word words n) c
unfolding is_in left_of_word
in_word words n c within =
    let word : (n + c) / WORD ≡ n / WORD = omega arith in
    let bit : (n + c) % WORD ≡ n % WORD + c = omega arith in
    ap (λ w. has (get_or words w 0) ((n + c) % WORD)) word
    ∙ (ap (has (get_or words (n / WORD) 0)) bit ∙ sym (has_shifted (get_or words (n / WORD) 0) (n % WORD) c))

-- if nothing is left of a word, no number of it from there on is in
pub none_left : (words : List ℕ) (n : ℕ) → has_none (left_of_word words n) ≡ true → (k : ℕ) → n ≤ k → k / WORD ≡ n / WORD → is_in words k ≡ false
none_left words n none k le word =
    let there : n + (k - n) ≡ k = omega arith in
    ap (is_in words) (sym there) ∙ (in_word words n (k - n) (omega arith) ∙ (ap (λ m. has m (k - n)) (is_zero _ none) ∙ nobody (k - n)))

-- a bit that is left stands within the word
pub left_within : (words : List ℕ) (n c : ℕ) → get_or words (n / WORD) 0 < 2 ^ WORD_BITS → has (left_of_word words n) c ≡ true → n % WORD + c < WORD
unfolding left_of_word
left_within words n c fits there = by_place (cases_lt (n % WORD + c) WORD)
  where
    by_place : (n % WORD + c < WORD) ⊎ (WORD ≤ n % WORD + c) → n % WORD + c < WORD
    by_place (inl within) = within
    by_place (inr past) =
        let away : has (get_or words (n / WORD) 0 / 2 ^ (n % WORD)) c ≡ false =
        has_shifted (get_or words (n / WORD) 0) (n % WORD) c ∙ none_past_word (get_or words (n / WORD) 0) (n % WORD + c) fits past
        in
        absurd cc

-- the first bit that is left is the first number from there on
pub first_left : (words : List ℕ) (n c : ℕ) → Some c ≡ least (has (left_of_word words n)) WORD_BITS → get_or words (n / WORD) 0 < 2 ^ WORD_BITS
    → has (left_of_word words n) c ≡ true → IsFirst (is_in words) n (n + c)
first_left words n c found fits there =
    let within : n % WORD + c < WORD = left_within words n c fits there in
    record {
      after = omega arith;
      passes = in_word words n c within ∙ there;
      none_before = λ k le lt.
          let e : n + (k - n) ≡ k = omega arith in
          ap (is_in words) (sym e)
          ∙ (in_word words n (k - n) (omega arith) ∙ least_before (has (left_of_word words n)) WORD_BITS c (sym found) (k - n) (omega arith));
    }

-- nothing is left of a word past the end
pub left_past : (words : List ℕ) (n : ℕ) → length words ≤ n / WORD → has_none (left_of_word words n) ≡ true
unfolding left_of_word
left_past words n past = ap (λ m. has_none (m / 2 ^ (n % WORD))) (get_or_past words (n / WORD) 0 past) ∙ ap has_none (zero-div (2 ^ (n % WORD)))

-- of a word that is not empty something is left from its first number on
pub left_whole : (words : List ℕ) (w : ℕ) → left_of_word words (w * WORD) ≡ get_or words w 0
unfolding left_of_word
left_whole words w =
    let word : w * WORD / WORD ≡ w = omega arith in
    let bit : w * WORD % WORD ≡ 0 = omega arith in
    ap (λ v. get_or words v 0 / 2 ^ (w * WORD % WORD)) word ∙ (ap (λ b. get_or words w 0 / 2 ^ b) bit ∙ div-one (get_or words w 0))

-- none below a number if none is left of the word before
pub none_later : (words : List ℕ) (from at : ℕ) → ((k : ℕ) → from ≤ k → k < at → is_in words k ≡ false)
    → has_none (left_of_word words at) ≡ true → (k : ℕ) → from ≤ k → k < (at / WORD + 1) * WORD → is_in words k ≡ false
none_later words from at none left k le lt = ⊎_elim (λ lt'. none k le lt') (λ ge. none_left words at left k ge (omega (arith, lt, ge))) (cases_lt k at)

-- the first from a place on, if none is before that place
pub first_later : (test : ℕ → Bool) (from at n : ℕ) → IsFirst test at n → from ≤ at
    → ((k : ℕ) → from ≤ k → k < at → test k ≡ false) → IsFirst test from n
first_later test from at n first le none =
    record {
      after = omega (arith, first.after);
      passes = first.passes;
      none_before = λ k ge lt. by_place k ge lt (cases_lt k at);
    }
  where
    by_place : (k : ℕ) → from ≤ k → k < n → (k < at) ⊎ (at ≤ k) → test k ≡ false
    by_place k ge lt (inl lt') = none k ge lt'
    by_place k ge lt (inr ge') = first.none_before k ge' lt

-- none from a number on, if the words end before the next
pub none_past : (words : List ℕ) (from at : ℕ) → ((k : ℕ) → from ≤ k → k < at → is_in words k ≡ false)
    → length words ≤ at / WORD → IsNone (is_in words) from
none_past words from at none past = λ k ge. by_place k ge (cases_lt k at)
  where
    by_place : (k : ℕ) → from ≤ k → (k < at) ⊎ (at ≤ k) → is_in words k ≡ false
    by_place k ge (inl lt) = none k ge lt
    by_place k ge (inr ge') = past_end words k (omega (arith, past, ge'))
