-- No byte of a sentence about a refusal is a quotation mark, a backslash, or below a space.
use Rattle.std.proofs.Common.{◌≡◌, ◌∙◌, refl, true, false, Bool, cond, if◌then◌else◌, ◌&&◌, ◌||◌, not, nat_lt, ℕ, zero, suc, ◌-◌, ◌/◌, ◌%◌, ◌==◌, ◌<◌, List, [], ◌∷◌, ◌++◌, arith, mod-lt}
use Rattle.std.specs.Prelude.{decimal}
use Rattle.std.specs.Fmt.{digit_glyph, digits, digits_onto}
use Rattle.std.specs.List.{list_all}
use Rattle.std.proofs.lemmas.Bool.Decides.{nat_tests}
use Rattle.std.proofs.lemmas.List.Folds.{list_all-append}
use Rattle.gs_sentences.specs.Shared.{at_text}
use Rattle.gs_sentences.specs.Tails.{tail_sentence}
use Rattle.gs_sentences.specs.Words.{said}
use Rattle.gs_sentences.specs.declared.tail.Tail.{Tail}
use Rattle.gs_sentences.specs.declared.tail.Tail.TheVariants as tails
use Rattle.gs_sentences.specs.declared.words.Words.{Words}
use Rattle.gs_sentences.specs.declared.words.Words.TheVariants as words

-- such a byte
abbrev pub is_spoken : ℕ → Bool
is_spoken x = not (((x == 34) || (x == 92)) || nat_lt x 32)

-- these bytes
abbrev spoken : List ℕ → Bool
spoken xs = list_all is_spoken xs

more : (xs ys : List ℕ) → spoken xs ≡ true → spoken ys ≡ true → spoken (xs ++ ys) ≡ true
more xs ys p q = list_all-append is_spoken xs ys ∙ (λ i. p i && q i)

-- a digit is, and so is a number
glyph : (n : ℕ) → is_spoken (digit_glyph false (n % 10)) ≡ true
glyph n = by_digit (n % 10) (mod-lt n (omega arith))
  where
    by_digit : (d : ℕ) → d < 10 → is_spoken (digit_glyph false d) ≡ true
    by_digit d lt = grind (arith, nat_tests, lt)

spelled : (k n : ℕ) (acc : List ℕ) → spoken acc ≡ true → spoken (digits_onto k 10 false n acc) ≡ true
spelled zero n acc h = h
spelled (suc k) n acc h = by_last (n / 10 == 0) (digit_glyph false (n % 10) ∷ acc) (digits_onto k 10 false (n / 10) (digit_glyph false (n % 10) ∷ acc)) one (spelled k (n / 10) (digit_glyph false (n % 10) ∷ acc) one)
  where
    one : spoken (digit_glyph false (n % 10) ∷ acc) ≡ true
    one = λ i. glyph n i && h i

    by_last : (b : Bool) (xs ys : List ℕ) → spoken xs ≡ true → spoken ys ≡ true → spoken (cond b xs ys) ≡ true
    by_last true xs ys p q = p
    by_last false xs ys p q = q

number : (n : ℕ) → spoken (decimal n) ≡ true
unfolding digits
number n = spelled 64 n [] refl

-- a number behind others
numbered : (w : List ℕ) (n : ℕ) → spoken w ≡ true → spoken (w ++ decimal n) ≡ true
numbered w n p = more w (decimal n) p (number n)

-- words and a number, and words behind them
first : (w : Words) (n : ℕ) → spoken (said w) ≡ true → spoken (said w ++ decimal n) ≡ true
first w n p = numbered (said w) n p

worded : (w v : Words) (n : ℕ) → spoken (said w) ≡ true → spoken (said v) ≡ true → spoken ((said w ++ decimal n) ++ said v) ≡ true
worded w v n p q = more (said w ++ decimal n) (said v) (first w n p) q

-- more of them
then_number : (xs : List ℕ) (n : ℕ) (v : Words) → spoken xs ≡ true → spoken (said v) ≡ true → spoken ((xs ++ decimal n) ++ said v) ≡ true
then_number xs n v p q = more (xs ++ decimal n) (said v) (numbered xs n p) q

-- the line and the place of an entry behind words
at_spoken : (l p : ℕ) → spoken (at_text l p) ≡ true
unfolding said
at_spoken l p = more ((decimal l ++ said words.Entry) ++ decimal p) (said words.Close) (numbered (decimal l ++ said words.Entry) p (more (decimal l) (said words.Entry) (number l) refl)) refl

placed : (w : List ℕ) (l p : ℕ) → spoken w ≡ true → spoken (w ++ at_text l p) ≡ true
placed w l p is = more w (at_text l p) is (at_spoken l p)

since : (xs : List ℕ) (v : Words) (l p : ℕ) → spoken xs ≡ true → spoken (said v) ≡ true → spoken (xs ++ (said v ++ at_text l p)) ≡ true
since xs v l p one two = more xs (said v ++ at_text l p) one (placed (said v) l p two)

-- one of two
either : (b : Bool) (xs ys : List ℕ) → spoken xs ≡ true → spoken ys ≡ true → spoken (if b then xs else ys) ≡ true
either true xs ys p q = p
either false xs ys p q = q

pub sentence_spoken : (t : Tail) → list_all is_spoken (tail_sentence t) ≡ true
unfolding said
sentence_spoken (tails.Part from to) = refl
sentence_spoken (tails.NoThread t) = first words.ThereNeverWasAThread t refl
sentence_spoken (tails.Dead t l p) = placed (((said words.Thread ++ decimal t) ++ said words.Died) ++ said words.OnLine) l p (more ((said words.Thread ++ decimal t) ++ said words.Died) (said words.OnLine) (worded words.Thread words.Died t refl refl) refl)
sentence_spoken (tails.Unknown t) = first words.TheAgentKnowsOfNoThread t refl
sentence_spoken (tails.NeverPlaced t) = worded words.Thread words.WasNeverPlaced t refl refl
sentence_spoken (tails.Off t l p) = placed ((said words.Thread ++ decimal t) ++ said words.IsOnNoCpuSinceLine) l p (worded words.Thread words.IsOnNoCpuSinceLine t refl refl)
sentence_spoken (tails.Runs t l p) = since ((said words.Thread ++ decimal t) ++ said words.MayRun) words.SinceLine l p (worded words.Thread words.MayRun t refl refl) refl
sentence_spoken (tails.BadMask cpus m) = either (m == 0) (said words.TheMaskNamesNoCpu) (((said words.Mask ++ decimal m) ++ said words.NamesACpuPastTheLastWhichIs) ++ decimal (cpus - 1)) refl (numbered ((said words.Mask ++ decimal m) ++ said words.NamesACpuPastTheLastWhichIs) (cpus - 1) (worded words.Mask words.NamesACpuPastTheLastWhichIs m refl refl))
sentence_spoken (tails.BadCpu k cpus) = numbered ((said words.ThereIsNoCpu ++ decimal k) ++ said words.TheLastIs) (cpus - 1) (worded words.ThereIsNoCpu words.TheLastIs k refl refl)
sentence_spoken (tails.Active f k g l p) = placed ((((said words.Generation ++ decimal g) ++ said words.IsActiveOnCpu) ++ decimal k) ++ said words.SinceLine) l p (then_number ((said words.Generation ++ decimal g) ++ said words.IsActiveOnCpu) k words.SinceLine (worded words.Generation words.IsActiveOnCpu g refl refl) refl)
sentence_spoken (tails.Attaches f g l p) = placed (((said words.Generation ++ decimal g) ++ said words.Attaches) ++ said words.SinceLine) l p (more ((said words.Generation ++ decimal g) ++ said words.Attaches) (said words.SinceLine) (worded words.Generation words.Attaches g refl refl) refl)
sentence_spoken (tails.Left f l p) = placed (said words.ThereIsNoAgent ++ said words.SinceLine) l p refl
sentence_spoken (tails.NoPage g) = worded words.Generation words.AttachesAndWasNotGivenItsLastPage g refl refl
sentence_spoken (tails.Page g l) = numbered ((said words.Generation ++ decimal g) ++ said words.WasGivenItsLastPageOnLine) l (worded words.Generation words.WasGivenItsLastPageOnLine g refl refl)
sentence_spoken (tails.Held k l p) = since (said words.TheOtherClassHoldsCpu ++ decimal k) words.SinceLine l p (first words.TheOtherClassHoldsCpu k refl) refl
sentence_spoken (tails.NeverTaken k) = first words.TheOtherClassNeverTookCpu k refl
sentence_spoken (tails.Given k l p) = placed ((said words.TheOtherClassGaveCpu ++ decimal k) ++ said words.BackOnLine) l p (worded words.TheOtherClassGaveCpu words.BackOnLine k refl refl)
sentence_spoken (tails.Spent t l p) = since ((said words.Thread ++ decimal t) ++ said words.HasItsLastSequenceNumber) words.SinceLine l p (worded words.Thread words.HasItsLastSequenceNumber t refl refl) refl
sentence_spoken (tails.Generations l p) = placed (said words.NoGenerationFollowsThat ++ said words.OfLine) l p refl
sentence_spoken (tails.Tids l p) = placed (said words.NoTidFollowsThat ++ said words.OfLine) l p refl
sentence_spoken (tails.Entries n limit) = then_number ((said words.TheJournalHas ++ decimal n) ++ said words.OfAtMost) limit words.EntriesAndTooFewAreLeft (worded words.TheJournalHas words.OfAtMost n refl refl) refl
sentence_spoken (tails.Transactions n limit) = then_number ((said words.ThereAre ++ decimal n) ++ said words.OfAtMost) limit words.TransactionsAndTooFewAreLeft (worded words.ThereAre words.OfAtMost n refl refl) refl
sentence_spoken (tails.Waits k n l) = numbered ((((said words.Transaction ++ decimal n) ++ said words.OfLine) ++ decimal l) ++ said words.WaitsInTheSlotOfCpu) k (then_number ((said words.Transaction ++ decimal n) ++ said words.OfLine) l words.WaitsInTheSlotOfCpu (worded words.Transaction words.OfLine n refl refl) refl)
sentence_spoken (tails.Numbered n) = either (n == 0) (said words.NoTransactionWasStampedYet) (said words.TheLastTransactionHasNumber ++ decimal n) refl (first words.TheLastTransactionHasNumber n refl)
sentence_spoken (tails.Gone l p) = since (said words.TheEnclaveWasTornDown) words.OnLine l p refl refl
