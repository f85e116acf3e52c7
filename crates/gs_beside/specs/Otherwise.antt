-- Policies whose words begin with another word.
use Rattle.std.proofs.Common.{◌≡◌, ℕ, ◌==◌, Bool, true, false, cond, List, [], ◌∷◌, ◌++◌, append-nil, map, filter, codes, decimal, refl, ap, ◌∙◌}
use Rattle.std.specs.List.{All, list_all}
use Rattle.std.proofs.lemmas.List.Splits.{slice_split_at}
use Rattle.gs_policy.specs.declared.any.AnyPolicy.{AnyPolicy}
use Rattle.gs_policy.specs.declared.any.AnyPolicy.TheVariants.{FirstCome, TwoClass}
use Rattle.gs_script.specs.Words.{is_word, words_of}
use Rattle.gs_script.specs.Rows.{is}
use Rattle.gs_script.specs.Naming.{Naming}
use Rattle.gs_script.specs.Any.{policy_forms, policy_words}
use Rattle.gs_script.specs.Decimal.{IsBlack, decimal_black, decimal_word, one_word}
use Rattle.gs_beside.specs.declared.beside.Beside.{Beside}
use Rattle.gs_beside.specs.declared.beside.Beside.TheVariants as either
use Rattle.gs_beside.specs.Own.{BeginsOtherwise, Own, is_free, leaves}
use Rattle.gs_beside.specs.Beside.{beside_words, spaced}
use Rattle.gs_beside.specs.Said.{of_free, unlike}

-- a word in front of numbers
first_word : (w rest : List ℕ) → All IsBlack w → is_word w ≡ true → words_of (w ++ 32 ∷ rest) ≡ w ∷ words_of rest
first_word w rest black some = ap (filter is_word) (slice_split_at (λ b. b == 32) w 32 rest black refl) ∙ ap (λ (b : Bool). cond b (w ∷ words_of rest) (words_of rest)) some

pub spaced_words : (w ns : List ℕ) → All IsBlack w → is_word w ≡ true → words_of (w ++ spaced ns) ≡ w ∷ map decimal ns
spaced_words w [] black some = ap words_of (append-nil w) ∙ one_word w black some
spaced_words w (n ∷ ns) black some = first_word w (decimal n ++ spaced ns) black some ∙ ap (λ (ws : List (List ℕ)). w ∷ ws) (spaced_words (decimal n) ns (decimal_black n) (decimal_word n))

-- whether a word is `first`, and whether it is `two`
leaves_both : (word : List ℕ) (a b : Bool) → is word (codes "first") ≡ a → is word (codes "two") ≡ b → list_all (leaves word) policy_forms ≡ true → (a ≡ false) × (b ≡ false)
leaves_both word true b e f h = absurd (cc)
leaves_both word false true e f h = absurd (cc)
leaves_both word false false e f h = (refl, refl)

-- the two that there are begin with `first` or `two`, so with another word than one that is free beside them
pub any_otherwise : {word : List ℕ} → is_free policy_forms word ≡ true → (p : AnyPolicy) → BeginsOtherwise word (policy_words p)
any_otherwise {word} free p =
    let both = leaves_both word (is word (codes "first")) (is word (codes "two")) refl refl (of_free policy_forms word free).left in
    by_policy p (unlike word (codes "first") both.0) (unlike word (codes "two") both.1)
  where
    by_policy : (p : AnyPolicy) → is (codes "first") word ≡ false → is (codes "two") word ≡ false → BeginsOtherwise word (policy_words p)
    by_policy (FirstCome p) first two = record { first = codes "first"; more = []; split = refl; other = first }
    by_policy (TwoClass p) first two = record { first = codes "two"; more = words_of (decimal p.slice); split = refl; other = two }

-- those of a policy of one's own beside others, if its word is another one, and those of the others
pub beside_otherwise : {A B : Type 0} (own : Own A) (others : Naming B) {word : List ℕ} → is_free others.forms own.word ≡ true → is own.word word ≡ false → ((p : B) → BeginsOtherwise word (others.words p))
    → (p : Beside A B) → BeginsOtherwise word (beside_words own others p)
beside_otherwise own others free other rest (either.Other p) = rest p
beside_otherwise own others free other rest (either.Own p) =
    let f = of_free others.forms own.word free in
    record { first = own.word; more = map decimal (own.numbers p); split = spaced_words own.word (own.numbers p) f.black f.some; other = other }
