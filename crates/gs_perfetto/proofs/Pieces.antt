-- What is written of a slice, word by word.
use Rattle.std.proofs.Common.{◌≡◌, ap, ◌∙◌, ℕ, List, ◌++◌, append_assoc}

-- two words, each with a number behind it, and two more
pub front_told : (old now new w d v e x l y t : List ℕ) → now ≡ old ++ w ++ d ++ v ++ e → new ≡ now ++ x ++ l ++ y ++ t → new ≡ old ++ ((w ++ (d ++ (v ++ e))) ++ (x ++ (l ++ (y ++ t))))
front_told old now new w d v e x l y t h k = k ∙ (ap (λ a. a ++ x ++ l ++ y ++ t) h ∙ simp append_assoc)

-- two words with numbers, a word, a name and a word, one after another
pub back_told : (old a b c d new w l v p x n y : List ℕ) → a ≡ old ++ w ++ l → b ≡ a ++ v ++ p → c ≡ b ++ x → d ≡ c ++ n → new ≡ d ++ y → new ≡ old ++ (w ++ (l ++ (v ++ (p ++ (x ++ (n ++ y))))))
back_told old a b c d new w l v p x n y e f g h k = k ∙ (ap (λ t. t ++ y) (h ∙ ap (λ t. t ++ n) (g ∙ ap (λ t. t ++ x) (f ∙ ap (λ t. t ++ v ++ p) e))) ∙ simp append_assoc)
