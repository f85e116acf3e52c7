-- Lines that begin and go on.
use Rattle.std.proofs.Common.{◌≡◌, refl, ap, sym, subst, ◌∙◌, ℕ, ◌==◌, nat_eq, Bool, true, false, List, [], ◌∷◌, ◌++◌, length, arith}
use Rattle.std.specs.List.{onto_first}
use Rattle.std.proofs.lemmas.List.Splits.{length-slice_split, slice_split-cons_no, slice_split-cons_yes}
use Rattle.gs_script.specs.Words.{lines_of}
use Rattle.gs_serve.specs.Source.{IsLine}

some_lines : (bytes : List ℕ) → lines_of bytes ≡ [] → ⊥
some_lines bytes e = omega (arith, ap length e, length-slice_split (λ b. b == 10) bytes)

tail_one : (c : ℕ) (cs : List ℕ) (xs : List (List ℕ)) → (xs ≡ [] → ⊥) → onto_first c xs ≡ (c ∷ cs) ∷ [] → xs ≡ cs ∷ []
tail_one c cs [] some e = absurd (some refl)
tail_one c cs (x ∷ xs) some e = cc

-- a line is one from its second byte on, too
first_no : (c : ℕ) (cs : List ℕ) → IsLine (c ∷ cs) → (nat_eq c 10 ≡ false) × IsLine cs
first_no c cs h = by_test (nat_eq c 10) refl
  where
    by_test : (b : Bool) → nat_eq c 10 ≡ b → (nat_eq c 10 ≡ false) × IsLine cs
    by_test true e = absurd (let f : [] ∷ lines_of cs ≡ (c ∷ cs) ∷ [] = sym (slice_split-cons_yes (λ b. b == 10) c cs e) ∙ h in cc)
    by_test false e = (e, tail_one c cs (lines_of cs) (some_lines cs) (sym (slice_split-cons_no (λ b. b == 10) c cs e) ∙ h))

-- a line that has begun goes on up to the next newline
pub goes_on : (begun rest line : List ℕ) (ls : List (List ℕ)) → IsLine begun → lines_of rest ≡ line ∷ ls → lines_of (begun ++ rest) ≡ (begun ++ line) ∷ ls
goes_on [] rest line ls b h = h
goes_on (c ∷ cs) rest line ls b h =
    let p = first_no c cs b in slice_split-cons_no (λ b. b == 10) c (cs ++ rest) p.0 ∙ ap (onto_first c) (goes_on cs rest line ls p.1 h)

-- what stands before the first newline is a line
first_more : (c : ℕ) (cs line : List ℕ) (xs ls : List (List ℕ)) → lines_of cs ≡ xs → nat_eq c 10 ≡ false → onto_first c xs ≡ line ∷ ls → ((x : List ℕ) (ys : List (List ℕ)) → xs ≡ x ∷ ys → IsLine x) → IsLine line
first_more c cs line [] ls e other h behind = absurd (some_lines cs e)
first_more c cs line (x ∷ xs) ls e other h behind =
    let same : c ∷ x ≡ line = cc in subst IsLine same (slice_split-cons_no (λ b. b == 10) c x other ∙ ap (onto_first c) (behind x xs refl))

first_at : (c : ℕ) (cs line : List ℕ) (ls : List (List ℕ)) (b : Bool) → nat_eq c 10 ≡ b → lines_of (c ∷ cs) ≡ line ∷ ls → ((x : List ℕ) (ys : List (List ℕ)) → lines_of cs ≡ x ∷ ys → IsLine x) → IsLine line
first_at c cs line ls true e h behind =
    let f : [] ∷ lines_of cs ≡ line ∷ ls = sym (slice_split-cons_yes (λ b. b == 10) c cs e) ∙ h in let none : [] ≡ line = cc in subst IsLine none refl
first_at c cs line ls false e h behind = first_more c cs line (lines_of cs) ls refl e (sym (slice_split-cons_no (λ b. b == 10) c cs e) ∙ h) behind

pub first_is_line : (bytes line : List ℕ) (ls : List (List ℕ)) → lines_of bytes ≡ line ∷ ls → IsLine line
first_is_line [] line ls h = let f : [] ∷ [] ≡ line ∷ ls = h in let none : [] ≡ line = cc in subst IsLine none refl
first_is_line (c ∷ cs) line ls h = first_at c cs line ls (nat_eq c 10) refl h (λ x ys e. first_is_line cs x ys e)
