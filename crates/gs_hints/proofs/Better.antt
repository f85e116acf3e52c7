-- One more word.
use denote.Ref.{Bor}
use Rattle.std.proofs.lemmas.Bool.{leb-false, leb-true}
use Rattle.std.proofs.Common.{◌≡◌, ◌≤◌, ◌<◌, ℕ, nat_le, true, false, List, [], ◌∷◌, ◌++◌, Option, None, Some, refl, subst, arith}
use Rattle.std.specs.List.{All, Contains}
use Rattle.std.proofs.lemmas.List.Elements.{All-append, All-cons, All-nil, All-weaker, Contains-append_left, Contains-push}
use Rattle.gs_hints.specs.declared.near.Candidate.{Candidate}
use Rattle.gs_hints.specs.Nearest.{IsBest, distance, is_near, most_edits}

alone : (P : Bor (List ℕ) → Type 0) (x : Bor (List ℕ)) → P x → All P (x ∷ [])
alone P x p = All-cons P x [] p (All-nil P)

-- a word that is not near changes nothing
pub passed_over : (word : List ℕ) (words : List (Bor (List ℕ))) (best : Option Candidate) (other : Candidate) → nat_le other.edits (most_edits word) ≡ false → other.edits ≡ distance word other.word.now
    → IsBest word words best → IsBest word (words ++ other.word ∷ []) best
passed_over word words None other far known all =
    All-append (λ (o : Bor (List ℕ)). is_near word o.now ≡ false) words (other.word ∷ []) all (alone (λ (o : Bor (List ℕ)). is_near word o.now ≡ false) other.word (subst (λ (n : ℕ). nat_le n (most_edits word) ≡ false) known far))
passed_over word words (Some best) other far known (is, (has, near, all)) =
    let more : distance word best.word.now ≤ distance word other.word.now = omega (arith, leb-false other.edits (most_edits word) far, leb-true (distance word best.word.now) (most_edits word) near) in
    let kept : Contains (words ++ other.word ∷ []) best.word = Contains-append_left words (other.word ∷ []) best.word has in
    let least = All-append (λ (o : Bor (List ℕ)). distance word best.word.now ≤ distance word o.now) words (other.word ∷ []) all (alone (λ (o : Bor (List ℕ)). distance word best.word.now ≤ distance word o.now) other.word more) in
    (is, (kept, near, least))

-- a near word is the better one, unless one before it is as near
pub as_near : (word : List ℕ) (words : List (Bor (List ℕ))) (best other : Candidate) → best.edits ≤ other.edits → other.edits ≡ distance word other.word.now → IsBest word words (Some best)
    → IsBest word (words ++ other.word ∷ []) (Some best)
as_near word words best other less known (is, (has, near, all)) =
    let more : distance word best.word.now ≤ distance word other.word.now = omega arith in
    let kept : Contains (words ++ other.word ∷ []) best.word = Contains-append_left words (other.word ∷ []) best.word has in
    let least = All-append (λ (o : Bor (List ℕ)). distance word best.word.now ≤ distance word o.now) words (other.word ∷ []) all (alone (λ (o : Bor (List ℕ)). distance word best.word.now ≤ distance word o.now) other.word more) in
    (is, (kept, near, least))

pub nearer : (word : List ℕ) (words : List (Bor (List ℕ))) (best other : Candidate) → other.edits < best.edits → nat_le other.edits (most_edits word) ≡ true → other.edits ≡ distance word other.word.now
    → IsBest word words (Some best) → IsBest word (words ++ other.word ∷ []) (Some other)
nearer word words best other less near known (is, (has, was_near, all)) =
    let below : (x : Bor (List ℕ)) → distance word best.word.now ≤ distance word x.now → distance word other.word.now ≤ distance word x.now = λ x h. omega arith in
    let least = All-append (λ (o : Bor (List ℕ)). distance word other.word.now ≤ distance word o.now) words (other.word ∷ []) (All-weaker (λ (o : Bor (List ℕ)). distance word best.word.now ≤ distance word o.now) (λ (o : Bor (List ℕ)). distance word other.word.now ≤ distance word o.now) below words all) (alone (λ (o : Bor (List ℕ)). distance word other.word.now ≤ distance word o.now) other.word (omega arith)) in
    (known, (Contains-push words other.word, subst (λ (n : ℕ). nat_le n (most_edits word) ≡ true) known near, least))

pub first_near : (word : List ℕ) (words : List (Bor (List ℕ))) (other : Candidate) → nat_le other.edits (most_edits word) ≡ true → other.edits ≡ distance word other.word.now → IsBest word words None
    → IsBest word (words ++ other.word ∷ []) (Some other)
first_near word words other near known all =
    let low = leb-true other.edits (most_edits word) near in
    let below : (x : Bor (List ℕ)) → is_near word x.now ≡ false → distance word other.word.now ≤ distance word x.now =
    λ x h. omega (arith, low, leb-false (distance word x.now) (most_edits word) h) in
    let least = All-append (λ (o : Bor (List ℕ)). distance word other.word.now ≤ distance word o.now) words (other.word ∷ []) (All-weaker (λ (o : Bor (List ℕ)). is_near word o.now ≡ false) (λ (o : Bor (List ℕ)). distance word other.word.now ≤ distance word o.now) below words all) (alone (λ (o : Bor (List ℕ)). distance word other.word.now ≤ distance word o.now) other.word (omega arith)) in
    (known, (Contains-push words other.word, subst (λ (n : ℕ). nat_le n (most_edits word) ≡ true) known near, least))

-- a near word, if the best one before it is not as near
pub chosen : (word : List ℕ) (words : List (Bor (List ℕ))) (best : Option Candidate) (other : Candidate) → ((b : Candidate) → best ≡ Some b → other.edits < b.edits) → nat_le other.edits (most_edits word) ≡ true
    → other.edits ≡ distance word other.word.now → IsBest word words best → IsBest word (words ++ other.word ∷ []) (Some other)
chosen word words None other less near known all = first_near word words other near known all
chosen word words (Some best) other less near known all = nearer word words best other (less best refl) near known all
