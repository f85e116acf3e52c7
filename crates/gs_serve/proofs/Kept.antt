-- What is kept of a line, and what is left of a buffer.
use Rattle.std.proofs.Common.{◌≡◌, refl, ap, sym, ◌∙◌, ℕ, suc, ◌+◌, ◌-◌, ◌≤◌, ◌<◌, zero, min, List, [], ◌∷◌, ◌++◌, append_assoc, length, length-append, length-drop, take, drop, arith, Option, None, Some}
use Rattle.std.proofs.lemmas.List.{drop-drop, drop-take, length-take-le, take_min}
use Rattle.std.proofs.Math.Seq.{take-append-add, drop-append-add}
use Rattle.std.specs.Io.KnownBytes.{Consumes, IsAtEnd, prepend_known}

-- bytes behind others, of which so many are kept
pub room_kept : (bytes more : List ℕ) (n : ℕ) → length bytes ≤ n → take n (bytes ++ more) ≡ bytes ++ take (min (n - length bytes) (length more)) more
room_kept bytes more n le =
    let room : n ≡ length bytes + (n - length bytes) = omega (arith, le) in
    ap (λ k. take k (bytes ++ more)) room ∙ take-append-add bytes more (n - length bytes) ∙ ap (λ xs. bytes ++ xs) (sym (take_min (n - length bytes) more))

-- what is kept of a line goes on as the line does
pub kept_more : (n : ℕ) (begun more : List ℕ) → take n (take n begun ++ more) ≡ take n (begun ++ more)
kept_more zero begun more = refl
kept_more (suc n) [] more = refl
kept_more (suc n) (b ∷ begun) more = ap (λ xs. b ∷ xs) (kept_more n begun more)

-- if nothing is kept of a line, there is none
pub none_kept : (n : ℕ) (line : List ℕ) → 0 < n → length (take n line) ≡ 0 → line ≡ []
none_kept n [] some e = refl
none_kept zero (b ∷ line) some e = absurd (omega (arith, some))
none_kept (suc n) (b ∷ line) some e = absurd (omega (arith, e))

-- what is left of a part of a buffer, behind so many bytes of it
window_left : (s e k : ℕ) (buffer : List ℕ) → s + k ≤ e → take (e - (s + k)) (drop (s + k) buffer) ≡ drop k (take (e - s) (drop s buffer))
window_left s e k buffer le =
    let rest : e - s ≡ k + (e - (s + k)) = omega (arith, le) in
    ap (take (e - (s + k))) (sym (drop-drop k s buffer)) ∙ sym (drop-take k (e - (s + k)) (drop s buffer)) ∙ ap (λ n. drop k (take n (drop s buffer))) (sym rest)

behind_line : (line left : List ℕ) → drop (length line + 1) (line ++ 10 ∷ left) ≡ left
behind_line line left = drop-append-add line (10 ∷ left) 1

pub line_fits : (s e : ℕ) (buffer line left : List ℕ) → s ≤ e → e ≤ length buffer → take (e - s) (drop s buffer) ≡ line ++ 10 ∷ left → s + (length line + 1) ≤ e
line_fits s e buffer line left order within cut =
    let few : e - s ≤ length (drop s buffer) = omega (arith, order, within, length-drop s buffer) in
    omega (arith, order, ap length cut, length-append line (10 ∷ left), length-take-le (e - s) (drop s buffer) few)

pub rest_left : (s e : ℕ) (buffer line left : List ℕ) → s ≤ e → e ≤ length buffer → take (e - s) (drop s buffer) ≡ line ++ 10 ∷ left → take (e - (s + (length line + 1))) (drop (s + (length line + 1)) buffer) ≡ left
rest_left s e buffer line left order within cut =
    window_left s e (length line + 1) buffer (line_fits s e buffer line left order within cut) ∙ ap (drop (length line + 1)) cut ∙ behind_line line left

pub none_left : (e : ℕ) (buffer : List ℕ) → take (e - e) (drop e buffer) ≡ []
none_left e buffer = let same : e - e ≡ 0 = omega arith in ap (λ n. take n (drop e buffer)) same

-- bytes that stand first in a buffer are taken of all that is there
pub front_taken : (front left : List ℕ) (known : Option (List ℕ)) → Consumes (prepend_known (front ++ left) known) (prepend_known left known) front
front_taken front left None = tt
front_taken front left (Some x) = append_assoc front left x

pub end_known : (known : Option (List ℕ)) (left : List ℕ) → left ≡ [] → IsAtEnd known → IsAtEnd (prepend_known left known)
end_known None left e h = tt
end_known (Some x) left e h = ap (λ xs. xs ++ x) e ∙ h
