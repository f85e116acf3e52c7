-- Names as they are kept.
use Rattle.std.proofs.Common.{◌≡◌, suc, ℕ, ◌+◌, ◌-◌, ◌<◌, ◌≤◌, List, ◌++◌, ◌∷◌, [], length, get_or, take, drop, replicate, refl, ap, sym, ◌∙◌, append_assoc, arith, length-append}
use Rattle.std.proofs.Math.ListN.{set}
use Rattle.std.proofs.lemmas.List.{length-replicate, length-take-le, set-append_right, take_more, take-replicate, replicate-append-replicate}
use Rattle.std.proofs.Math.Seq.{take-append-add}
use Rattle.gs_layout.specs.declared.name.TheConstants.{MOST_NAME_LEN}
use Rattle.gs_layout.specs.Name.{name_field}
use Rattle.gs_layout.specs.Spelling.{name_bytes, padding, round_up}
use Rattle.gs_layout.specs.declared.wire.TheConstants.{NAME_AT}

-- one more byte of a name, and one zero fewer
pub kept_more : (text : List ℕ) (n : ℕ) → n < length text → length text ≤ MOST_NAME_LEN
    → set (take n text ++ replicate (MOST_NAME_LEN - n) 0) n (get_or text n 0) ≡ take (n + 1) text ++ replicate (MOST_NAME_LEN - (n + 1)) 0
kept_more text n low few =
    let byte : ℕ = get_or text n 0 in
    let left : ℕ = MOST_NAME_LEN - (n + 1) in
    let count : MOST_NAME_LEN - n ≡ suc left = omega (arith, low, few) in
    let zeros : replicate (MOST_NAME_LEN - n) 0 ≡ 0 ∷ replicate left 0 = ap (λ (k : ℕ). replicate k 0) count in
    let start : n - n ≡ 0 = omega arith in
    set-append_right (take n text) (replicate (MOST_NAME_LEN - n) 0) n n byte (length-take-le n text (omega (arith, low))) (omega arith)
    ∙ (ap (λ (l : List ℕ). take n text ++ set l (n - n) byte) zeros
    ∙ (ap (λ (k : ℕ). take n text ++ set (0 ∷ replicate left 0) k byte) start
    ∙ (sym (append_assoc (take n text) (byte ∷ []) (replicate left 0))
    ∙ ap (λ (l : List ℕ). l ++ replicate left 0) (sym (take_more text n 0 low)))))

-- a name and zeros behind it, cut where its bytes in a message end
pub cut_name : (text zeros : List ℕ) (n m : ℕ) → length text + n ≤ MOST_NAME_LEN + m → length text ≤ MOST_NAME_LEN → zeros ≡ replicate m 0
    → take (length text + n) (name_field text ++ zeros) ≡ text ++ replicate n 0
cut_name text zeros n m fits few is =
    ap (λ (l : List ℕ). take (length text + n) (name_field text ++ l)) is
    ∙ (ap (λ (l : List ℕ). take (length text + n) l) (append_assoc text (replicate (MOST_NAME_LEN - length text) 0) (replicate m 0))
    ∙ (ap (λ (l : List ℕ). take (length text + n) (text ++ l)) (replicate-append-replicate (MOST_NAME_LEN - length text) m 0)
    ∙ (take-append-add text (replicate (MOST_NAME_LEN - length text + m) 0) n
    ∙ ap (λ (l : List ℕ). text ++ l) (take-replicate n (MOST_NAME_LEN - length text + m) 0 (omega (arith, fits, few))))))

-- how many bytes a name and its zeros have
pub length-name_bytes : (text : List ℕ) → length (name_bytes text) ≡ round_up (NAME_AT + length text) - NAME_AT
length-name_bytes text =
    omega (arith, length-append text (padding (length text)), length-replicate {A = ℕ} (round_up (NAME_AT + length text) - (NAME_AT + length text)) 0)

-- such a cut, written in front of other bytes
pub name_written : (text padded new out : List ℕ) (n m : ℕ) → padded ≡ name_field text → length text ≤ MOST_NAME_LEN → n ≤ MOST_NAME_LEN + m
    → n ≡ round_up (NAME_AT + length text) - NAME_AT → new ≡ take n (padded ++ replicate m 0)
    → new ++ drop n out ≡ name_bytes text ++ drop (length (name_bytes text)) out
name_written text padded new out n m is few fits count made =
    let k : ℕ = round_up (NAME_AT + length text) - (NAME_AT + length text) in
    let all : length text + k ≡ n = omega (arith, count) in
    let size : length (name_bytes text) ≡ n = length-name_bytes text ∙ sym count in
    let front : new ≡ name_bytes text =
    made
    ∙ (ap (λ (l : List ℕ). take n (l ++ replicate m 0)) is
    ∙ (ap (λ (j : ℕ). take j (name_field text ++ replicate m 0)) (sym all) ∙ cut_name text (replicate m 0) k m (omega (arith, all, fits)) few refl)) in
    ap (λ (l : List ℕ). l ++ drop n out) front ∙ ap (λ (j : ℕ). name_bytes text ++ drop j out) (sym size)
