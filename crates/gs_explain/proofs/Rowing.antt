-- The last bytes of a row.
use Rattle.std.proofs.Common.{◌≡◌, ◌∙◌, ◌≤◌, ◌+◌, ◌-◌, ◌++◌, [], ap, sym, subst, ℕ, List, append-nil, append_assoc, arith, drop, length, length-append}
use Rattle.std.proofs.Math.Seq.{drop-append_seam}
use Rattle.std.specs.Str.{IsUtf8}
use Rattle.gs_explain.specs.Retold.{EndsIn}

-- the last bytes of a row are what was told last
pub last_told : (told : List ℕ) (len : ℕ) (row : List ℕ) → EndsIn told len row → drop (length row - len) row ≡ told
last_told told len row e =
    let at : length row - len ≡ length e.front = omega (arith, ap length e.is, length-append e.front told, e.size) in
    ap (λ (n : ℕ). drop n row) at ∙ (ap (drop (length e.front)) e.is ∙ drop-append_seam e.front told)

-- and they are text
pub last_is_text : (told : List ℕ) (len : ℕ) (row : List ℕ) → EndsIn told len row → IsUtf8 (drop (length row - len) row)
last_is_text told len row e = subst IsUtf8 (sym (last_told told len row e)) e.utf8

-- a row that is nothing but that
pub told_alone : (told before row : List ℕ) (len : ℕ) → row ≡ told ++ before → before ≡ [] → len ≡ length row → IsUtf8 row → length row ≤ length before + 440 → EndsIn told len row
told_alone told before row len is none size utf8 short =
    let same : row ≡ told = is ∙ (ap (λ (t : List ℕ). told ++ t) none ∙ append-nil told) in
    record { front = []; is = same; size = size ∙ ap length same; utf8 = subst IsUtf8 same utf8; short = omega (arith, ap length same, ap length none, short) }

-- a row with more in front
pub ends_more : (told more row new : List ℕ) (len : ℕ) → EndsIn told len row → new ≡ more ++ row → EndsIn told len new
ends_more told more row new len e is =
    record { front = more ++ e.front; is = is ∙ (ap (λ (t : List ℕ). more ++ t) e.is ∙ sym (append_assoc more e.front told)); size = e.size; utf8 = e.utf8; short = e.short }

-- it has at least as many bytes as that
pub last_fits : (told : List ℕ) (len : ℕ) (row : List ℕ) → EndsIn told len row → len ≤ length row
last_fits told len row e = omega (arith, ap length e.is, length-append e.front told, e.size)

-- and that is short
pub last_is_short : (told : List ℕ) (len : ℕ) (row new : List ℕ) → EndsIn told len row → new ≡ drop (length row - len) row → length new ≤ 440
last_is_short told len row new e is = omega (arith, ap length (is ∙ last_told told len row e), e.short)

-- a line put together from its end
pub regroup : (l d s w n b : List ℕ) → l ++ (d ++ (s ++ (w ++ (n ++ b)))) ≡ ((((l ++ d) ++ s) ++ w) ++ n) ++ b
regroup l d s w n b = sym (append_assoc (((l ++ d) ++ s) ++ w) n b ∙ (append_assoc ((l ++ d) ++ s) w (n ++ b) ∙ (append_assoc (l ++ d) s (w ++ (n ++ b)) ∙ append_assoc l d (s ++ (w ++ (n ++ b))))))
