-- A creation's name, copied piece by piece, and the facts of a creation.
use Rattle.std.proofs.Common.{◌≡◌, ℕ, ◌+◌, ◌-◌, ◌≤◌, List, ◌++◌, length, take, drop, replicate, refl, ap, sym, ◌∙◌, append_assoc, arith, inl, inr, length-append}
use Rattle.std.specs.Prelude.{slice_index}
use Rattle.std.proofs.lemmas.Bool.{cases_lt}
use Rattle.std.proofs.Math.Seq.{take-add, take-append-add}
use Rattle.std.proofs.lemmas.List.{append-nil, drop-replicate, drop_at, length-replicate, length-take, replicate-append-replicate, take-replicate, take_all, take_at}
use borrow.Rule.Slice.PartMut.{put_mid}
use Rattle.gs_layout.specs.declared.name.TheConstants.{MOST_NAME_LEN}
use Rattle.gs_layout.specs.declared.wire.TheConstants.{NAME_AT, NAME_LEN_AT}
use Rattle.gs_layout.specs.Name.{name_field}
use Rattle.gs_layout.specs.Reading.{name_in}
use Rattle.gs_layout.specs.Spelling.{round_up}
use Rattle.gs_layout.proofs.Laws.{name_short}
use Rattle.gs_reader.specs.Creation.{IsCreation, name_front}

-- the first bytes, where there are as many
front_of : (n : ℕ) (bytes : List ℕ) → n ≤ length bytes → name_front n bytes ≡ take n bytes ++ replicate (MOST_NAME_LEN - n) 0
front_of n bytes le = ap (λ (k : ℕ). take n bytes ++ replicate (MOST_NAME_LEN - k) 0) (omega (arith, length-take n bytes))

-- the next piece put behind those before it
pub front_more : (from to : ℕ) (bytes name part : List ℕ) → from ≤ to → to ≤ MOST_NAME_LEN → to ≤ length bytes → name ≡ name_front from bytes → part ≡ take (to - from) (drop from bytes)
    → put_mid from (to - from) name part ≡ name_front to bytes
front_more from to bytes name part order most there front piece =
    let n = to - from in
    let is : name ≡ take from bytes ++ replicate (MOST_NAME_LEN - from) 0 = front ∙ front_of from bytes (omega arith) in
    let size : length (take from bytes) ≡ from = omega (arith, length-take from bytes) in
    let before : take from name ≡ take from bytes = ap (take from) is ∙ take_at (take from bytes) (replicate (MOST_NAME_LEN - from) 0) from size in
    let behind : drop n (drop from name) ≡ replicate (MOST_NAME_LEN - to) 0 =
    ap (drop n) (ap (drop from) is ∙ drop_at (take from bytes) (replicate (MOST_NAME_LEN - from) 0) from size)
    ∙ drop-replicate n (MOST_NAME_LEN - from) 0 ∙ ap (λ (k : ℕ). replicate k 0) (omega arith) in
    let whole : take to bytes ≡ take from bytes ++ take n (drop from bytes) = ap (λ (k : ℕ). take k bytes) (omega arith) ∙ take-add from n bytes in
    (λ i. before i ++ (piece i ++ behind i))
    ∙ sym (append_assoc (take from bytes) (take n (drop from bytes)) (replicate (MOST_NAME_LEN - to) 0))
    ∙ ap (λ (xs : List ℕ). xs ++ replicate (MOST_NAME_LEN - to) 0) (sym whole)
    ∙ sym (front_of to bytes there)

-- of a name and the zeros behind it the first bytes are the name in as many bytes as it may have
pub front_whole : (name : List ℕ) (k : ℕ) → length name ≤ MOST_NAME_LEN → name_front MOST_NAME_LEN (name ++ replicate k 0) ≡ name_field name
front_whole name k short = elim (cases_lt k n) [
  | inl lt ↦ by_part (replicate k 0) (ap (λ (m : ℕ). take m (name ++ replicate k 0)) seam ∙ take-append-add name (replicate k 0) n ∙ ap (λ (xs : List ℕ). name ++ xs) (take_all n (replicate k 0) (omega (arith, length-replicate {A = ℕ} k 0))))
      ∙ append_assoc name (replicate k 0) (replicate (MOST_NAME_LEN - length (name ++ replicate k 0)) 0)
      ∙ ap (λ (xs : List ℕ). name ++ xs) (replicate-append-replicate k (MOST_NAME_LEN - length (name ++ replicate k 0)) 0)
      ∙ ap (λ (m : ℕ). name ++ replicate m 0) (omega (arith, length-append name (replicate k 0), length-replicate {A = ℕ} k 0))
  | inr le ↦ by_part (replicate n 0) (ap (λ (m : ℕ). take m (name ++ replicate k 0)) seam ∙ take-append-add name (replicate k 0) n ∙ ap (λ (xs : List ℕ). name ++ xs) (take-replicate n k 0 le))
      ∙ ap (λ (m : ℕ). (name ++ replicate n 0) ++ replicate m 0) none
      ∙ append-nil (name ++ replicate n 0)
]
  where
    n : ℕ
    n = MOST_NAME_LEN - length name

    seam : MOST_NAME_LEN ≡ length name + n
    seam = omega (arith, short)

    none : MOST_NAME_LEN - length (name ++ replicate n 0) ≡ 0
    none = omega (arith, length-append name (replicate n 0), length-replicate {A = ℕ} n 0)

    by_part : (zeros : List ℕ) → take MOST_NAME_LEN (name ++ replicate k 0) ≡ name ++ zeros → name_front MOST_NAME_LEN (name ++ replicate k 0) ≡ (name ++ zeros) ++ replicate (MOST_NAME_LEN - length (name ++ zeros)) 0
    by_part zeros e = ap (λ (xs : List ℕ). xs ++ replicate (MOST_NAME_LEN - length xs) 0) e

-- what was copied is the name and the zeros behind it
pub padded_is : (text copied : List ℕ) → IsCreation text → copied ≡ name_front MOST_NAME_LEN (drop NAME_AT text) → copied ≡ name_field (name_in text)
padded_is text copied h e =
    let name = name_in text in
    e ∙ ap (name_front MOST_NAME_LEN) h.zeros ∙ front_whole name (round_up (NAME_AT + length name) - (NAME_AT + length name)) (name_short name h.name)

pub kept_is : (text copied : List ℕ) → IsCreation text → copied ≡ name_front MOST_NAME_LEN (drop NAME_AT text) → take (slice_index text NAME_LEN_AT) copied ≡ name_in text
kept_is text copied h e =
    let name = name_in text in
    (λ i. take (h.len i) (padded_is text copied h e i)) ∙ take_at name (replicate (MOST_NAME_LEN - length name) 0) (length name) refl
