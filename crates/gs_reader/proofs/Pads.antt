-- A PAD is read exactly where one stands.
use Rattle.std.proofs.Common.{◌≡◌, true, cond, ℕ, ◌+◌, ◌-◌, ◌≤◌, Option, None, Some, Ok, List, [], ◌++◌, length, drop, replicate, refl, ap, sym, ◌∙◌, inl, inr, length-append, arith}
use Rattle.std.specs.Prelude.{◌==◌, nat_le}
use Rattle.std.proofs.lemmas.Bool.{and_parts, cases_Bool, cond-false, cond-true, eqb-false, leb-true}
use Rattle.std.proofs.lemmas.Bool.Decides.{nat_tests}
use Rattle.std.proofs.lemmas.List.{length-drop, length-replicate, take_at}
use Rattle.byteorder.specs.Endian.{little_bytes}
use Rattle.byteorder.specs.Numbers.{little_number-reads_back}
use Rattle.gs_layout.specs.declared.wire.TheConstants.{FRONT_LEN, KIND_AT, LEAST_PAD_LEN, LEN_AT, PAD}
use Rattle.gs_layout.specs.declared.kind.Kind.{Kind}
use Rattle.gs_layout.specs.declared.kind.Kind.TheVariants as kinds
use Rattle.gs_layout.specs.Pad.{IsPadSize, pad}
use Rattle.gs_layout.specs.Reading.{are_zeros, kind_numbered, number_at}
use Rattle.gs_layout.proofs.Laws.{IsBytes, at_place, zeros_are, zeros_pass}
use Rattle.gs_reader.specs.declared.item.Item.TheVariants as items
use Rattle.gs_reader.specs.Fault.{front_fault, has_length, is_kind, kind_number_in, length_in}
use Rattle.gs_reader.specs.Reading.{IsWhole, item_in, read, with_length}
use Rattle.gs_reader.proofs.Again.{reads_as}
use Rattle.gs_reader.proofs.Front.{front_none}

-- the lengths of a PAD
pad_length : (n : ℕ) → IsPadSize n → has_length None n ≡ true
pad_length n h = let low = h.least in let high = h.most in let whole = h.whole in grind (arith, nat_tests)

pad_is : (n : ℕ) → has_length None n ≡ true → IsPadSize n
pad_is n e = record { least = grind (arith, nat_tests); most = grind (arith, nat_tests); whole = grind (arith, nat_tests) }

length-pad : (n : ℕ) → IsPadSize n → length (pad n) ≡ n
length-pad n h = omega (arith, length-replicate {A = ℕ} (n - FRONT_LEN) 0, h.least)

-- a PAD is read again
pub pad_again : (n : ℕ) (rest : List ℕ) → IsPadSize n → read (pad n ++ rest) ≡ Ok (items.Pad, n)
pad_again n rest h =
    let bytes = pad n ++ rest in
    let size = length-pad n h in
    let whole : length bytes ≡ length (pad n) + length rest = length-append (pad n) rest in
    let len : length_in bytes ≡ n = little_number-reads_back 2 n [] (omega (arith, h.most)) in
    let front : front_fault bytes ≡ None = front_none bytes (record {
      four = omega (arith, whole, size, h.least);
      known = refl;
      one = ap (has_length None) len ∙ pad_length n h;
      room = omega (arith, whole, size, len);
    }) in
    let item : item_in None (pad n) ≡ Ok items.Pad = cond-true (are_zeros (drop FRONT_LEN (pad n))) (Ok items.Pad) _ (zeros_pass (n - FRONT_LEN)) in
    reads_as bytes n None (pad n) front len refl (take_at (pad n) rest n size) ∙ ap (with_length n) item

step_past : (n c : ℕ) (x : Kind) (rest : Option Kind) → cond (n == c) (Some x) rest ≡ None → ((n ≡ c → ⊥) × (rest ≡ None))
step_past n c x rest e = elim (cases_Bool (n == c)) [
  | inl same ↦ absurd (let e : Some x ≡ None = sym (cond-true (n == c) (Some x) rest same) ∙ e in cc)
  | inr other ↦ (eqb-false n c other, sym (cond-false (n == c) (Some x) rest other) ∙ e)
]

-- the number of a kind that stands for no message is that of a PAD
of_no_kind : (n : ℕ) → is_kind n ≡ true → kind_numbered n ≡ None → n ≡ PAD
of_no_kind n known e =
    let p = and_parts (nat_le 1 n) (nat_le n PAD) known in
    let low = leb-true 1 n p.0 in
    let high = leb-true n PAD p.1 in
    let a = step_past n 1 kinds.Created _ e in
    let b = step_past n 2 kinds.Blocked _ a.1 in
    let c = step_past n 3 kinds.Wakeup _ b.1 in
    let d = step_past n 4 kinds.Preempted _ c.1 in
    let f = step_past n 5 kinds.Yield _ d.1 in
    let g = step_past n 6 kinds.Dead _ f.1 in
    let h = step_past n 7 kinds.Affinity _ g.1 in
    let i = step_past n 8 kinds.TimerTick _ h.1 in
    left n low high a.0 b.0 c.0 d.0 f.0 g.0 h.0 i.0
  where
    left : (n : ℕ) → 1 ≤ n → n ≤ PAD → (n ≡ 1 → ⊥) → (n ≡ 2 → ⊥) → (n ≡ 3 → ⊥) → (n ≡ 4 → ⊥) → (n ≡ 5 → ⊥) → (n ≡ 6 → ⊥) → (n ≡ 7 → ⊥) → (n ≡ 8 → ⊥) → n ≡ PAD
    left n low high a b c d e f g h = omega arith

-- bytes that name a PAD and are zero behind it are a PAD
pub pad_read : (text : List ℕ) → IsBytes text → IsWhole None text → are_zeros (drop FRONT_LEN text) ≡ true → IsPadSize (length text) × (text ≡ pad (length text))
pad_read text fits w zeros =
    let kind : number_at KIND_AT 2 text ≡ PAD = of_no_kind (kind_number_in text) w.known w.kind in
    let size : IsPadSize (length text) = pad_is (length text) w.one in
    let low : LEAST_PAD_LEN ≤ length text = size.least in
    let rest : drop FRONT_LEN text ≡ replicate (length text - FRONT_LEN) 0 = zeros_are (drop FRONT_LEN text) zeros ∙ ap (λ (k : ℕ). replicate k 0) (length-drop FRONT_LEN text) in (
      size,
      sym (at_place 2 LEN_AT text (omega arith) fits)
          ∙ ap (λ (r : List ℕ). little_bytes 2 (number_at LEN_AT 2 text) ++ r) (sym (at_place 2 KIND_AT text (omega arith) fits))
          ∙ (λ i. little_bytes 2 (w.size i) ++ (little_bytes 2 (kind i) ++ rest i)),
    )
