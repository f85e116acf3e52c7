-- What the faults of the length and the kind say of the bytes.
use Rattle.std.proofs.Common.{◌≡◌, Bool, true, false, cond, ℕ, ◌≤◌, Option, None, Some, List, length, take, refl, ap, sym, ◌∙◌, arith}
use Rattle.std.specs.Prelude.{not, nat_lt}
use Rattle.std.proofs.lemmas.Bool.{le-ltb, ltb-false}
use Rattle.std.proofs.lemmas.Bool.Decides.{nat_tests}
use Rattle.std.proofs.lemmas.List.{get_or-drop, get_or-take, length-take}
use Rattle.gs_layout.specs.declared.kind.Kind.{Kind}
use Rattle.gs_layout.specs.declared.kind.Kind.TheVariants as kinds
use Rattle.gs_layout.specs.declared.wire.TheConstants.{FRONT_LEN, KIND_AT, LEAST_PAD_LEN, LEN_AT}
use Rattle.gs_layout.specs.Reading.{kind_numbered, number_at}
use Rattle.gs_reader.specs.declared.fault.ReadFault.{ReadFault}
use Rattle.gs_reader.specs.declared.fault.ReadFault.TheVariants.{Short, BadKind, BadLength, BadField}
use Rattle.gs_reader.specs.Fault.{front_fault, has_length, is_kind, kind_number_in, length_in}
use Rattle.gs_reader.specs.Reading.{IsWhole}

-- the four tests, in their order
abbrev tested : Bool → Bool → Bool → Bool → Option ReadFault
tested a b c d = cond a (Some Short) (cond (not b) (Some BadKind) (cond (not c) (Some BadLength) (cond d (Some Short) None)))

passed : (a b c d : Bool) → tested a b c d ≡ None → (a ≡ false) × (b ≡ true) × (c ≡ true) × (d ≡ false)
passed true b c d e = absurd cc
passed false false c d e = absurd cc
passed false true false d e = absurd cc
passed false true true true e = absurd cc
passed false true true false e = (refl, refl, refl, refl)

no_field : (a b c d : Bool) → tested a b c d ≡ Some BadField → ⊥
no_field true b c d e = cc
no_field false false c d e = cc
no_field false true false d e = cc
no_field false true true true e = cc
no_field false true true false e = cc

pub front_no_field : (bytes : List ℕ) → front_fault bytes ≡ Some BadField → ⊥
front_no_field bytes e =
    no_field (nat_lt (length bytes) FRONT_LEN) (is_kind (kind_number_in bytes)) (has_length (kind_numbered (kind_number_in bytes)) (length_in bytes)) (nat_lt (length bytes) (length_in bytes)) e

-- no fault of the length and the kind
pub record IsFronted (bytes : List ℕ) : Type 0 where
  pub four : FRONT_LEN ≤ length bytes
  pub known : is_kind (kind_number_in bytes) ≡ true
  pub one : has_length (kind_numbered (kind_number_in bytes)) (length_in bytes) ≡ true
  pub room : length_in bytes ≤ length bytes

pub fronted : (bytes : List ℕ) → front_fault bytes ≡ None → IsFronted bytes
fronted bytes e =
    let p = passed (nat_lt (length bytes) FRONT_LEN) (is_kind (kind_number_in bytes)) (has_length (kind_numbered (kind_number_in bytes)) (length_in bytes)) (nat_lt (length bytes) (length_in bytes)) e in
    record {
      four = ltb-false (length bytes) FRONT_LEN p.0;
      known = p.1;
      one = p.2;
      room = ltb-false (length bytes) (length_in bytes) p.3;
    }

pub front_none : (bytes : List ℕ) → IsFronted bytes → front_fault bytes ≡ None
front_none bytes h =
    let a : nat_lt (length bytes) FRONT_LEN ≡ false = le-ltb (length bytes) FRONT_LEN h.four in
    let d : nat_lt (length bytes) (length_in bytes) ≡ false = le-ltb (length bytes) (length_in bytes) h.room in
    λ i. tested (a i) (h.known i) (h.one i) (d i)

-- no kind has a length under that of the least PAD
pub least_length : (o : Option Kind) (n : ℕ) → has_length o n ≡ true → LEAST_PAD_LEN ≤ n
least_length (Some kinds.Created) n e = grind (arith, nat_tests)
least_length (Some kinds.Blocked) n e = grind (arith, nat_tests)
least_length (Some kinds.Wakeup) n e = grind (arith, nat_tests)
least_length (Some kinds.Preempted) n e = grind (arith, nat_tests)
least_length (Some kinds.Yield) n e = grind (arith, nat_tests)
least_length (Some kinds.Dead) n e = grind (arith, nat_tests)
least_length (Some kinds.Affinity) n e = grind (arith, nat_tests)
least_length (Some kinds.TimerTick) n e = grind (arith, nat_tests)
least_length None n e = grind (arith, nat_tests)

-- the front of a text says what the front of the bytes says
pub front_0 : (n : ℕ) (bytes : List ℕ) → FRONT_LEN ≤ n → number_at LEN_AT 2 (take n bytes) ≡ number_at LEN_AT 2 bytes
front_0 n bytes h =
    let a = get_or-take n bytes 0 0 (omega arith) in
    let b = get_or-take n bytes 1 0 (omega arith) in
    omega (arith, a, b)

pub front_2 : (n : ℕ) (bytes : List ℕ) → FRONT_LEN ≤ n → number_at KIND_AT 2 (take n bytes) ≡ number_at KIND_AT 2 bytes
front_2 n bytes h =
    let a = get_or-take n bytes 2 0 (omega arith) in
    let b = get_or-take n bytes 3 0 (omega arith) in
    let c = get_or-drop 2 bytes 0 0 in
    let d = get_or-drop 2 bytes 1 0 in
    let e = get_or-drop 2 (take n bytes) 0 0 in
    let f = get_or-drop 2 (take n bytes) 1 0 in
    omega (arith, a, b, c, d, e, f)

-- the bytes of the length that they name
pub whole_text : (bytes : List ℕ) → IsFronted bytes → IsWhole (kind_numbered (kind_number_in bytes)) (take (length_in bytes) bytes)
whole_text bytes h =
    let n = length_in bytes in
    let low : LEAST_PAD_LEN ≤ n = least_length (kind_numbered (kind_number_in bytes)) n h.one in
    let kind = front_2 n bytes (omega arith) in
    let size = front_0 n bytes (omega arith) in
    let len : length (take n bytes) ≡ n = omega (arith, length-take n bytes, h.room) in
    record {
      kind = ap kind_numbered kind;
      known = ap is_kind kind ∙ h.known;
      size = size ∙ sym len;
      one = ap (has_length (kind_numbered (kind_number_in bytes))) len ∙ h.one;
    }
