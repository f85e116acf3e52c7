-- Bytes are read as a state of a slot exactly if they are its spelling.
use Rattle.std.proofs.Common.{◌-◌, ◌≡◌, Bool, true, false, ℕ, zero, suc, ◌+◌, ◌^◌, ◌<◌, ◌≤◌, inl, inr, Option, Ok, Err, IfOk, List, [], ◌∷◌, ◌++◌, length, drop, replicate, refl, ap, sym, subst, ◌∙◌, arith}
use Rattle.std.specs.Prelude.{◌==◌, ◌&&◌, nat_lt, if◌then◌else◌, slice_index, unwrap_or}
use Rattle.std.specs.Cmp.Lexicographic.{bytes_decides}
use Rattle.std.proofs.Math.Seq.{drop-cons}
use Rattle.std.proofs.lemmas.Bool.{and_parts, cases_Bool, cond-false, cond-true, eq-eqb, eqb-true, false_from_ne_true, ltb-true}
use Rattle.std.proofs.lemmas.List.{drop_all}
use Rattle.byteorder.specs.Endian.{little_bytes, little_number}
use Rattle.byteorder.specs.Numbers.{little_from-bytes}
use Rattle.gs_layout.specs.declared.outcome.TheConstants.{OUTCOMES}
use Rattle.gs_slots.specs.declared.wire.TheConstants.{CPU_AT, DONE, END_AT, FLAGS_AT, GENERATION_AT, OUTCOME_AT, PLACE_AT, SEEN_AT, SLOT_LEN, STAMPED, STATE_AT, TID_AT, TSEQ_AT, WORD_LEN}
use Rattle.gs_layout.specs.declared.outcome.Outcome.{Outcome}
use Rattle.gs_layout.specs.declared.outcome.Outcome.TheVariants as outcomes
use Rattle.gs_layout.specs.Outcome.{outcome_number, outcome_numbered}
use Rattle.gs_layout.specs.Reading.{cpu_numbered, number_at}
use Rattle.gs_layout.specs.Spelling.{IsCpuOrNone, cpu_number, is_cpu_or_none}
use Rattle.gs_layout.proofs.Laws.{IsBytes, at_place, cpu_again, cpu_passes, reads}
use Rattle.gs_slots.specs.declared.state.SlotState.{SlotState}
use Rattle.gs_slots.specs.declared.state.SlotState.TheVariants.{Idle, Stamped, Done}
use Rattle.gs_slots.specs.declared.flags.Flags.{Flags}
use Rattle.gs_slots.specs.declared.state.Stamp.{Stamp}
use Rattle.gs_slots.specs.Flags.{are_flags, flags_byte, flags_in}
use Rattle.gs_slots.specs.Reading.{done_in, fields_in, is_spelt, outcome_in, stamp_in, state_in}
use Rattle.gs_slots.specs.Spelling.{IsSpellableStamp, IsSpellableState, can_hold, done_bytes, is_blank, slot_spelling, stamp_bytes}
use Rattle.gs_slots.specs.State.{Held, is_malformed, no_stamp, refused}
use Rattle.gs_slots.specs.Tests.{is_done, is_idle, is_of, is_stamp, is_zero_at, passes}
use Rattle.gs_slots.proofs.ReadBack.{read_back}

-- ---- numbers in a place

-- eight zeros, if the number there is zero
zeros_at : (p : ℕ) (xs : List ℕ) → p + WORD_LEN ≤ length xs → IsBytes xs → is_zero_at p xs ≡ true → replicate WORD_LEN 0 ++ drop (p + WORD_LEN) xs ≡ drop p xs
zeros_at p xs long fits e = ap (λ (n : ℕ). little_bytes WORD_LEN n ++ drop (p + WORD_LEN) xs) (sym (eqb-true (number_at p WORD_LEN xs) 0 e)) ∙ at_place WORD_LEN p xs long fits

outcome_again : (n : ℕ) → n < OUTCOMES → outcome_number (unwrap_or (outcome_numbered n) outcomes.Malformed) ≡ n
outcome_again zero lt = refl
outcome_again (suc zero) lt = refl
outcome_again (suc (suc zero)) lt = refl
outcome_again (suc (suc (suc zero))) lt = refl
outcome_again (suc (suc (suc (suc zero)))) lt = refl
outcome_again (suc (suc (suc (suc (suc zero))))) lt = refl
outcome_again (suc (suc (suc (suc (suc (suc zero)))))) lt = refl
outcome_again (suc (suc (suc (suc (suc (suc (suc zero))))))) lt = refl
outcome_again (suc (suc (suc (suc (suc (suc (suc (suc zero)))))))) lt = refl
outcome_again (suc (suc (suc (suc (suc (suc (suc (suc (suc zero))))))))) lt = refl
outcome_again (suc (suc (suc (suc (suc (suc (suc (suc (suc (suc zero)))))))))) lt = refl
outcome_again (suc (suc (suc (suc (suc (suc (suc (suc (suc (suc (suc zero))))))))))) lt = refl
outcome_again (suc (suc (suc (suc (suc (suc (suc (suc (suc (suc (suc (suc zero)))))))))))) lt = refl
outcome_again (suc (suc (suc (suc (suc (suc (suc (suc (suc (suc (suc (suc (suc zero))))))))))))) lt = refl
outcome_again (suc (suc (suc (suc (suc (suc (suc (suc (suc (suc (suc (suc (suc (suc zero)))))))))))))) lt = refl
outcome_again (suc (suc (suc (suc (suc (suc (suc (suc (suc (suc (suc (suc (suc (suc (suc n))))))))))))))) lt = absurd (omega arith)

flags_again : (f : ℕ) → f < 4 → flags_byte (flags_in f) ≡ f
flags_again zero lt = refl
flags_again (suc zero) lt = refl
flags_again (suc (suc zero)) lt = refl
flags_again (suc (suc (suc zero))) lt = refl
flags_again (suc (suc (suc (suc f)))) lt = absurd (omega arith)

-- ---- bytes that pass are the spelling of what their fields say

-- behind the first byte and the flags: CPU, generation, thread and sequence number
stamped_front : (k : ℕ) (xs : List ℕ) → IsBytes xs → length xs ≡ SLOT_LEN → is_of k xs ≡ true → stamp_bytes (slice_index xs STATE_AT) k (stamp_in xs) ++ drop OUTCOME_AT xs ≡ xs
stamped_front k xs fits size e =
    let p = and_parts (are_flags (slice_index xs FLAGS_AT)) (number_at CPU_AT 2 xs == k) e in
    let cpu : number_at CPU_AT 2 xs ≡ k = eqb-true (number_at CPU_AT 2 xs) k p.1 in
    let flags : slice_index xs FLAGS_AT < 4 = ltb-true (slice_index xs FLAGS_AT) 4 p.0 in
    let a = slice_index xs STATE_AT in
    let b = slice_index xs FLAGS_AT in
    let gen = little_bytes 4 (number_at GENERATION_AT 4 xs) in
    let tid = little_bytes 4 (number_at TID_AT 4 xs) in
    (λ i. a ∷ (flags_again b flags i ∷ (little_bytes 2 (sym cpu i) ++ (gen ++ (tid ++ (little_bytes 4 (number_at TSEQ_AT 4 xs) ++ drop OUTCOME_AT xs))))))
    ∙ ap (λ (r : List ℕ). a ∷ (b ∷ (little_bytes 2 (number_at CPU_AT 2 xs) ++ (gen ++ (tid ++ r))))) (at_place 4 TSEQ_AT xs (omega (arith, size)) fits)
    ∙ ap (λ (r : List ℕ). a ∷ (b ∷ (little_bytes 2 (number_at CPU_AT 2 xs) ++ (gen ++ r)))) (at_place 4 TID_AT xs (omega (arith, size)) fits)
    ∙ ap (λ (r : List ℕ). a ∷ (b ∷ (little_bytes 2 (number_at CPU_AT 2 xs) ++ r))) (at_place 4 GENERATION_AT xs (omega (arith, size)) fits)
    ∙ ap (λ (r : List ℕ). a ∷ (b ∷ r)) (at_place 2 CPU_AT xs (omega (arith, size)) fits)
    ∙ ap (λ (r : List ℕ). a ∷ r) (sym (drop-cons xs FLAGS_AT 0 (omega (arith, size))))
    ∙ sym (drop-cons xs STATE_AT 0 (omega (arith, size)))

end_of : (xs : List ℕ) → length xs ≡ SLOT_LEN → drop SLOT_LEN xs ≡ []
end_of xs size = drop_all SLOT_LEN xs (omega (arith, size))

last_zeros : (xs : List ℕ) → IsBytes xs → length xs ≡ SLOT_LEN → is_zero_at END_AT xs ≡ true → replicate WORD_LEN 0 ≡ drop END_AT xs
last_zeros xs fits size e = ap (λ (r : List ℕ). replicate WORD_LEN 0 ++ r) (sym (end_of xs size)) ∙ zeros_at END_AT xs (omega (arith, size)) fits e

pub idle_sound : (xs : List ℕ) → IsBytes xs → length xs ≡ SLOT_LEN → is_idle xs ≡ true → replicate SLOT_LEN 0 ≡ xs
idle_sound xs fits size e =
    let a = and_parts (is_zero_at 0 xs && is_zero_at WORD_LEN xs && is_zero_at OUTCOME_AT xs) (is_zero_at END_AT xs) e in
    let b = and_parts (is_zero_at 0 xs && is_zero_at WORD_LEN xs) (is_zero_at OUTCOME_AT xs) a.0 in
    let c = and_parts (is_zero_at 0 xs) (is_zero_at WORD_LEN xs) b.0 in
    let zeros : List ℕ = replicate WORD_LEN 0 in
    ap (λ (r : List ℕ). zeros ++ (zeros ++ (zeros ++ r))) (last_zeros xs fits size a.1)
    ∙ ap (λ (r : List ℕ). zeros ++ (zeros ++ r)) (zeros_at OUTCOME_AT xs (omega (arith, size)) fits b.1)
    ∙ ap (λ (r : List ℕ). zeros ++ r) (zeros_at WORD_LEN xs (omega (arith, size)) fits c.1)
    ∙ zeros_at 0 xs (omega (arith, size)) fits c.0

stamp_sound : (k : ℕ) (xs : List ℕ) → IsBytes xs → length xs ≡ SLOT_LEN → slice_index xs STATE_AT ≡ STAMPED → is_stamp k xs ≡ true → slot_spelling k (Stamped (stamp_in xs)) ≡ xs
stamp_sound k xs fits size kind e =
    let a = and_parts (is_of k xs && is_zero_at OUTCOME_AT xs) (is_zero_at END_AT xs) e in
    let b = and_parts (is_of k xs) (is_zero_at OUTCOME_AT xs) a.0 in
    let s = stamp_in xs in
    let zeros : replicate (SLOT_LEN - OUTCOME_AT) 0 ≡ drop OUTCOME_AT xs = ap (λ (r : List ℕ). replicate WORD_LEN 0 ++ r) (last_zeros xs fits size a.1) ∙ zeros_at OUTCOME_AT xs (omega (arith, size)) fits b.1 in
    (λ i. stamp_bytes (sym kind i) k s ++ zeros i) ∙ stamped_front k xs fits size b.0

done_sound : (k : ℕ) (xs : List ℕ) → IsBytes xs → length xs ≡ SLOT_LEN → slice_index xs STATE_AT ≡ DONE → is_done k xs ≡ true → slot_spelling k (done_in xs) ≡ xs
done_sound k xs fits size kind e =
    let a = and_parts (is_of k xs && nat_lt (number_at OUTCOME_AT 2 xs) OUTCOMES) (is_zero_at END_AT xs) e in
    let b = and_parts (is_of k xs) (nat_lt (number_at OUTCOME_AT 2 xs) OUTCOMES) a.0 in
    let s = stamp_in xs in
    let known : number_at OUTCOME_AT 2 xs < OUTCOMES = ltb-true (number_at OUTCOME_AT 2 xs) OUTCOMES b.1 in
    let n = number_at OUTCOME_AT 2 xs in
    let seen = little_bytes 4 (number_at SEEN_AT 4 xs) in
    let back : little_bytes 2 (outcome_number (outcome_in xs)) ++ (little_bytes 2 (cpu_number (cpu_numbered (number_at PLACE_AT 2 xs))) ++ (seen ++ replicate WORD_LEN 0)) ≡ drop OUTCOME_AT xs =
    (λ i. little_bytes 2 (outcome_again n known i) ++ (little_bytes 2 (cpu_again (number_at PLACE_AT 2 xs) i) ++ (seen ++ last_zeros xs fits size a.1 i)))
    ∙ ap (λ (r : List ℕ). little_bytes 2 n ++ (little_bytes 2 (number_at PLACE_AT 2 xs) ++ r)) (at_place 4 SEEN_AT xs (omega (arith, size)) fits)
    ∙ ap (λ (r : List ℕ). little_bytes 2 n ++ r) (at_place 2 PLACE_AT xs (omega (arith, size)) fits)
    ∙ at_place 2 OUTCOME_AT xs (omega (arith, size)) fits
    in
    (λ i. stamp_bytes (sym kind i) k s ++ back i) ∙ stamped_front k xs fits size b.0

-- ---- spellings pass

flags_below : (f : Flags) → are_flags (flags_byte f) ≡ true
flags_below f = by_flag f.preempt f.group
  where
    by_flag : (p g : Bool) → are_flags (flags_byte (record { preempt = p; group = g })) ≡ true
    by_flag true true = refl
    by_flag true false = refl
    by_flag false true = refl
    by_flag false false = refl

outcome_below : (o : Outcome) → nat_lt (little_number 2 (little_bytes 2 (outcome_number o) ++ [])) OUTCOMES ≡ true
outcome_below outcomes.Placed = refl
outcome_below outcomes.Gone = refl
outcome_below outcomes.Displaced = refl
outcome_below outcomes.NoThread = refl
outcome_below outcomes.Stale = refl
outcome_below outcomes.NotRunnable = refl
outcome_below outcomes.AlreadyPlaced = refl
outcome_below outcomes.NotAllowed = refl
outcome_below outcomes.CpuIsAgent = refl
outcome_below outcomes.CpuTaken = refl
outcome_below outcomes.CpuBusy = refl
outcome_below outcomes.SeqSpent = refl
outcome_below outcomes.HistoryFull = refl
outcome_below outcomes.Malformed = refl
outcome_below outcomes.GroupFailed = refl

names_cpu : (k : ℕ) → k < 2 ^ 16 → (little_number 2 (little_bytes 2 k ++ []) == k) ≡ true
names_cpu k lt = eq-eqb (little_number 2 (little_bytes 2 k ++ [])) k (reads 2 k (omega arith))

spelling_passes : (k : ℕ) (z : SlotState) → k < 2 ^ 16 → passes k (slot_spelling k z) ≡ true
spelling_passes k Idle lt = refl
spelling_passes k (Stamped s) lt = λ i. flags_below s.flags i && names_cpu k lt i && true && true
spelling_passes k (Done s o at seen) lt = λ i. flags_below s.flags i && names_cpu k lt i && outcome_below o i && true

-- ---- the test by fields is the test for the spelling

pub same_tests : (a b : Bool) → (a ≡ true → b ≡ true) → (b ≡ true → a ≡ true) → a ≡ b
same_tests true b f g = sym (f refl)
same_tests false b f g = sym (false_from_ne_true b (λ e. let no : false ≡ true = g e in cc))

spelt_from : (k : ℕ) (xs : List ℕ) → slot_spelling k (fields_in xs) ≡ xs → is_spelt k xs ≡ true
unfolding is_spelt
spelt_from k xs e = (bytes_decides xs (slot_spelling k (fields_in xs))).1 (sym e)

spelt_is : (k : ℕ) (xs : List ℕ) → is_spelt k xs ≡ true → xs ≡ slot_spelling k (fields_in xs)
unfolding is_spelt
spelt_is k xs e = (bytes_decides xs (slot_spelling k (fields_in xs))).0 e

passes_sound : (k : ℕ) (xs : List ℕ) → IsBytes xs → length xs ≡ SLOT_LEN → passes k xs ≡ true → slot_spelling k (fields_in xs) ≡ xs
passes_sound k xs fits size e =
    elim (cases_Bool (slice_index xs STATE_AT == STAMPED)) [
      | inl one ↦
          ap (slot_spelling k) (cond-true (slice_index xs STATE_AT == STAMPED) (Stamped (stamp_in xs)) _ one)
          ∙ stamp_sound k xs fits size (eqb-true (slice_index xs STATE_AT) STAMPED one) (sym (cond-true (slice_index xs STATE_AT == STAMPED) (is_stamp k xs) _ one) ∙ e)
      | inr other ↦
          elim (cases_Bool (slice_index xs STATE_AT == DONE)) [
            | inl two ↦
                ap (slot_spelling k) (cond-false (slice_index xs STATE_AT == STAMPED) _ _ other ∙ cond-true (slice_index xs STATE_AT == DONE) (done_in xs) Idle two)
                ∙ done_sound k xs fits size (eqb-true (slice_index xs STATE_AT) DONE two) (sym (cond-false (slice_index xs STATE_AT == STAMPED) (is_stamp k xs) _ other ∙ cond-true (slice_index xs STATE_AT == DONE) (is_done k xs) (is_idle xs) two) ∙ e)
            | inr none ↦
                ap (slot_spelling k) (cond-false (slice_index xs STATE_AT == STAMPED) _ _ other ∙ cond-false (slice_index xs STATE_AT == DONE) (done_in xs) Idle none)
                ∙ idle_sound xs fits size (sym (cond-false (slice_index xs STATE_AT == STAMPED) (is_stamp k xs) _ other ∙ cond-false (slice_index xs STATE_AT == DONE) (is_done k xs) (is_idle xs) none) ∙ e)
          ]
    ]

pub tests_exact : (k : ℕ) (xs : List ℕ) → IsBytes xs → length xs ≡ SLOT_LEN → k < 2 ^ 16 → passes k xs ≡ is_spelt k xs
tests_exact k xs fits size low =
    same_tests (passes k xs) (is_spelt k xs) (λ e. spelt_from k xs (passes_sound k xs fits size e)) (λ e. ap (passes k) (spelt_is k xs e) ∙ spelling_passes k (fields_in xs) low)

-- ---- what is read is what is spelt, both ways

-- what is read, by both tests
abbrev read_by : Bool → Bool → SlotState → Held
read_by spelt held z = if spelt && held then Ok z else Err (record {})

state_is : (k : ℕ) (xs : List ℕ) → state_in k xs ≡ read_by (is_spelt k xs) (can_hold (fields_in xs)) (fields_in xs)
unfolding state_in
state_is k xs = refl

read_parts : (k : ℕ) (xs : List ℕ) (z : SlotState) (a b : Bool) → a ≡ is_spelt k xs → b ≡ can_hold (fields_in xs) → read_by a b (fields_in xs) ≡ Ok z → (xs ≡ slot_spelling k (fields_in xs)) × (can_hold (fields_in xs) ≡ true) × (fields_in xs ≡ z)
read_parts k xs z true true spelt held e = (spelt_is k xs (sym spelt), sym held, cc)
read_parts k xs z true false spelt held e = absurd cc
read_parts k xs z false b spelt held e = absurd cc

read_fields : (k : ℕ) (xs : List ℕ) (z : SlotState) → state_in k xs ≡ Ok z → (xs ≡ slot_spelling k (fields_in xs)) × (can_hold (fields_in xs) ≡ true) × (fields_in xs ≡ z)
read_fields k xs z e = read_parts k xs z (is_spelt k xs) (can_hold (fields_in xs)) refl refl (sym (state_is k xs) ∙ e)

-- a state that is read is spelt by these bytes, and a slot can hold it
pub read_spelt : (k : ℕ) (xs : List ℕ) (z : SlotState) → state_in k xs ≡ Ok z → (xs ≡ slot_spelling k z) × (can_hold z ≡ true)
read_spelt k xs z e =
    let p = read_fields k xs z e in
    (p.0 ∙ ap (slot_spelling k) p.2, ap can_hold (sym p.2) ∙ p.1)

pub spelt_if_read : (k : ℕ) (xs : List ℕ) (r : Held) → r ≡ state_in k xs → IfOk r (λ z. xs ≡ slot_spelling k z)
spelt_if_read k xs (Ok z) e = (read_spelt k xs z (sym e)).0
spelt_if_read k xs (Err x) e = tt

-- what is spelt is read
pub spelt_read : (k : ℕ) (xs : List ℕ) (z : SlotState) → IsSpellableState z → xs ≡ slot_spelling k z → state_in k xs ≡ Ok z
spelt_read k xs z fits e =
    let same : fields_in xs ≡ z = ap fields_in e ∙ read_back k z fits in
    let spelt : is_spelt k xs ≡ true = spelt_from k xs (ap (slot_spelling k) same ∙ sym e) in
    let held : can_hold (fields_in xs) ≡ true = ap can_hold same ∙ fits.0 in
    state_is k xs ∙ (λ i. read_by (spelt i) (held i) (same i))

-- ---- what the tests return is what is read

pub read_by_tests : (k : ℕ) (xs : List ℕ) (z : SlotState) (a b : Bool) → IsBytes xs → length xs ≡ SLOT_LEN → k < 2 ^ 16 → a ≡ passes k xs → z ≡ fields_in xs → b ≡ can_hold z → read_by a b z ≡ state_in k xs
read_by_tests k xs z a b fits size low passed fields held =
    (λ i. read_by ((passed ∙ tests_exact k xs fits size low) i) ((held ∙ ap can_hold fields) i) (fields i)) ∙ sym (state_is k xs)

-- ---- a slot that is done

stamp_or_none : SlotState → Stamp
stamp_or_none Idle = no_stamp
stamp_or_none (Stamped s) = s
stamp_or_none (Done s o at seen) = s

written_below : (x : ℕ) → little_number 4 (little_bytes 4 x ++ []) < 2 ^ 32
written_below x = omega (arith, little_from-bytes 4 0 x [])

-- the numbers of a transaction that is read are in their ranges
stamp_numbers : (k : ℕ) (xs : List ℕ) (s : Stamp) → state_in k xs ≡ Ok (Stamped s) → IsSpellableStamp s
unfolding stamp_or_none
stamp_numbers k xs s e =
    let p = read_fields k xs (Stamped s) e in
    let again : fields_in (slot_spelling k (Stamped s)) ≡ Stamped s = ap fields_in (sym (p.0 ∙ ap (slot_spelling k) p.2)) ∙ p.2 in
    let generation : little_number 4 (little_bytes 4 s.generation ++ []) ≡ s.generation = ap (λ (z : SlotState). (stamp_or_none z).generation) again in
    let tid : little_number 4 (little_bytes 4 s.tid ++ []) ≡ s.tid = ap (λ (z : SlotState). (stamp_or_none z).tid) again in
    let tseq : little_number 4 (little_bytes 4 s.tseq ++ []) ≡ s.tseq = ap (λ (z : SlotState). (stamp_or_none z).tseq) again in
    record {
      generation = subst (λ (n : ℕ). n < 2 ^ 32) generation (written_below s.generation);
      tid = subst (λ (n : ℕ). n < 2 ^ 32) tid (written_below s.tid);
      tseq = subst (λ (n : ℕ). n < 2 ^ 32) tseq (written_below s.tseq);
    }

-- a stamped slot after its transaction landed
pub done_read : (k : ℕ) (old new : List ℕ) (s : Stamp) (o : Outcome) (at : Option ℕ) (seen : ℕ) → is_malformed o ≡ false → IsCpuOrNone at → seen < 2 ^ 32 → new ≡ done_bytes o at seen old → state_in k old ≡ Ok (Stamped s)
    → state_in k new ≡ Ok (Done s o at seen)
done_read k old new s o at seen told within low e was =
    let p = read_fields k old (Stamped s) was in
    let numbers : IsSpellableStamp s = stamp_numbers k old s was in
    let held : can_hold (Done s o at seen) ≡ true = cond-false (is_malformed o) (is_blank s at seen) (is_cpu_or_none at) told ∙ cpu_passes at within in
    spelt_read k new (Done s o at seen) (held, (numbers, low)) (e ∙ ap (done_bytes o at seen) (p.0 ∙ ap (slot_spelling k) p.2))

-- a slot of which only that it was malformed is left
pub refused_read : (k : ℕ) (xs : List ℕ) → xs ≡ slot_spelling k refused → state_in k xs ≡ Ok refused
refused_read k xs e = spelt_read k xs refused (refl, (record { generation = omega arith; tid = omega arith; tseq = omega arith }, omega arith)) e
