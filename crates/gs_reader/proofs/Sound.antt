-- Bytes whose fields are all in range are the spelling of the message that they name.
use Rattle.std.proofs.Common.{◌≡◌, true, ℕ, ◌+◌, ◌-◌, ◌^◌, ◌<◌, ◌≤◌, Option, Some, List, [], ◌∷◌, ◌++◌, length, drop, replicate, refl, ap, sym, subst, ◌∙◌, arith}
use Rattle.std.specs.Prelude.{◌==◌, ◌&&◌, not, nat_le, nat_lt, slice_index, unwrap_or}
use Rattle.std.proofs.Math.Seq.{drop-cons}
use Rattle.std.proofs.lemmas.Bool.{and_parts, eqb-true, ltb-true}
use Rattle.std.proofs.lemmas.Bool.Decides.{nat_tests}
use Rattle.std.proofs.lemmas.List.{drop-drop, drop_all, length-drop, length-take, take-append-drop}
use Rattle.byteorder.specs.Endian.{little_bytes}
use Rattle.byteorder.specs.Numbers.{little_from-lt}
use Rattle.gs_layout.specs.declared.cpu.TheConstants.{NO_CPU}
use Rattle.gs_layout.specs.declared.name.TheConstants.{MOST_NAME_LEN}
use Rattle.gs_layout.specs.declared.wire.TheConstants.{AFFINITY_LEN, CLASS_AT, CPU_AT, FLAGS_AT, HEADER_LEN, KIND_AT, LEAST_CREATION_LEN, LEN_AT, MASK_AT, MASK_LEN, NAME_AT, NAME_LEN_AT, TID_AT, TSEQ_AT}
use Rattle.gs_status.specs.declared.mask.TheConstants.{MOST_CPUS}
use Rattle.gs_layout.specs.declared.kind.Kind.{Kind}
use Rattle.gs_layout.specs.declared.kind.Kind.TheVariants as kinds
use Rattle.gs_layout.specs.declared.message.Message.{Message}
use Rattle.gs_layout.specs.Kind.{kind_number}
use Rattle.gs_layout.specs.Message.{tseq_of}
use Rattle.gs_layout.specs.Name.{is_name}
use Rattle.gs_layout.specs.Reading.{are_zeros, facts_in, message_in, message_with, name_in, number_at}
use Rattle.gs_layout.specs.Spelling.{IsMask, AreNumbers, are_numbers, IsSpellable, cpu_number, cpu_of, facts_bytes, flags_of, header_bytes, kind_of, more_of, name_bytes, padding, round_up, size_of, spelling, tid_of}
use Rattle.gs_layout.proofs.Laws.{IsBytes, IsBytes-drop, at_place, class_again, cpu_again, flag_again, numbers_from, zeros_are}
use Rattle.gs_reader.specs.Fault.{has_length, kind_number_in}
use Rattle.gs_reader.specs.Reading.{IsWhole, fields_fit, name_fits, sizes_fit}
use Rattle.gs_reader.specs.RefHeld.{IsRef}
use Rattle.gs_reader.proofs.Ranges.{Fit, affinity_fits, cpu_or_none, fit_parts, flag_low, numbered_is}

-- the header's bytes are those of the numbers that stand there
header_back : (xs : List ℕ) → HEADER_LEN ≤ length xs → IsBytes xs → header_bytes (number_at LEN_AT 2 xs) (number_at KIND_AT 2 xs) (number_at TID_AT 4 xs) (number_at TSEQ_AT 4 xs) (number_at CPU_AT 2 xs) (number_at FLAGS_AT 2 xs) ++ drop HEADER_LEN xs ≡ xs
header_back xs long fits =
    let a = little_bytes 2 (number_at LEN_AT 2 xs) in
    let b = little_bytes 2 (number_at KIND_AT 2 xs) in
    let c = little_bytes 4 (number_at TID_AT 4 xs) in
    let d = little_bytes 4 (number_at TSEQ_AT 4 xs) in
    let e = little_bytes 2 (number_at CPU_AT 2 xs) in
    ap (λ (r : List ℕ). a ++ (b ++ (c ++ (d ++ (e ++ r))))) (at_place 2 FLAGS_AT xs (omega arith) fits)
    ∙ ap (λ (r : List ℕ). a ++ (b ++ (c ++ (d ++ r)))) (at_place 2 CPU_AT xs (omega arith) fits)
    ∙ ap (λ (r : List ℕ). a ++ (b ++ (c ++ r))) (at_place 4 TSEQ_AT xs (omega arith) fits)
    ∙ ap (λ (r : List ℕ). a ++ (b ++ r)) (at_place 4 TID_AT xs (omega arith) fits)
    ∙ ap (λ (r : List ℕ). a ++ r) (at_place 2 KIND_AT xs (omega arith) fits)
    ∙ at_place 2 LEN_AT xs (omega arith) fits

-- the fields of a message are those that stand in the bytes
record Agrees (m : Message) (text : List ℕ) : Type 0 where
  len : size_of m ≡ number_at LEN_AT 2 text
  kind : kind_number (kind_of m) ≡ number_at KIND_AT 2 text
  tid : tid_of m ≡ number_at TID_AT 4 text
  tseq : tseq_of m ≡ number_at TSEQ_AT 4 text
  cpu : cpu_number (cpu_of m) ≡ number_at CPU_AT 2 text
  flags : flags_of m ≡ number_at FLAGS_AT 2 text
  more : more_of m ≡ drop HEADER_LEN text

spelled_by : (m : Message) (text : List ℕ) → HEADER_LEN ≤ length text → IsBytes text → Agrees m text → spelling m ≡ text
spelled_by m text long fits h = (λ i. header_bytes (h.len i) (h.kind i) (h.tid i) (h.tseq i) (h.cpu i) (h.flags i) ++ h.more i) ∙ header_back text long fits

-- what is to be shown of each kind
abbrev pub IsSound : Kind → List ℕ → Type 0
IsSound k text = (spelling (message_with k text) ≡ text) × IsSpellable (message_with k text)

name_behind : (text : List ℕ) → NAME_AT + slice_index text NAME_LEN_AT ≤ length text → round_up (NAME_AT + slice_index text NAME_LEN_AT) ≡ length text → length (name_in text) ≡ slice_index text NAME_LEN_AT
    → are_zeros (drop (NAME_AT + slice_index text NAME_LEN_AT) text) ≡ true → name_bytes (name_in text) ≡ drop NAME_AT text
name_behind text room whole len zeros =
    let n = slice_index text NAME_LEN_AT in
    let rest : drop (NAME_AT + n) text ≡ drop n (drop NAME_AT text) = sym (drop-drop n NAME_AT text) in
    let count : length (drop (NAME_AT + n) text) ≡ round_up (NAME_AT + n) - (NAME_AT + n) = omega (arith, length-drop (NAME_AT + n) text, whole) in
    let zero_bytes : padding n ≡ drop (NAME_AT + n) text = sym (zeros_are (drop (NAME_AT + n) text) zeros ∙ ap (λ (k : ℕ). replicate k 0) count) in
    ap (λ (k : ℕ). name_in text ++ padding k) len ∙ ap (λ (ys : List ℕ). name_in text ++ ys) (zero_bytes ∙ rest) ∙ take-append-drop n (drop NAME_AT text)

facts_behind : (text : List ℕ) → IsBytes text → NAME_AT ≤ length text → slice_index text CLASS_AT < 2 → length (name_in text) ≡ slice_index text NAME_LEN_AT → name_bytes (name_in text) ≡ drop NAME_AT text
    → facts_bytes (facts_in text) ≡ drop HEADER_LEN text
facts_behind text fits long class len name =
    let a = drop-cons text CLASS_AT 0 (omega arith) in
    let b = drop-cons text NAME_LEN_AT 0 (omega arith) in
    (λ i. little_bytes MASK_LEN (number_at MASK_AT MASK_LEN text) ++ (class_again (slice_index text CLASS_AT) class i ∷ (len i ∷ name i)))
    ∙ ap (λ (ys : List ℕ). little_bytes MASK_LEN (number_at MASK_AT MASK_LEN text) ++ (slice_index text CLASS_AT ∷ ys)) (sym b)
    ∙ ap (λ (ys : List ℕ). little_bytes MASK_LEN (number_at MASK_AT MASK_LEN text) ++ ys) (sym a)
    ∙ at_place MASK_LEN MASK_AT text (omega arith) fits

-- what is known before the fields are looked at
record Named (k : Kind) (text : List ℕ) : Type 0 where
  fits : IsBytes text
  kind : kind_number k ≡ number_at KIND_AT 2 text
  size : number_at LEN_AT 2 text ≡ length text
  one : has_length (Some k) (length text) ≡ true

named : (k : Kind) (text : List ℕ) → IsBytes text → IsWhole (Some k) text → Named k text
named k text fits w =
    let e : kind_number_in text ≡ kind_number k = numbered_is (kind_number_in text) k w.kind in
    record {
      fits = fits;
      kind = sym e;
      size = w.size;
      one = w.one;
    }

tseq_high : (text : List ℕ) → IsBytes text → number_at TSEQ_AT 4 text < 2 ^ 32
tseq_high text fits = little_from-lt 0 4 (drop TSEQ_AT text) (IsBytes-drop TSEQ_AT text fits)

numbers : (text : List ℕ) → IsBytes text → are_numbers (number_at TID_AT 4 text) (number_at TSEQ_AT 4 text) ≡ true
    → AreNumbers (number_at TID_AT 4 text) (number_at TSEQ_AT 4 text)
numbers text fits e = numbers_from (number_at TID_AT 4 text) (number_at TSEQ_AT 4 text) e (tseq_high text fits)

mask_is : (text : List ℕ) → IsBytes text → not (number_at MASK_AT MASK_LEN text == 0) ≡ true → IsMask (number_at MASK_AT MASK_LEN text)
mask_is text fits e =
    let high : number_at MASK_AT MASK_LEN text < 2 ^ MOST_CPUS = little_from-lt 0 MASK_LEN (drop MASK_AT text) (IsBytes-drop MASK_AT text fits) in
    let low : 0 < number_at MASK_AT MASK_LEN text = grind (arith, nat_tests) in
    (low, high)

-- a message of a header alone is spelled by bytes that have its fields
short : (k : Kind) (m : Message) (text : List ℕ) → Named k text → (length text == HEADER_LEN) ≡ true → (number_at FLAGS_AT 2 text == 0) ≡ true → size_of m ≡ HEADER_LEN → kind_of m ≡ k → flags_of m ≡ 0 → more_of m ≡ []
    → tid_of m ≡ number_at TID_AT 4 text → tseq_of m ≡ number_at TSEQ_AT 4 text → cpu_number (cpu_of m) ≡ number_at CPU_AT 2 text → spelling m ≡ text
short k m text w one none size kind flags more tid tseq cpu =
    let n = eqb-true (length text) HEADER_LEN one in
    spelled_by m text (omega (arith, n)) w.fits (record {
      len = size ∙ sym (w.size ∙ n);
      kind = ap kind_number kind ∙ w.kind;
      tid = tid;
      tseq = tseq;
      cpu = cpu;
      flags = flags ∙ sym (eqb-true (number_at FLAGS_AT 2 text) 0 none);
      more = more ∙ sym (drop_all HEADER_LEN text (omega (arith, n)));
    })

sound_affinity : (text : List ℕ) → Named kinds.Affinity text → Fit kinds.Affinity text → IsSound kinds.Affinity text
sound_affinity text w f =
    let n = eqb-true (length text) AFFINITY_LEN w.one in
    let flags : number_at FLAGS_AT 2 text < 2 = flag_low (number_at CPU_AT 2 text) (number_at FLAGS_AT 2 text) f.flags in
    let more = at_place MASK_LEN MASK_AT text (omega (arith, n)) w.fits in
    let none : drop AFFINITY_LEN text ≡ [] = drop_all AFFINITY_LEN text (omega (arith, n)) in
    let mask : little_bytes MASK_LEN (number_at MASK_AT MASK_LEN text) ≡ drop HEADER_LEN text = sym (ap (λ (ys : List ℕ). little_bytes MASK_LEN (number_at MASK_AT MASK_LEN text) ++ ys) none) ∙ more in (
      spelled_by (message_with kinds.Affinity text) text (omega (arith, n)) w.fits (record { len = sym (w.size ∙ n); kind = w.kind; tid = refl; tseq = refl; cpu = cpu_again (number_at CPU_AT 2 text); flags = flag_again (number_at FLAGS_AT 2 text) flags; more = mask }),
      (numbers text w.fits f.numbers, affinity_fits (number_at CPU_AT 2 text) (number_at FLAGS_AT 2 text) (number_at MASK_AT MASK_LEN text) f.cpu f.flags (mask_is text w.fits f.more)),
    )

sound_created : (text : List ℕ) → Named kinds.Created text → Fit kinds.Created text → IsSound kinds.Created text
sound_created text w f =
    let len = slice_index text NAME_LEN_AT in
    let long : LEAST_CREATION_LEN ≤ length text = let e = w.one in grind (arith, nat_tests) in
    let mask_test = not (number_at MASK_AT MASK_LEN text == 0) in
    let class_test = nat_lt (slice_index text CLASS_AT) 2 in
    let len_test = nat_le len MOST_NAME_LEN in
    let size_test = round_up (NAME_AT + len) == length text in
    let more = and_parts (sizes_fit text) (name_fits text) f.more in
    let a = and_parts (mask_test && class_test && len_test) size_test more.0 in
    let b = and_parts (mask_test && class_test) len_test a.0 in
    let c = and_parts mask_test class_test b.0 in
    let d = and_parts (is_name (name_in text)) (are_zeros (drop (NAME_AT + len) text)) more.1 in
    let size : round_up (NAME_AT + len) ≡ length text = eqb-true (round_up (NAME_AT + len)) (length text) a.1 in
    let room : NAME_AT + len ≤ length text = omega (arith, size) in
    let name_len : length (name_in text) ≡ len = omega (arith, length-take len (drop NAME_AT text), length-drop NAME_AT text, room) in
    let name = name_behind text room size name_len d.1 in
    let facts = facts_behind text w.fits (omega (arith, long)) (ltb-true (slice_index text CLASS_AT) 2 c.1) name_len name in
    let sized : round_up (NAME_AT + length (name_in text)) ≡ number_at LEN_AT 2 text = ap (λ (k : ℕ). round_up (NAME_AT + k)) name_len ∙ size ∙ sym w.size in (
      spelled_by (message_with kinds.Created text) text (omega (arith, long)) w.fits (record { len = sized; kind = w.kind; tid = refl; tseq = refl; cpu = sym (eqb-true (number_at CPU_AT 2 text) NO_CPU f.cpu); flags = flag_again (number_at FLAGS_AT 2 text) (ltb-true (number_at FLAGS_AT 2 text) 2 f.flags); more = facts }),
      (numbers text w.fits f.numbers, (mask_is text w.fits c.0, d.0)),
    )

sound_kind : (k : Kind) (text : List ℕ) → Named k text → Fit k text → IsSound k text
sound_kind kinds.Created text w f = sound_created text w f
sound_kind kinds.Blocked text w f =
    (short kinds.Blocked (message_with kinds.Blocked text) text w w.one f.flags refl refl refl refl refl refl refl, (numbers text w.fits f.numbers, ltb-true (number_at CPU_AT 2 text) MOST_CPUS f.cpu))
sound_kind kinds.Wakeup text w f =
    (short kinds.Wakeup (message_with kinds.Wakeup text) text w w.one f.flags refl refl refl refl refl refl (sym (eqb-true (number_at CPU_AT 2 text) NO_CPU f.cpu)), (numbers text w.fits f.numbers, tt))
sound_kind kinds.Preempted text w f =
    (short kinds.Preempted (message_with kinds.Preempted text) text w w.one f.flags refl refl refl refl refl refl refl, (numbers text w.fits f.numbers, ltb-true (number_at CPU_AT 2 text) MOST_CPUS f.cpu))
sound_kind kinds.Yield text w f =
    (short kinds.Yield (message_with kinds.Yield text) text w w.one f.flags refl refl refl refl refl refl refl, (numbers text w.fits f.numbers, ltb-true (number_at CPU_AT 2 text) MOST_CPUS f.cpu))
sound_kind kinds.Dead text w f =
    (short kinds.Dead (message_with kinds.Dead text) text w w.one f.flags refl refl refl refl refl refl (cpu_again (number_at CPU_AT 2 text)), (numbers text w.fits f.numbers, cpu_or_none (number_at CPU_AT 2 text) f.cpu))
sound_kind kinds.Affinity text w f = sound_affinity text w f
sound_kind kinds.TimerTick text w f =
    let zeros = and_parts (number_at TID_AT 4 text == 0) (number_at TSEQ_AT 4 text == 0) f.numbers in
    let tid = sym (eqb-true (number_at TID_AT 4 text) 0 zeros.0) in
    let tseq = sym (eqb-true (number_at TSEQ_AT 4 text) 0 zeros.1) in
    (short kinds.TimerTick (message_with kinds.TimerTick text) text w w.one f.flags refl refl refl refl tid tseq refl, ltb-true (number_at CPU_AT 2 text) MOST_CPUS f.cpu)

-- bytes whose fields are in range are the spelling of the message that they name, and that message has a spelling
pub sound : (k : Kind) (text : List ℕ) → IsBytes text → IsWhole (Some k) text → fields_fit k text ≡ true → IsRef text
sound k text fits w e =
    let is = sound_kind k text (named k text fits w) (fit_parts k text e) in
    let made : message_with k text ≡ message_in text = ap (λ (o : Option Kind). message_with (unwrap_or o kinds.TimerTick) text) (sym w.kind) in
    record {
      spellable = subst IsSpellable made is.1;
      whole = sym is.0 ∙ ap spelling made;
    }
