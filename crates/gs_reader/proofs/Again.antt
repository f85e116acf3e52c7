-- A spelling is read again as itself, whatever follows it.
use Rattle.std.proofs.Common.{◌≡◌, Bool, true, false, ℕ, ◌+◌, ◌-◌, ◌<◌, ◌≤◌, Option, None, Some, Ok, List, [], ◌++◌, length, take, drop, refl, ap, sym, ◌∙◌, length-append, arith}
use Rattle.std.specs.Prelude.{◌==◌, ◌&&◌, ◌||◌, not, nat_le, nat_lt, if◌then◌else◌, slice_index}
use Rattle.std.specs.List.{list_all}
use Rattle.std.proofs.lemmas.Bool.{and_from, and_parts, cond-true, eq-eqb, lt-ltb, or_left}
use Rattle.std.proofs.lemmas.Bool.Decides.{nat_tests}
use Rattle.std.proofs.lemmas.List.{drop-drop, drop_at, take_at}
use Rattle.byteorder.specs.Endian.{little_bytes, little_number}
use Rattle.gs_layout.specs.declared.cpu.TheConstants.{NO_CPU}
use Rattle.gs_layout.specs.declared.name.TheConstants.{MOST_NAME_LEN}
use Rattle.gs_layout.specs.declared.wire.TheConstants.{CLASS_AT, HEADER_LEN, MASK_AT, MASK_LEN, NAME_AT, NAME_LEN_AT, TID_AT, TSEQ_AT}
use Rattle.gs_status.specs.declared.mask.TheConstants.{MOST_CPUS}
use Rattle.gs_layout.specs.declared.facts.Facts.{Facts}
use Rattle.gs_layout.specs.declared.kind.Kind.{Kind}
use Rattle.gs_layout.specs.declared.kind.Kind.TheVariants as kinds
use Rattle.gs_layout.specs.declared.message.Change.{Change}
use Rattle.gs_layout.specs.declared.message.Change.TheVariants.{Created, Blocked, Wakeup, Preempted, Yield, Dead, Affinity}
use Rattle.gs_layout.specs.declared.message.Message.{Message}
use Rattle.gs_layout.specs.declared.message.Message.TheVariants.{Thread, TimerTick}
use Rattle.gs_layout.specs.Kind.{kind_number}
use Rattle.gs_layout.specs.Name.{is_name, is_name_byte}
use Rattle.gs_layout.specs.Reading.{are_zeros, Begins, kind_numbered, message_in, name_in, number_at}
use Rattle.gs_layout.specs.Spelling.{AreNumbers, are_numbers, IsSpellable, IsSpellableChange, kind_of, kind_of_change, padding, round_up, size_of, size_of_change, spelling}
use Rattle.gs_layout.proofs.Laws.{begun_is, class_passes, flag_passes, kind_begun, mask_passes, name_short, numbers_pass, reads, size_message, spelled_begins, spelled_length, zeros_pass}
use Rattle.gs_reader.specs.declared.fault.ReadFault.{ReadFault}
use Rattle.gs_reader.specs.declared.item.Item.TheVariants as items
use Rattle.gs_reader.specs.Fault.{front_fault, has_length, is_kind, kind_number_in, length_in}
use Rattle.gs_reader.specs.Reading.{fields_fit, item_in, name_fits, read, read_behind, sizes_fit, with_length}
use Rattle.gs_reader.proofs.Front.{front_none}
use Rattle.gs_reader.proofs.Ranges.{Fit, fit_from, numbered_is}

-- what bytes are read as if their front is right
pub reads_as : (bytes : List ℕ) (n : ℕ) (o : Option Kind) (text : List ℕ) → front_fault bytes ≡ None → length_in bytes ≡ n → kind_numbered (kind_number_in bytes) ≡ o → take n bytes ≡ text
    → read bytes ≡ with_length n (item_in o text)
reads_as bytes n o text front len kind same =
    ap (λ (f : Option ReadFault). read_behind f bytes) front
    ∙ (λ i. with_length (len i) (item_in (kind i) (take (len i) bytes)))
    ∙ ap (λ (t : List ℕ). with_length n (item_in o t)) same

numbers_again : (t s : ℕ) (c : Change) → AreNumbers t s
    → are_numbers (number_at TID_AT 4 (spelling (Thread t s c))) (number_at TSEQ_AT 4 (spelling (Thread t s c))) ≡ true
numbers_again t s c h =
    let a : number_at TID_AT 4 (spelling (Thread t s c)) ≡ t = reads 4 t (omega (arith, h.tid_high)) in
    let b : number_at TSEQ_AT 4 (spelling (Thread t s c)) ≡ s = reads 4 s h.tseq_high in
    (λ i. are_numbers (a i) (b i)) ∙ numbers_pass t s h

cpu_again : (c : ℕ) → c < MOST_CPUS → nat_lt (little_number 2 (little_bytes 2 c ++ [])) MOST_CPUS ≡ true
cpu_again c lt = ap (λ (n : ℕ). nat_lt n MOST_CPUS) (reads 2 c (omega arith)) ∙ lt-ltb c MOST_CPUS lt

cpu_or_again : (c : ℕ) → c < MOST_CPUS → (nat_lt (little_number 2 (little_bytes 2 c ++ [])) MOST_CPUS || little_number 2 (little_bytes 2 c ++ []) == NO_CPU) ≡ true
cpu_or_again c lt = or_left (nat_lt (little_number 2 (little_bytes 2 c ++ [])) MOST_CPUS) (little_number 2 (little_bytes 2 c ++ []) == NO_CPU) (cpu_again c lt)

off_fits : (b : Bool) (c : ℕ) → c < MOST_CPUS
    → (little_number 2 (little_bytes 2 (if b then 1 else 0) ++ []) == 0 || (little_number 2 (little_bytes 2 (if b then 1 else 0) ++ []) == 1 && not (little_number 2 (little_bytes 2 c ++ []) == NO_CPU))) ≡ true
off_fits true c lt =
    let is : not (c == NO_CPU) ≡ true = grind (arith, nat_tests) in
    ap (λ (n : ℕ). not (n == NO_CPU)) (reads 2 c (omega arith)) ∙ is
off_fits false c lt = refl

off_none : (b : Bool) → b ≡ false
    → (little_number 2 (little_bytes 2 (if b then 1 else 0) ++ []) == 0 || (little_number 2 (little_bytes 2 (if b then 1 else 0) ++ []) == 1 && not (NO_CPU == NO_CPU))) ≡ true
off_none true e = absurd cc
off_none false e = refl

sizes_again : (t s : ℕ) (f : Facts) → IsSpellableChange (Created f) → sizes_fit (spelling (Thread t s (Created f))) ≡ true
sizes_again t s f fits =
    let text = spelling (Thread t s (Created f)) in
    let a = not (number_at MASK_AT MASK_LEN text == 0) in
    let b = nat_lt (slice_index text CLASS_AT) 2 in
    let c = nat_le (slice_index text NAME_LEN_AT) MOST_NAME_LEN in
    let d = round_up (NAME_AT + slice_index text NAME_LEN_AT) == length text in
    let short = and_parts (nat_le (length f.name) MOST_NAME_LEN) (list_all is_name_byte f.name) fits.1 in
    let size : round_up (NAME_AT + slice_index text NAME_LEN_AT) ≡ length text = sym (spelled_length (Thread t s (Created f))) in
    and_from (a && b && c) d (and_from (a && b) c (and_from a b (mask_passes MASK_LEN f.mask [] fits.0.0 fits.0.1) (class_passes f.class)) short.0) (eq-eqb (round_up (NAME_AT + slice_index text NAME_LEN_AT)) (length text) size)

name_again : (t s : ℕ) (f : Facts) → IsSpellableChange (Created f) → name_fits (spelling (Thread t s (Created f))) ≡ true
name_again t s f fits =
    let text = spelling (Thread t s (Created f)) in
    let n = length f.name in
    let name : name_in text ≡ f.name = take_at f.name (padding n) n refl in
    let zeros : drop (NAME_AT + n) text ≡ padding n = sym (drop-drop n NAME_AT text) ∙ drop_at f.name (padding n) n refl in
    and_from (is_name (name_in text)) (are_zeros (drop (NAME_AT + n) text)) (ap is_name name ∙ fits.1) (ap (are_zeros) zeros ∙ zeros_pass (round_up (NAME_AT + n) - (NAME_AT + n)))

fit_change : (t s : ℕ) (c : Change) → AreNumbers t s → IsSpellableChange c → Fit (kind_of_change c) (spelling (Thread t s c))
fit_change t s (Created f) h fits = record {
  numbers = numbers_again t s (Created f) h;
  cpu = refl;
  flags = flag_passes f.runnable;
  more = and_from (sizes_fit (spelling (Thread t s (Created f)))) (name_fits (spelling (Thread t s (Created f)))) (sizes_again t s f fits) (name_again t s f fits);
}
fit_change t s (Blocked c) h fits = record { numbers = numbers_again t s (Blocked c) h; cpu = cpu_again c fits; flags = refl; more = refl }
fit_change t s Wakeup h fits = record { numbers = numbers_again t s Wakeup h; cpu = refl; flags = refl; more = refl }
fit_change t s (Preempted c) h fits = record { numbers = numbers_again t s (Preempted c) h; cpu = cpu_again c fits; flags = refl; more = refl }
fit_change t s (Yield c) h fits = record { numbers = numbers_again t s (Yield c) h; cpu = cpu_again c fits; flags = refl; more = refl }
fit_change t s (Dead None) h fits = record { numbers = numbers_again t s (Dead None) h; cpu = refl; flags = refl; more = refl }
fit_change t s (Dead (Some c)) h fits = record { numbers = numbers_again t s (Dead (Some c)) h; cpu = cpu_or_again c fits; flags = refl; more = refl }
fit_change t s (Affinity None off m) h fits = record {
  numbers = numbers_again t s (Affinity None off m) h;
  cpu = refl;
  flags = off_none off fits.1;
  more = mask_passes MASK_LEN m [] fits.0.0 fits.0.1;
}
fit_change t s (Affinity (Some c) off m) h fits = record {
  numbers = numbers_again t s (Affinity (Some c) off m) h;
  cpu = cpu_or_again c fits.1;
  flags = off_fits off c fits.1;
  more = mask_passes MASK_LEN m [] fits.0.0 fits.0.1;
}

fit_message : (m : Message) → IsSpellable m → Fit (kind_of m) (spelling m)
fit_message (Thread t s c) fits = fit_change t s c fits.0 fits.1
fit_message (TimerTick c) fits = record { numbers = refl; cpu = cpu_again c fits; flags = refl; more = refl }

-- a creation has 40, 48 or 56 bytes
created_length : (n : ℕ) → n ≤ MOST_NAME_LEN → has_length (Some kinds.Created) (round_up (NAME_AT + n)) ≡ true
created_length n le = grind (arith, nat_tests)

length_change : (c : Change) → IsSpellableChange c → has_length (Some (kind_of_change c)) (size_of_change c) ≡ true
length_change (Created f) fits = created_length (length f.name) (name_short f.name fits.1)
length_change (Blocked c) fits = refl
length_change Wakeup fits = refl
length_change (Preempted c) fits = refl
length_change (Yield c) fits = refl
length_change (Dead c) fits = refl
length_change (Affinity c off m) fits = refl

length_message : (m : Message) → IsSpellable m → has_length (Some (kind_of m)) (size_of m) ≡ true
length_message (Thread t s c) fits = length_change c fits.1
length_message (TimerTick c) fits = refl

known_kind : (k : Kind) → is_kind (kind_number k) ≡ true
known_kind kinds.Created = refl
known_kind kinds.Blocked = refl
known_kind kinds.Wakeup = refl
known_kind kinds.Preempted = refl
known_kind kinds.Yield = refl
known_kind kinds.Dead = refl
known_kind kinds.Affinity = refl
known_kind kinds.TimerTick = refl

-- a message is read again from its spelling
pub message_again : (m : Message) (rest : List ℕ) → IsSpellable m → read (spelling m ++ rest) ≡ Ok (items.Message m, length (spelling m))
message_again m rest fits =
    let bytes = spelling m ++ rest in
    let n = length (spelling m) in
    let begins : Begins bytes m = record { spellable = fits; rest = rest; whole = refl } in
    let size : size_of m ≡ n = sym (spelled_length m) in
    let kind : kind_numbered (kind_number_in bytes) ≡ Some (kind_of m) = kind_begun bytes m begins in
    let named_kind : kind_number_in bytes ≡ kind_number (kind_of m) = numbered_is (kind_number_in bytes) (kind_of m) kind in
    let sizes = size_message m fits in
    let low : HEADER_LEN ≤ size_of m = sizes.least in
    let len : length_in bytes ≡ size_of m = reads 2 (size_of m) (omega (arith, sizes.most)) in
    let whole : length bytes ≡ n + length rest = length-append (spelling m) rest in
    let front : front_fault bytes ≡ None = front_none bytes (record {
      four = omega (arith, whole, low, size);
      known = ap is_kind named_kind ∙ known_kind (kind_of m);
      one = (λ i. has_length (kind i) (len i)) ∙ length_message m fits;
      room = omega (arith, whole, len, size);
    }) in
    let fit : fields_fit (kind_of m) (spelling m) ≡ true = fit_from (kind_of m) (spelling m) (fit_message m fits) in
    let is : message_in (spelling m) ≡ m = begun_is (spelling m) m (spelled_begins (spelling m) m fits refl) in
    let item : item_in (Some (kind_of m)) (spelling m) ≡ Ok (items.Message m) =
    cond-true (fields_fit (kind_of m) (spelling m)) (Ok (items.Message (message_in (spelling m)))) _ fit ∙ ap (λ (k : Message). Ok (items.Message k)) is in
    reads_as bytes n (Some (kind_of m)) (spelling m) front (len ∙ size) kind (take_at (spelling m) rest n refl) ∙ ap (with_length n) item
