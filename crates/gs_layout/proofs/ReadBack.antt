-- What a spelling holds is read back from it.
use Rattle.std.proofs.Common.{◌≡◌, Bool, true, false, ℕ, ◌⊎◌, inl, inr, Option, None, Some, List, [], ◌++◌, length, take, drop, refl, ap, sym, ◌∙◌, append_assoc, arith}
use Rattle.std.specs.Prelude.{unwrap_or}
use Rattle.std.proofs.lemmas.List.{drop_at, take_at}
use Rattle.std.proofs.lemmas.Bool.{false≢true}
use Rattle.byteorder.specs.Endian.{little_bytes, little_number}
use Rattle.gs_layout.specs.declared.wire.TheConstants.{KIND_AT, MASK_AT, MASK_LEN, TID_AT, TSEQ_AT}
use Rattle.gs_layout.specs.declared.facts.Facts.{Facts}
use Rattle.gs_layout.specs.declared.kind.Kind.{Kind}
use Rattle.gs_layout.specs.declared.kind.Kind.TheVariants as kinds
use Rattle.gs_layout.specs.declared.message.Change.{Change}
use Rattle.gs_layout.specs.declared.message.Change.TheVariants.{Created, Blocked, Wakeup, Preempted, Yield, Dead, Affinity}
use Rattle.gs_layout.specs.declared.message.Message.{Message}
use Rattle.gs_layout.specs.declared.message.Message.TheVariants.{Thread, TimerTick}
use Rattle.gs_layout.specs.Kind.{kind_number}
use Rattle.gs_layout.specs.Spelling.{AreNumbers, IsSpellable, IsSpellableChange, kind_of, mask_of, padding, spelling}
use Rattle.gs_layout.proofs.Shared.{class_back, cpu_back, flag_back, reads}
use Rattle.gs_layout.specs.Reading.{Begins, change_with, facts_in, kind_in, kind_numbered, message_in, message_with, number_at}

name_back : (name rest : List ℕ) → take (length name) ((name ++ padding (length name)) ++ rest) ≡ name
name_back name rest =
    ap (take (length name)) (append_assoc name (padding (length name)) rest) ∙ take_at name (padding (length name) ++ rest) (length name) refl

facts_back : (t s : ℕ) (f : Facts) (rest : List ℕ) → IsSpellableChange (Created f) → facts_in (spelling (Thread t s (Created f)) ++ rest) ≡ f
facts_back t s f rest fits = λ i. record {
  runnable = flag_back f.runnable i;
  mask = reads MASK_LEN f.mask fits.0.1 i;
  class = class_back f.class i;
  name = name_back f.name rest i;
}

change_back : (t s : ℕ) (c : Change) (rest : List ℕ) → AreNumbers t s → IsSpellableChange c → message_in (spelling (Thread t s c) ++ rest) ≡ Thread t s c
change_back t s (Created f) rest n fits = λ i. Thread (reads 4 t (omega (arith, n.tid_high)) i) (reads 4 s n.tseq_high i) (Created (facts_back t s f rest fits i))
change_back t s (Blocked c) rest n fits = λ i. Thread (reads 4 t (omega (arith, n.tid_high)) i) (reads 4 s n.tseq_high i) (Blocked (reads 2 c (omega arith) i))
change_back t s Wakeup rest n fits = λ i. Thread (reads 4 t (omega (arith, n.tid_high)) i) (reads 4 s n.tseq_high i) Wakeup
change_back t s (Preempted c) rest n fits = λ i. Thread (reads 4 t (omega (arith, n.tid_high)) i) (reads 4 s n.tseq_high i) (Preempted (reads 2 c (omega arith) i))
change_back t s (Yield c) rest n fits = λ i. Thread (reads 4 t (omega (arith, n.tid_high)) i) (reads 4 s n.tseq_high i) (Yield (reads 2 c (omega arith) i))
change_back t s (Dead None) rest n fits = λ i. Thread (reads 4 t (omega (arith, n.tid_high)) i) (reads 4 s n.tseq_high i) (Dead None)
change_back t s (Dead (Some c)) rest n fits = λ i. Thread (reads 4 t (omega (arith, n.tid_high)) i) (reads 4 s n.tseq_high i) (Dead (cpu_back (Some c) fits i))
change_back t s (Affinity None off m) rest n fits = λ i. Thread (reads 4 t (omega (arith, n.tid_high)) i) (reads 4 s n.tseq_high i) (Affinity None (flag_back off i) (reads MASK_LEN m fits.0.1 i))
change_back t s (Affinity (Some c) off m) rest n fits = λ i. Thread (reads 4 t (omega (arith, n.tid_high)) i) (reads 4 s n.tseq_high i) (Affinity (cpu_back (Some c) fits.1 i) (flag_back off i) (reads MASK_LEN m fits.0.1 i))

-- a message is read back from its spelling, whatever follows it
pub read_back : (m : Message) (rest : List ℕ) → IsSpellable m → message_in (spelling m ++ rest) ≡ m
read_back (Thread t s c) rest fits = change_back t s c rest fits.0 fits.1
read_back (TimerTick c) rest fits = ap TimerTick (reads 2 c (omega arith))

-- what the bytes begin with is the message that they name
pub begun_is : (bytes : List ℕ) (m : Message) → Begins bytes m → message_in bytes ≡ m
begun_is bytes m h = ap message_in h.whole ∙ read_back m h.rest h.spellable

kind_back : (k : Kind) → kind_numbered (little_number 2 (little_bytes 2 (kind_number k) ++ [])) ≡ Some k
kind_back kinds.Created = refl
kind_back kinds.Blocked = refl
kind_back kinds.Wakeup = refl
kind_back kinds.Preempted = refl
kind_back kinds.Yield = refl
kind_back kinds.Dead = refl
kind_back kinds.Affinity = refl
kind_back kinds.TimerTick = refl

pub kind_begun : (bytes : List ℕ) (m : Message) → Begins bytes m → kind_numbered (number_at KIND_AT 2 bytes) ≡ Some (kind_of m)
kind_begun bytes m h = ap (λ (bs : List ℕ). kind_numbered (number_at KIND_AT 2 bs)) h.whole ∙ kind_back (kind_of m)

pub kind_in_begun : (bytes : List ℕ) (m : Message) → Begins bytes m → kind_in bytes ≡ kind_of m
kind_in_begun bytes m h = ap (λ (o : Option Kind). unwrap_or o kinds.TimerTick) (kind_begun bytes m h)

abbrev has_mask : Kind → Bool
has_mask kinds.Created = true
has_mask kinds.Affinity = true
has_mask _ = false

masked : (k : Kind) → (k ≡ kinds.Created) ⊎ (k ≡ kinds.Affinity) → has_mask k ≡ true
masked k (inl e) = ap has_mask e
masked k (inr e) = ap has_mask e

-- the mask of a creation or of a new mask stands where the bytes name it
pub mask_begun : (bytes : List ℕ) (m : Message) (k : Kind) → Begins bytes m → k ≡ kind_of m → (k ≡ kinds.Created) ⊎ (k ≡ kinds.Affinity)
    → Some (number_at MASK_AT MASK_LEN bytes) ≡ mask_of m
mask_begun bytes (Thread t s (Created f)) k h e kind = ap (λ (n : ℕ). Some n) (ap (number_at MASK_AT MASK_LEN) h.whole ∙ reads MASK_LEN f.mask h.spellable.1.0.1)
mask_begun bytes (Thread t s (Affinity None off m)) k h e kind = ap (λ (n : ℕ). Some n) (ap (number_at MASK_AT MASK_LEN) h.whole ∙ reads MASK_LEN m h.spellable.1.0.1)
mask_begun bytes (Thread t s (Affinity (Some c) off m)) k h e kind = ap (λ (n : ℕ). Some n) (ap (number_at MASK_AT MASK_LEN) h.whole ∙ reads MASK_LEN m h.spellable.1.0.1)
mask_begun bytes (Thread t s (Blocked c)) k h e kind = absurd (false≢true (sym (ap has_mask e) ∙ masked k kind))
mask_begun bytes (Thread t s Wakeup) k h e kind = absurd (false≢true (sym (ap has_mask e) ∙ masked k kind))
mask_begun bytes (Thread t s (Preempted c)) k h e kind = absurd (false≢true (sym (ap has_mask e) ∙ masked k kind))
mask_begun bytes (Thread t s (Yield c)) k h e kind = absurd (false≢true (sym (ap has_mask e) ∙ masked k kind))
mask_begun bytes (Thread t s (Dead c)) k h e kind = absurd (false≢true (sym (ap has_mask e) ∙ masked k kind))
mask_begun bytes (TimerTick c) k h e kind = absurd (false≢true (sym (ap has_mask e) ∙ masked k kind))

-- a message of a thread, by its fields
pub thread_made : (k : Kind) (bytes : List ℕ) (t s : ℕ) (c : Change) → (k ≡ kinds.TimerTick → ⊥) → t ≡ number_at TID_AT 4 bytes → s ≡ number_at TSEQ_AT 4 bytes → c ≡ change_with k bytes
    → Thread t s c ≡ message_with k bytes
thread_made kinds.Created bytes t s c other p q r = λ i. Thread (p i) (q i) (r i)
thread_made kinds.Blocked bytes t s c other p q r = λ i. Thread (p i) (q i) (r i)
thread_made kinds.Wakeup bytes t s c other p q r = λ i. Thread (p i) (q i) (r i)
thread_made kinds.Preempted bytes t s c other p q r = λ i. Thread (p i) (q i) (r i)
thread_made kinds.Yield bytes t s c other p q r = λ i. Thread (p i) (q i) (r i)
thread_made kinds.Dead bytes t s c other p q r = λ i. Thread (p i) (q i) (r i)
thread_made kinds.Affinity bytes t s c other p q r = λ i. Thread (p i) (q i) (r i)
thread_made kinds.TimerTick bytes t s c other p q r = absurd (other refl)

-- of two spellings at the front of the same bytes both are the same
pub one_front : (m n : Message) (x y : List ℕ) → IsSpellable m → IsSpellable n → spelling m ++ x ≡ spelling n ++ y → (m ≡ n) × (x ≡ y)
one_front m n x y first second same =
    let e : m ≡ n = sym (read_back m x first) ∙ ap message_in same ∙ read_back n y second in
    let after : spelling m ++ x ≡ spelling m ++ y = same ∙ ap (λ (k : Message). spelling k ++ y) (sym e) in
    (e, sym (drop_at (spelling m) x (length (spelling m)) refl) ∙ ap (drop (length (spelling m))) after ∙ drop_at (spelling m) y (length (spelling m)) refl)
