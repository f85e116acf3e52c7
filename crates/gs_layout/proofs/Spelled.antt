-- How long a message's bytes are.
use Rattle.std.proofs.Common.{◌≡◌, ℕ, ◌+◌, ◌-◌, ◌%◌, ◌≤◌, List, [], ◌++◌, length, take, drop, refl, ap, sym, ◌∙◌, append_assoc, arith, length-append}
use Rattle.std.proofs.lemmas.List.{append-nil, drop-drop, drop_all, drop_at, length-replicate, take_all, take_at}
use borrow.Rule.Slice.PartMut.{put_mid}
use Rattle.gs_layout.specs.declared.wire.TheConstants.{ALIGNMENT, HEADER_LEN, MOST_MESSAGE_LEN, NAME_AT}
use Rattle.gs_layout.specs.declared.facts.Facts.{Facts}
use Rattle.gs_layout.specs.declared.message.Change.{Change}
use Rattle.gs_layout.specs.declared.message.Change.TheVariants.{Created, Blocked, Wakeup, Preempted, Yield, Dead, Affinity}
use Rattle.gs_layout.specs.declared.message.Message.{Message}
use Rattle.gs_layout.specs.declared.message.Message.TheVariants.{Thread, TimerTick}
use Rattle.gs_layout.proofs.Shared.{name_short}
use Rattle.gs_layout.specs.Spelling.{IsSpellable, IsSpellableChange, facts_bytes, more_of, more_of_change, padding, round_up, size_of, size_of_change, spelling}

-- a creation's bytes behind the header
pub length-facts_bytes : (f : Facts) → length (facts_bytes f) + HEADER_LEN ≡ round_up (NAME_AT + length f.name)
length-facts_bytes f =
    omega (arith, length-append f.name (padding (length f.name)), length-replicate {A = ℕ} (round_up (NAME_AT + length f.name) - (NAME_AT + length f.name)) 0)

length-more_of_change : (c : Change) → length (more_of_change c) + HEADER_LEN ≡ size_of_change c
length-more_of_change (Created f) = length-facts_bytes f
length-more_of_change (Blocked c) = refl
length-more_of_change Wakeup = refl
length-more_of_change (Preempted c) = refl
length-more_of_change (Yield c) = refl
length-more_of_change (Dead c) = refl
length-more_of_change (Affinity c off m) = refl

-- a message's bytes behind the header
pub length-more_of : (m : Message) → length (more_of m) + HEADER_LEN ≡ size_of m
length-more_of (Thread t s c) = length-more_of_change c
length-more_of (TimerTick c) = refl

-- a message has as many bytes as its size says
pub spelled_length : (m : Message) → length (spelling m) ≡ size_of m
spelled_length m = omega (arith, length-more_of m)

-- a size that a message may have
pub record IsSize (n : ℕ) : Type 0 where
  pub least : HEADER_LEN ≤ n
  pub most : n ≤ MOST_MESSAGE_LEN
  pub whole : n % ALIGNMENT ≡ 0

size_change : (c : Change) → IsSpellableChange c → IsSize (size_of_change c)
size_change (Created f) fits =
    let n = name_short f.name fits.1 in
    record { least = omega arith; most = omega (arith, n); whole = omega arith }
size_change (Blocked c) fits = record { least = omega arith; most = omega arith; whole = omega arith }
size_change Wakeup fits = record { least = omega arith; most = omega arith; whole = omega arith }
size_change (Preempted c) fits = record { least = omega arith; most = omega arith; whole = omega arith }
size_change (Yield c) fits = record { least = omega arith; most = omega arith; whole = omega arith }
size_change (Dead c) fits = record { least = omega arith; most = omega arith; whole = omega arith }
size_change (Affinity c off m) fits = record { least = omega arith; most = omega arith; whole = omega arith }

pub size_message : (m : Message) → IsSpellable m → IsSize (size_of m)
size_message (Thread t s c) fits = size_change c fits.1
size_message (TimerTick c) fits = record { least = omega arith; most = omega arith; whole = omega arith }

-- what stands behind a first part that was written already, written in its turn
pub joined : (n : ℕ) (front more out whole rest : List ℕ) → length front ≡ n → n ≤ length out
    → whole ≡ front ++ drop n out → rest ≡ more ++ drop (length more) (take (length whole - n) (drop n whole))
    → put_mid n (length whole - n) whole rest ≡ (front ++ more) ++ drop (length (front ++ more)) out
joined n front more out whole rest len room is_whole is_rest =
    let behind : drop n whole ≡ drop n out = ap (drop n) is_whole ∙ drop_at front (drop n out) n len in
    let before : take n whole ≡ front = ap (take n) is_whole ∙ take_at front (drop n out) n len in
    let size : length whole - n ≡ length (drop n out) = omega (arith, ap length is_whole, length-append front (drop n out)) in
    let kept : take (length whole - n) (drop n whole) ≡ drop n out = ap (take (length whole - n)) behind ∙ take_all (length whole - n) (drop n out) (omega arith) in
    let none : drop (length whole - n) (drop n whole) ≡ [] = ap (drop (length whole - n)) behind ∙ drop_all (length whole - n) (drop n out) (omega arith) in
    let last : rest ≡ more ++ drop (n + length more) out =
    is_rest ∙ ap (λ (xs : List ℕ). more ++ drop (length more) xs) kept ∙ ap (λ (xs : List ℕ). more ++ xs) (drop-drop (length more) n out) in
    let count : n + length more ≡ length (front ++ more) = omega (arith, length-append front more) in
    ap (λ (xs : List ℕ). take n whole ++ (rest ++ xs)) none
    ∙ ap (λ (xs : List ℕ). take n whole ++ xs) (append-nil rest)
    ∙ ap (λ (xs : List ℕ). xs ++ rest) before
    ∙ ap (λ (xs : List ℕ). front ++ xs) (last ∙ ap (λ (k : ℕ). more ++ drop k out) count)
    ∙ sym (append_assoc front more (drop (length (front ++ more)) out))
