-- Reading a segment, item by item.
use Rattle.std.proofs.Common.{◌≡◌, Bool, true, false, ℕ, zero, suc, ◌<◌, ◌≤◌, Result, Ok, Err, List, [], ◌∷◌, ◌++◌, length, length-append, take, drop, refl, ap, sym, subst, ◌∙◌, arith}
use Rattle.std.specs.Prelude.{◌==◌, is_err}
use Rattle.std.proofs.lemmas.Bool.{eqb-false, eqb-true}
use Rattle.std.proofs.lemmas.List.{drop_at, length-drop, nil_from_length, take_at}
use Rattle.gs_layout.specs.declared.message.Message.{Message}
use Rattle.gs_reader.specs.declared.fault.ReadFault.{ReadFault}
use Rattle.gs_reader.specs.declared.item.Item.{Item}
use Rattle.gs_reader.specs.declared.item.Item.TheVariants as items
use Rattle.gs_layout.proofs.Laws.{IsBytes}
use Rattle.gs_reader.specs.Reading.{IsFault, IsRead, IsSpelled, read}
use Rattle.gs_reader.specs.Records.{Found, and_then, item_then, items_of, segment, step, taken}
use Rattle.gs_reader.proofs.Exact.{fault_read, is_read, size_read}

abbrev Answer : Type 0
Answer = Result (Item × ℕ) ReadFault

step_again : (x y : ℕ) (bytes : List ℕ) (a : Answer) → read bytes ≡ a → 0 < length bytes → length bytes ≤ suc x → length bytes ≤ suc y
    → ((rest : List ℕ) → length rest ≤ x → length rest ≤ y → items_of x rest ≡ items_of y rest)
    → step a (items_of x (drop (taken a) bytes)) ≡ step a (items_of y (drop (taken a) bytes))
step_again x y bytes (Err f) e long a b again = refl
step_again x y bytes (Ok r) e long a b again =
    let size = size_read bytes r e in
    ap (step (Ok r)) (again (drop r.1 bytes) (omega (arith, length-drop r.1 bytes, size.0)) (omega (arith, length-drop r.1 bytes, size.0)))

-- it does not matter how many items are allowed, if they are enough
enough : (x y : ℕ) (bytes : List ℕ) → length bytes ≤ x → length bytes ≤ y → items_of x bytes ≡ items_of y bytes
unfolding items_of
enough zero zero bytes a b = refl
enough zero (suc y) [] a b = refl
enough zero (suc y) (c ∷ bytes) a b = absurd (omega arith)
enough (suc x) zero [] a b = refl
enough (suc x) zero (c ∷ bytes) a b = absurd (omega arith)
enough (suc x) (suc y) [] a b = refl
enough (suc x) (suc y) (c ∷ bytes) a b = step_again x y (c ∷ bytes) (read (c ∷ bytes)) refl (omega arith) a b (λ rest p q. enough x y rest p q)

nothing_read : (f : ReadFault) (a : Answer) → a ≡ Err f → (found : Found) → step a found ≡ Err f ∷ []
nothing_read f a e found = ap (λ (b : Answer). step b found) e

-- an end
pub segment_end : segment [] ≡ []
unfolding items_of
segment_end = refl

-- a fault
pub segment_fault : (bytes : List ℕ) (f : ReadFault) → 0 < length bytes → read bytes ≡ Err f → segment bytes ≡ Err f ∷ []
unfolding items_of
segment_fault [] f long e = absurd (omega arith)
segment_fault (b ∷ bytes) f long e = nothing_read f (read (b ∷ bytes)) e _

-- an item
pub segment_item : (bytes : List ℕ) (r : Item × ℕ) → read bytes ≡ Ok r → segment bytes ≡ step (Ok r) (segment (drop r.1 bytes))
unfolding items_of
segment_item [] r e = absurd (omega (arith, size_read [] r e))
segment_item (b ∷ bytes) r e =
    let size = size_read (b ∷ bytes) r e in
    let rest = drop r.1 (b ∷ bytes) in
    ap (λ (a : Answer). step a (items_of (length bytes) (drop (taken a) (b ∷ bytes)))) e
    ∙ ap (step (Ok r)) (enough (length bytes) (length rest) rest (omega (arith, length-drop r.1 (b ∷ bytes), size.0)) (omega arith))

-- ---- a loop over a segment

pub not_empty : (bytes : List ℕ) (b : Bool) → b ≡ (length bytes == 0) → b ≡ false → 0 < length bytes
not_empty bytes b is e =
    let apart : length bytes ≡ 0 → ⊥ = eqb-false (length bytes) 0 (sym is ∙ e) in
    omega (arith, apart)

pub empty_segment : (bytes : List ℕ) (b : Bool) → b ≡ (length bytes == 0) → b ≡ true → segment bytes ≡ []
empty_segment bytes b is e = ap segment (nil_from_length bytes (eqb-true (length bytes) 0 (sym is ∙ e))) ∙ segment_end

pub at_fault : (bytes rest : List ℕ) (f : ReadFault) → segment rest ≡ segment bytes → 0 < length rest → read rest ≡ Err f → segment bytes ≡ Err f ∷ segment []
at_fault bytes rest f so_far long e = sym so_far ∙ segment_fault rest f long e ∙ ap (λ (found : Found). Err f ∷ found) (sym segment_end)

pub at_message : (bytes rest after : List ℕ) (item : Item) (k : ℕ) (m : Message) → segment rest ≡ segment bytes → read rest ≡ Ok (item, k) → item ≡ items.Message m → after ≡ drop k rest
    → segment bytes ≡ Ok m ∷ segment after
at_message bytes rest after item k m so_far e is behind =
    sym so_far
    ∙ segment_item rest (item, k) e
    ∙ ap (λ (x : Item). item_then x (segment (drop k rest))) is
    ∙ ap (λ (x : List ℕ). Ok m ∷ segment x) (sym behind)

pub at_pad : (bytes rest after : List ℕ) (item : Item) (k : ℕ) → segment rest ≡ segment bytes → read rest ≡ Ok (item, k) → item ≡ items.Pad → after ≡ drop k rest
    → segment after ≡ segment bytes
at_pad bytes rest after item k so_far e is behind =
    ap segment behind
    ∙ ap (λ (x : Item). item_then x (segment (drop k rest))) (sym is)
    ∙ sym (segment_item rest (item, k) e)
    ∙ so_far

pub shorter : (rest after : List ℕ) (item : Item) (k : ℕ) → read rest ≡ Ok (item, k) → after ≡ drop k rest → length after < length rest
shorter rest after item k e behind =
    let size = size_read rest (item, k) e in
    omega (arith, ap length behind, length-drop k rest, size.0, size.1)

-- ---- two segments

pub first_fault : (first rest second : List ℕ) (found : Result Message ReadFault) → is_err found ≡ true → segment first ≡ found ∷ segment rest
    → and_then (segment first) (segment second) ≡ found ∷ and_then (segment []) (segment [])
first_fault first rest second (Ok m) fault e = absurd cc
first_fault first rest second (Err f) fault e =
    ap (λ (x : Found). and_then x (segment second)) e ∙ ap (λ (x : Found). Err f ∷ and_then x x) (sym segment_end)

pub second_found : (first second rest : List ℕ) (found : Result Message ReadFault) → segment first ≡ [] → segment second ≡ found ∷ segment rest
    → and_then (segment first) (segment second) ≡ found ∷ and_then (segment []) (segment rest)
second_found first second rest found none e =
    ap (λ (x : Found). and_then x (segment second)) none ∙ e ∙ ap (λ (x : Found). found ∷ and_then x (segment rest)) (sym segment_end)

-- ---- a segment by what its bytes spell

is_read_at : (item : Item) (text rest : List ℕ) → IsSpelled item text → IsRead (text ++ rest) (item, length text)
is_read_at item text rest spelled =
    let front : take (length text) (text ++ rest) ≡ text = take_at text rest (length text) refl in
    (omega (arith, length-append text rest), subst (IsSpelled item) (sym front) spelled)

pub segment_spelled : (item : Item) (text rest : List ℕ) → IsSpelled item text → segment (text ++ rest) ≡ item_then item (segment rest)
segment_spelled item text rest spelled =
    segment_item (text ++ rest) (item, length text) (is_read (text ++ rest) (item, length text) (is_read_at item text rest spelled))
    ∙ ap (λ (xs : List ℕ). item_then item (segment xs)) (drop_at text rest (length text) refl)

pub segment_faulty : (bytes : List ℕ) (f : ReadFault) → IsBytes bytes → 0 < length bytes → IsFault bytes f → segment bytes ≡ Err f ∷ []
segment_faulty bytes f fits long fault = segment_fault bytes f long (fault_read bytes f fits fault)
