-- Reading is the spelling backwards, and each fault is returned exactly if it is the first in the order.
use Rattle.std.proofs.Common.{◌≡◌, Bool, true, false, cond, ℕ, ◌≤◌, Option, None, Some, Result, Ok, Err, List, ◌++◌, length, take, drop, refl, ap, sym, subst, ◌∙◌, arith}
use Rattle.std.specs.Prelude.{IfOk, IfErr}
use Rattle.std.proofs.lemmas.List.{length-take, take-append-drop}
use Rattle.gs_layout.specs.declared.wire.TheConstants.{FRONT_LEN, LEAST_PAD_LEN}
use Rattle.gs_layout.specs.declared.kind.Kind.{Kind}
use Rattle.gs_layout.specs.Pad.{pad}
use Rattle.gs_layout.specs.Reading.{are_zeros, kind_numbered, message_in}
use Rattle.gs_layout.specs.Spelling.{spelling}
use Rattle.gs_layout.proofs.Laws.{IsBytes, IsBytes-take}
use Rattle.gs_reader.specs.declared.fault.ReadFault.{ReadFault}
use Rattle.gs_reader.specs.declared.fault.ReadFault.TheVariants.{Short, BadKind, BadLength, BadField}
use Rattle.gs_reader.specs.declared.item.Item.{Item}
use Rattle.gs_reader.specs.declared.item.Item.TheVariants as items
use Rattle.gs_reader.specs.Fault.{front_fault, kind_number_in, length_in}
use Rattle.gs_reader.specs.Reading.{IsFault, IsRead, IsWhole, fields_fit, item_in, read, read_behind, with_length}
use Rattle.gs_reader.proofs.Again.{message_again}
use Rattle.gs_reader.proofs.Front.{fronted, front_no_field, least_length, whole_text}
use Rattle.gs_reader.proofs.Pads.{pad_again, pad_read}
use Rattle.gs_reader.proofs.Sound.{sound}

abbrev Answer : Type 0
Answer = Result (Item × ℕ) ReadFault

abbrev ok_read : Item × ℕ → Answer
ok_read r = Ok r

abbrev err_read : ReadFault → Answer
err_read f = Err f

ok_is : (x y : Item × ℕ) → ok_read x ≡ ok_read y → x ≡ y
ok_is x y e = cc

err_is : (x y : ReadFault) → err_read x ≡ err_read y → x ≡ y
err_is x y e = cc

ok_not_err : (x : Item × ℕ) (f : ReadFault) → ok_read x ≡ err_read f → ⊥
ok_not_err x f e = cc

-- what was read is what the first bytes spell
pad_found : (bytes : List ℕ) (n : ℕ) (b : Bool) (r : Item × ℕ) → IsBytes bytes → n ≤ length bytes → IsWhole None (take n bytes) → are_zeros (drop FRONT_LEN (take n bytes)) ≡ b
    → with_length n (cond b (Ok items.Pad) (Err BadField)) ≡ ok_read r → IsRead bytes r
pad_found bytes n true r fits room w zeros e = subst (IsRead bytes) (ok_is (items.Pad, n) r e) (room, pad_read (take n bytes) (IsBytes-take n bytes fits) w zeros)
pad_found bytes n false r fits room w zeros e = absurd (ok_not_err r BadField (sym e))

message_found : (bytes : List ℕ) (n : ℕ) (k : Kind) (b : Bool) (r : Item × ℕ) → IsBytes bytes → n ≤ length bytes → IsWhole (Some k) (take n bytes) → fields_fit k (take n bytes) ≡ b
    → with_length n (cond b (Ok (items.Message (message_in (take n bytes)))) (Err BadField)) ≡ ok_read r → IsRead bytes r
message_found bytes n k true r fits room w fit e =
    let is = sound k (take n bytes) (IsBytes-take n bytes fits) w fit in
    subst (IsRead bytes) (ok_is (items.Message (message_in (take n bytes)), n) r e) (room, (is.spellable, is.whole))
message_found bytes n k false r fits room w fit e = absurd (ok_not_err r BadField (sym e))

item_found : (bytes : List ℕ) (n : ℕ) (o : Option Kind) (r : Item × ℕ) → IsBytes bytes → n ≤ length bytes → IsWhole o (take n bytes) → with_length n (item_in o (take n bytes)) ≡ ok_read r → IsRead bytes r
item_found bytes n None r fits room w e = pad_found bytes n (are_zeros (drop FRONT_LEN (take n bytes))) r fits room w refl e
item_found bytes n (Some k) r fits room w e = message_found bytes n k (fields_fit k (take n bytes)) r fits room w refl e

found_behind : (bytes : List ℕ) (o : Option ReadFault) (r : Item × ℕ) → IsBytes bytes → front_fault bytes ≡ o → read_behind o bytes ≡ ok_read r → IsRead bytes r
found_behind bytes (Some f) r fits front e = absurd (ok_not_err r f (sym e))
found_behind bytes None r fits front e =
    let h = fronted bytes front in
    item_found bytes (length_in bytes) (kind_numbered (kind_number_in bytes)) r fits h.room (whole_text bytes h) e

pub is_found : (bytes : List ℕ) (r : Item × ℕ) → IsBytes bytes → read bytes ≡ ok_read r → IsRead bytes r
is_found bytes r fits e = found_behind bytes (front_fault bytes) r fits refl e

-- what the first bytes spell is read
found_item : (bytes : List ℕ) (item : Item) (k : ℕ) → IsRead bytes (item, k) → read bytes ≡ ok_read (item, k)
found_item bytes (items.Message m) k h =
    let whole : bytes ≡ spelling m ++ drop k bytes = sym (take-append-drop k bytes) ∙ ap (λ (t : List ℕ). t ++ drop k bytes) h.1.1 in
    let count : length (spelling m) ≡ k = omega (arith, ap length h.1.1, length-take k bytes, h.0) in
    ap read whole ∙ message_again m (drop k bytes) h.1.0 ∙ ap (λ (j : ℕ). ok_read (items.Message m, j)) count
found_item bytes items.Pad k h =
    let n = length (take k bytes) in
    let whole : bytes ≡ pad n ++ drop k bytes = sym (take-append-drop k bytes) ∙ ap (λ (t : List ℕ). t ++ drop k bytes) h.1.1 in
    let count : n ≡ k = omega (arith, length-take k bytes, h.0) in
    ap read whole ∙ pad_again n (drop k bytes) h.1.0 ∙ ap (λ (j : ℕ). ok_read (items.Pad, j)) count

pub is_read : (bytes : List ℕ) (r : Item × ℕ) → IsRead bytes r → read bytes ≡ ok_read r
is_read bytes r h = found_item bytes r.0 r.1 h

-- a fault of the front is the fault that the front has
front_is : (bytes : List ℕ) (f : ReadFault) → front_fault bytes ≡ Some f → IsFault bytes f
front_is bytes Short e = e
front_is bytes BadKind e = e
front_is bytes BadLength e = e
front_is bytes BadField e = absurd (front_no_field bytes e)

field_is : (bytes : List ℕ) → front_fault bytes ≡ None → read bytes ≡ err_read BadField → IsFault bytes BadField
field_is bytes front e = (front, λ r h. ok_not_err r BadField (sym (is_read bytes r h) ∙ e))

item_fault : (n : ℕ) (b : Bool) (item : Item) (f : ReadFault) → with_length n (cond b (Ok item) (Err BadField)) ≡ err_read f → BadField ≡ f
item_fault n true item f e = absurd (ok_not_err (item, n) f e)
item_fault n false item f e = err_is BadField f e

fault_item : (n : ℕ) (o : Option Kind) (text : List ℕ) (f : ReadFault) → with_length n (item_in o text) ≡ err_read f → BadField ≡ f
fault_item n None text f e = item_fault n (are_zeros (drop FRONT_LEN text)) items.Pad f e
fault_item n (Some k) text f e = item_fault n (fields_fit k text) (items.Message (message_in text)) f e

fault_behind : (bytes : List ℕ) (o : Option ReadFault) (f : ReadFault) → front_fault bytes ≡ o → read_behind o bytes ≡ err_read f → read bytes ≡ err_read f → IsFault bytes f
fault_behind bytes (Some g) f front e whole = front_is bytes f (front ∙ ap Some (err_is g f e))
fault_behind bytes None f front e whole =
    let is : BadField ≡ f = fault_item (length_in bytes) (kind_numbered (kind_number_in bytes)) (take (length_in bytes) bytes) f e in
    subst (IsFault bytes) is (field_is bytes front (whole ∙ ap err_read (sym is)))

pub is_fault : (bytes : List ℕ) (f : ReadFault) → read bytes ≡ err_read f → IsFault bytes f
is_fault bytes f e = fault_behind bytes (front_fault bytes) f refl e e

-- and a fault that is the first is returned
front_read : (bytes : List ℕ) (f : ReadFault) → front_fault bytes ≡ Some f → read bytes ≡ err_read f
front_read bytes f e = ap (λ (o : Option ReadFault). read_behind o bytes) e

none_read : (bytes : List ℕ) (g : ReadFault) → front_fault bytes ≡ None → IsFault bytes g → err_read g ≡ err_read BadField
none_read bytes Short front h = absurd (let e : Some Short ≡ None = sym h ∙ front in cc)
none_read bytes BadKind front h = absurd (let e : Some BadKind ≡ None = sym h ∙ front in cc)
none_read bytes BadLength front h = absurd (let e : Some BadLength ≡ None = sym h ∙ front in cc)
none_read bytes BadField front h = refl

unread : (bytes : List ℕ) (a : Answer) → IsBytes bytes → read bytes ≡ a → IsFault bytes BadField → read bytes ≡ err_read BadField
unread bytes (Ok r) fits e h = absurd (h.1 r (is_found bytes r fits e))
unread bytes (Err g) fits e h = e ∙ none_read bytes g h.0 (is_fault bytes g e)

pub fault_read : (bytes : List ℕ) (f : ReadFault) → IsBytes bytes → IsFault bytes f → read bytes ≡ err_read f
fault_read bytes Short fits h = front_read bytes Short h
fault_read bytes BadKind fits h = front_read bytes BadKind h
fault_read bytes BadLength fits h = front_read bytes BadLength h
fault_read bytes BadField fits h = unread bytes (read bytes) fits refl h

pub ok_clause : (bytes : List ℕ) (a : Answer) → IsBytes bytes → a ≡ read bytes → IfOk a (IsRead bytes)
ok_clause bytes (Ok r) fits e = is_found bytes r fits (sym e)
ok_clause bytes (Err f) fits e = tt

pub fault_clause : (bytes : List ℕ) (a : Answer) → a ≡ read bytes → IfErr a (IsFault bytes)
fault_clause bytes (Ok r) e = tt
fault_clause bytes (Err f) e = is_fault bytes f (sym e)

-- an item that was read has at least the bytes of a PAD, and they are there
with_length_is : (n : ℕ) (a : Result Item ReadFault) (r : Item × ℕ) → with_length n a ≡ ok_read r → n ≡ r.1
with_length_is n (Ok item) r e = ap (λ (p : Item × ℕ). p.1) (ok_is (item, n) r e)
with_length_is n (Err f) r e = absurd (ok_not_err r f (sym e))

size_behind : (bytes : List ℕ) (o : Option ReadFault) (r : Item × ℕ) → front_fault bytes ≡ o → read_behind o bytes ≡ ok_read r → (LEAST_PAD_LEN ≤ r.1) × (r.1 ≤ length bytes)
size_behind bytes (Some f) r front e = absurd (ok_not_err r f (sym e))
size_behind bytes None r front e =
    let h = fronted bytes front in
    let n : length_in bytes ≡ r.1 = with_length_is (length_in bytes) (item_in (kind_numbered (kind_number_in bytes)) (take (length_in bytes) bytes)) r e in
    let low = least_length (kind_numbered (kind_number_in bytes)) (length_in bytes) h.one in
    (omega (arith, n, low), omega (arith, n, h.room))

pub size_read : (bytes : List ℕ) (r : Item × ℕ) → read bytes ≡ ok_read r → (LEAST_PAD_LEN ≤ r.1) × (r.1 ≤ length bytes)
size_read bytes r e = size_behind bytes (front_fault bytes) r refl e

pub size_clause : (bytes : List ℕ) (a : Answer) → a ≡ read bytes → IfOk a (λ r. (LEAST_PAD_LEN ≤ r.1) × (r.1 ≤ length bytes))
size_clause bytes (Ok r) e = size_read bytes r (sym e)
size_clause bytes (Err f) e = tt
