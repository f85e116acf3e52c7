-- A text of which parts are told again, and how it is written.
use Rattle.std.proofs.Common.{◌≡◌, ◌<◌, ◌≤◌, ◌+◌, ◌-◌, refl, arith, length, take, drop, subst, sym, ap, ◌∙◌, ℕ, suc, List, Option, Result, Ok, Err, OnErr, OnOk, [], ◌∷◌, ◌++◌, append-nil, append_assoc, get_or, drop-cons, add-one}
use Rattle.std.specs.Io.KnownBytes.{Appends}
use Rattle.std.specs.List.{All}
use Rattle.std.proofs.KnownBytes.{Appends-nil, Appends-trans}
use Rattle.std.proofs.lemmas.List.{drop-append-le, take-append-le, length-append, length-drop, take_rest}
use Rattle.std.proofs.Math.Seq.{take-append-add, drop-length}
use Rattle.std.proofs.Math.ListN.{drop_of_length-le}
use Rattle.gs_sentences.specs.declared.tail.Tail.{Tail}
use Rattle.gs_sentences.specs.declared.tail.Tail.TheVariants as tails
use Rattle.gs_sentences.specs.Parts.{part}
use Rattle.gs_sentences.specs.Tails.{Stands, tail_text}
use Rattle.gs_explain.specs.declared.piece.Piece.{Piece}
use Rattle.gs_explain.specs.Retold.{IsBegun, IsWithin, Leads, Moves, piece_text, retold}
use Rattle.gs_explain.specs.Rows.{heading}

-- a part of a text that grows is the same
pub part_more : (from to : ℕ) (text more : List ℕ) → from ≤ length text → to ≤ length text → part from to (text ++ more) ≡ part from to text
part_more from to text more begins ends =
    let short : to - from ≤ length (drop from text) = omega (arith, ends, length-drop from text) in
    ap (take (to - from)) (drop-append-le from text more begins) ∙ take-append-le (to - from) (drop from text) more short

-- a row, for where none is
abbrev pub nothing : Piece
nothing = record { line = record { ref_ptr = (0, 0); now = [] }; tail = tails.Part 0 0; at = 0; number = 0 }

-- what is told of it is the same
tail_more : (t : Tail) (text more : List ℕ) → Stands (length text) t → tail_text (text ++ more) t ≡ tail_text text t
tail_more (tails.Part from to) text more s = part_more from to text more (omega (arith, s.0, s.1)) s.1
tail_more _ text more s = refl

piece_more : (p : Piece) (text more : List ℕ) → IsWithin (length text) p → piece_text p (text ++ more) ≡ piece_text p text
piece_more p text more within = ap (λ bytes. heading (p.number, p.line.now) ++ bytes) (tail_more p.tail text more within.tail)

longer : (xs vs ys ws zs us more : List ℕ) → xs ≡ vs → ys ≡ ws → zs ≡ us ++ more → xs ++ (ys ++ zs) ≡ (vs ++ (ws ++ us)) ++ more
longer xs vs ys ws zs us more e f g =
    (λ i. e i ++ (f i ++ g i)) ∙ (ap (λ t. vs ++ t) (sym (append_assoc ws us more)) ∙ sym (append_assoc vs (ws ++ us) more))

-- what is told of a text that grows at its end
pub retold_more : (done : ℕ) (pieces : List Piece) (text more : List ℕ) → done ≤ length text → All (IsWithin (length text)) pieces → retold done pieces (text ++ more) ≡ retold done pieces text ++ more
retold_more done [] text more le within = drop-append-le done text more le
retold_more done (p ∷ rest) text more le within =
    let first : IsWithin (length text) p = within 0 p (omega arith) in
    let others : All (IsWithin (length text)) rest = λ k d lt. within (suc k) d (omega (arith, lt)) in
    let here : part done p.at (text ++ more) ≡ part done p.at text = part_more done p.at text more le first.at in
    let again : piece_text p (text ++ more) ≡ piece_text p text = piece_more p text more first in
    let then : retold p.at rest (text ++ more) ≡ retold p.at rest text ++ more = retold_more p.at rest text more first.at others in
    longer _ _ _ _ _ _ more here again then

-- one more is told at the end
pub retold_one : (done : ℕ) (pieces : List Piece) (p : Piece) (text : List ℕ) → p.at ≡ length text → retold done (pieces ++ p ∷ []) text ≡ retold done pieces text ++ piece_text p text
retold_one done [] p text e =
    let all : part done p.at text ≡ drop done text = (λ i. take (e i - done) (drop done text)) ∙ take_rest text done in
    let none : drop p.at text ≡ [] = (λ i. drop (e i) text) ∙ drop-length text in
    (λ i. all i ++ (piece_text p text ++ none i)) ∙ ap (λ t. drop done text ++ t) (append-nil (piece_text p text))
retold_one done (b ∷ rest) p text e = longer (part done b.at text) (part done b.at text) (piece_text b text) (piece_text b text) (retold b.at (rest ++ p ∷ []) text) (retold b.at rest text) (piece_text p text) refl refl (retold_one b.at rest p text e)

-- bytes are added behind others
pub moves_then : (a b c : Option (List ℕ)) (block bytes left more rest : List ℕ) → Moves a block bytes b left → Moves b left more c rest → Moves a block (bytes ++ more) c rest
moves_then a b c block bytes left more rest (sent, w, e) (then, v, f) = (
  sent ++ then,
  Appends-trans a b c sent then w v,
  sym (append_assoc block bytes more) ∙ (ap (λ t. t ++ more) e ∙ (append_assoc sent left more ∙ (ap (λ t. sent ++ t) f ∙ sym (append_assoc sent then rest)))),
)

-- so it is of what is longer
pub begun_more : (a b : Option (List ℕ)) (out more : List ℕ) → IsBegun a b out → IsBegun a b (out ++ more)
begun_more a b out more (n, lt, w) = (n, omega (arith, length-append out more), subst (λ t. Appends a b t) (sym (take-append-le n out more (omega (arith, lt)))) w)

-- a beginning of what was added then was written
pub moves_begun : (a b c : Option (List ℕ)) (block bytes left more : List ℕ) → Moves a block bytes b left → IsBegun b c (left ++ more) → IsBegun a c (block ++ (bytes ++ more))
moves_begun a b c block bytes left more (sent, w, e) (n, lt, v) =
    let whole : block ++ (bytes ++ more) ≡ sent ++ (left ++ more) = sym (append_assoc block bytes more) ∙ (ap (λ t. t ++ more) e ∙ append_assoc sent left more) in
    subst (λ t. IsBegun a c t) (sym whole) (
      length sent + n,
      omega (arith, lt, length-append sent (left ++ more)),
      subst (λ t. Appends a c t) (sym (take-append-add sent (left ++ more) n)) (Appends-trans a b c sent (take n (left ++ more)) w v),
    )

-- what was written first, and a beginning of what then
pub begun_then : (a b c : Option (List ℕ)) (sent bytes : List ℕ) → Appends a b sent → IsBegun b c bytes → IsBegun a c (sent ++ bytes)
begun_then a b c sent bytes w (n, lt, v) = (
  length sent + n,
  omega (arith, lt, length-append sent bytes),
  subst (λ t. Appends a c t) (sym (take-append-add sent bytes n)) (Appends-trans a b c sent (take n bytes) w v),
)

-- all was written
pub moves_all : (a b c : Option (List ℕ)) (block bytes left : List ℕ) → Appends a b block → Appends b c bytes → left ≡ [] → Moves a block bytes c left
moves_all a b c block bytes left w v e = (block ++ bytes, Appends-trans a b c block bytes w v, sym (append-nil (block ++ bytes)) ∙ ap (λ t. (block ++ bytes) ++ t) (sym e))

-- what was added before is written or left
pub moved_then : (a b : Option (List ℕ)) (block bytes all left : List ℕ) → all ≡ block ++ bytes → Moves a all [] b left → Moves a block bytes b left
moved_then a b block bytes all left is (sent, w, e) = (sent, w, sym is ∙ (sym (append-nil all) ∙ e))

-- nothing was added
pub moves_none : (a : Option (List ℕ)) (block bytes : List ℕ) → bytes ≡ [] → Moves a block bytes a block
moves_none a block bytes e = ([], Appends-nil a, ap (λ t. block ++ t) e ∙ append-nil block)

-- what is left, once some of it was added to a block
pub leads_moves : (a b c : Option (List ℕ)) (whole block bytes rest left : List ℕ) → Leads a whole b (block ++ (bytes ++ rest)) → Moves b block bytes c left → Leads a whole c (left ++ rest)
leads_moves a b c whole block bytes rest left (sent, w, e) (then, v, f) = (
  sent ++ then,
  Appends-trans a b c sent then w v,
  e ∙ (ap (λ t. sent ++ t) (sym (append_assoc block bytes rest) ∙ (ap (λ t. t ++ rest) f ∙ append_assoc then left rest)) ∙ sym (append_assoc sent then (left ++ rest))),
)

-- a beginning of what is left was written
pub leads_begun : (a b c : Option (List ℕ)) (whole bytes rest : List ℕ) → Leads a whole b (bytes ++ rest) → IsBegun b c bytes → IsBegun a c whole
leads_begun a b c whole bytes rest (sent, w, e) begun = subst (λ t. IsBegun a c t) (sym e) (begun_then a b c sent (bytes ++ rest) w (begun_more b c bytes rest begun))

pub leads_stuck : (a b c : Option (List ℕ)) (whole block bytes rest : List ℕ) → Leads a whole b (block ++ (bytes ++ rest)) → IsBegun b c (block ++ bytes) → IsBegun a c whole
leads_stuck a b c whole block bytes rest leads begun = leads_begun a b c whole (block ++ bytes) rest (subst (λ t. Leads a whole b t) (sym (append_assoc block bytes rest)) leads) begun

-- what is left, once some of it was written
pub leads_wrote : (a b c : Option (List ℕ)) (whole bytes rest : List ℕ) → Leads a whole b (bytes ++ rest) → Appends b c bytes → Leads a whole c rest
leads_wrote a b c whole bytes rest (sent, w, e) v = (sent ++ bytes, Appends-trans a b c sent bytes w v, e ∙ sym (append_assoc sent bytes rest))

-- all that is left was written
pub leads_all : (a b c : Option (List ℕ)) (whole block : List ℕ) → Leads a whole b (block ++ []) → Appends b c block → Appends a c whole
leads_all a b c whole block (sent, w, e) v = subst (λ t. Appends a c t) (sym (e ∙ ap (λ t. sent ++ t) (append-nil block))) (Appends-trans a b c sent block w v)

-- what holds holds if there is an error
pub on_err : {T E Q : Type 0} (r : Result T E) → Q → OnErr r Q
on_err (Ok x) q = tt
on_err (Err e) q = q

-- the part that is told next, what is told again, and the rest
pub next_told : (done : ℕ) (pieces : List Piece) (i : ℕ) (d : Piece) (text : List ℕ) → i < length pieces
    → retold done (drop i pieces) text ≡ part done (get_or pieces i d).at text ++ (piece_text (get_or pieces i d) text ++ retold (get_or pieces i d).at (drop (i + 1) pieces) text)
next_told done pieces i d text lt = rw (add-one, drop-cons pieces i d)

-- what is left, by the part that is told next
pub leads_next : (a b : Option (List ℕ)) (whole block : List ℕ) (done : ℕ) (pieces : List Piece) (i : ℕ) (d : Piece) (text : List ℕ) → i < length pieces → Leads a whole b (block ++ retold done (drop i pieces) text)
    → Leads a whole b (block ++ (part done (get_or pieces i d).at text ++ (piece_text (get_or pieces i d) text ++ retold (get_or pieces i d).at (drop (i + 1) pieces) text)))
leads_next a b whole block done pieces i d text lt leads = subst (λ t. Leads a whole b (block ++ t)) (next_told done pieces i d text lt) leads

-- what is left, once all was told again
pub leads_last : (a b : Option (List ℕ)) (whole block : List ℕ) (done : ℕ) (pieces : List Piece) (i : ℕ) (text : List ℕ) → length pieces ≤ i → Leads a whole b (block ++ retold done (drop i pieces) text) → Leads a whole b (block ++ drop done text)
leads_last a b whole block done pieces i text le leads = subst (λ rest. Leads a whole b (block ++ retold done rest text)) (drop_of_length-le pieces le) leads

pub on_ok : {T E Q : Type 0} (r : Result T E) → Q → OnOk r Q
on_ok (Ok x) q = q
on_ok (Err e) q = tt
