-- Pieces of a text that grows at its end.
use Rattle.std.proofs.Common.{◌≡◌, ◌≤◌, ◌<◌, ◌+◌, Bool, true, false, cond, flat_map, get_or, sym, ap, ◌∙◌, ℕ, List, [], ◌∷◌, ◌++◌, take, drop, length, arith, append-nil, append_assoc}
use Rattle.std.proofs.Math.Seq.{drop-length, take-length}
use Rattle.std.proofs.lemmas.Grind.{common_steps, flat_map-append}
use Rattle.std.proofs.lemmas.List.{drop-append-le, length-append, take-append-drop, take-append-le, take_more}
use Rattle.gs_timeline.specs.Pieces.{Adds, HasEach}

-- a text with more in front of it
pub has_behind : (front : List ℕ) (ps : List (List ℕ)) (text : List ℕ) → HasEach ps text → HasEach ps (front ++ text)
has_behind front [] text h = tt
has_behind front (p ∷ ps) text (before, behind, is, others) = (front ++ before, behind, ap (λ t. front ++ t) is ∙ sym (append_assoc front before (p ++ behind)), others)

-- two texts, one behind the other
has_then : (ps qs : List (List ℕ)) (a b : List ℕ) → HasEach ps a → HasEach qs b → HasEach (ps ++ qs) (a ++ b)
has_then [] qs a b h k = has_behind a qs b k
has_then (p ∷ ps) qs a b (before, behind, is, others) k = (
  before,
  behind ++ b,
  ap (λ t. t ++ b) is ∙ (append_assoc before (p ++ behind) b ∙ ap (λ t. before ++ t) (append_assoc p behind b)),
  has_then ps qs behind b others k,
)

pub adds_told : (old told new : List ℕ) → new ≡ old ++ told → Adds [] old new
adds_told old told new e = (told, e, tt)

pub adds_same : (old new : List ℕ) → new ≡ old → Adds [] old new
adds_same old new e = ([], e ∙ sym (append-nil old), tt)

-- what was added first, and what was added then
pub adds_then : (ps qs : List (List ℕ)) (old now new : List ℕ) → Adds ps old now → Adds qs now new → Adds (ps ++ qs) old new
adds_then ps qs old now new (more, is, has) (then, be, have) = (
  more ++ then,
  be ∙ (ap (λ t. t ++ then) is ∙ append_assoc old more then),
  has_then ps qs more then has have,
)

-- all that was told is settled, and a piece is in it
pub adds_piece : (piece front back old told new : List ℕ) → told ≡ front ++ (piece ++ back) → new ≡ old ++ told → Adds (piece ∷ []) old new
adds_piece piece front back old told new e f = (told, f, (front, back, e, tt))

-- and then any text
pub adds_more : (ps : List (List ℕ)) (old now told new : List ℕ) → Adds ps old now → new ≡ now ++ told → Adds ps old new
adds_more ps old now told new (more, is, has) e = (more ++ told, e ∙ (ap (λ t. t ++ told) is ∙ append_assoc old more told), longer ps more told has)
  where
    longer : (ps : List (List ℕ)) (a b : List ℕ) → HasEach ps a → HasEach ps (a ++ b)
    longer [] a b h = tt
    longer (p ∷ ps) a b (before, behind, is, others) = (
      before,
      behind ++ b,
      ap (λ t. t ++ b) is ∙ (append_assoc before (p ++ behind) b ∙ ap (λ t. before ++ t) (append_assoc p behind b)),
      longer ps behind b others,
    )

-- a text to which pieces were added has them, with any text behind
pub has_added : (ps : List (List ℕ)) (old now told new : List ℕ) → Adds ps old now → new ≡ now ++ told → HasEach ps new
has_added ps old now told new added e = let (all, is, has) = adds_more ps old now told new added e in rw is (has_behind old ps all has)

-- what is settled stays where more is told
pub told_one : (settled : ℕ) (old a : List ℕ) → settled ≤ length old → take settled (old ++ a) ≡ take settled old
told_one settled old a h = take-append-le settled old a h

pub told_two : (settled : ℕ) (old a b : List ℕ) → settled ≤ length old → take settled (old ++ a ++ b) ≡ take settled old
told_two settled old a b h = take-append-le settled (old ++ a) b (grind (arith, common_steps, length-append)) ∙ told_one settled old a h

pub told_four : (settled : ℕ) (old a b c d : List ℕ) → settled ≤ length old → take settled (old ++ a ++ b ++ c ++ d) ≡ take settled old
told_four settled old a b c d h = told_two settled (old ++ a ++ b) c d (grind (arith, common_steps, length-append)) ∙ told_two settled old a b h

-- and what is told stands behind what was
pub behind_one : (settled : ℕ) (old a : List ℕ) → settled ≤ length old → drop settled (old ++ a) ≡ drop settled old ++ a
behind_one settled old a h = drop-append-le settled old a h

pub behind_two : (settled : ℕ) (old a b : List ℕ) → settled ≤ length old → drop settled (old ++ a ++ b) ≡ drop settled old ++ a ++ b
behind_two settled old a b h = behind_one settled (old ++ a) b (grind (arith, common_steps, length-append)) ∙ ap (λ t. t ++ b) (behind_one settled old a h)

pub behind_four : (settled : ℕ) (old a b c d : List ℕ) → settled ≤ length old → drop settled (old ++ a ++ b ++ c ++ d) ≡ drop settled old ++ a ++ b ++ c ++ d
behind_four settled old a b c d h = behind_two settled (old ++ a ++ b) c d (grind (arith, common_steps, length-append)) ∙ ap (λ t. t ++ c ++ d) (behind_two settled old a b h)

-- all of a text is settled, and nothing is told behind it
pub all_settled : (settled n : ℕ) (text : List ℕ) → n ≡ length text → take n text ≡ take settled text ++ drop settled text
all_settled settled n text e = ap (λ m. take m text) e ∙ (take-length text ∙ sym (take-append-drop settled text))

pub none_told : (n : ℕ) (text : List ℕ) → n ≡ length text → drop n text ≡ []
none_told n text e = ap (λ m. drop m text) e ∙ drop-length text

-- all that was told is settled, and a piece ends it
pub adds_last : (piece front old told new : List ℕ) → told ≡ front ++ piece → new ≡ old ++ told → Adds (piece ∷ []) old new
adds_last piece front old told new e f = adds_piece piece front [] old told new (e ∙ ap (λ t. front ++ t) (sym (append-nil piece))) f

-- a piece of two words
pub adds_two : (old front a b new u v : List ℕ) → a ≡ front ++ u → b ≡ a ++ v → new ≡ old ++ b → Adds ((u ++ v) ∷ []) old new
adds_two old front a b new u v e f g = adds_last (u ++ v) front old b new (f ∙ (ap (λ t. t ++ v) e ∙ simp append_assoc)) g

-- of four, two of them at once
pub adds_four : (old front a b c new u v w x : List ℕ) → a ≡ front ++ u → b ≡ a ++ v ++ w → c ≡ b ++ x → new ≡ old ++ c → Adds ((u ++ (v ++ (w ++ x))) ∷ []) old new
adds_four old front a b c new u v w x e f g h = adds_last (u ++ (v ++ (w ++ x))) front old c new (g ∙ (ap (λ t. t ++ x) (f ∙ ap (λ t. t ++ v ++ w) e) ∙ simp append_assoc)) h

-- three words with a number behind each
pub pairs_told : (front a b c u m v n w k : List ℕ) → a ≡ front ++ u ++ m → b ≡ a ++ v ++ n → c ≡ b ++ w ++ k → c ≡ front ++ (u ++ (m ++ (v ++ (n ++ (w ++ k)))))
pairs_told front a b c u m v n w k e f g = g ∙ (ap (λ t. t ++ w ++ k) (f ∙ ap (λ t. t ++ v ++ n) e) ∙ simp append_assoc)

-- of two words, each with a number behind it, and two more
pub adds_six : (old front a b new u m v n w x : List ℕ) → a ≡ front ++ u ++ m ++ v ++ n → b ≡ a ++ (w ++ x) → new ≡ old ++ b → Adds ((u ++ (m ++ (v ++ (n ++ (w ++ x))))) ∷ []) old new
adds_six old front a b new u m v n w x e f g = adds_last (u ++ (m ++ (v ++ (n ++ (w ++ x))))) front old b new (f ∙ (ap (λ t. t ++ (w ++ x)) e ∙ simp append_assoc)) g

-- and of four such words, and three more
pub adds_eleven : (old front a b c d k new u m v n w l x p r s t : List ℕ) → a ≡ front ++ u ++ m ++ v ++ n → b ≡ a ++ w ++ l ++ x ++ p → c ≡ b ++ r → d ≡ c ++ s → k ≡ d ++ t → new ≡ old ++ k
    → Adds ((u ++ (m ++ (v ++ (n ++ (w ++ (l ++ (x ++ (p ++ (r ++ (s ++ t)))))))))) ∷ []) old new
adds_eleven old front a b c d k new u m v n w l x p r s t e f g h i j =
    adds_last (u ++ (m ++ (v ++ (n ++ (w ++ (l ++ (x ++ (p ++ (r ++ (s ++ t)))))))))) front old k new
    (i ∙ (ap (λ y. y ++ t) (h ∙ ap (λ y. y ++ s) (g ∙ ap (λ y. y ++ r) (f ∙ ap (λ y. y ++ w ++ l ++ x ++ p) e))) ∙ simp append_assoc)) j

-- none, if a test fails
pub adds_unless : (b : Bool) (ps : List (List ℕ)) (old new : List ℕ) → b ≡ false → new ≡ old → Adds (cond b ps []) old new
adds_unless false ps old new e f = adds_same old new f
adds_unless true ps old new e f = absurd (cc)

pub adds_if : (b : Bool) (ps : List (List ℕ)) (old new : List ℕ) → b ≡ true → Adds ps old new → Adds (cond b ps []) old new
adds_if true ps old new e a = a
adds_if false ps old new e a = absurd (cc)

-- the pieces of the first of a list, and those of the next one
pub pieces_more : {X : Type 0} (f : X → List (List ℕ)) (xs : List X) (i : ℕ) (d : X) → i < length xs → flat_map f (take (i + 1) xs) ≡ flat_map f (take i xs) ++ f (get_or xs i d)
pieces_more f xs i d lt = ap (flat_map f) (take_more xs i d lt) ∙ (flat_map-append f (take i xs) (get_or xs i d ∷ []) ∙ ap (λ ps. flat_map f (take i xs) ++ ps) (append-nil (f (get_or xs i d))))

-- a text has the first of its pieces, and the last of them
pub has_front : (ps qs : List (List ℕ)) (text : List ℕ) → HasEach (ps ++ qs) text → HasEach ps text
has_front [] qs text h = tt
has_front (p ∷ ps) qs text (before, behind, is, others) = (before, behind, is, has_front ps qs behind others)

pub has_back : (ps qs : List (List ℕ)) (text : List ℕ) → HasEach (ps ++ qs) text → HasEach qs text
has_back [] qs text h = h
has_back (p ∷ ps) qs text (before, behind, is, others) =
    rw is (has_behind before qs (p ++ behind) (has_behind p qs behind (has_back ps qs behind others)))
