-- Events in few bytes, and what some of them tell aside.
use Rattle.std.proofs.Common.{◌≡◌, ◌∙◌, refl, sym, ap, subst, ◌<◌, ◌≤◌, ◌+◌, ◌-◌, ◌==◌, if◌then◌else◌, Bool, true, false, ℕ, zero, suc, Option, None, Result, Ok, Err, OnOk, OnErr, List, [], ◌∷◌, ◌++◌, append_assoc, append-nil, add-one, arith, drop, drop-cons, eq-zero-or-pos, get_or, inl, inr, length, map, slice_set}
use Rattle.std.specs.List.{All}
use Rattle.std.proofs.KnownBytes.{Appends-nil}
use Rattle.std.proofs.lemmas.Bool.{eqb-true}
use Rattle.std.proofs.lemmas.Grind.{flat_map-append}
use Rattle.std.proofs.lemmas.List.{length-append}
use Rattle.std.proofs.Math.ListN.{drop_of_length-le, get_or-append}
use Rattle.gs_explain.specs.declared.outline.Outline.{Outline}
use Rattle.gs_explain.specs.declared.outline.Told.{Told}
use Rattle.gs_explain.specs.declared.outline.Told.TheVariants as tolds
use Rattle.gs_explain.specs.declared.outlines.Short.{Short}
use Rattle.gs_sentences.specs.declared.tail.Tail.TheVariants as tails
use Rattle.gs_explain.specs.Composed.{front_pieces}
use Rattle.gs_explain.specs.Outlined.{Grows, HasParts, HasTold, IsKept, IsOutlined, NotesTold, again, all_events, events, later, outline_text, outlines_text, told_count, told_of, told_rest, untold, widened}
use Rattle.gs_explain.specs.Retold.{IsBegun, Leads, Moves}
use Rattle.gs_explain.proofs.Outlining.{some_object, told_split}
use Rattle.gs_explain.proofs.Retelling.{begun_more, moves_begun}

-- an event that is told in a text, and one that is told aside, of two
abbrev in_text : Short
in_text = record { line = record { ref_ptr = (0, 0); now = [] }; number = 7; first = 5; at = 30; whys = 9; lines = 4; count = 1; times = 2 }

abbrev beside : Short
beside = record { line = record { ref_ptr = (0, 0); now = [] }; number = 8; first = 6; at = 1; whys = 0; lines = 0; count = 255; times = 0 }

abbrev gone : Told
gone = tolds.Refused None (tails.Gone 3 2)

worked : map (told_of (untold ∷ gone ∷ [])) (in_text ∷ beside ∷ []) ≡ tolds.Parts 1 30 4 9 ∷ gone ∷ []
worked = refl

-- a list is its own beginning
pub grown_none : {A : Type 0} (xs : List A) → Grows xs xs
grown_none xs = ([], sym (append-nil xs))

-- what is told of an event is the same if more is told aside
told_by : (b : Bool) (old more : List Told) (i : ℕ) (t : Told) → (b ≡ true → i < length old) → (if b then get_or (old ++ more) i untold else t) ≡ (if b then get_or old i untold else t)
told_by true old more i t within = get_or-append old more untold i (within refl)
told_by false old more i t within = refl

told_more : (old more : List Told) (s : Short) → HasTold (length old) s → told_of (old ++ more) s ≡ told_of old s
told_more old more s has = told_by (s.count == 255) old more s.at (tolds.Parts s.count s.at s.lines s.whys) (λ e. has (eqb-true s.count 255 e))

widened_more : (old more : List Told) (s : Short) → HasTold (length old) s → widened (old ++ more) s ≡ widened old s
widened_more old more s has = ap (λ (t : Told). record { line = s.line; number = s.number; first = s.first; told = t }) (told_more old more s has)

events_more : (old more : List Told) (s : Short) → HasTold (length old) s → events (old ++ more) s ≡ events old s
events_more old more s has = ap (λ (o : Outline). o ∷ again o s.times) (widened_more old more s has)

all_more : (old more : List Told) (shorts : List Short) → All (HasTold (length old)) shorts → all_events (old ++ more) shorts ≡ all_events old shorts
all_more old more [] all = refl
all_more old more (s ∷ rest) all =
    let here = events_more old more s (all 0 s (omega arith)) in
    let behind = all_more old more rest (λ i d lt. all (suc i) d (omega arith)) in
    λ i. here i ++ behind i

pub same_outlines : (old new : List Told) (shorts : List Short) → Grows old new → All (HasTold (length old)) shorts → all_events new shorts ≡ all_events old shorts
same_outlines old new shorts (more, e) all = ap (λ (asides : List Told). all_events asides shorts) e ∙ all_more old more shorts all

-- and it is there
pub still_told : (old new : List Told) (shorts : List Short) → Grows old new → All (HasTold (length old)) shorts → All (HasTold (length new)) shorts
still_told old new shorts (more, e) all = λ i d lt. λ c. omega (arith, all i d lt c, ap length e, length-append old more)

-- all is left at first
pub leads_first : (a : Option (List ℕ)) (block whole : List ℕ) → block ≡ [] → Leads a whole a (block ++ whole)
leads_first a block whole none = ([], Appends-nil a, ap (λ (b : List ℕ). b ++ whole) (sym none))

-- an event in few bytes, for where none is
abbrev pub no_short : Short
no_short = record { line = record { ref_ptr = (0, 0); now = [] }; number = 0; first = 0; at = 0; whys = 0; lines = 0; count = 0; times = 0 }

-- one more event in few bytes, which does not come again
pub one_event : (asides : List Told) (s : Short) (o : Outline) → s.times ≡ 0 → widened asides s ≡ o → events asides s ≡ o ∷ []
one_event asides s o once is = λ i. is i ∷ again (is i) (once i)

pub event_more : (asides : List Told) (shorts : List Short) (s : Short) (o : Outline) → s.times ≡ 0 → widened asides s ≡ o → all_events asides (shorts ++ s ∷ []) ≡ all_events asides shorts ++ o ∷ []
event_more asides shorts s o once is = flat_map-append (events asides) shorts (s ∷ []) ∙ (λ i. all_events asides shorts ++ (one_event asides s o once is i ++ []))

-- the same event, which comes once more
abbrev pub once_more : Short → Short
once_more s = record { line = s.line; number = s.number; first = s.first; at = s.at; whys = s.whys; lines = s.lines; count = s.count; times = s.times + 1 }

one_later : (o : Outline) (n : ℕ) → again o (n + 1) ++ [] ≡ (again o n ++ []) ++ later o (suc n) ∷ []
one_later o n = append-nil (again o (n + 1)) ∙ (ap (again o) (add-one n) ∙ ap (λ (os : List Outline). os ++ later o (suc n) ∷ []) (sym (append-nil (again o n))))

-- if the last one comes once more, one event is added
pub counted : (asides : List Told) (shorts : List Short) (i : ℕ) (d : Short) → i + 1 ≡ length shorts
    → all_events asides (slice_set shorts i (once_more (get_or shorts i d))) ≡ all_events asides shorts ++ later (widened asides (get_or shorts i d)) (suc (get_or shorts i d).times) ∷ []
counted asides [] i d e = absurd (omega (arith, e))
counted asides (x ∷ []) zero d e = ap (λ (os : List Outline). widened asides x ∷ os) (one_later (widened asides x) x.times)
counted asides (x ∷ []) (suc i) d e = absurd (omega (arith, e))
counted asides (x ∷ y ∷ ys) zero d e = absurd (omega (arith, e))
counted asides (x ∷ y ∷ ys) (suc i) d e =
    ap (λ (os : List Outline). events asides x ++ os) (counted asides (y ∷ ys) i d (omega (arith, e)))
    ∙ sym (append_assoc (events asides x) (all_events asides (y ∷ ys)) (later (widened asides (get_or (y ∷ ys) i d)) (suc (get_or (y ∷ ys) i d).times) ∷ []))

-- what is noted of an event in few bytes is noted of what it is told as
pub notes_same : (asides : List Told) (s : Short) (w o : Outline) (line : ℕ × List ℕ) (first : ℕ) (t : Told) → widened asides s ≡ w → (w.number, w.line.now) ≡ line → w.first ≡ first → w.told ≡ t → NotesTold (s.number, s.line.now) s.first (told_of asides s) o → NotesTold line first t o
notes_same asides s w o line first t e said begins told noted =
    record {
      said = noted.said ∙ (ap (λ (x : Outline). (x.number, x.line.now)) e ∙ said);
      first = noted.first ∙ (ap (λ (x : Outline). x.first) e ∙ begins);
      told = noted.told ∙ (ap (λ (x : Outline). x.told) e ∙ told);
    }

-- what holds of all holds of those behind others
all_behind : (text : List ℕ) (xs ys : List Outline) → All (IsOutlined text) (xs ++ ys) → All (IsOutlined text) ys
all_behind text [] ys all = all
all_behind text (x ∷ xs) ys all = all_behind text xs ys (λ i d lt. all (suc i) d (omega arith))

-- what holds of all events holds of each in few bytes
pub outlined_in : (text : List ℕ) (asides : List Told) (shorts : List Short) (i : ℕ) → i < length shorts → All (IsOutlined text) (all_events asides shorts) → IsOutlined text (widened asides (get_or shorts i no_short))
outlined_in text asides [] i lt all = absurd (omega arith)
outlined_in text asides (s ∷ rest) zero lt all = all 0 (widened asides s) (omega arith)
outlined_in text asides (s ∷ rest) (suc i) lt all = outlined_in text asides rest i (omega arith) (all_behind text (events asides s) (all_events asides rest) all)

-- the objects of an event, and of each time that it comes again
pub objects_of : (text : List ℕ) (o : Outline) (n : ℕ) → outlines_text text (again o (suc n)) ≡ outlines_text text (again o n) ++ outline_text text (later o (suc n))
objects_of text o n = flat_map-append (outline_text text) (again o n) (later o (suc n) ∷ []) ∙ ap (λ (t : List ℕ). outlines_text text (again o n) ++ t) (append-nil (outline_text text (later o (suc n))))

-- those of fewer times stand in front
pub again_more : (text : List ℕ) (o : Outline) (k n : ℕ) → k ≤ n → (rest : List ℕ) × (outlines_text text (again o n) ≡ outlines_text text (again o k) ++ rest)
again_more text o k n le = by_count n (omega (arith, le))
  where
    alike : (m : ℕ) → k ≡ m → (rest : List ℕ) × (outlines_text text (again o m) ≡ outlines_text text (again o k) ++ rest)
    alike m e = ([], ap (λ (j : ℕ). outlines_text text (again o j)) (sym e) ∙ sym (append-nil (outlines_text text (again o k))))

    by_count : (m : ℕ) → k ≤ m → (rest : List ℕ) × (outlines_text text (again o m) ≡ outlines_text text (again o k) ++ rest)
    by_count zero lt = alike 0 (omega (arith, lt))
    by_count (suc m) lt = elim (eq-zero-or-pos (suc m - k)) [
      | inl none ↦ alike (suc m) (omega (arith, lt, none))
      | inr some ↦
          let (rest, e) = by_count m (omega (arith, some)) in
          (rest ++ outline_text text (later o (suc m)), objects_of text o m ∙ (ap (λ (t : List ℕ). t ++ outline_text text (later o (suc m))) e ∙ append_assoc (outlines_text text (again o k)) rest (outline_text text (later o (suc m)))))
    ]

-- some bytes tell of each time
pub some_again : (text : List ℕ) (o : Outline) (n : ℕ) → 0 < n → 0 < length (outlines_text text (again o n))
some_again text o zero lt = absurd (omega arith)
some_again text o (suc n) lt = omega (arith, ap length (objects_of text o n), length-append (outlines_text text (again o n)) (outline_text text (later o (suc n))), some_object text (later o (suc n)))

-- each time is told by what stands before its line's number and by the rest, which all have
pub comes_again : (text : List ℕ) (asides : List Told) (s : Short) (n count : ℕ) (rest : List ℕ) → count ≡ told_count (told_of asides s) → rest ≡ told_rest s.line.now text (told_of asides s)
    → outlines_text text (again (widened asides s) (n + 1)) ≡ outlines_text text (again (widened asides s) n) ++ (front_pieces (s.number + (n + 1)) s.first count ++ rest)
comes_again text asides s n count rest is told =
    let o = widened asides s in
    let before = outlines_text text (again o n) in
    let here = (λ i. front_pieces (s.number + add-one n i) s.first (is i) ++ told i) ∙ told_split (told_of asides s) (s.number + suc n, s.line.now) s.first text in
    ap (λ (m : ℕ). outlines_text text (again o m)) (add-one n) ∙ (objects_of text o n ∙ ap (λ (t : List ℕ). before ++ t) (sym here))

-- a beginning of those of fewer times is one of all
pub begun_again : (a b c : Option (List ℕ)) (block left here text : List ℕ) (o : Outline) (n times : ℕ) → n < times → outlines_text text (again o (n + 1)) ≡ outlines_text text (again o n) ++ here → Moves a block (outlines_text text (again o n)) b left → IsBegun b c (left ++ here)
    → IsBegun a c (block ++ outlines_text text (again o times))
begun_again a b c block left here text o n times lt is moves begun =
    let more : n + 1 ≤ times = omega (arith, lt) in
    let (rest, e) = again_more text o (n + 1) times more in
    let some = outlines_text text (again o (n + 1)) in
    let first = subst (λ (t : List ℕ). IsBegun a c (block ++ t)) (sym is) (moves_begun a b c block (outlines_text text (again o n)) left here moves begun) in
    subst (λ (t : List ℕ). IsBegun a c t) (append_assoc block some rest ∙ ap (λ (t : List ℕ). block ++ t) (sym e)) (begun_more a c (block ++ some) rest first)

-- one more has what it tells
pub all_with : (asides : List Told) (shorts : List Short) (s : Short) → All (HasTold (length asides)) shorts → HasTold (length asides) s → All (HasTold (length asides)) (shorts ++ s ∷ [])
all_with asides [] s all has zero d lt = has
all_with asides [] s all has (suc k) d lt = absurd (omega arith)
all_with asides (t ∷ rest) s all has zero d lt = all zero d (omega arith)
all_with asides (t ∷ rest) s all has (suc k) d lt = all_with asides rest s (λ j e le. all (suc j) e (omega arith)) has k d (omega arith)

-- the same where it is added unless that fails, and then nothing is
pub all_added : {T E : Type 0} (r : Result T E) (asides : List Told) (old new : List Short) (s : Short) → OnOk r (new ≡ old ++ s ∷ []) → OnErr r (new ≡ old) → All (HasTold (length asides)) old → HasTold (length asides) s → All (HasTold (length asides)) new
all_added (Ok x) asides old new s added kept all has = subst (λ (shorts : List Short). All (HasTold (length asides)) shorts) (sym added) (all_with asides old s all has)
all_added (Err e) asides old new s added kept all has = subst (λ (shorts : List Short). All (HasTold (length asides)) shorts) (sym kept) all

-- the objects that are put together next, and the rest
pub leads_events : (a b : Option (List ℕ)) (whole block text : List ℕ) (asides : List Told) (shorts : List Short) (i : ℕ) → i < length shorts → Leads a whole b (block ++ outlines_text text (all_events asides (drop i shorts)))
    → Leads a whole b (block ++ (outlines_text text (events asides (get_or shorts i no_short)) ++ outlines_text text (all_events asides (drop (i + 1) shorts))))
leads_events a b whole block text asides shorts i lt leads = subst (λ (t : List ℕ). Leads a whole b (block ++ t)) next leads
  where
    split : all_events asides (drop i shorts) ≡ events asides (get_or shorts i no_short) ++ all_events asides (drop (i + 1) shorts)
    split = rw (add-one, drop-cons shorts i no_short)

    next : outlines_text text (all_events asides (drop i shorts)) ≡ outlines_text text (events asides (get_or shorts i no_short)) ++ outlines_text text (all_events asides (drop (i + 1) shorts))
    next = ap (outlines_text text) split ∙ flat_map-append (outline_text text) (events asides (get_or shorts i no_short)) (all_events asides (drop (i + 1) shorts))

-- nothing is left at last
pub leads_last : (a b : Option (List ℕ)) (whole block text : List ℕ) (asides : List Told) (shorts : List Short) (i : ℕ) → length shorts ≤ i → Leads a whole b (block ++ outlines_text text (all_events asides (drop i shorts))) → Leads a whole b (block ++ [])
leads_last a b whole block text asides shorts i le leads = subst (λ (left : List Short). Leads a whole b (block ++ outlines_text text (all_events asides left))) (drop_of_length-le shorts le) leads

-- what is told of one that is not told aside
pub parts_of : (asides : List Told) (s : Short) → (s.count == 255) ≡ false → told_of asides s ≡ tolds.Parts s.count s.at s.lines s.whys
parts_of asides s e = ap (λ (b : Bool). if b then get_or asides s.at untold else tolds.Parts s.count s.at s.lines s.whys) e

pub kept_parts : (text : List ℕ) (asides : List Told) (s : Short) → (s.count == 255) ≡ false → IsKept text (told_of asides s) → HasParts text s.at (s.at + s.lines) (s.at + s.lines + s.whys)
kept_parts text asides s e is = subst (IsKept text) (parts_of asides s e) is
