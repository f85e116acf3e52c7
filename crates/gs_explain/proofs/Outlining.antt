-- Objects of events, one more of them, and a text that grows.
use Rattle.std.proofs.Common.{rules, false, ◌≡◌, ◌∙◌, refl, true, sym, ap, subst, ◌<◌, ◌≤◌, ◌+◌, ◌-◌, ℕ, zero, suc, Option, None, Some, Result, Ok, Err, OnOk, OnErr, IfOk, List, [], ◌∷◌, ◌++◌, append_assoc, append-nil, arith, codes, drop, get_or, length}
use Rattle.std.specs.List.{All}
use Rattle.std.specs.Option.{IfSome}
use Rattle.std.specs.Result.{IsOk}
use Rattle.std.specs.Str.{IsUtf8}
use Rattle.std.proofs.Math.Seq.{drop-append_seam, take-append_seam}
use Rattle.std.proofs.lemmas.Str.{IsCharBoundary-after_ascii, IsCharBoundary-from_take, IsUtf8-drop}
use Rattle.serde_json.specs.Data.{Data}
use Rattle.std.proofs.lemmas.List.{length-append}
use Rattle.std.proofs.lemmas.List.Elements.{All-nil}
use Rattle.std.proofs.lemmas.Grind.{flat_map-append}
use Rattle.gs_sentences.specs.Parts.{part}
use Rattle.gs_explain.specs.declared.kept.Kept.{Kept}
use Rattle.gs_explain.specs.declared.outline.Outline.{Outline}
use Rattle.json.specs.Print.{quoted}
use Rattle.gs_lines.specs.Lines.{reply_lines}
use Rattle.gs_explain.specs.Composed.{behind_commas, front_pieces, object_pieces, reasons_pieces, replies_pieces, rest_pieces}
use Rattle.gs_explain.specs.Outlined.{AddsTold, AreOutlined, Grows, HasParts, IsKept, IsOutlined, Notes, NotesTold, Tells, TellsLate, TellsNothing, late_object, nothing_object, outline_text, outlines_text, told_count, told_object, told_rest}
use Rattle.gs_explain.specs.declared.outline.Told.{Told}
use Rattle.gs_explain.specs.declared.outline.Told.TheVariants as tolds
use Rattle.gs_layout.specs.declared.refusal.Refusal.{Refusal}
use Rattle.gs_replies.specs.declared.reply.Reply.TheVariants as replies
use Rattle.gs_sentences.specs.Tails.{IsTail, is_part, tail_refusal}
use Rattle.gs_sentences.specs.declared.tail.Tail.{Tail}
use Rattle.gs_explain.specs.Tailed.{refused_object, tail_why}
use Rattle.gs_explain.proofs.Tailing.{not_part}
use Rattle.std.specs.Str.Lines.{lines as lines_in}
use Rattle.serde_json.specs.Written.{compact_text}
use Rattle.gs_lines.specs.Lines.{line}
use Rattle.gs_script.specs.Words.{is_text}
use Rattle.gs_explain.specs.Objects.{none_why, row_data}
use Rattle.gs_explain.proofs.Composing.{whole_object}
use Rattle.gs_explain.proofs.Retelling.{part_more}
use Rattle.gs_explain.proofs.RowsAgain.{part_behind}

-- what a text has stands in one that grows, too
part_grown : (from mid to : ℕ) (text more : List ℕ) → from ≤ mid → mid ≤ to → to ≤ length text → (part from mid (text ++ more) ≡ part from mid text) × (part mid to (text ++ more) ≡ part mid to text)
part_grown from mid to text more begins ends within = (part_more from mid text more (omega arith) (omega arith), part_more mid to text more (omega arith) within)

parts_grown : (count from lines whys : ℕ) (text more : List ℕ) → IsKept text (tolds.Parts count from lines whys) → (part from (from + lines) (text ++ more) ≡ part from (from + lines) text) × (part (from + lines) (from + lines + whys) (text ++ more) ≡ part (from + lines) (from + lines + whys) text)
parts_grown count from lines whys text more is = part_grown from (from + lines) (from + lines + whys) text more (omega arith) (omega arith) is.within

-- what is told of an event is that
pub has_parts : (text : List ℕ) (t : Told) (count from lines whys : ℕ) → IsKept text t → t ≡ tolds.Parts count from lines whys → HasParts text from (from + lines) (from + lines + whys)
has_parts text t count from lines whys is e = subst (IsKept text) e is

pub is_refused : (text : List ℕ) (t : Told) (where_at : Option (ℕ × ℕ)) (tail : Tail) → IsKept text t → t ≡ tolds.Refused where_at tail → is_part tail ≡ false
is_refused text t where_at tail is e = subst (IsKept text) e is

-- an object is what stands before its line's number, the number, and the rest
regroup_object : (f r a t q e : List ℕ) → f ++ ((((r ++ a) ++ t) ++ q) ++ e) ≡ ((((f ++ r) ++ a) ++ t) ++ q) ++ e
regroup_object f r a t q e = simp append_assoc

pub object_split : (said : ℕ × List ℕ) (first count : ℕ) (lines whys : List ℕ) → front_pieces said.0 first count ++ rest_pieces said.1 lines whys ≡ object_pieces said first count lines whys
object_split said first count lines whys = regroup_object (front_pieces said.0 first count) (codes ",\"replies\":[") (replies_pieces lines) (codes "],\"text\":") (quoted said.1) (reasons_pieces (drop 1 whys))

pub told_split : (t : Told) (said : ℕ × List ℕ) (first : ℕ) (text : List ℕ) → front_pieces said.0 first (told_count t) ++ told_rest said.1 text t ≡ told_object said first text t
told_split (tolds.Parts count from lines whys) said first text = object_split said first count (part from (from + lines) text) (part (from + lines) (from + lines + whys) text)
told_split (tolds.Refused where_at t) said first text = object_split said first 0 (reply_lines (replies.Refused (tail_refusal t))) (tail_why where_at t)

-- an object has some bytes
some_told : (t : Told) (said : ℕ × List ℕ) (first : ℕ) (text : List ℕ) → 0 < length (told_object said first text t)
some_told (tolds.Parts count from lines whys) said first text = search rules
some_told (tolds.Refused where_at t) said first text = search rules

pub some_object : (text : List ℕ) (o : Outline) → 0 < length (outline_text text o)
some_object text o = some_told o.told (o.number, o.line.now) o.first text

-- an object that is put together of such a text is the same
same_told : (t : Told) (said : ℕ × List ℕ) (first : ℕ) (text more : List ℕ) → IsKept text t → told_object said first (text ++ more) t ≡ told_object said first text t
same_told (tolds.Parts count from lines whys) said first text more is =
    let same = parts_grown count from lines whys text more is in
    λ i. object_pieces said first count (same.0 i) (same.1 i)
same_told (tolds.Refused where_at t) said first text more is = refl

one_more : (o : Outline) (text more : List ℕ) → IsOutlined text o → outline_text (text ++ more) o ≡ outline_text text o
one_more o text more is = same_told o.told (o.number, o.line.now) o.first text more is.told

still_kept : (t : Told) (text more : List ℕ) → IsKept text t → IsKept (text ++ more) t
still_kept (tolds.Parts count from lines whys) text more is =
    let same = parts_grown count from lines whys text more is in
    record {
      within = omega (arith, is.within, length-append text more);
      lines = subst IsUtf8 (sym same.0) is.lines;
      whys = subst (λ (t : List ℕ). IsUtf8 (drop 1 t)) (sym same.1) is.whys;
    }
still_kept (tolds.Refused where_at t) text more is = is

still : (o : Outline) (text more : List ℕ) → IsOutlined text o → IsOutlined (text ++ more) o
still o text more is = record { line = is.line; told = still_kept o.told text more is.told }

all_same : (os : List Outline) (text more : List ℕ) → All (IsOutlined text) os → outlines_text (text ++ more) os ≡ outlines_text text os
all_same [] text more all = refl
all_same (o ∷ os) text more all =
    let here = one_more o text more (all 0 o (omega arith)) in
    let rest = all_same os text more (λ k d lt. all (suc k) d (omega arith)) in
    λ i. here i ++ rest i

pub outlines_grown : (os : List Outline) (old new : List ℕ) → Grows old new → All (IsOutlined old) os → outlines_text new os ≡ outlines_text old os
outlines_grown os old new (more, e) all = ap (λ (t : List ℕ). outlines_text t os) e ∙ all_same os old more all

-- one more, of a text that grew
pub outlines_more : (os : List Outline) (o : Outline) (old new : List ℕ) → Grows old new → All (IsOutlined old) os → outlines_text new (os ++ o ∷ []) ≡ outlines_text old os ++ outline_text new o
outlines_more os o old new grows all =
    flat_map-append (outline_text new) os (o ∷ [])
    ∙ (ap (λ (t : List ℕ). outlines_text new os ++ t) (append-nil (outline_text new o)) ∙ ap (λ (t : List ℕ). t ++ outline_text new o) (outlines_grown os old new grows all))

pub outlined_more : (os : List Outline) (o : Outline) (old new : List ℕ) → Grows old new → All (IsOutlined old) os → IsOutlined new o → All (IsOutlined new) (os ++ o ∷ [])
outlined_more [] o old new grows all is zero d lt = is
outlined_more [] o old new grows all is (suc k) d lt = absurd (omega arith)
outlined_more (p ∷ os) o old new (more, e) all is zero d lt = subst (λ (t : List ℕ). IsOutlined t p) (sym e) (still p old more (all 0 p (omega arith)))
outlined_more (p ∷ os) o old new (more, e) all is (suc k) d lt = outlined_more os o old new (more, e) (λ j x le. all (suc j) x (omega arith)) is k d (omega arith)

-- if an event that was outlined is kept, what holds then of what was outlined holds
pub kept_ok : {T E U F : Type 0} (Q : Type 0) (r : Result T E) (o : Result U F) → OnOk r (IsOk o) → OnOk o Q → OnOk r Q
kept_ok Q (Ok x) (Ok o) is q = q
kept_ok Q (Ok x) (Err e) is q = absurd cc
kept_ok Q (Err e) o is q = tt

pub kept_told : {T E F : Type 0} (r : Result T E) (o : Result Outline F) (os all : List Outline) (old new before row : List ℕ) → OnOk r (IsOk o) → OnOk r (IfOk o (λ x. all ≡ os ++ x ∷ [])) → OnOk o (Grows old new) → IfOk o (λ x. outline_text new x ≡ row)
    → All (IsOutlined old) os → outlines_text old os ≡ before → OnOk r (outlines_text new all ≡ before ++ row)
kept_told (Ok x) (Ok o) os all old new before row is added grows told stand view = ap (outlines_text new) added ∙ (outlines_more os o old new grows stand ∙ (λ i. view i ++ told i))
kept_told (Ok x) (Err e) os all old new before row is added grows told stand view = absurd cc
kept_told (Err e) o os all old new before row is added grows told stand view = tt

-- what a text tells of such events it tells as it grows
pub tells_grown : (row : ℕ × List ℕ → ℕ → List ℕ) (t : Told) (old new : List ℕ) → Grows old new → Tells old row t → Tells new row t
tells_grown row t old new (more, e) is =
    subst (λ (text : List ℕ). Tells text row t) (sym e) (record { kept = still_kept t old more is.kept; told = λ said first. same_told t said first old more is.kept ∙ is.told said first })

pub nothing_grown : (nothing : Option Told) (old new : List ℕ) → Grows old new → IfSome nothing (TellsNothing old) → IfSome nothing (TellsNothing new)
nothing_grown None old new grows is = tt
nothing_grown (Some t) old new grows is = tells_grown nothing_object t old new grows is

late_grown : (k : Kept) (old new : List ℕ) → Grows old new → TellsLate old k → TellsLate new k
late_grown k old new grows is = record { begins = is.begins; ends = is.ends; tells = tells_grown (late_object k.told) (tolds.Parts 0 k.from (k.mid - k.from) (k.to - k.mid)) old new grows is.tells }

pub events_grown : (os : List Outline) (old new : List ℕ) → Grows old new → All (IsOutlined old) os → All (IsOutlined new) os
events_grown os old new (more, e) all = λ i d lt. subst (λ (t : List ℕ). IsOutlined t (get_or os i d)) (sym e) (still (get_or os i d) old more (all i d lt))

pub lates_grown : (kepts : List Kept) (old new : List ℕ) → Grows old new → All (TellsLate old) kepts → All (TellsLate new) kepts
lates_grown kepts old new grows all = λ i d lt. late_grown (get_or kepts i d) old new grows (all i d lt)

-- and all are outlined, whether it was kept or not
pub none_outlined : (all : List Outline) (nothing : Option Told) (kepts : List Kept) (text : List ℕ) → all ≡ [] → nothing ≡ None → kepts ≡ [] → AreOutlined text all nothing kepts
none_outlined all nothing kepts text none forgot gone =
    record {
      events = subst (All (IsOutlined text)) (sym none) (All-nil (IsOutlined text));
      nothing = subst (λ (t : Option Told). IfSome t (TellsNothing text)) (sym forgot) tt;
      lates = subst (All (TellsLate text)) (sym gone) (All-nil (TellsLate text));
    }

pub kept_outlined : {T E F : Type 0} (r : Result T E) (o : Result Outline F) (os all : List Outline) (nothing now : Option Told) (kepts left : List Kept) (old new : List ℕ) → OnOk r (IsOk o) → OnOk r (IfOk o (λ x. all ≡ os ++ x ∷ [])) → OnOk r ((now ≡ nothing) × (left ≡ kepts))
    → OnErr r ((all ≡ []) × (now ≡ None) × (left ≡ [])) → OnOk o (Grows old new) → IfOk o (IsOutlined new) → AreOutlined old os nothing kepts → AreOutlined new all now left
kept_outlined (Ok x) (Ok o) os all nothing now kepts left old new is added same none grows stands are =
    record {
      events = subst (All (IsOutlined new)) (sym added) (outlined_more os o old new grows are.events stands);
      nothing = subst (λ (t : Option Told). IfSome t (TellsNothing new)) (sym same.0) (nothing_grown nothing old new grows are.nothing);
      lates = subst (All (TellsLate new)) (sym same.1) (lates_grown kepts old new grows are.lates);
    }
kept_outlined (Ok x) (Err e) os all nothing now kepts left old new is added same none grows stands are = absurd cc
kept_outlined (Err e) o os all nothing now kepts left old new is added same none grows stands are = none_outlined all now left new none.0 none.1 none.2

-- what stands behind text in a text is text
utf8_behind : (front back : List ℕ) → IsUtf8 front → IsUtf8 (front ++ back) → IsUtf8 back
utf8_behind front back u v =
    let seam = IsCharBoundary-from_take (front ++ back) (length front) v (omega (arith, length-append front back)) (subst IsUtf8 (sym (take-append_seam front back)) u) in
    subst IsUtf8 (drop-append_seam front back) (IsUtf8-drop (front ++ back) (length front) v seam)

-- behind the first comma, too
utf8_commas : (why : List Data) → IsUtf8 (behind_commas why) → IsUtf8 (drop 1 (behind_commas why))
utf8_commas [] u = u
utf8_commas (d ∷ ds) u = IsUtf8-drop (behind_commas (d ∷ ds)) 1 u (IsCharBoundary-after_ascii (behind_commas (d ∷ ds)) 0 u (omega arith) (omega arith))

-- two parts that were added to a text stand in it
parts : (old lines whys : List ℕ) → (part (length old) (length (old ++ lines)) ((old ++ lines) ++ whys) ≡ lines) × (part (length (old ++ lines)) (length ((old ++ lines) ++ whys)) ((old ++ lines) ++ whys) ≡ whys)
parts old lines whys =
    let size = length-append old lines in
    let more = length-append (old ++ lines) whys in
    (part_more (length old) (length (old ++ lines)) (old ++ lines) whys (omega arith) (omega arith) ∙ part_behind old lines (length old) (length (old ++ lines)) refl size, part_behind (old ++ lines) whys (length (old ++ lines)) (length ((old ++ lines) ++ whys)) refl more)

-- what two parts are of that were added to a text
module _ (o : Outline) (old mid new lines : List ℕ) (why : List Data) (said : ℕ × List ℕ) (first end begin middle to : ℕ) (noted : Notes said first (end - first) begin middle to o) (from_at : begin ≡ length old) (at : middle ≡ length mid) (to_end : to ≡ length new) (first_part : mid ≡ old ++ lines) (last_part : new ≡ mid ++ behind_commas why) where
  both_parts : new ≡ (old ++ lines) ++ behind_commas why
  both_parts = last_part ∙ ap (λ (t : List ℕ). t ++ behind_commas why) first_part

  mid_at : middle ≡ length (old ++ lines)
  mid_at = at ∙ ap length first_part

  to_at : to ≡ length ((old ++ lines) ++ behind_commas why)
  to_at = to_end ∙ ap length both_parts

  begins : begin + (middle - begin) ≡ middle
  begins = omega (arith, from_at, mid_at, length-append old lines)

  ends : begin + (middle - begin) + (to - middle) ≡ to
  ends = omega (arith, from_at, mid_at, to_at, length-append old lines, length-append (old ++ lines) (behind_commas why))

  lines_part : part begin (begin + (middle - begin)) new ≡ lines
  lines_part = (λ i. part (from_at i) ((begins ∙ mid_at) i) (both_parts i)) ∙ (parts old lines (behind_commas why)).0

  whys_part : part (begin + (middle - begin)) (begin + (middle - begin) + (to - middle)) new ≡ behind_commas why
  whys_part = (λ i. part ((begins ∙ mid_at) i) ((ends ∙ to_at) i) (both_parts i)) ∙ (parts old lines (behind_commas why)).1

  are_kept : IsUtf8 old → IsUtf8 mid → IsUtf8 new → IsKept new (tolds.Parts (end - first) begin (middle - begin) (to - middle))
  are_kept u v w =
      record {
        within = omega (arith, ends, to_end);
        lines = subst IsUtf8 (sym lines_part) (utf8_behind old lines u (subst IsUtf8 first_part v));
        whys = subst (λ (t : List ℕ). IsUtf8 (drop 1 t)) (sym whys_part) (utf8_commas why (utf8_behind mid (behind_commas why) v (subst IsUtf8 last_part w)));
      }

  pub are_outlined : is_text said.1 ≡ true → IsUtf8 old → IsUtf8 mid → IsUtf8 new → IsOutlined new o
  are_outlined line u v w =
      record {
        line = subst (λ (p : ℕ × List ℕ). is_text p.1 ≡ true) (sym noted.said) line;
        told = subst (IsKept new) (sym noted.told) (are_kept u v w);
      }

  pub told_outline : outline_text new o ≡ line (compact_text (row_data said first end (lines_in lines) why))
  told_outline =
      (λ i. told_object (noted.said i) (noted.first i) new (noted.told i)) ∙ ((λ i. object_pieces said first (end - first) (lines_part i) (whys_part i)) ∙ whole_object said first end lines why)

-- an event that was refused is told by its numbers, whatever text there is
pub refused_tells : (where_at : Option (ℕ × ℕ)) (t : Tail) (f : Refusal) (why text : List ℕ) → IsTail t f why → Tells text (λ said first. refused_object said first where_at t) (tolds.Refused where_at t)
refused_tells where_at t f why text tail = record { kept = not_part t f why tail; told = λ said first. refl }

-- an event of no entry, with what is told of it from a place on
abbrev quiet : ℕ × List ℕ → ℕ → ℕ → ℕ → ℕ → Outline
quiet said first from mid to = record { line = record { ref_ptr = (0, 0); now = said.1 }; number = said.0; first = first; told = tolds.Parts (first - first) from (mid - from) (to - mid) }

quiet_noted : (said : ℕ × List ℕ) (first from mid to : ℕ) → Notes said first (first - first) from mid to (quiet said first from mid to)
quiet_noted said first from mid to = record { said = refl; first = refl; told = refl }

no_count : (first from a b : ℕ) → tolds.Parts (first - first) from a b ≡ tolds.Parts 0 from a b
no_count first from a b =
    let none : first - first ≡ 0 = omega arith in
    λ i. tolds.Parts (none i) from a b

-- what is told of events of no entry, once the lines of the reply and the reasons were added to a text
pub quiet_told : (old mid new lines : List ℕ) (why : List Data) (begin middle to : ℕ) → begin ≡ length old → middle ≡ length mid → to ≡ length new → mid ≡ old ++ lines → new ≡ mid ++ behind_commas why → IsUtf8 old → IsUtf8 mid → IsUtf8 new
    → Tells new (λ said first. line (compact_text (row_data said first first (lines_in lines) why))) (tolds.Parts 0 begin (middle - begin) (to - middle))
quiet_told old mid new lines why begin middle to from_at at to_end first_part last_part u v w =
    record {
      kept = subst (IsKept new) (no_count 0 begin (middle - begin) (to - middle)) (are_kept (quiet (0, []) 0 begin middle to) old mid new lines why (0, []) 0 0 begin middle to (quiet_noted (0, []) 0 begin middle to) from_at at to_end first_part last_part u v w);
      told = λ said first. ap (told_object said first new) (sym (no_count first begin (middle - begin) (to - middle)))
          ∙ told_outline (quiet said first begin middle to) old mid new lines why said first first begin middle to (quiet_noted said first begin middle to) from_at at to_end first_part last_part;
    }

pub nothing_told : (old new : List ℕ) (from to : ℕ) → from ≡ length old → to ≡ length new → new ≡ old ++ behind_commas (none_why []) → IsUtf8 old → IsUtf8 new → TellsNothing new (tolds.Parts 0 from (from - from) (to - from))
nothing_told old new from to at end is u v = quiet_told old old new [] (none_why []) from from to at at end (sym (append-nil old)) is u u v

-- one more event, by what a text tells of such
told_stands : (o : Outline) (t : Told) (said : ℕ × List ℕ) (first : ℕ) (row : ℕ × List ℕ → ℕ → List ℕ) (text : List ℕ) → NotesTold said first t o → Tells text row t → is_text said.1 ≡ true → IsOutlined text o
told_stands o t said first row text noted tells text_line =
    record {
      line = subst (λ (p : ℕ × List ℕ). is_text p.1 ≡ true) (sym noted.said) text_line;
      told = subst (IsKept text) (sym noted.told) tells.kept;
    }

told_shown : (o : Outline) (t : Told) (said : ℕ × List ℕ) (first : ℕ) (row : ℕ × List ℕ → ℕ → List ℕ) (text : List ℕ) → NotesTold said first t o → Tells text row t → outline_text text o ≡ row said first
told_shown o t said first row text noted tells = (λ i. told_object (noted.said i) (noted.first i) text (noted.told i)) ∙ tells.told said first

pub adds_outlined : (os all : List Outline) (once : Option Told) (kepts : List Kept) (t : Told) (said : ℕ × List ℕ) (first : ℕ) (row : ℕ × List ℕ → ℕ → List ℕ) (text : List ℕ) → AddsTold said first t os all → Tells text row t → is_text said.1 ≡ true → AreOutlined text os once kepts → AreOutlined text all once kepts
adds_outlined os all once kepts t said first row text (o, (noted, added)) tells text_line are =
    let same : Grows text text = ([], sym (append-nil text)) in
    let stands : IsOutlined text o = told_stands o t said first row text noted tells text_line in
    record { events = subst (All (IsOutlined text)) (sym added) (outlined_more os o text text same are.events stands); nothing = are.nothing; lates = are.lates }

pub adds_shown : (os all : List Outline) (t : Told) (said : ℕ × List ℕ) (first : ℕ) (row : ℕ × List ℕ → ℕ → List ℕ) (text before : List ℕ) → AddsTold said first t os all → Tells text row t → All (IsOutlined text) os → outlines_text text os ≡ before → outlines_text text all ≡ before ++ row said first
adds_shown os all t said first row text before (o, (noted, added)) tells events view =
    let same : Grows text text = ([], sym (append-nil text)) in
    let shown : outline_text text o ≡ row said first = told_shown o t said first row text noted tells in
    ap (outlines_text text) added ∙ (outlines_more os o text text same events ∙ (λ i. view i ++ shown i))
