-- Rows that are told at the end.
use Rattle.std.proofs.Common.{◌≡◌, ◌+◌, ◌-◌, arith, zero, suc, length, take, drop, ◌∙◌, ℕ, List, [], ◌∷◌, ◌++◌, get_or}
use Rattle.std.specs.List.{All}
use Rattle.std.proofs.lemmas.List.{length-append}
use Rattle.std.proofs.lemmas.List.Elements.{All-append}
use Rattle.std.proofs.Math.Seq.{drop-append_seam, take-length}
use Rattle.gs_sentences.specs.declared.tail.Tail.{Tail}
use Rattle.gs_sentences.specs.declared.tail.Tail.TheVariants as tails
use Rattle.gs_sentences.specs.Parts.{part}
use Rattle.gs_sentences.specs.Tails.{Stands}
use Rattle.gs_explain.specs.declared.piece.Piece.{Piece}
use Rattle.gs_explain.specs.Retold.{IsWithin}

-- what stands behind a front
pub part_behind : (front back : List ℕ) (end to : ℕ) → end ≡ length front → to ≡ length front + length back → part end to (front ++ back) ≡ back
part_behind front back end to e f =
    let size : to - end ≡ length back = omega (arith, e, f) in
    let from : drop end (front ++ back) ≡ back = (λ i. drop (e i) (front ++ back)) ∙ drop-append_seam front back in
    (λ i. take (size i) (from i)) ∙ take-length back

-- what stands in a text stands in one that is longer, too
stands_more : (t : Tail) (text more : List ℕ) → Stands (length text) t → Stands (length (text ++ more)) t
stands_more (tails.Part from to) text more s = (s.0, omega (arith, s.1, length-append text more))
stands_more _ text more s = tt

pub within_more : (pieces : List Piece) (text more : List ℕ) → All (IsWithin (length text)) pieces → All (IsWithin (length (text ++ more))) pieces
within_more pieces text more within = λ i d lt.
    let here : IsWithin (length text) (get_or pieces i d) = within i d lt in
    record { at = omega (arith, here.at, length-append text more); line = here.line; short = here.short; tail = stands_more (get_or pieces i d).tail text more here.tail }

only : (P : Piece → Type 0) (p : Piece) → P p → All P (p ∷ [])
only P p q zero d lt = q
only P p q (suc k) d lt = absurd (omega (arith, lt))

pub within_one : (pieces : List Piece) (p : Piece) (text : List ℕ) → All (IsWithin (length text)) pieces → IsWithin (length text) p → All (IsWithin (length text)) (pieces ++ p ∷ [])
within_one pieces p text within one = All-append (IsWithin (length text)) pieces (p ∷ []) within (only (IsWithin (length text)) p one)
