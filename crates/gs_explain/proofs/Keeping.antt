-- What is told of a late landing behind the script's line, and what of it may be told again.
use Rattle.std.proofs.Common.{rules, ◌≡◌, ◌≤◌, ◌<◌, ◌+◌, ◌-◌, refl, arith, Bool, true, false, ◌&&◌, length, take, subst, sym, ap, ◌∙◌, ℕ, zero, suc, List, Option, None, Some, [], ◌∷◌, ◌++◌, codes, append-nil, append_assoc, if◌then◌else◌, nat_le, get_or}
use Rattle.std.specs.List.{All}
use Rattle.std.proofs.lemmas.List.{length-append}
use Rattle.std.proofs.lemmas.List.Elements.{All-append}
use Rattle.std.proofs.Math.Seq.{drop-nil, take-nil}
use Rattle.gs_layout.specs.declared.outcome.Outcome.{Outcome}
use Rattle.gs_layout.specs.declared.outcome.Outcome.TheVariants as outcomes
use Rattle.gs_layout.specs.declared.refusal.Refusal.{Refusal}
use Rattle.gs_journal.specs.declared.entry.Entry.{Entry}
use Rattle.gs_kernel.specs.declared.landing.Landing.{Landing}
use Rattle.gs_kernel.specs.Lands.{is_to_place}
use Rattle.gs_replies.specs.declared.reply.Reply.TheVariants as replies
use Rattle.gs_lines.specs.Lines.{late_text, line, reply_lines}
use Rattle.gs_script.specs.Words.{is_text}
use Rattle.gs_sentences.specs.declared.tail.Tail.{Tail}
use Rattle.gs_sentences.specs.declared.tail.Tail.TheVariants as tails
use Rattle.gs_sentences.specs.Landed.{gone_text, group_text, outcome_reason}
use Rattle.gs_sentences.specs.Parts.{part}
use Rattle.gs_sentences.specs.Refused.{refused_text}
use Rattle.gs_sentences.specs.Tails.{IsTail, Stands, told}
use Rattle.gs_sentences.specs.Told.{Cause, Landed}
use Rattle.gs_sentences.specs.Reason.{Reason}
use Rattle.gs_sentences.specs.Reason as reasons
use Rattle.gs_sentences.specs.declared.landed.Overflow.{Overflow}
use Rattle.gs_explain.specs.declared.piece.Piece.{Piece}
use Rattle.gs_explain.specs.declared.kept.Kept.{Kept}
use Rattle.gs_explain.specs.declared.kept.TheConstants.{MOST_KEPT}
use Rattle.gs_explain.specs.declared.content.Noted.{Noted}
use Rattle.gs_explain.specs.declared.content.Told.{Told}
use Rattle.gs_explain.specs.Explained.{Line}
use Rattle.gs_explain.specs.Landings.{after_landing, because, is_gone, landed, overflow_if}
use Rattle.gs_explain.specs.Moment.{Moment}
use Rattle.gs_explain.specs.Refusals.{why_refused}
use Rattle.gs_explain.specs.Retold.{IsWithin, piece_text, retold}
use Rattle.gs_explain.specs.Rows.{added, heading, late_shown, row}
use Rattle.gs_explain.specs.ToldAgain.{AreHeld, IsKept, cause_from, entries_told, is_kept_out, kept_put, landed_from, late_told, source_of, told_text}
use Rattle.gs_explain.proofs.Retelling.{part_more, retold_more}
use Rattle.gs_explain.proofs.RowsAgain.{part_behind, within_more, within_one}

-- an entry that is kept is told as it was
pub same_cause : (c : Option Cause) → cause_from (source_of c) ≡ c
same_cause None = refl
same_cause (Some c) = refl

-- a landing's reason, by what is kept of it
kept_reason : (x : Landed) (o : Outcome) → x.overflow ≡ None → x.fault ≡ None
    → outcome_reason (record { landing = x.landing; stamped = x.stamped; cause = x.cause; overflow = None; fault = None; entries = entries_told o x.entries; limit = x.limit }) o ≡ outcome_reason x o
kept_reason x outcomes.Gone e f = λ i. gone_text x (sym e i)
kept_reason x outcomes.GroupFailed e f = λ i. group_text (sym f i)
kept_reason x _ e f = refl

pub told_reason : (n : ℕ) (x : Landed) → x.overflow ≡ None → x.fault ≡ None → outcome_reason (landed_from (late_told n x)) x.landing.outcome ≡ outcome_reason x x.landing.outcome
told_reason n x e f =
    let o = x.landing.outcome in
    (λ i. outcome_reason (record { landing = x.landing; stamped = x.stamped; cause = same_cause x.cause i; overflow = None; fault = None; entries = entries_told o x.entries; limit = x.limit }) o) ∙ kept_reason x o e f

-- what is kept of a late landing says what is told of it
pub late_told_text : (n : ℕ) (x : Landed) → x.overflow ≡ None → x.fault ≡ None → told_text (late_told n x) ≡ line (late_text n x.landing) ++ because (Some (reasons.Landed x))
late_told_text n x e f = ap (λ t. line (late_text n x.landing) ++ (codes "  " ++ (t ++ 10 ∷ []))) (told_reason n x e f)

-- something is told of each
told_some : (t : Told) → 0 < length (told_text t)
told_some t =
    let front = late_text t.number t.landing ++ 10 ∷ [] in
    let back = because (Some (reasons.Landed (record { landing = t.landing; stamped = t.stamped; cause = cause_from t.source; overflow = None; fault = None; entries = t.entries; limit = t.limit }))) in
    omega (arith, length-append front back, length-append (late_text t.number t.landing) (10 ∷ []))

-- what was added behind a text is kept there
pub kept_behind : (front : List ℕ) (kept : Kept) (new : List ℕ) → new ≡ front ++ told_text kept.told → kept.from ≡ length front → kept.to ≡ length new → IsKept new kept
kept_behind front kept new e from to =
    let whole : length new ≡ length front + length (told_text kept.told) = ap length e ∙ length-append front (told_text kept.told) in
    record {
      some = omega (arith, from, to, whole, told_some kept.told);
      within = omega (arith, to);
      says = ap (part kept.from kept.to) e ∙ part_behind front (told_text kept.told) kept.from kept.to from (to ∙ whole);
    }

alone : (P : Kept → Type 0) (kept : Kept) → P kept → All P (kept ∷ [])
alone P kept p zero d lt = p
alone P kept p (suc k) d lt = absurd (omega (arith, lt))

-- what a text has it has as it grows
kept_more : (text more : List ℕ) (kept : Kept) → IsKept text kept → IsKept (text ++ more) kept
kept_more text more kept is =
    record {
      some = is.some;
      within = omega (arith, is.within, length-append text more);
      says = part_more kept.from kept.to text more (omega (arith, is.some, is.within)) is.within ∙ is.says;
    }

all_more : (text more : List ℕ) (kepts : List Kept) → All (IsKept text) kepts → All (IsKept (text ++ more)) kepts
all_more text more kepts kept = λ k d lt. kept_more text more (get_or kepts k d) (kept k d lt)

pub held_more : (text more : List ℕ) (pieces : List Piece) (kepts : List Kept) → AreHeld text pieces kepts → AreHeld (text ++ more) pieces kepts
held_more text more pieces kepts held = record { told = within_more pieces text more held.told; kept = all_more text more kepts held.kept }

-- nothing was added
pub none_added : (first end : ℕ) → end ≡ first → added first end ≡ []
none_added first end e =
    let none : nat_le first first ≡ true = search rules in
    (λ i. added first (e i)) ∙ rw none

-- why a late landing came out so that was not placed, and tore nothing down
pub why_out : (x : Moment) (first : ℕ) (l : Landing) (o : Outcome) → is_kept_out o ≡ true
    → (if is_to_place o then None else Some (reasons.Landed (landed x None true (after_landing o x.history first) l))) ≡ Some (reasons.Landed (landed x None true first l))
why_out x first l outcomes.Placed p = absurd cc
why_out x first l outcomes.Gone p = absurd cc
why_out x first l _ p = refl

-- nothing overflowed then
pub none_overflowed : (o : Outcome) (over : Overflow) → is_kept_out o ≡ true → overflow_if (true && is_gone o) over ≡ None
none_overflowed outcomes.Gone over p = absurd cc
none_overflowed _ over p = refl

-- the row of a late landing that adds nothing
pub late_row : (said : Line) (x : Moment) (first n : ℕ) (l : Landing) → is_kept_out l.outcome ≡ true → length x.history ≡ first → row said x first (replies.Late n l false) ≡ heading said ++ told_text (late_told n (landed x None true first l))
late_row said x first n l out none =
    let why : late_shown x first n l ≡ line (late_text n l) ++ because (Some (reasons.Landed (landed x None true first l))) = ap (λ (r : Option Reason). line (late_text n l) ++ because r) (why_out x first l l.outcome out) in
    let told : late_shown x first n l ≡ told_text (late_told n (landed x None true first l)) = why ∙ sym (late_told_text n (landed x None true first l) (none_overflowed l.outcome x.overflow out) refl) in
    let text = told_text (late_told n (landed x None true first l)) in
    (λ i. (heading said ++ (told i ++ [])) ++ none_added first (length x.history) none i) ∙ (append-nil (heading said ++ (text ++ [])) ∙ ap (λ t. heading said ++ t) (append-nil text))

-- an entry is the one that is kept
pub same_source : (s : Noted) (line place : ℕ) (e : Entry) → s.line ≡ line → s.place ≡ place → s.entry ≡ e → Some s ≡ Some (record { line = line; place = place; entry = e })
same_source s line place e f g h = λ i. Some (record { line = f i; place = g i; entry = h i })

-- what is kept, once more is
pub all_put : (P : Kept → Type 0) (kept : Kept) (kepts : List Kept) → All P kepts → P kept → All P (kept_put kept kepts)
all_put P kept kepts all is = by_room (nat_le MOST_KEPT (length kepts)) where
  by_room : (full : Bool) → All P (if full then kept ∷ [] else kepts ++ kept ∷ [])
  by_room true = alone P kept is
  by_room false = All-append P kepts (kept ∷ []) all (alone P kept is)

-- a row is told as text
pub text_told : (page more one : List ℕ) (pieces : List Piece) → one ≡ page ++ more → All (IsWithin (length page)) pieces → retold 0 pieces one ≡ retold 0 pieces page ++ more
text_told page more one pieces e within = ap (retold 0 pieces) e ∙ retold_more 0 pieces page more (omega arith) within

pub within_then : (page more one : List ℕ) (pieces : List Piece) → one ≡ page ++ more → All (IsWithin (length page)) pieces → All (IsWithin (length one)) pieces
within_then page more one pieces e within = subst (λ t. All (IsWithin (length t)) pieces) (sym e) (within_more pieces page more within)

-- what is held is held as rows are added
pub held_then : (page more one : List ℕ) (pieces : List Piece) (kepts : List Kept) → one ≡ page ++ more → AreHeld page pieces kepts → AreHeld one pieces kepts
held_then page more one pieces kepts e held = subst (λ t. AreHeld t pieces kepts) (sym e) (held_more page more pieces kepts held)

pub kept_then : (page more one : List ℕ) (kepts after : List Kept) (kept : Kept) → one ≡ page ++ more → All (IsKept page) kepts → IsKept one kept → after ≡ kept_put kept kepts → All (IsKept one) after
kept_then page more one kepts after kept e all is put =
    let grown : All (IsKept one) kepts = subst (λ (t : List ℕ). All (IsKept t) kepts) (sym e) (all_more page more kepts all) in
    subst (All (IsKept one)) (sym put) (all_put (IsKept one) kept kepts grown is)

-- a refusal and its reason, as a reply is shown with its reason
told_shown : (f : Refusal) (r : List ℕ) → told f r ≡ reply_lines (replies.Refused f) ++ (codes "  " ++ r ++ 10 ∷ [])
told_shown f r =
    let front = reply_lines (replies.Refused f) in
    append_assoc (front ++ codes "  ") r (10 ∷ []) ∙ append_assoc front (codes "  ") (r ++ 10 ∷ [])

-- the row of an event that was refused and added nothing
pub refused_row : (said : Line) (x : Moment) (first : ℕ) (f : Refusal) → length x.history ≡ first → row said x first (replies.Refused f) ≡ heading said ++ told f (refused_text (why_refused x f))
refused_row said x first f none =
    let text = told f (refused_text (why_refused x f)) in
    (λ i. (heading said ++ sym (told_shown f (refused_text (why_refused x f))) i) ++ none_added first (length x.history) none i) ∙ append-nil (heading said ++ text)

-- what is told of a refusal stands in no text
stands_told : (t : Tail) (len : ℕ) (f : Refusal) (r : List ℕ) → IsTail t f r → Stands len t
stands_told (tails.Part from to) len f r is =
    let none : part from to [] ≡ [] = ap (take (to - from)) (drop-nil from) ∙ take-nil (to - from) in
    let some : [] ≡ told f r = sym none ∙ is [] in
    absurd (omega (arith, ap length some, length-append (reply_lines (replies.Refused f) ++ codes "  " ++ r) (10 ∷ [])))
stands_told _ len f r is = tt

-- the row that a piece tells
pub piece_row : (p : Piece) (text : List ℕ) (said : Line) (f : Refusal) (r : List ℕ) → (p.number, p.line.now) ≡ said → IsTail p.tail f r → piece_text p text ≡ heading said ++ told f r
piece_row p text said f r e is = λ i. heading (e i) ++ is text i

pub within_told : (p : Piece) (text : List ℕ) (said : Line) (f : Refusal) (r : List ℕ) → p.at ≡ length text → (p.number, p.line.now) ≡ said → is_text said.1 ≡ true → length p.line.now ≤ 96 → IsTail p.tail f r → IsWithin (length text) p
within_told p text said f r at e is short tail =
    record { at = omega (arith, at); line = ap (λ (x : Line). is_text x.1) e ∙ is; short = short; tail = stands_told p.tail (length text) f r tail }

pub held_one : (text : List ℕ) (pieces : List Piece) (p : Piece) (kepts : List Kept) → AreHeld text pieces kepts → IsWithin (length text) p → AreHeld text (pieces ++ p ∷ []) kepts
held_one text pieces p kepts held one = record { told = within_one pieces p text held.told one; kept = held.kept }
