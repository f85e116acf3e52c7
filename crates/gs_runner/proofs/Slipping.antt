-- Receipts that are kept as places in the journal.
use Rattle.std.proofs.Common.{◌≡◌, ℕ, ◌+◌, ◌-◌, ◌≤◌, Some, List, [], ◌∷◌, ◌++◌, length, map, slice_get, refl, ap, subst, ◌∙◌, arith, sym, false}
use Rattle.std.proofs.lemmas.List.{map-append}
use Rattle.std.proofs.lemmas.List.Elements.{All-cons, All-head, All-nil, All-tail}
use Rattle.std.proofs.lemmas.Option.{slice_get-map}
use Rattle.std.proofs.Math.ListN.{get_or-append}
use Rattle.std.proofs.Math.Seq.{get_or-append_seam}
use Rattle.std.specs.Option.{option_map}
use Rattle.std.specs.Prelude.{◌↔◌, All}
use Rattle.gs_journal.specs.declared.entry.Entry.{Entry}
use Rattle.gs_journal.specs.History.{History}
use Rattle.gs_replies.specs.declared.reply.Reply.{Reply}
use Rattle.gs_replies.specs.declared.reply.Reply.TheVariants as replies
use Rattle.gs_runner.specs.declared.call.Called.TheVariants.{Served}
use Rattle.gs_runner.specs.declared.command.Command.{Command}
use Rattle.gs_runner.specs.declared.command.Command.TheVariants.{Kernel}
use Rattle.gs_runner.specs.declared.call.Call.{Call}
use Rattle.gs_runner.specs.declared.call.Receipt.{Receipt}
use Rattle.gs_runner.specs.declared.kept.Kept.{Kept}
use Rattle.gs_runner.specs.declared.kept.Kept.TheVariants as kept
use Rattle.gs_runner.specs.declared.receipts.Slip.{Slip}
use Rattle.gs_runner.specs.declared.receipts.Slip.TheVariants as slips
use Rattle.gs_runner.specs.Calls.{is_refused}
use Rattle.gs_runner.specs.Holds.{Stands, call_of}
use Rattle.gs_runner.specs.Kept.{call_kept, calls_kept, command_by, done_call, entry_before}
use Rattle.gs_runner.specs.Receipts.{Answered}
use Rattle.gs_runner.specs.Slips.{AreInside, IsInside, SaysLast, StandsIn, done_receipt, no_receipt, receipt_kept}

-- the call that is kept at a place stands there
pub told_stands : (h : History) (o : List Call) (ks : List Kept) (k at end n : ℕ) (c : Command) → slice_get ks k ≡ Some (kept.Told at end) → end ≡ at + n → Kernel (command_by (entry_before h end)) ≡ c → Stands (calls_kept h o ks) c (done_receipt h at n)
told_stands h o ks k at end n c found is told = (k, slice_get-map (call_kept h o) ks k ∙ ap (option_map (call_kept h o)) found ∙ ap Some same)
  where
    count : end - at ≡ n
    count = omega (arith, is)

    same : done_call (entry_before h end) at end ≡ call_of c (done_receipt h at n)
    same = λ i. record { called = Served (told i); at = at; entries = count i; reply = replies.Done (entry_before h (is i)) }

-- others that are appended change no receipt
receipt_beside : (h : History) (o x : List Receipt) (s : Slip) → IsInside (length o) s → receipt_kept h (o ++ x) s ≡ receipt_kept h o s
receipt_beside h o x (slips.Done at n) w = refl
receipt_beside h o x (slips.Other k) w = get_or-append o x no_receipt k w

receipts_beside : (h : History) (o x : List Receipt) (ss : List Slip) → AreInside (length o) ss → map (receipt_kept h (o ++ x)) ss ≡ map (receipt_kept h o) ss
receipts_beside h o x [] w = refl
receipts_beside h o x (s ∷ ss) w =
    let first : receipt_kept h (o ++ x) s ≡ receipt_kept h o s = receipt_beside h o x s (All-head (IsInside (length o)) s ss w) in
    let later : map (receipt_kept h (o ++ x)) ss ≡ map (receipt_kept h o) ss = receipts_beside h o x ss (All-tail (IsInside (length o)) s ss w) in
    λ i. first i ∷ later i

-- another one is appended
pub other_shown : (h : History) (o : List Receipt) (ss : List Slip) (r : Receipt) → AreInside (length o) ss → map (receipt_kept h (o ++ r ∷ [])) (ss ++ slips.Other (length o) ∷ []) ≡ map (receipt_kept h o) ss ++ r ∷ []
other_shown h o ss r w =
    let all : map (receipt_kept h (o ++ r ∷ [])) (ss ++ slips.Other (length o) ∷ []) ≡ map (receipt_kept h (o ++ r ∷ [])) ss ++ receipt_kept h (o ++ r ∷ []) (slips.Other (length o)) ∷ [] = map-append (receipt_kept h (o ++ r ∷ [])) ss (slips.Other (length o) ∷ []) in
    let before : map (receipt_kept h (o ++ r ∷ [])) ss ≡ map (receipt_kept h o) ss = receipts_beside h o (r ∷ []) ss w in
    let last : receipt_kept h (o ++ r ∷ []) (slips.Other (length o)) ≡ r = get_or-append_seam o r [] no_receipt in
    all ∙ (λ i. before i ++ last i ∷ [])

-- a receipt whose entry stands in the journal is appended
pub done_shown : (h : History) (o : List Receipt) (ss : List Slip) (r : Receipt) (e : Entry) → r.reply ≡ replies.Done e → StandsIn h r → map (receipt_kept h o) (ss ++ slips.Done r.at r.entries ∷ []) ≡ map (receipt_kept h o) ss ++ r ∷ []
done_shown h o ss r e is stands = map-append (receipt_kept h o) ss (slips.Done r.at r.entries ∷ []) ∙ ap (λ (x : Receipt). map (receipt_kept h o) ss ++ x ∷ []) same
  where
    says : e ≡ entry_before h (r.at + r.entries)
    says = subst (λ (x : Reply). SaysLast h r.at r.entries x) is stands

    reply : replies.Done (entry_before h (r.at + r.entries)) ≡ r.reply
    reply = ap replies.Done (sym says) ∙ sym is

    same : done_receipt h r.at r.entries ≡ r
    same = λ i. record { at = r.at; entries = r.entries; reply = reply i }

-- what holds of all and of one more
pub all_split : {X : Type 0} (P : X → Type 0) (xs : List X) (y : X) → All P (xs ++ y ∷ []) → All P xs × P y
all_split P [] y h = (All-nil P, All-head P y [] h)
all_split P (x ∷ xs) y h =
    let later = all_split P xs y (All-tail P x (xs ++ y ∷ []) h) in
    (All-cons P x xs (All-head P x (xs ++ y ∷ []) h) later.0, later.1)

-- behind a receipt that is as it is to be
pub answered_next : {X : Type 0} (calls its : List Call) (h g : History) (o : List Receipt) (from at : ℕ) (c : Command) (cs all : List Command) (s : Slip) (ss alls : List Slip)
    → its ≡ calls → g ≡ h → all ≡ c ∷ cs → alls ≡ s ∷ ss → from ≤ at → at ≡ (receipt_kept h o s).at
    → (is_refused (receipt_kept g o s).reply ≡ false → Stands its c (receipt_kept g o s))
    → Answered calls from all (map (receipt_kept h o) alls) ↔ X
    → Answered calls at cs (map (receipt_kept h o) ss) ↔ X
answered_next {X} calls its h g o from at c cs all s ss alls same beside commands slips order is stands whole =
    ((λ a. first.0 (omega (arith, order, is), found, subst (λ (n : ℕ). Answered calls n cs (map (receipt_kept h o) ss)) is a)), (λ x. subst (λ (n : ℕ). Answered calls n cs (map (receipt_kept h o) ss)) (sym is) (first.1 x).2))
  where
    first : Answered calls from (c ∷ cs) (map (receipt_kept h o) (s ∷ ss)) ↔ X
    first = subst (λ (l : List Command). Answered calls from l (map (receipt_kept h o) (s ∷ ss)) ↔ X) commands (subst (λ (l : List Slip). Answered calls from all (map (receipt_kept h o) l) ↔ X) slips whole)

    found : is_refused (receipt_kept h o s).reply ≡ false → Stands calls c (receipt_kept h o s)
    found = subst (λ (l : List Call). is_refused (receipt_kept h o s).reply ≡ false → Stands l c (receipt_kept h o s)) same (subst (λ (k : History). is_refused (receipt_kept k o s).reply ≡ false → Stands its c (receipt_kept k o s)) beside stands)
