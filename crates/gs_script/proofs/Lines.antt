-- A walk over the lines of a text.
use Rattle.std.proofs.Common.{◌≡◌, ℕ, ◌+◌, ◌<◌, suc, List, [], ◌∷◌, ◌++◌, length, take, drop, drop-cons, get_or, refl, sym, ◌∙◌, ap, true, false, nat_eq, Result, Ok, Err, append_assoc, arith, ◌==◌, ◌||◌}
use Rattle.std.specs.List.{onto_first, list_any}
use Rattle.std.proofs.lemmas.List.{take-append-drop}
use Rattle.std.proofs.lemmas.List.Splits.{slice_split-cons_no}
use Rattle.gs_core.specs.declared.event.Event.{Event}
use Rattle.gs_script.specs.declared.fault.ScriptFault.{ScriptFault}
use Rattle.gs_script.specs.Words.{lines_of}
use Rattle.gs_script.specs.Script.{with_event}
use Rattle.gs_script.specs.Unread.{with_front}

-- no newline among these bytes
abbrev pub is_unbroken : List ℕ → Type 0
is_unbroken bytes = list_any (λ b. b == 10) bytes ≡ false

head_other : (c : ℕ) (cs : List ℕ) → is_unbroken (c ∷ cs) → (nat_eq c 10 ≡ false) × is_unbroken cs
head_other c cs h = by_test (nat_eq c 10) (list_any (λ b. b == 10) cs) h
  where
    by_test : (a b : _) → (a || b) ≡ false → (a ≡ false) × (b ≡ false)
    by_test true b h = absurd (cc)
    by_test false b h = (refl, h)

pub whole_line : (text : List ℕ) → is_unbroken text → lines_of text ≡ text ∷ []
whole_line [] h = refl
whole_line (c ∷ cs) h = let p = head_other c cs h in slice_split-cons_no (λ b. b == 10) c cs p.0 ∙ ap (onto_first c) (whole_line cs p.1)

cut_then : (bytes rest : List ℕ) → is_unbroken bytes → lines_of (bytes ++ 10 ∷ rest) ≡ bytes ∷ lines_of rest
cut_then [] rest h = refl
cut_then (c ∷ cs) rest h = let p = head_other c cs h in slice_split-cons_no (λ b. b == 10) c (cs ++ 10 ∷ rest) p.0 ∙ ap (onto_first c) (cut_then cs rest p.1)

pub one_line : (text : List ℕ) (i : ℕ) → i < length text → is_unbroken (take i text) → get_or text i 0 ≡ 10 → lines_of text ≡ take i text ∷ lines_of (drop (i + 1) text)
one_line text i lt h k =
    let next : suc i ≡ i + 1 = omega arith in
    let rest : drop i text ≡ 10 ∷ drop (i + 1) text = drop-cons text i 0 lt ∙ ap (λ b. b ∷ drop (suc i) text) k ∙ ap (λ m. 10 ∷ drop m text) next in
    ap lines_of (sym (take-append-drop i text) ∙ ap (λ l. take i text ++ l) rest) ∙ cut_then (take i text) (drop (i + 1) text) h

-- the events so far, and then what the lines behind them say
pub with_front_nil : {A : Type 0} (r : Result (List (Event A)) ScriptFault) → with_front [] r ≡ r
with_front_nil (Ok es) = refl
with_front_nil (Err f) = refl

pub with_front_more : {A : Type 0} (front : List (Event A)) (e : Event A) (r : Result (List (Event A)) ScriptFault) → with_front front (with_event e r) ≡ with_front (front ++ e ∷ []) r
with_front_more front e (Ok es) = ap Ok (sym (append_assoc front (e ∷ []) es))
with_front_more front e (Err f) = refl
