-- The pieces of an entry's line, one after another, are its object as compact JSON.
use Rattle.std.proofs.Common.{◌≡◌, ◌∙◌, ap, ℕ, [], ◌∷◌, ◌++◌, List, Result, Ok, Err, OnOk, append-nil, append_assoc, refl}
use Rattle.json.specs.Print.{escape_byte, print, print_from, quoted}
use Rattle.json.specs.Token.{string}
use Rattle.json.specs.Written.{Written}
use Rattle.serde_json.specs.Written.{compact_text}
use Rattle.gs_layout.specs.declared.message.Change.TheVariants.{Created, Blocked, Wakeup, Preempted, Yield, Dead, Affinity}
use Rattle.gs_layout.specs.declared.message.Message.TheVariants.{Thread, TimerTick}
use Rattle.gs_journal.specs.declared.entry.Entry.{Entry}
use Rattle.gs_journal.specs.declared.entry.Entry.TheVariants.{Posted, Placed, Role, Begin, Left, Taken, Given, Torn}
use Rattle.gs_history.specs.Json.{entry_data}
use Rattle.gs_history.specs.Pieces.{entry_pieces}

-- one piece, and behind it what was added
pub before : {E : Type 0} (r : Result (Unit {0}) E) (a x c y : List ℕ) {b : List ℕ} → b ≡ a ++ x → OnOk r (c ≡ b ++ y) → OnOk r (c ≡ a ++ (x ++ y))
before (Ok u) a x c y first more = more ∙ ap (λ xs. xs ++ y) first ∙ append_assoc a x y
before (Err e) a x c y first more = tt

-- the same of words and a number
pub before_number : {E : Type 0} (r : Result (Unit {0}) E) (a w d c y : List ℕ) {b : List ℕ} → b ≡ a ++ w ++ d → OnOk r (c ≡ b ++ y) → OnOk r (c ≡ a ++ (w ++ (d ++ y)))
before_number (Ok u) a w d c y first more = more ∙ ap (λ xs. xs ++ y) first ∙ append_assoc (a ++ w) d y ∙ append_assoc a w (d ++ y)
before_number (Err e) a w d c y first more = tt

only_string : (s : List ℕ) → print (string s ∷ []) ≡ quoted s
unfolding print_from
only_string s = append-nil (quoted s)

-- a text that was written into nothing
pub string_alone : (start end : Written) (s bytes : List ℕ) → start.before ≡ [] → start.tokens ≡ [] → end.before ≡ start.before → end.tokens ≡ start.tokens ++ string s ∷ [] → bytes ≡ end.before ++ print end.tokens → bytes ≡ quoted s
string_alone start end s bytes nothing none kept added is =
    is ∙ ap (λ xs. xs ++ print end.tokens) (kept ∙ nothing) ∙ ap print (added ∙ ap (λ ts. ts ++ string s ∷ []) none) ∙ only_string s

pub whole : (n : ℕ) (e : Entry) → entry_pieces n e ≡ compact_text (entry_data n e)
unfolding escape_byte
whole n (Posted (Thread t s (Created f))) = refl
whole n (Posted (Thread t s (Blocked c))) = refl
whole n (Posted (Thread t s Wakeup)) = refl
whole n (Posted (Thread t s (Preempted c))) = refl
whole n (Posted (Thread t s (Yield c))) = refl
whole n (Posted (Thread t s (Dead c))) = refl
whole n (Posted (Thread t s (Affinity c off mask))) = refl
whole n (Posted (TimerTick c)) = refl
whole n (Placed t s c g) = refl
whole n (Role g c) = refl
whole n (Begin g) = refl
whole n Left = refl
whole n (Taken c) = refl
whole n (Given c) = refl
whole n Torn = refl
