-- What the lines of a journal say is the journal.
use Rattle.std.proofs.Common.{◌≡◌, ◌≢◌, ℕ, ◌+◌, Bool, true, false, cond, ◌&&◌, ◌==◌, nat_eq, List, [], ◌∷◌, ◌++◌, All, Option, None, Some, bytes_eq, codes, decimal, drop, filter_map, get_or, if◌then◌else◌, option_map, refl, ap, sym, ◌∙◌, true≢false, append_assoc, arith}
use Rattle.std.proofs.lemmas.Bool.{and_parts}
use Rattle.std.proofs.lemmas.Bool.Decides.{nat_tests}
use Rattle.std.proofs.lemmas.Fmt.{decimal_is_IsNumeral_wide}
use Rattle.std.proofs.lemmas.List.Elements.{All-head, All-tail}
use Rattle.std.proofs.lemmas.Slice.Eq.{bytes_eq-Decides}
use Rattle.std.proofs.lemmas.Str.Parse.{numerals_by_value, tells_all_ascii_digits}
use Rattle.std.specs.Char.{is_ascii_digit}
use Rattle.std.specs.List.{cons_option, join_with_byte, slice_split}
use Rattle.std.specs.Str.{all_ascii_digits}
use Rattle.std.specs.Str.Parse.{digits_value}
use Rattle.gs_layout.specs.declared.facts.Facts.{Facts}
use Rattle.gs_layout.specs.declared.facts.Class.{Class}
use Rattle.gs_layout.specs.declared.facts.Class.TheVariants.{Zero, One}
use Rattle.gs_layout.specs.declared.message.Change.TheVariants.{Created, Blocked, Wakeup, Preempted, Yield, Dead, Affinity}
use Rattle.gs_layout.specs.declared.message.Message.{Message}
use Rattle.gs_layout.specs.declared.message.Message.TheVariants.{Thread, TimerTick}
use Rattle.gs_journal.specs.History.{History}
use Rattle.gs_journal.specs.declared.entry.Entry.{Entry}
use Rattle.gs_journal.specs.declared.entry.Entry.TheVariants.{Posted, Placed, Role, Begin, Left, Taken, Given, Torn}
use Rattle.gs_lines.specs.Lines.{class_text, cpu_text, line, name_text, runnable_text}
use Rattle.gs_history.specs.Journal.{each_from, entry_words, journal_lines, numbered}
use Rattle.gs_history.specs.Legible.{CpuHasNumber, HasNames, HasNumbers, HasShortText, IsItself, IsLegible, MessageHasNumbers}
use Rattle.gs_history.specs.Reading.{entry_in, entry_of, facts_in, history_in, messages, said_first}
use Rattle.gs_history.proofs.Words.{decimal_is_word, line_is_first, words_are}
use Rattle.gs_history.proofs.EntryWords.{are_words, entry_is_words, field_words, first_of, message_words, off_words, others_of}

-- ---- the parts of a line

number_back : (n : ℕ) → HasShortText n → digits_value 10 (decimal n) ≡ n
number_back n h = (decimal_is_IsNumeral_wide n h).1

-- the digits of a number, by the test that tells them
are_digits : (n : ℕ) → HasShortText n → all_ascii_digits (decimal n) ≡ true
are_digits n h = (numerals_by_value _ tells_all_ascii_digits).from (decimal n) (decimal_is_IsNumeral_wide n h).0.1

neither : (x y : Bool) → x ≡ false → (x && y) ≡ false
neither true y e = absurd (true≢false e)
neither false y e = refl

-- digits are no dash
no_dash : (ds : List ℕ) → all_ascii_digits ds ≡ true → bytes_eq ds (codes "-") ≡ false
no_dash [] h = refl
no_dash (d ∷ ds) h =
    let e = (and_parts (is_ascii_digit d) (all_ascii_digits ds) h).0 in
    let other : nat_eq d 45 ≡ false = grind (arith, nat_tests) in
    neither (nat_eq d 45) (bytes_eq ds []) other

cpu_back : (c : Option ℕ) → CpuHasNumber HasShortText c → (if bytes_eq (cpu_text c) (codes "-") then None else Some (digits_value 10 (cpu_text c))) ≡ c
cpu_back None h = refl
cpu_back (Some c) h =
    ap (λ (b : Bool). cond b None (Some (digits_value 10 (decimal c)))) (no_dash (decimal c) (are_digits c h)) ∙ ap Some (number_back c h)

other_name : (name : List ℕ) (b : Bool) → bytes_eq name (codes "-") ≡ b → name ≢ codes "-" → (if b then [] else name) ≡ name
other_name name true e h = absurd (h ((bytes_eq-Decides name (codes "-")).0 e))
other_name name false e h = refl

name_back : (name : List ℕ) → IsItself name → (if bytes_eq (name_text name) (codes "-") then [] else name_text name) ≡ name
name_back [] h = refl
name_back (b ∷ name) h = other_name (b ∷ name) (bytes_eq (b ∷ name) (codes "-")) refl h.1

runnable_back : (b : Bool) → bytes_eq (runnable_text b) (codes "r") ≡ b
runnable_back true = refl
runnable_back false = refl

class_back : (k : Class) → (if bytes_eq (class_text k) (codes "0") then Zero else One) ≡ k
class_back Zero = refl
class_back One = refl

off_back : (off : Bool) → bytes_eq (get_or (off_words off) 0 []) (codes "off") ≡ off
off_back true = refl
off_back false = refl

-- the words of a creation, whatever its first three are
facts_back : (t q s : List ℕ) (f : Facts) → HasShortText f.mask → IsItself f.name → facts_in (t ∷ q ∷ s ∷ field_words (Created f)) ≡ f
facts_back t q s f h own = λ i. record {
  runnable = runnable_back f.runnable i;
  mask = number_back f.mask h i;
  class = class_back f.class i;
  name = name_back f.name own i;
}

-- ---- an entry

message_back : (m : Message) → MessageHasNumbers HasShortText m → HasNames IsItself (Posted m) → said_first messages (message_words m) ≡ Some m
message_back (Thread t s (Created f)) h own = λ i. Some (Thread (number_back t h.0 i) (number_back s h.1 i) (Created (facts_back (decimal t) (codes "seq") (decimal s) f h.2 own i)))
message_back (Thread t s (Blocked c)) h own = λ i. Some (Thread (number_back t h.0 i) (number_back s h.1 i) (Blocked (number_back c h.2 i)))
message_back (Thread t s Wakeup) h own = λ i. Some (Thread (number_back t h.0 i) (number_back s h.1 i) Wakeup)
message_back (Thread t s (Preempted c)) h own = λ i. Some (Thread (number_back t h.0 i) (number_back s h.1 i) (Preempted (number_back c h.2 i)))
message_back (Thread t s (Yield c)) h own = λ i. Some (Thread (number_back t h.0 i) (number_back s h.1 i) (Yield (number_back c h.2 i)))
message_back (Thread t s (Dead c)) h own = λ i. Some (Thread (number_back t h.0 i) (number_back s h.1 i) (Dead (cpu_back c h.2 i)))
message_back (Thread t s (Affinity c off mask)) h own = λ i. Some (Thread (number_back t h.0 i) (number_back s h.1 i) (Affinity (cpu_back c h.2.0 i) (off_back off i) (number_back mask h.2.1 i)))
message_back (TimerTick c) h own = λ i. Some (TimerTick (number_back c h i))

entry_back : (e : Entry) → HasNumbers HasShortText e → HasNames IsItself e → entry_of (first_of e ∷ others_of e) ≡ Some e
entry_back (Posted m) h own = ap (option_map Posted) (message_back m h own)
entry_back (Placed t s c g) h own = λ i. Some (Placed (number_back t h.0 i) (number_back s h.1 i) (number_back c h.2 i) (number_back g h.3 i))
entry_back (Role g c) h own = λ i. Some (Role (number_back g h.0 i) (number_back c h.1 i))
entry_back (Begin g) h own = λ i. Some (Begin (number_back g h i))
entry_back Left h own = refl
entry_back (Taken c) h own = λ i. Some (Taken (number_back c h i))
entry_back (Given c) h own = λ i. Some (Given (number_back c h i))
entry_back Torn h own = refl

-- ---- lines

-- an entry behind its place, as words
line_is_words : (n : ℕ) (e : Entry) → numbered n e ≡ join_with_byte 32 (decimal n ∷ first_of e ∷ others_of e)
line_is_words n e = append_assoc (decimal n) (codes " ") (entry_words e) ∙ ap (λ text. decimal n ++ (codes " " ++ text)) (entry_is_words e)

-- an entry is read back from its line, whatever place that gives it
pub entry_read_back : (n : ℕ) (e : Entry) → IsLegible e → entry_in (numbered n e) ≡ Some e
entry_read_back n e h =
    ap entry_in (line_is_words n e)
    ∙ ap (λ ws. entry_of (drop 1 ws)) (words_are (decimal n) (first_of e ∷ others_of e) (decimal_is_word n, are_words e h.1))
    ∙ entry_back e h.0 h.1

first_line : (n : ℕ) (e : Entry) (rest : List ℕ) → IsLegible e → slice_split (λ b. b == 10) (line (numbered n e) ++ rest) ≡ numbered n e ∷ slice_split (λ b. b == 10) rest
first_line n e rest h =
    let is = line_is_words n e in
    ap (λ text. slice_split (λ b. b == 10) (line text ++ rest)) is
    ∙ line_is_first (decimal n) (first_of e ∷ others_of e) rest (decimal_is_word n, are_words e h.1)
    ∙ ap (λ text. text ∷ slice_split (λ b. b == 10) rest) (sym is)

lines_back : (n : ℕ) (h : History) → All IsLegible h → history_in (each_from (λ n e. line (numbered n e)) n h) ≡ h
lines_back n [] all = refl
lines_back n (e ∷ es) all =
    let rest = each_from (λ n e. line (numbered n e)) (n + 1) es in
    let legible = All-head IsLegible e es all in
    ap (filter_map entry_in) (first_line n e rest legible)
    ∙ ap (λ (x : Option Entry). cons_option x (history_in rest)) (entry_read_back n e legible)
    ∙ ap (λ es. e ∷ es) (lines_back (n + 1) es (All-tail IsLegible e es all))

-- a history is read back from its lines
pub history_read_back : (h : History) → All IsLegible h → history_in (journal_lines h) ≡ h
history_read_back h all = lines_back 0 h all

-- two histories with the same lines are one
pub same_lines : (g h : History) → All IsLegible g → All IsLegible h → journal_lines g ≡ journal_lines h → g ≡ h
same_lines g h all_g all_h same = sym (history_read_back g all_g) ∙ ap history_in same ∙ history_read_back h all_h
