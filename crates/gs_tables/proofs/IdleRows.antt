-- What is put together of a thread to which nothing came is its row.
use Rattle.std.proofs.Common.{◌≡◌, refl, sym, ◌∙◌, ap, ap₂, ℕ, ◌-◌, List, ◌∷◌, [], ◌++◌, append_assoc, codes, length, replicate}
use Rattle.std.specs.Prelude.{decimal, None, Some}
use Rattle.std.specs.Fmt.{digits}
use Rattle.json.specs.Print.{escape_byte}
use Rattle.serde_json.specs.Written.{compact_text}
use Rattle.gs_layout.specs.declared.facts.Class.{Class}
use Rattle.gs_layout.specs.declared.facts.Class.TheVariants.{Zero, One}
use Rattle.gs_lines.specs.Lines.{line}
use Rattle.gs_tallies.specs.Accounts.{outcomes_of}
use Rattle.gs_tallies.specs.Tallies.{sums_of}
use Rattle.gs_tallies.specs.Threads.{idle}
use Rattle.gs_tallies.specs.declared.account.Account.{Account}
use Rattle.gs_turns.specs.declared.time.Time.{Time}
use Rattle.gs_trace.specs.declared.form.Notation.{Notation}
use Rattle.gs_trace.specs.declared.form.Notation.TheVariants as notations
use Rattle.gs_tables.specs.Idle.{class_column, front_json}
use Rattle.gs_tables.specs.Latency.{account_data, account_row, landings_shown, spread_words, stays_words, times_words, waits_row}
use Rattle.gs_tables.specs.Timehist.{class_json}
use Rattle.gs_tables.specs.declared.latency.Unit.{Unit}
use Rattle.gs_tables.specs.declared.latency.Unit.TheVariants.{Entries, Ticks}

abbrev pub in_entries : List ℕ
in_entries = codes "       0         0        0 entries         0         0        -        -        -        -\n"

abbrev pub in_ticks : List ℕ
in_ticks = codes "       0         0        0   ticks         0         0        -        -        -        -\n"

abbrev pub rest_json : List ℕ
rest_json = codes ",\"waited\":{\"entries\":0,\"ticks\":0},\"waits\":{\"entries\":null,\"ticks\":null}}\n"

-- what stands before a tid at the right end of its column
abbrev pub places : ℕ → List ℕ
places t = codes " " ++ replicate (6 - length (decimal t)) 32

-- a line, with what is behind the tid as one word
regroup : (a b c d e f : List ℕ) → a ++ (b ++ (c ++ (d ++ (e ++ (f ++ 10 ∷ []))))) ≡ ((((a ++ (b ++ c)) ++ d) ++ e) ++ f) ++ 10 ∷ []
regroup a b c d e f = simp append_assoc

abbrev behind : Unit → List ℕ
behind u = stays_words (sums_of []) ++ (times_words u (sums_of []) ++ (spread_words None ++ 10 ∷ []))

entries_behind : in_entries ≡ behind Entries
unfolding digits
entries_behind = refl

ticks_behind : in_ticks ≡ behind Ticks
unfolding digits
ticks_behind = refl

in_line : (u : Unit) (k : Class) (t : ℕ) → class_column k ++ (places t ++ (decimal t ++ behind u)) ≡ waits_row u (idle k t)
in_line Entries k t = regroup (class_column k) (places t) (decimal t) (stays_words (sums_of [])) (times_words Entries (sums_of [])) (spread_words None)
in_line Ticks k t = regroup (class_column k) (places t) (decimal t) (stays_words (sums_of [])) (times_words Ticks (sums_of [])) (spread_words None)

one_line : (k : Class) (t : ℕ) → class_column k ++ (places t ++ (decimal t ++ in_entries)) ≡ waits_row Entries (idle k t)
one_line k t = ap (λ (w : List ℕ). class_column k ++ (places t ++ (decimal t ++ w))) entries_behind ∙ in_line Entries k t

other_line : (k : Class) (t : ℕ) → class_column k ++ (places t ++ (decimal t ++ in_ticks)) ≡ waits_row Ticks (idle k t)
other_line k t = ap (λ (w : List ℕ). class_column k ++ (places t ++ (decimal t ++ w))) ticks_behind ∙ in_line Ticks k t

apart : (o a b d e f : List ℕ) → (((((((o ++ a) ++ b) ++ d) ++ e) ++ a) ++ b) ++ d) ++ f ≡ o ++ ((a ++ (b ++ (d ++ e))) ++ (a ++ (b ++ (d ++ f))))
apart o a b d e f = simp append_assoc

-- the lines, one word behind another
pub both_lines : (k : Class) (t : ℕ) (o a b : List ℕ) → a ≡ class_column k → b ≡ places t → (((((((o ++ a) ++ b) ++ decimal t) ++ in_entries) ++ a) ++ b) ++ decimal t) ++ in_ticks ≡ o ++ account_row notations.Lines (idle k t)
both_lines k t o a b is_a is_b =
    ap₂ (λ (x y : List ℕ). (((((((o ++ x) ++ y) ++ decimal t) ++ in_entries) ++ x) ++ y) ++ decimal t) ++ in_ticks) is_a is_b
    ∙ (apart o (class_column k) (places t) (decimal t) in_entries in_ticks ∙ ap₂ (λ (x y : List ℕ). o ++ (x ++ y)) (one_line k t) (other_line k t))

abbrev times : List ℕ → List ℕ
times z = codes "{\"entries\":" ++ (z ++ (codes ",\"ticks\":" ++ (z ++ codes "}")))

-- the object, with a word for each number but the class and the tid
abbrev nested : List ℕ → Class → ℕ → List ℕ
nested z k t =
    (codes "{\"class\":" ++ (class_json (Some k) ++ (codes ",\"migrated\":" ++ (z ++ (codes ",\"preempted\":" ++ (z ++ (codes ",\"ran\":" ++ (times z ++ (codes ",\"stays\":" ++ (z ++ (
    codes ",\"tid\":" ++ (decimal t ++ (codes ",\"waited\":" ++ (times z ++ codes ",\"waits\":{\"entries\":null,\"ticks\":null}}")))))))))))))) ++ codes "\n"

-- an account that counts so many of each
abbrev counted : ℕ → Class → ℕ → Account
counted n k t =
    let time : Time = record { entries = n; ticks = n } in
    record {
      class = Some k;
      tid = Some t;
      tally = record { sums = record { stays = n; ran = time; waited = time; preempted = n; migrated = n }; waits_in_entries = None; waits_in_ticks = None };
      landings = outcomes_of [];
    }

by_class : (k : Class) (t n : ℕ) → nested (decimal n) k t ≡ line (compact_text (account_data (counted n k t)))
unfolding escape_byte digits
by_class Zero t n = refl
by_class One t n = refl

zero_digit : decimal 0 ≡ codes "0"
unfolding digits
zero_digit = refl

three : (o a b c : List ℕ) → ((o ++ a) ++ b) ++ c ≡ o ++ (a ++ (b ++ c))
three o a b c = simp append_assoc

in_words : (k : Class) (t : ℕ) → nested (codes "0") k t ≡ front_json k ++ (decimal t ++ rest_json)
in_words Zero t = append_assoc (front_json Zero) (decimal t ++ codes ",\"waited\":{\"entries\":0,\"ticks\":0},\"waits\":{\"entries\":null,\"ticks\":null}}") (codes "\n") ∙ ap (λ (x : List ℕ). front_json Zero ++ x) (append_assoc (decimal t) (codes ",\"waited\":{\"entries\":0,\"ticks\":0},\"waits\":{\"entries\":null,\"ticks\":null}}") (codes "\n"))
in_words One t = append_assoc (front_json One) (decimal t ++ codes ",\"waited\":{\"entries\":0,\"ticks\":0},\"waits\":{\"entries\":null,\"ticks\":null}}") (codes "\n") ∙ ap (λ (x : List ℕ). front_json One ++ x) (append_assoc (decimal t) (codes ",\"waited\":{\"entries\":0,\"ticks\":0},\"waits\":{\"entries\":null,\"ticks\":null}}") (codes "\n"))

-- the object
pub whole_object : (k : Class) (t : ℕ) (o a : List ℕ) → a ≡ front_json k → ((o ++ a) ++ decimal t) ++ rest_json ≡ o ++ account_row notations.Json (idle k t)
whole_object k t o a is =
    ap (λ (x : List ℕ). ((o ++ x) ++ decimal t) ++ rest_json) is
    ∙ (three o (front_json k) (decimal t) rest_json ∙ ap (λ (x : List ℕ). o ++ x) (sym (in_words k t) ∙ (ap (λ (z : List ℕ). nested z k t) (sym zero_digit) ∙ by_class k t 0)))

-- no slot names it
pub none_landed : (n : Notation) (k : Class) (t : ℕ) → landings_shown n (idle k t) ≡ []
unfolding landings_shown
none_landed n k t = refl
