-- The pieces of an object, one after another, are the object as compact JSON.
use Rattle.std.proofs.Common.{◌≡◌, refl, sym, ◌∙◌, ap, ℕ, Option, None, Some, List, ◌∷◌, [], ◌++◌, append_assoc, codes}
use Rattle.std.specs.Prelude.{decimal}
use Rattle.std.specs.Fmt.{digits}
use Rattle.json.specs.Print.{escape_byte, quoted}
use Rattle.serde_json.specs.Data.{Data, member, no_members, object, string}
use Rattle.serde_json.specs.Written.{compact_text}
use Rattle.gs_layout.specs.declared.facts.Class.{Class}
use Rattle.gs_layout.specs.declared.facts.Class.TheVariants.{Zero, One}
use Rattle.gs_layout.specs.declared.outcome.Outcome.{Outcome}
use Rattle.gs_layout.specs.declared.outcome.Outcome.TheVariants as outcomes
use Rattle.gs_lines.specs.Lines.{line, outcome_text}
use Rattle.gs_tallies.specs.declared.account.Account.{Account}
use Rattle.gs_tallies.specs.declared.spread.Spread.{Spread}
use Rattle.gs_tallies.specs.declared.sums.Sums.{Sums}
use Rattle.gs_turns.specs.declared.time.Time.{Time}
use Rattle.gs_usage.specs.declared.usage.Usage.{Usage}
use Rattle.gs_tables.specs.Latency.{account_data, count_at, landing_data, option_data, usage_data}
use Rattle.gs_tables.specs.Numbers.{class_data, count}
use Rattle.gs_tables.specs.Pieces.{account_pieces, landing_pieces, option_json, spread_json, spread_pieces, usage_pieces}
use Rattle.gs_tables.specs.Timehist.{class_json}

abbrev times : Time → List ℕ
times t = codes "{\"entries\":" ++ (decimal t.entries ++ (codes ",\"ticks\":" ++ (decimal t.ticks ++ codes "}")))

regroup_spread : (a b c d e f g h i : List ℕ) → (((((((a ++ b) ++ c) ++ d) ++ e) ++ f) ++ g) ++ h) ++ i ≡ a ++ (b ++ (c ++ (d ++ (e ++ (f ++ (g ++ (h ++ i)))))))
regroup_spread a b c d e f g h i = simp append_assoc

pub whole_spread : (s : Spread) → spread_pieces s ≡ spread_json (Some s)
whole_spread s = regroup_spread (codes "{\"most\":") (decimal s.all) (codes ",\"p50\":") (decimal s.half) (codes ",\"p90\":") (decimal s.ninety) (codes ",\"p99\":") (decimal s.ninety_nine) (codes "}")

-- an account, one word behind another
abbrev nested : Account → List ℕ
nested a =
    (codes "{\"class\":" ++ (class_json a.class ++ (codes ",\"migrated\":" ++ (decimal a.tally.sums.migrated ++ (codes ",\"preempted\":" ++ (decimal a.tally.sums.preempted ++ (codes ",\"ran\":" ++ (times a.tally.sums.ran ++ (
    codes ",\"stays\":" ++ (decimal a.tally.sums.stays ++ (codes ",\"tid\":" ++ (option_json a.tid ++ (codes ",\"waited\":" ++ (times a.tally.sums.waited ++ (
    codes ",\"waits\":" ++ ((codes "{\"entries\":" ++ (spread_json a.tally.waits_in_entries ++ (codes ",\"ticks\":" ++ (spread_json a.tally.waits_in_ticks ++ codes "}")))) ++ codes "}")))))))))))))))) ++ codes "\n"

regroup : (a k b m c p r x e d g f z s t u v w y h i j n : List ℕ)
    → ((((((a ++ k) ++ b) ++ m) ++ c) ++ p) ++ ((((((((((r ++ x) ++ e) ++ d) ++ g) ++ f) ++ z) ++ s) ++ t) ++ u) ++ (((((v ++ x) ++ w) ++ d) ++ y) ++ f))) ++ (((((h ++ x) ++ i) ++ d) ++ j) ++ (f ++ (f ++ n)))
    ≡ (a ++ (k ++ (b ++ (m ++ (c ++ (p ++ (r ++ ((x ++ (e ++ (d ++ (g ++ f)))) ++ (z ++ (s ++ (t ++ (u ++ (v ++ ((x ++ (w ++ (d ++ (y ++ f)))) ++ (h ++ ((x ++ (i ++ (d ++ (j ++ f)))) ++ f)))))))))))))))) ++ n
regroup a k b m c p r x e d g f z s t u v w y h i j n = simp append_assoc

abbrev account_by : Option Class → Option ℕ → Sums → Option Spread → Option Spread → List ℕ → Account
account_by k t s e x ls = record { class = k; tid = t; tally = record { sums = s; waits_in_entries = e; waits_in_ticks = x }; landings = ls }

-- by cases of the words in it
by_words : (k : Option Class) (t : Option ℕ) (s : Sums) (e x : Option Spread) (ls : List ℕ) → nested (account_by k t s e x ls) ≡ line (compact_text (account_data (account_by k t s e x ls)))
unfolding escape_byte digits
by_words None None s None None ls = refl
by_words None None s None (Some x) ls = refl
by_words None None s (Some e) None ls = refl
by_words None None s (Some e) (Some x) ls = refl
by_words None (Some t) s None None ls = refl
by_words None (Some t) s None (Some x) ls = refl
by_words None (Some t) s (Some e) None ls = refl
by_words None (Some t) s (Some e) (Some x) ls = refl
by_words (Some Zero) None s None None ls = refl
by_words (Some Zero) None s None (Some x) ls = refl
by_words (Some Zero) None s (Some e) None ls = refl
by_words (Some Zero) None s (Some e) (Some x) ls = refl
by_words (Some Zero) (Some t) s None None ls = refl
by_words (Some Zero) (Some t) s None (Some x) ls = refl
by_words (Some Zero) (Some t) s (Some e) None ls = refl
by_words (Some Zero) (Some t) s (Some e) (Some x) ls = refl
by_words (Some One) None s None None ls = refl
by_words (Some One) None s None (Some x) ls = refl
by_words (Some One) None s (Some e) None ls = refl
by_words (Some One) None s (Some e) (Some x) ls = refl
by_words (Some One) (Some t) s None None ls = refl
by_words (Some One) (Some t) s None (Some x) ls = refl
by_words (Some One) (Some t) s (Some e) None ls = refl
by_words (Some One) (Some t) s (Some e) (Some x) ls = refl

pub whole_account : (a : Account) → account_pieces a ≡ line (compact_text (account_data a))
whole_account a =
    regroup (codes "{\"class\":") (class_json a.class) (codes ",\"migrated\":") (decimal a.tally.sums.migrated) (codes ",\"preempted\":") (decimal a.tally.sums.preempted)
    (codes ",\"ran\":") (codes "{\"entries\":") (decimal a.tally.sums.ran.entries) (codes ",\"ticks\":") (decimal a.tally.sums.ran.ticks) (codes "}") (codes ",\"stays\":") (decimal a.tally.sums.stays) (codes ",\"tid\":") (option_json a.tid)
    (codes ",\"waited\":") (decimal a.tally.sums.waited.entries) (decimal a.tally.sums.waited.ticks) (codes ",\"waits\":") (spread_json a.tally.waits_in_entries) (spread_json a.tally.waits_in_ticks) (codes "\n")
    ∙ by_words a.class a.tid a.tally.sums a.tally.waits_in_entries a.tally.waits_in_ticks a.landings

-- no outcome's name has a byte that is escaped
plain : (o : Outcome) → quoted (outcome_text o) ≡ 34 ∷ (outcome_text o ++ 34 ∷ [])
unfolding escape_byte
plain outcomes.Placed = refl
plain outcomes.Gone = refl
plain outcomes.Displaced = refl
plain outcomes.NoThread = refl
plain outcomes.Stale = refl
plain outcomes.NotRunnable = refl
plain outcomes.AlreadyPlaced = refl
plain outcomes.NotAllowed = refl
plain outcomes.CpuIsAgent = refl
plain outcomes.CpuTaken = refl
plain outcomes.CpuBusy = refl
plain outcomes.SeqSpent = refl
plain outcomes.HistoryFull = refl
plain outcomes.Malformed = refl
plain outcomes.GroupFailed = refl

-- slots, with a word for the outcome
abbrev landed : List ℕ → Option Class → ℕ → Option ℕ → List ℕ
landed word k n t = (codes "{\"class\":" ++ (class_json k ++ (codes ",\"landings\":" ++ (decimal n ++ (codes ",\"outcome\":" ++ (word ++ (codes ",\"tid\":" ++ (option_json t ++ codes "}")))))))) ++ codes "\n"

abbrev landing_by : Option Class → ℕ → List ℕ → Option ℕ → Data
landing_by k n name t = object (member (codes "class") (class_data k) (member (codes "landings") (count n) (member (codes "outcome") (string name) (member (codes "tid") (option_data t) no_members))))

by_name : (k : Option Class) (n : ℕ) (name : List ℕ) (t : Option ℕ) → landed (quoted name) k n t ≡ line (compact_text (landing_by k n name t))
unfolding escape_byte digits
by_name None n name None = refl
by_name None n name (Some t) = refl
by_name (Some Zero) n name None = refl
by_name (Some Zero) n name (Some t) = refl
by_name (Some One) n name None = refl
by_name (Some One) n name (Some t) = refl

regroup_landing : (a k b n c q o d t e f : List ℕ) → (((a ++ k) ++ b) ++ n) ++ (((((c ++ q) ++ o) ++ (q ++ d)) ++ t) ++ (e ++ f)) ≡ (a ++ (k ++ (b ++ (n ++ (c ++ ((q ++ (o ++ q)) ++ (d ++ (t ++ e)))))))) ++ f
regroup_landing a k b n c q o d t e f = simp append_assoc

pub whole_landing : (a : Account) (o : Outcome) → landing_pieces a o ≡ line (compact_text (landing_data a o))
whole_landing a o =
    regroup_landing (codes "{\"class\":") (class_json a.class) (codes ",\"landings\":") (decimal (count_at a o)) (codes ",\"outcome\":") (codes "\"") (outcome_text o) (codes ",\"tid\":") (option_json a.tid) (codes "}") (codes "\n")
    ∙ (ap (λ (word : List ℕ). landed word a.class (count_at a o) a.tid) (sym (plain o)) ∙ by_name a.class (count_at a o) (outcome_text o) a.tid)

-- a CPU, one word behind another
abbrev used : ℕ → Usage → List ℕ
used c u =
    (codes "{\"agent\":" ++ (times u.agent ++ (codes ",\"busy\":" ++ (times u.busy ++ (codes ",\"cpu\":" ++ (decimal c ++ (codes ",\"idle\":" ++ (times u.idle ++ (codes ",\"other\":" ++ (times u.other ++ (codes ",\"wanted\":" ++ (times u.wanted ++ codes "}")))))))))))) ++ codes "\n"

by_use : (c : ℕ) (u : Usage) → used c u ≡ line (compact_text (usage_data c u))
unfolding escape_byte digits
by_use c u = refl

regroup_usage : (a b c i o w x d f n p e1 k1 e2 k2 e3 k3 e4 k4 e5 k5 : List ℕ)
    → (((((((((((a ++ x) ++ e1) ++ d) ++ k1) ++ f) ++ (((((b ++ x) ++ e2) ++ d) ++ k2) ++ f)) ++ c) ++ p) ++ (((((i ++ x) ++ e3) ++ d) ++ k3) ++ f)) ++ (((((o ++ x) ++ e4) ++ d) ++ k4) ++ f)) ++ (((((w ++ x) ++ e5) ++ d) ++ k5) ++ f)) ++ (f ++ n)
    ≡ (a ++ ((x ++ (e1 ++ (d ++ (k1 ++ f)))) ++ (b ++ ((x ++ (e2 ++ (d ++ (k2 ++ f)))) ++ (c ++ (p ++ (i ++ ((x ++ (e3 ++ (d ++ (k3 ++ f)))) ++ (o ++ ((x ++ (e4 ++ (d ++ (k4 ++ f)))) ++ (w ++ ((x ++ (e5 ++ (d ++ (k5 ++ f)))) ++ f)))))))))))) ++ n
regroup_usage a b c i o w x d f n p e1 k1 e2 k2 e3 k3 e4 k4 e5 k5 = simp append_assoc

pub whole_usage : (c : ℕ) (u : Usage) → usage_pieces c u ≡ line (compact_text (usage_data c u))
whole_usage c u =
    regroup_usage (codes "{\"agent\":") (codes ",\"busy\":") (codes ",\"cpu\":") (codes ",\"idle\":") (codes ",\"other\":") (codes ",\"wanted\":") (codes "{\"entries\":") (codes ",\"ticks\":") (codes "}") (codes "\n") (decimal c)
    (decimal u.agent.entries) (decimal u.agent.ticks) (decimal u.busy.entries) (decimal u.busy.ticks) (decimal u.idle.entries) (decimal u.idle.ticks) (decimal u.other.entries) (decimal u.other.ticks) (decimal u.wanted.entries) (decimal u.wanted.ticks)
    ∙ by_use c u
