-- The header's sizes, and the parts behind them.
use Rattle.std.proofs.Common.{◌≡◌, ℕ, List, [], ◌∷◌, map, Bool, true, false, refl, sym, ◌∙◌, ap, Ok, Err, codes, cond, get_or, length, nat_lt, take, drop, arith, ◌≤◌, ◌-◌, Bor, Option, Some, None}
use Rattle.std.proofs.lemmas.Bool.Decides.{nat_tests}
use Rattle.std.proofs.lemmas.List.{take_all}
use Rattle.gs_replies.specs.declared.config.Config.{Config}
use Rattle.gs_script.specs.declared.fault.Reason.{Reason}
use Rattle.gs_script.specs.declared.fault.Reason.TheVariants.{BadNumber, BadWord, NoHeader}
use Rattle.gs_script.specs.declared.header.Firsts.{Firsts}
use Rattle.gs_script.specs.Words.{number}
use Rattle.gs_script.specs.Grammar.{is_of_kind, Number, Multiple, literal, Form, first_fault, or_fault}
use Rattle.gs_script.specs.Naming.{Naming}
use Rattle.gs_script.specs.Rows.{is, number_between, shown}
use Rattle.gs_script.specs.Header.{parts, header_forms, header_of, config_in, config_of, capacity_in, firsts_of, firsts_in}
use Rattle.gs_script.proofs.Parts.{is_literal, one_step, one_step_by, one_fault, one_fault_by}
use Rattle.gs_script.proofs.Taken.{failed, went}

enough : (a r b : List ℕ) (ws : List (List ℕ)) → nat_lt (length (a ∷ r ∷ b ∷ ws)) 3 ≡ false
enough a r b ws = grind (arith, nat_tests)

abbrev behind_ring : {A : Type 0} → Naming A → List Form
behind_ring naming = map (λ form. Multiple 8 128 1048576 ∷ form) (parts naming)

abbrev behind_cpus : {A : Type 0} → Naming A → List Form
behind_cpus naming = map (λ form. literal (codes "ring") ∷ Multiple 8 128 1048576 ∷ form) (parts naming)

read_in : {A : Type 0} (naming : Naming A) (a r b : List ℕ) (ws : List (List ℕ)) → config_in naming (a ∷ r ∷ b ∷ ws) ≡ or_fault (first_fault (header_forms naming) (a ∷ r ∷ b ∷ ws)) (config_of naming (a ∷ r ∷ b ∷ ws))
read_in naming a r b ws = rw (enough a r b ws) refl

after_cpus : {A : Type 0} (naming : Naming A) (a r b : List ℕ) (ws : List (List ℕ)) → is_of_kind (Number 2 128) a ≡ true → first_fault (header_forms naming) (a ∷ r ∷ b ∷ ws) ≡ first_fault (behind_cpus naming) (r ∷ b ∷ ws)
after_cpus naming a r b ws h = one_step_by (λ form. literal (codes "ring") ∷ Multiple 8 128 1048576 ∷ form) (Number 2 128) a (r ∷ b ∷ ws) [] (drop 1 (parts naming)) h

after_ring : {A : Type 0} (naming : Naming A) (a r b : List ℕ) (ws : List (List ℕ)) (n : ℕ) → Ok n ≡ number_between 2 128 a → is r (codes "ring") ≡ true → first_fault (header_forms naming) (a ∷ r ∷ b ∷ ws) ≡ first_fault (behind_ring naming) (b ∷ ws)
after_ring naming a r b ws n h k = after_cpus naming a r b ws (went (is_of_kind (Number 2 128) a) n (number a) BadNumber h).0 ∙ one_step_by (λ form. Multiple 8 128 1048576 ∷ form) (literal (codes "ring")) r (b ∷ ws) [] (drop 1 (parts naming)) (is_literal (codes "ring") r true k)

-- the fault of the words, one after another
pub bad_cpus : {A : Type 0} (naming : Naming A) (a r b : List ℕ) (ws : List (List ℕ)) (e : Reason) → Err e ≡ number_between 2 128 a → Err e ≡ config_in naming (a ∷ r ∷ b ∷ ws)
bad_cpus naming a r b ws e h =
    let f = failed (is_of_kind (Number 2 128) a) (number a) e BadNumber h in
    rw (read_in naming a r b ws, one_fault_by (λ form. literal (codes "ring") ∷ Multiple 8 128 1048576 ∷ form) (Number 2 128) a (r ∷ b ∷ ws) [] (drop 1 (parts naming)) f.0) (ap Err (sym f.1))

pub bad_ring : {A : Type 0} (naming : Naming A) (a r b : List ℕ) (ws : List (List ℕ)) (n : ℕ) → Ok n ≡ number_between 2 128 a → is r (codes "ring") ≡ false → Err BadWord ≡ config_in naming (a ∷ r ∷ b ∷ ws)
bad_ring naming a r b ws n h k =
    rw (
      read_in naming a r b ws,
      after_cpus naming a r b ws (went (is_of_kind (Number 2 128) a) n (number a) BadNumber h).0,
      one_fault_by (λ form. Multiple 8 128 1048576 ∷ form) (literal (codes "ring")) r (b ∷ ws) [] (drop 1 (parts naming)) (is_literal (codes "ring") r false k),
    ) refl

pub bad_capacity : {A : Type 0} (naming : Naming A) (a r b : List ℕ) (ws : List (List ℕ)) (n : ℕ) (e : Reason) → Ok n ≡ number_between 2 128 a → is r (codes "ring") ≡ true → Err e ≡ capacity_in b → Err e ≡ config_in naming (a ∷ r ∷ b ∷ ws)
bad_capacity naming a r b ws n e h k l =
    let f = failed (is_of_kind (Multiple 8 128 1048576) b) (number b) e BadNumber l in
    rw (read_in naming a r b ws, after_ring naming a r b ws n h k, one_fault (Multiple 8 128 1048576) b ws [] (drop 1 (parts naming)) f.0) (ap Err (sym f.1))

after_sizes : {A : Type 0} (naming : Naming A) (a r b : List ℕ) (ws : List (List ℕ)) (n m : ℕ) → Ok n ≡ number_between 2 128 a → is r (codes "ring") ≡ true → Ok m ≡ capacity_in b → config_in naming (a ∷ r ∷ b ∷ ws) ≡ or_fault (first_fault (parts naming) ws) (config_of naming (a ∷ r ∷ b ∷ ws))
after_sizes naming a r b ws n m h k l =
    rw (read_in naming a r b ws, after_ring naming a r b ws n h k, one_step (Multiple 8 128 1048576) b ws [] (drop 1 (parts naming)) (went (is_of_kind (Multiple 8 128 1048576) b) m (number b) BadNumber l).0) refl

pub same_fault : {A B : Type 0} (o : Option Reason) (e : Reason) (x : A) (y : B) → Err e ≡ or_fault o x → Err e ≡ or_fault o y
same_fault None e x y h = absurd (cc)
same_fault (Some f) e x y h = let same : e ≡ f = cc in ap Err same

pub same_value : {A B : Type 0} (o : Option Reason) (x z : A) (y : B) → Ok x ≡ or_fault o z → (Ok y ≡ or_fault o y) × (x ≡ z)
same_value None x z y h = (refl, cc)
same_value (Some f) x z y h = absurd (cc)

pub bad_parts : {A : Type 0} (naming : Naming A) (a r b : List ℕ) (ws : List (List ℕ)) (n m : ℕ) (e : Reason) → Ok n ≡ number_between 2 128 a → is r (codes "ring") ≡ true → Ok m ≡ capacity_in b → Err e ≡ firsts_in naming ws → Err e ≡ config_in naming (a ∷ r ∷ b ∷ ws)
bad_parts naming a r b ws n m e h k l f = rw (after_sizes naming a r b ws n m h k l) (same_fault (first_fault (parts naming) ws) e (firsts_of naming ws) (config_of naming (a ∷ r ∷ b ∷ ws)) f)

abbrev pub configured : {A : Type 0} → ℕ → ℕ → Firsts A → Config A
configured n m f = record { cpus = n; ring = m; first_tseq = f.tseq; first_generation = f.generation; history = f.history; policy = f.policy }

pub sized : {A : Type 0} (naming : Naming A) (a r b : List ℕ) (ws : List (List ℕ)) (n m : ℕ) (f : Firsts A) → Ok n ≡ number_between 2 128 a → is r (codes "ring") ≡ true → Ok m ≡ capacity_in b → Ok f ≡ firsts_in naming ws → Ok (configured n m f) ≡ config_in naming (a ∷ r ∷ b ∷ ws)
sized naming a r b ws n m f h k l g =
    let whole = same_value (first_fault (parts naming) ws) f (firsts_of naming ws) (config_of naming (a ∷ r ∷ b ∷ ws)) g in
    let cpus = (went (is_of_kind (Number 2 128) a) n (number a) BadNumber h).1 in
    let ring = (went (is_of_kind (Multiple 8 128 1048576) b) m (number b) BadNumber l).1 in
    ap (λ x. Ok (configured x m f)) cpus ∙ ap (λ x. Ok (configured (number a) x f)) ring ∙ ap (λ x. Ok (configured (number a) (number b) x)) whole.1 ∙ whole.0 ∙ sym (after_sizes naming a r b ws n m h k l)

-- the words of a header, by the first of them
pub of_header : {A : Type 0} (naming : Naming A) (w : List ℕ) (words : List (Bor (List ℕ))) (d : Bor (List ℕ)) → 3 ≤ length words → is w (codes "cpus") ≡ true
    → config_in naming ((get_or words 0 d).now ∷ (get_or words 1 d).now ∷ (get_or words 2 d).now ∷ shown (take (length words - 3) (drop 3 words))) ≡ header_of naming (w ∷ shown words)
of_header naming w [] d h k = absurd (omega arith)
of_header naming w (a ∷ []) d h k = absurd (omega arith)
of_header naming w (a ∷ r ∷ []) d h k = absurd (omega arith)
of_header naming w (a ∷ r ∷ b ∷ words) d h k =
    let all : take (length (a ∷ r ∷ b ∷ words) - 3) words ≡ words = take_all (length (a ∷ r ∷ b ∷ words) - 3) words (omega arith) in
    ap (λ (ws : List (Bor (List ℕ))). config_in naming (a.now ∷ r.now ∷ b.now ∷ shown ws)) all
    ∙ sym (ap (λ (t : Bool). cond t (config_in naming (a.now ∷ r.now ∷ b.now ∷ shown words)) (Err NoHeader)) k)
