-- Where the faults of some lines stand, and that the kinds that are wanted there give the fault.
use Rattle.std.proofs.Common.{◌≡◌, ◌∙◌, ℕ, suc, ◌+◌, ◌==◌, Bool, true, false, cond, List, [], ◌∷◌, codes, length, refl, ap, sym, Option, None, Some, flat_map, arith}
use Rattle.std.specs.List.{list_any}
use Rattle.std.proofs.lemmas.Bool.Decides.{nat_tests}
use Rattle.gs_script.specs.declared.fault.Reason.{Reason}
use Rattle.gs_script.specs.declared.fault.Reason.TheVariants.{BadCount}
use Rattle.gs_script.specs.Words.{words_of}
use Rattle.gs_script.specs.Grammar.{Form, Kind, Number, Name, after_word, fault_at, fault_of, first_fault, is_empty, literal}
use Rattle.gs_script.specs.Rows.{stamp_flag}
use Rattle.gs_script.specs.Any.{any}
use Rattle.gs_script.specs.Naming.{Naming}
use Rattle.gs_script.specs.Spot.{Spot, event_spot, first_spot, header_spot, next_kinds, one_on}

abbrev of_event : List ℕ → Spot
of_event line = event_spot any (words_of line)

abbrev of_header : List ℕ → Spot
of_header line = header_spot any (words_of line)

abbrev at_place : ℕ → List Kind → Spot
at_place place wanted = record { place = place; wanted = wanted }

further_word : of_event (codes "create 3 0 r web extra") ≡ at_place 5 []
further_word = refl

missing_word : of_event (codes "create 3 0 r") ≡ at_place 4 []
missing_word = refl

second_class : of_event (codes "create 3 2 r web") ≡ at_place 2 (Number 0 1 ∷ [])
second_class = refl

name_too_long : of_event (codes "create 3 0 r seventeen-letters") ≡ at_place 4 (Name ∷ [])
name_too_long = refl

other_flag : of_event (codes "stamp 1 1 q") ≡ at_place 3 (stamp_flag ∷ [])
other_flag = refl

unknown_word : of_event (codes "blok 1") ≡ at_place 0 []
unknown_word = refl

behind_first : of_event (codes "begin first 2") ≡ at_place 2 []
behind_first = refl

no_ring : of_header (codes "cpus 2 rung 128") ≡ at_place 2 (literal (codes "ring") ∷ literal (codes "ring") ∷ literal (codes "ring") ∷ literal (codes "ring") ∷ literal (codes "ring") ∷ literal (codes "ring") ∷ literal (codes "ring") ∷ literal (codes "ring") ∷ literal (codes "ring") ∷ literal (codes "ring") ∷ literal (codes "ring") ∷ literal (codes "ring") ∷ literal (codes "ring") ∷ literal (codes "ring") ∷ literal (codes "ring") ∷ literal (codes "ring") ∷ literal (codes "ring") ∷ literal (codes "ring") ∷ literal (codes "ring") ∷ literal (codes "ring") ∷ literal (codes "ring") ∷ literal (codes "ring") ∷ literal (codes "ring") ∷ literal (codes "ring") ∷ [])
no_ring = refl

no_policy_word : of_header (codes "cpus 2 ring 128 policy two") ≡ at_place 6 (Number 1 65535 ∷ [])
no_policy_word = refl

-- of another naming, `rr` and two numbers
abbrev turns : Naming ℕ
turns = record { forms = (literal (codes "rr") ∷ Number 1 9 ∷ Number 0 99 ∷ []) ∷ []; named = length; words = λ n. [] }

turns_number : event_spot turns (words_of (codes "begin rr 2 x")) ≡ at_place 3 (Number 0 99 ∷ [])
turns_number = refl

turns_word : header_spot turns (words_of (codes "cpus 2 ring 128 policy first")) ≡ at_place 5 (literal (codes "rr") ∷ [])
turns_word = refl

turns_further : header_spot turns (words_of (codes "cpus 2 ring 128 policy rr 2 5 6")) ≡ at_place 8 []
turns_further = refl

-- the fault that the kinds wanted at a spot give, of so many words
abbrev kinds_fault : List Kind → Reason
kinds_fault [] = BadCount
kinds_fault (kind ∷ kinds) = fault_of kind

abbrev fault_there : Spot → ℕ → Reason
fault_there s n = cond (s.place == n) BadCount (kinds_fault s.wanted)

wanted_first : (forms : List Form) → kinds_fault (next_kinds forms) ≡ fault_at forms
wanted_first [] = refl
wanted_first ([] ∷ forms) = wanted_first forms
wanted_first ((kind ∷ form) ∷ forms) = refl

one_more : (p n : ℕ) → (p + 1 == suc n) ≡ (p == n)
one_more p n = grind (arith, nat_tests)

not_here : (n : ℕ) → (0 == suc n) ≡ false
not_here n = grind (arith, nat_tests)

-- the fault of words is the one that the kinds give that are wanted at their spot
spot_gives_fault : (forms : List Form) (words : List (List ℕ)) (reason : Reason) → first_fault forms words ≡ Some reason → reason ≡ fault_there (first_spot forms words) (length words)
spot_gives_fault forms [] reason e = by_test (list_any is_empty forms) e
  where
    by_test : (b : Bool) → cond {A = Option Reason} b None (Some BadCount) ≡ Some reason → reason ≡ BadCount
    by_test true e = absurd cc
    by_test false e = cc
spot_gives_fault forms (word ∷ words) reason e = by_test (spot_gives_fault (flat_map (after_word word) forms) words reason) (is_empty (flat_map (after_word word) forms)) e
  where
    next : List Form
    next = flat_map (after_word word) forms

    by_test : (first_fault next words ≡ Some reason → reason ≡ fault_there (first_spot next words) (length words)) → (b : Bool) → cond b (Some (fault_at forms)) (first_fault next words) ≡ Some reason
        → reason ≡ fault_there (cond b (record { place = 0; wanted = next_kinds forms }) (one_on (first_spot next words))) (suc (length words))
    by_test behind true e = let same : fault_at forms ≡ reason = cc in sym same ∙ sym (wanted_first forms) ∙ ap (λ b. cond b BadCount (kinds_fault (next_kinds forms))) (sym (not_here (length words)))
    by_test behind false e = behind e ∙ ap (λ b. cond b BadCount (kinds_fault (first_spot next words).wanted)) (sym (one_more (first_spot next words).place (length words)))
