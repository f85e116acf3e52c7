-- Keys of a table, and the words that its part may have.
use Rattle.std.proofs.Common.{◌≡◌, ℕ, Bool, true, false, ◌||◌, bytes_eq, List, [], ◌∷◌, map, Bor, String, Global, string_bytes, refl, ap, sym, ◌∙◌}
use Rattle.std.specs.List.{list_any}
use Rattle.std.specs.Map.{keys_of}
use Rattle.std.specs.Prelude.{Option, Some, None, if◌then◌else◌}
use Rattle.toml.specs.View.{members_view}
use Rattle.toml.specs.declared.value.Value.{Value}
use Rattle.gs_workload.specs.declared.fault.Part.{Part}
use Rattle.gs_workload.specs.Unknown.{Stray, is_among, known_words, stray_in}

-- a word of those that are pointed to
pub among_shown : (word : List ℕ) (ws : List (Bor (List ℕ))) → list_any (λ w. bytes_eq w.now word) ws ≡ is_among word (map (λ w. w.now) ws)
among_shown word [] = refl
among_shown word (w ∷ ws) = ap (λ b. bytes_eq w.now word || b) (among_shown word ws)

-- the first key that its part has not, of keys
abbrev pub first_stray : Part → List (String Global) → Option Stray
first_stray part [] = None
first_stray part (k ∷ ks) = if is_among (string_bytes k) (known_words part) then first_stray part ks else Some (record { part = part; name = string_bytes k })

pub stray_by_keys : (part : Part) (es : List (String Global × Value)) → first_stray part (keys_of es) ≡ stray_in part (members_view es)
stray_by_keys part [] = refl
stray_by_keys part (e ∷ es) = ap (λ o. if is_among (string_bytes e.0) (known_words part) then o else Some (record { part = part; name = string_bytes e.0 })) (stray_by_keys part es)

-- whether the part has the key, as it is tested
is_its_own : (part : Part) (k : String Global) (word : List ℕ) (words : List (Bor (List ℕ))) (b : Bool) → word ≡ string_bytes k → map (λ w. w.now) words ≡ known_words part → b ≡ list_any (λ w. bytes_eq w.now word) words
    → is_among (string_bytes k) (known_words part) ≡ b
is_its_own part k word words b same all tested =
    ap (λ x. is_among x (known_words part)) (sym same) ∙ ap (is_among word) (sym all) ∙ sym (among_shown word words) ∙ sym tested

-- the next key is the one, or it is one that the part has
pub stray_found : (part : Part) (ks rest : List (String Global)) (k : String Global) (word name : List ℕ) (words : List (Bor (List ℕ))) (b : Bool) (said : Option Stray)
    → first_stray part ks ≡ said → ks ≡ k ∷ rest → word ≡ string_bytes k → name ≡ string_bytes k → map (λ w. w.now) words ≡ known_words part → b ≡ list_any (λ w. bytes_eq w.now word) words → b ≡ false
    → Some (record { part = part; name = name }) ≡ said
stray_found part ks rest k word name words b said left is same shown all tested unknown =
    let own = is_its_own part k word words b same all tested ∙ unknown in
    rw (← left, is, own, shown) refl

pub stray_passed : (part : Part) (ks rest : List (String Global)) (k : String Global) (word : List ℕ) (words : List (Bor (List ℕ))) (b : Bool) (said : Option Stray)
    → first_stray part ks ≡ said → ks ≡ k ∷ rest → word ≡ string_bytes k → map (λ w. w.now) words ≡ known_words part → b ≡ list_any (λ w. bytes_eq w.now word) words → b ≡ true
    → first_stray part rest ≡ said
stray_passed part ks rest k word words b said left is same all tested known =
    let own = is_its_own part k word words b same all tested ∙ known in
    rw (← left, is, own) refl
