-- Words that are to be numbers, read one after another.
use Rattle.std.proofs.Common.{◌≡◌, ℕ, ◌+◌, ◌<◌, ◌≤◌, suc, Bool, true, false, cond, List, [], ◌∷◌, ◌++◌, ◌&&◌, length, map, take, drop, get_or, slice_set, Bor, refl, ap, sym, ◌∙◌, Option, None, Some, Ok, Err, arith}
use Rattle.std.specs.Prelude.{nat_le}
use Rattle.std.proofs.lemmas.Bool.{and_from, and_parts}
use Rattle.std.proofs.lemmas.List.{drop_all, length-map, length-set, map-append, take_more, take_more_set}
use Rattle.std.proofs.Math.ListN.{get_or-map}
use Rattle.std.proofs.Math.Seq.{drop-cons}
use Rattle.gs_script.specs.declared.fault.Reason.{Reason}
use Rattle.gs_script.specs.declared.fault.Reason.TheVariants.{BadCount}
use Rattle.gs_script.specs.declared.policy_word.PolicyWord.{PolicyWord}
use Rattle.gs_script.specs.Words.{is_number, number}
use Rattle.gs_script.specs.Grammar.{Form, Kind, Number, fault_of, first_fault, is_of_kind, or_fault}
use Rattle.gs_script.specs.Naming.{policy_kind}
use Rattle.gs_script.specs.Rows.{shown}
use Rattle.gs_beside.specs.declared.own_words.TheConstants.{MOST_NUMBERS}
use Rattle.gs_beside.specs.Own.{Range, are_in, in_range, is_in, number_form}
use Rattle.gs_beside.specs.Beside.{are_numbers, number_said}
use Rattle.gs_beside.specs.Said.{step_refused, step_taken}

-- so many words are read, and the others are left
pub record IsReading (form : Form) (ws : List (List ℕ)) (ns : List ℕ) (k : ℕ) : Type 0 where
  pub within : k ≤ length ws
  pub room : length ns ≡ MOST_NUMBERS
  pub read : take k ns ≡ map number (take k ws)
  pub rest : first_fault (form ∷ []) ws ≡ first_fault (drop k form ∷ []) (drop k ws)

wanting : (kind : Kind) (form : Form) → first_fault ((kind ∷ form) ∷ []) [] ≡ Some BadCount
wanting kind form = refl

-- what is left of the form and of the words, at a place that both have
left_of : (form : Form) (ws : List (List ℕ)) (ns : List ℕ) (k : ℕ) (kd : Kind) (wd : List ℕ) → IsReading form ws ns k → k < length form → k < length ws
    → first_fault (form ∷ []) ws ≡ first_fault ((get_or form k kd ∷ drop (suc k) form) ∷ []) (get_or ws k wd ∷ drop (suc k) ws)
left_of form ws ns k kd wd reading here there =
    reading.rest
    ∙ ap (λ (f : Form). first_fault (f ∷ []) (drop k ws)) (drop-cons form k kd here)
    ∙ ap (λ (vs : List (List ℕ)). first_fault ((get_or form k kd ∷ drop (suc k) form) ∷ []) vs) (drop-cons ws k wd there)

-- a word is missing
pub missing : (form : Form) (ws : List (List ℕ)) (ns : List ℕ) (k : ℕ) (kd : Kind) → IsReading form ws ns k → k < length form → length ws ≤ k → first_fault (form ∷ []) ws ≡ Some BadCount
missing form ws ns k kd reading here none =
    reading.rest
    ∙ ap (λ (f : Form). first_fault (f ∷ []) (drop k ws)) (drop-cons form k kd here)
    ∙ ap (λ (vs : List (List ℕ)). first_fault ((get_or form k kd ∷ drop (suc k) form) ∷ []) vs) (drop_all k ws none)
    ∙ wanting (get_or form k kd) (drop (suc k) form)

failed : (kind : Kind) (word : List ℕ) (e : Reason) (b : Bool) → Err e ≡ cond b (Ok (number word)) (Err (fault_of kind)) → (b ≡ false) × (e ≡ fault_of kind)
failed kind word e true h = absurd (cc)
failed kind word e false h = (refl, cc)

went : (kind : Kind) (word : List ℕ) (n : ℕ) (b : Bool) → Ok n ≡ cond b (Ok (number word)) (Err (fault_of kind)) → (b ≡ true) × (n ≡ number word)
went kind word n true h = (refl, cc)
went kind word n false h = absurd (cc)

-- it is no such number
pub refused : (form : Form) (ws : List (List ℕ)) (ns : List ℕ) (k : ℕ) (kd : Kind) (wd : List ℕ) (e : Reason) → IsReading form ws ns k → k < length form → k < length ws
    → Err e ≡ number_said (get_or form k kd) (get_or ws k wd) → first_fault (form ∷ []) ws ≡ Some e
refused form ws ns k kd wd e reading here there h =
    let f = failed (get_or form k kd) (get_or ws k wd) e (is_of_kind (get_or form k kd) (get_or ws k wd)) h in
    left_of form ws ns k kd wd reading here there ∙ step_refused (get_or form k kd) (drop (suc k) form) (get_or ws k wd) (drop (suc k) ws) f.0 ∙ ap Some (sym f.1)

-- it is one, and one word more is read
pub read_more : (form : Form) (ws : List (List ℕ)) (ns : List ℕ) (k : ℕ) (kd : Kind) (wd : List ℕ) (n : ℕ) → IsReading form ws ns k → k < length form → k < length ws → k < MOST_NUMBERS
    → Ok n ≡ number_said (get_or form k kd) (get_or ws k wd) → IsReading form ws (slice_set ns k n) (k + 1)
read_more form ws ns k kd wd n reading here there small h =
    let f = went (get_or form k kd) (get_or ws k wd) n (is_of_kind (get_or form k kd) (get_or ws k wd)) h in
    let next : suc k ≡ k + 1 = omega arith in
    record {
      within = omega arith;
      room = length-set ns k n ∙ reading.room;
      read = take_more_set ns k n (omega (arith, reading.room)) ∙ ap (λ (ms : List ℕ). ms ++ n ∷ []) reading.read ∙ ap (λ (m : ℕ). map number (take k ws) ++ m ∷ []) f.1 ∙ sym (mapped ws k wd there);
      rest = left_of form ws ns k kd wd reading here there ∙ step_taken (get_or form k kd) (drop (suc k) form) (get_or ws k wd) (drop (suc k) ws) f.0
          ∙ ap (λ (j : ℕ). first_fault (drop j form ∷ []) (drop j ws)) next;
    }
  where
    mapped : (ws : List (List ℕ)) (k : ℕ) (wd : List ℕ) → k < length ws → map number (take (k + 1) ws) ≡ map number (take k ws) ++ number (get_or ws k wd) ∷ []
    mapped ws k wd there = ap (map number) (take_more ws k wd there) ∙ map-append number (take k ws) (get_or ws k wd ∷ [])

-- all are read, and there is one more
pub one_more : (form : Form) (ws : List (List ℕ)) (ns : List ℕ) (k : ℕ) (wd : List ℕ) → IsReading form ws ns k → length form ≤ k → k < length ws → first_fault (form ∷ []) ws ≡ Some BadCount
one_more form ws ns k wd reading none there =
    reading.rest ∙ ap (λ (f : Form). first_fault (f ∷ []) (drop k ws)) (drop_all k form none) ∙ ap (λ (vs : List (List ℕ)). first_fault ([] ∷ []) vs) (drop-cons ws k wd there)

-- ranges are numbers
pub ranges_numbers : (rs : List Range) → are_numbers (number_form rs) ≡ true
ranges_numbers [] = refl
ranges_numbers (r ∷ rs) = ranges_numbers rs

-- words that are numbers of these ranges write such ones
pub read_in : (rs : List Range) (ws : List (List ℕ)) → first_fault (number_form rs ∷ []) ws ≡ None → are_in rs (map number ws) ≡ true
read_in [] [] h = refl
read_in [] (w ∷ ws) h = absurd (cc)
read_in (r ∷ rs) [] h = absurd (cc)
read_in (r ∷ rs) (w ∷ ws) h = by_test (is_of_kind (in_range r) w) refl (read_in rs ws)
  where
    said : first_fault (number_form (r ∷ rs) ∷ []) (w ∷ ws) ≡ None
    said = h

    in_it : is_of_kind (in_range r) w ≡ true → is_in r (number w) ≡ true
    in_it e =
        let a = and_parts (is_number w && nat_le r.least (number w)) (nat_le (number w) r.most) e in
        and_from (nat_le r.least (number w)) (nat_le (number w) r.most) (and_parts (is_number w) (nat_le r.least (number w)) a.0).1 a.1

    by_test : (b : Bool) → is_of_kind (in_range r) w ≡ b → (first_fault (number_form rs ∷ []) ws ≡ None → are_in rs (map number ws) ≡ true) → are_in (r ∷ rs) (map number (w ∷ ws)) ≡ true
    by_test true e more = and_from (is_in r (number w)) (are_in rs (map number ws)) (in_it e) (more (sym (step_taken (in_range r) (number_form rs) w ws e) ∙ said))
    by_test false e more = let refused = step_refused (in_range r) (number_form rs) w ws e in absurd (cc)

-- what is said of numbers is said of the policy of them
pub said_value : {A B : Type 0} (f : A → B) (o : Option Reason) (x y : A) → Ok x ≡ or_fault o y → Ok (f x) ≡ or_fault o (f y)
said_value f None x y h = let same : x ≡ y = cc in ap (λ z. Ok (f z)) same
said_value f (Some reason) x y h = absurd (cc)

pub said_fault : {A B : Type 0} (o : Option Reason) (e : Reason) (x : A) (y : B) → Err e ≡ or_fault o x → Err e ≡ or_fault o y
said_fault None e x y h = absurd (cc)
said_fault (Some reason) e x y h = let same : e ≡ reason = cc in ap Err same

-- the same of words as they are held
module _ (wanted : List PolicyWord) (words : List (Bor (List ℕ))) (ns : List ℕ) (k : ℕ) (reading : IsReading (map policy_kind wanted) (shown words) ns k) where
  few_kinds : length (map policy_kind wanted) ≡ length wanted
  few_kinds = length-map wanted policy_kind

  few_words : length (shown words) ≡ length words
  few_words = length-map words (λ (word : Bor (List ℕ)). word.now)

  -- a word that is there
  abbrev pub IsThere : Bor (List ℕ) → Type 0
  IsThere word = (k < length words) × ((d : Bor (List ℕ)) → word ≡ get_or words k d)

  said_there : (d : PolicyWord) (word : Bor (List ℕ)) → IsThere word → number_said (policy_kind (get_or wanted k d)) word.now ≡ number_said (get_or (map policy_kind wanted) k (policy_kind d)) (get_or (shown words) k word.now)
  said_there d word there =
      ap (λ (kind : Kind). number_said kind word.now) (sym (get_or-map policy_kind wanted k d))
      ∙ ap (number_said (get_or (map policy_kind wanted) k (policy_kind d))) (ap (λ (v : Bor (List ℕ)). v.now) (there.1 word) ∙ sym (get_or-map (λ (v : Bor (List ℕ)). v.now) words k word))

  pub missing_word : k < length wanted → length words ≤ k → first_fault (map policy_kind wanted ∷ []) (shown words) ≡ Some BadCount
  missing_word here none = missing (map policy_kind wanted) (shown words) ns k (Number 0 0) reading (omega (arith, few_kinds)) (omega (arith, few_words))

  pub refused_word : (d : PolicyWord) (word : Bor (List ℕ)) (e : Reason) → k < length wanted → IsThere word → Err e ≡ number_said (policy_kind (get_or wanted k d)) word.now
      → first_fault (map policy_kind wanted ∷ []) (shown words) ≡ Some e
  refused_word d word e here there h =
      let within = there.0 in
      refused (map policy_kind wanted) (shown words) ns k (policy_kind d) word.now e reading (omega (arith, few_kinds)) (omega (arith, few_words)) (h ∙ said_there d word there)

  pub read_word : (d : PolicyWord) (word : Bor (List ℕ)) (n : ℕ) → k < length wanted → length wanted ≤ MOST_NUMBERS → IsThere word → Ok n ≡ number_said (policy_kind (get_or wanted k d)) word.now
      → IsReading (map policy_kind wanted) (shown words) (slice_set ns k n) (k + 1)
  read_word d word n here few there h =
      let within = there.0 in
      read_more (map policy_kind wanted) (shown words) ns k (policy_kind d) word.now n reading (omega (arith, few_kinds)) (omega (arith, few_words)) (omega arith) (h ∙ said_there d word there)

  pub further_word : length wanted ≤ k → k ≤ length wanted → length wanted < length words → first_fault (map policy_kind wanted ∷ []) (shown words) ≡ Some BadCount
  further_word none within more = one_more (map policy_kind wanted) (shown words) ns k [] reading (omega (arith, few_kinds)) (omega (arith, few_words))
