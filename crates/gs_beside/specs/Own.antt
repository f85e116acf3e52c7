-- What words call a policy of one's own beside others: a word that is its own, and numbers behind it.
use Rattle.std.specs.Prelude.{ℕ, List, [], ◌∷◌, map, Bool, true, false, not, ◌&&◌, nat_le, nat_lt, ◌^◌}
use Rattle.std.specs.List.{list_all}
use Rattle.std.proofs.Common.{◌≡◌, ◌≤◌, arith}
use Rattle.std.proofs.lemmas.Bool.Decides.{nat_tests}
use Rattle.gs_keyed.specs.declared.keyed.Keyed.{Keyed}
use Rattle.gs_script.specs.Words.{is_word, words_of}
use Rattle.gs_script.specs.Grammar.{Form, Kind, Number, is_of_kind, literal}
use Rattle.gs_script.specs.Rows.{is}
use Rattle.gs_beside.specs.declared.own_words.TheConstants.{MOST_NUMBERS}

-- numbers from the least to the most, both among them
pub record Range : Type 0 where
  pub least : ℕ
  pub most : ℕ

-- the word, the range of each number behind it, the policy of such numbers, the numbers of a policy, and the policy of a header that names none
pub record Own (A : Type 0) : Type 0 where
  pub word : List ℕ
  pub ranges : List Range
  pub of : List ℕ → A
  pub numbers : A → List ℕ
  pub unnamed : A

-- what the word of a number is to be
abbrev pub in_range : Range → Kind
in_range r = Number r.least r.most

-- what the words behind the first one are to be
abbrev pub number_form : List Range → Form
number_form ranges = map in_range ranges

-- the form of the words that name such a policy
abbrev pub own_form : {A : Type 0} → Own A → Form
own_form own = literal own.word ∷ number_form own.ranges

abbrev pub is_in : Range → ℕ → Bool
is_in r n = nat_le r.least n && nat_le n r.most

-- whether there is a number for each range, and it is in its range
abbrev pub are_in : List Range → List ℕ → Bool
are_in [] [] = true
are_in [] (n ∷ ns) = false
are_in (r ∷ rs) [] = false
are_in (r ∷ rs) (n ∷ ns) = is_in r n && are_in rs ns

-- so few numbers are few enough, as the test says
pub few_enough : {n : ℕ} → nat_le n MOST_NUMBERS ≡ true → n ≤ MOST_NUMBERS
few_enough {n} h = grind (arith, nat_tests)

-- whether each number of these ranges has at most 64 bits
abbrev pub are_short : List Range → Bool
are_short ranges = list_all (λ r. nat_lt r.most (2 ^ 64)) ranges

-- whether a form begins with a word, and takes no such word as this one there
abbrev pub leaves : List ℕ → Form → Bool
leaves word [] = false
leaves word (kind ∷ form) = not (is_of_kind kind word)

-- whether a word may be one's own beside these forms: it has bytes, each printed and none a space, and each form begins with another one
abbrev pub is_free : List Form → List ℕ → Bool
is_free forms word = is_word word && list_all (λ b. nat_le 33 b && nat_le b 126) word && list_all (leaves word) forms

-- a text begins with a word, and it is another one
pub record BeginsOtherwise (word text : List ℕ) : Type 0 where
  pub first : List ℕ
  pub more : List (List ℕ)
  pub split : words_of text ≡ first ∷ more
  pub other : is first word ≡ false

-- a policy without numbers: its word alone names it
abbrev pub word_alone : {A : Type 0} → List ℕ → A → Own A
word_alone word p = record { word = word; ranges = []; of = λ ns. p; numbers = λ q. []; unnamed = p }

-- what calls a key calls the policy that goes by it
abbrev pub of_key : {K : Type 0} → Own K → Own (Keyed K)
of_key own =
    record {
      word = own.word;
      ranges = own.ranges;
      of = λ ns. record { key = own.of ns };
      numbers = λ p. own.numbers p.key;
      unnamed = record { key = own.unnamed };
    }
