-- The line that says what an enclave is opened with.
use Rattle.std.specs.Prelude.{ℕ, ◌≤◌, nat_lt, List, [], ◌∷◌, map, length, drop, if◌then◌else◌, codes, Option, Some, None, Result, Ok, Err}
use Rattle.gs_status.specs.declared.mask.TheConstants.{MOST_CPUS}
use Rattle.gs_layout.specs.declared.wire.TheConstants.{ALIGNMENT}
use Rattle.gs_ring.specs.declared.block.TheConstants.{LEAST_CAPACITY, MOST_CAPACITY}
use Rattle.gs_kernel.specs.declared.settings.TheConstants.{LEAST_CPUS, LEAST_GENERATION, LEAST_HISTORY, MOST_FIRST_TSEQ, MOST_GENERATION, MOST_HISTORY}
use Rattle.gs_replies.specs.declared.config.Config.{Config}
use Rattle.gs_script.specs.declared.fault.Reason.{Reason}
use Rattle.gs_script.specs.declared.fault.Reason.TheVariants.{BadByte, NoHeader, BadCount, BadNumber}
use Rattle.gs_script.specs.declared.header.Firsts.{Firsts}
use Rattle.gs_script.specs.Words.{is_text, number, words_of}
use Rattle.gs_script.specs.Grammar.{is_of_kind, Number, Multiple, Form, with_part, first_fault, or_fault, literal}
use Rattle.gs_script.specs.Naming.{Naming, policy_named}
use Rattle.gs_script.specs.Rows.{at, is, number_between}

-- a word and the number behind it
abbrev pub numbered : List ℕ → ℕ → ℕ → Form
numbered word low high = literal word ∷ Number low high ∷ []

-- the parts that may stand behind the sizes, each once or not at all, in this order, from the last part outwards
abbrev pub policies : {A : Type 0} → Naming A → List Form
policies naming = [] ∷ map (λ form. literal (codes "policy") ∷ form) naming.forms

abbrev pub histories : {A : Type 0} → Naming A → List Form
histories naming = with_part (numbered (codes "history") LEAST_HISTORY MOST_HISTORY) (policies naming)

abbrev pub generations : {A : Type 0} → Naming A → List Form
generations naming = with_part (numbered (codes "first-gen") LEAST_GENERATION MOST_GENERATION) (histories naming)

abbrev pub parts : {A : Type 0} → Naming A → List Form
parts naming = with_part (numbered (codes "first-tseq") 0 MOST_FIRST_TSEQ) (generations naming)

-- the words behind `cpus`
abbrev pub header_forms : {A : Type 0} → Naming A → List Form
header_forms naming = map (λ form. Number LEAST_CPUS MOST_CPUS ∷ literal (codes "ring") ∷ Multiple ALIGNMENT LEAST_CAPACITY MOST_CAPACITY ∷ form) (parts naming)

-- the words behind a word, of words that come in pairs until then. Behind `policy` no other part begins
abbrev pub words_behind : List ℕ → List (List ℕ) → List (List ℕ)
words_behind word [] = []
words_behind word (w ∷ []) = []
words_behind word (w ∷ v ∷ ws) = if is w word then v ∷ ws else (if is w (codes "policy") then [] else words_behind word ws)

-- the number that comes first, or the default
abbrev pub number_or : ℕ → List (List ℕ) → ℕ
number_or default [] = default
number_or default (v ∷ ws) = number v

-- the number behind a word, or the default
abbrev pub behind : ℕ → List ℕ → List (List ℕ) → ℕ
behind default word ws = number_or default (words_behind word ws)

-- the policy that the words behind `policy` name
abbrev pub policy_of : {A : Type 0} → Naming A → List (List ℕ) → A
policy_of naming ws = naming.named (words_behind (codes "policy") ws)

abbrev pub firsts_of : {A : Type 0} → Naming A → List (List ℕ) → Firsts A
firsts_of naming ws =
    record {
      tseq = behind 0 (codes "first-tseq") ws;
      generation = behind LEAST_GENERATION (codes "first-gen") ws;
      history = behind MOST_HISTORY (codes "history") ws;
      policy = policy_of naming ws;
    }

abbrev pub config_of : {A : Type 0} → Naming A → List (List ℕ) → Config A
config_of naming ws =
    record {
      cpus = number (at 0 ws);
      ring = number (at 2 ws);
      first_tseq = (firsts_of naming (drop 3 ws)).tseq;
      first_generation = (firsts_of naming (drop 3 ws)).generation;
      history = (firsts_of naming (drop 3 ws)).history;
      policy = (firsts_of naming (drop 3 ws)).policy;
    }

-- what the words behind `cpus` say: only a count under that of the shortest form is a fault before the words are
abbrev pub config_in : {A : Type 0} → Naming A → List (List ℕ) → Result (Config A) Reason
config_in naming ws = if nat_lt (length ws) 3 then Err BadCount else or_fault (first_fault (header_forms naming) ws) (config_of naming ws)

-- what a header of these words says
abbrev pub header_of : {A : Type 0} → Naming A → List (List ℕ) → Result (Config A) Reason
header_of naming [] = Err NoHeader
header_of naming (first ∷ words) = if is first (codes "cpus") then config_in naming words else Err NoHeader

-- the numbers of the optional parts are those that an enclave may be opened with
pub record AreAllowed {A : Type 0} (f : Firsts A) : Type 0 where
  pub tseq : f.tseq ≤ MOST_FIRST_TSEQ
  pub some_generation : LEAST_GENERATION ≤ f.generation
  pub some_history : LEAST_HISTORY ≤ f.history
  pub most_history : f.history ≤ MOST_HISTORY

-- what the optional parts say
abbrev pub firsts_in : {A : Type 0} → Naming A → List (List ℕ) → Result (Firsts A) Reason
firsts_in naming ws = or_fault (first_fault (parts naming) ws) (firsts_of naming ws)

-- what a word says that is to be a ring's capacity
abbrev pub capacity_in : List ℕ → Result ℕ Reason
capacity_in word = if is_of_kind (Multiple ALIGNMENT LEAST_CAPACITY MOST_CAPACITY) word then Ok (number word) else Err BadNumber

-- what one optional part says, and the words behind it
abbrev pub with_rest : List (List ℕ) → Result ℕ Reason → Result (Option ℕ × List (List ℕ)) Reason
with_rest ws (Ok n) = Ok (Some n, ws)
with_rest ws (Err reason) = Err reason

abbrev pub number_first : ℕ → ℕ → List (List ℕ) → Result (Option ℕ × List (List ℕ)) Reason
number_first low high [] = Err BadCount
number_first low high (v ∷ ws) = with_rest ws (number_between low high v)

abbrev pub part_in : List ℕ → ℕ → ℕ → List (List ℕ) → Result (Option ℕ × List (List ℕ)) Reason
part_in word low high [] = Ok (None, [])
part_in word low high (w ∷ ws) = if is w word then number_first low high ws else Ok (None, w ∷ ws)

-- what the last part says, and nothing behind it
abbrev pub policy_in : {A : Type 0} → Naming A → List (List ℕ) → Result A Reason
policy_in naming ws = or_fault (first_fault (policies naming) ws) (policy_of naming ws)

-- what a text says that is to name a policy
abbrev pub policy_said : {A : Type 0} → Naming A → List ℕ → Result A Reason
policy_said naming text = if is_text text then policy_named naming (words_of text) else Err BadByte
