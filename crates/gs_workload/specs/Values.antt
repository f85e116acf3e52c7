-- What a single value of a document says, or why it says nothing.
use Rattle.std.specs.Prelude.{Bool, not, ◌&&◌, ◌||◌, ℕ, ℤ, pos, negsuc, ◌-◌, ◌^◌, ◌==◌, nat_le, bit_or, List, length, bytes_eq, codes, if◌then◌else◌, Option, Some, None, Result, Ok, Err}
use Rattle.toml.specs.Data.{Data, as_integer, as_str, as_bool, as_array, Items, no_items, item}
use Rattle.gs_layout.specs.Name.{is_name}
use Rattle.gs_layout.specs.declared.name.Name.{Name as TheName}
use Rattle.gs_layout.specs.declared.facts.Class.{Class}
use Rattle.gs_layout.specs.declared.facts.Class.TheVariants.{Zero, One}
use Rattle.gs_script.specs.Header.{policy_said}
use Rattle.gs_script.specs.Naming.{Naming}
use Rattle.gs_script.specs.declared.fault.Reason.{Reason as ScriptReason}
use Rattle.gs_status.specs.declared.mask.Mask.{Mask}
use Rattle.gs_workload.specs.declared.fault.Kind.TheVariants as kind
use Rattle.gs_workload.specs.declared.fault.Reason.{Reason}
use Rattle.gs_workload.specs.declared.fault.Reason.TheVariants.{NotOfKind, OutOfRange, Reversed, NoCpu, NoName, OtherWord}
use Rattle.gs_workload.specs.declared.workload.Span.{Span}
use Rattle.gs_workload.specs.declared.workload.Leaving.{Leaving}
use Rattle.gs_workload.specs.declared.workload.Leaving.TheVariants.{Block, Yield, Die}
use Rattle.gs_workload.specs.declared.values.ChangeName.{ChangeName}
use Rattle.gs_workload.specs.declared.values.ChangeName.TheVariants as change

-- what is read of what a first reading gave, or why that gave nothing
infixl 10 ◌>>=◌
abbrev pub ◌>>=◌ : {A B E : Type 0} → Result A E → (A → Result B E) → Result B E
(Ok x) >>= read = read x
(Err e) >>= read = Err e

abbrev pub is_between : ℕ → ℕ → ℕ → Bool
is_between least most n = nat_le least n && nat_le n most

-- a number from the least to the most
abbrev pub number_in : ℕ → ℕ → Option ℤ → Result ℕ Reason
number_in least most None = Err (NotOfKind kind.Number)
number_in least most (Some (pos n)) = if is_between least most n then Ok n else Err (OutOfRange least most)
number_in least most (Some (negsuc n)) = Err (OutOfRange least most)

abbrev pub number_said : ℕ → ℕ → Data → Result ℕ Reason
number_said least most d = number_in least most (as_integer d)

-- a number for both ends, or a list of the two
abbrev pub span_from : ℕ → ℕ → Result Span Reason
span_from first second = if nat_le first second then Ok (record { least = first; most = second }) else Err Reversed

abbrev pub span_in : ℕ → ℕ → Data → Option Items → Result Span Reason
span_in least most d None = number_said least most d >>= (λ n. Ok (record { least = n; most = n }))
span_in least most d (Some (item a (item b no_items))) = number_said least most a >>= (λ x. number_said least most b >>= (λ y. span_from x y))
span_in least most d (Some _) = Err (NotOfKind kind.Span)

abbrev pub span_said : ℕ → ℕ → Data → Result Span Reason
span_said least most d = span_in least most d (as_array d)

-- the mask of CPUs that has those of another mask and those of a list, each below the count
abbrev pub mask_with : ℕ → ℕ → Items → Result ℕ Reason
mask_with cpus bits no_items = Ok bits
mask_with cpus bits (item d ds) = number_said 0 (cpus - 1) d >>= (λ c. mask_with cpus (bit_or bits (2 ^ c)) ds)

abbrev pub mask_in : ℕ → Option Items → Result Mask Reason
mask_in cpus None = Err (NotOfKind kind.Cpus)
mask_in cpus (Some ds) = mask_with cpus 0 ds >>= (λ bits. if bits == 0 then Err NoCpu else Ok bits)

abbrev pub mask_said : ℕ → Data → Result Mask Reason
mask_said cpus d = mask_in cpus (as_array d)

-- what a text says, if the value is one
abbrev pub text_said : {A : Type 0} → (List ℕ → Result A Reason) → Data → Result A Reason
text_said read d = text_in read (as_str d) where
  text_in : {A : Type 0} → (List ℕ → Result A Reason) → Option (List ℕ) → Result A Reason
  text_in read None = Err (NotOfKind kind.Text)
  text_in read (Some text) = read text

-- the bytes of a name that a thread may have
abbrev pub is_thread_name : List ℕ → Bool
is_thread_name text = not (length text == 0 || bytes_eq text (codes "-")) && is_name text

abbrev pub name_said : Data → Result TheName Reason
name_said = text_said (λ text. if is_thread_name text then Ok text else Err NoName)

abbrev pub class_said : Data → Result Class Reason
class_said d = number_said 0 1 d >>= (λ n. Ok (if n == 0 then Zero else One))

abbrev pub flag_in : Option Bool → Result Bool Reason
flag_in None = Err (NotOfKind kind.Flag)
flag_in (Some b) = Ok b

abbrev pub flag_said : Data → Result Bool Reason
flag_said d = flag_in (as_bool d)

abbrev pub leaving_of : List ℕ → Result Leaving Reason
leaving_of text =
    if bytes_eq text (codes "block") then Ok Block
    else if bytes_eq text (codes "yield") then Ok Yield
    else if bytes_eq text (codes "die") then Ok Die
    else Err OtherWord

abbrev pub leaving_said : Data → Result Leaving Reason
leaving_said = text_said leaving_of

-- the policy that words name
abbrev pub if_named : {A : Type 0} → Result A ScriptReason → Result A Reason
if_named (Ok p) = Ok p
if_named (Err reason) = Err OtherWord

abbrev pub policy_of_text : {A : Type 0} → Naming A → List ℕ → Result A Reason
policy_of_text naming text = if_named (policy_said naming text)

abbrev pub policy_value_said : {A : Type 0} → Naming A → Data → Result A Reason
policy_value_said naming = text_said (policy_of_text naming)

-- which change of the agent is named
abbrev pub change_name_of : List ℕ → Result ChangeName Reason
change_name_of text =
    if bytes_eq text (codes "hand-off") then Ok change.HandOff
    else if bytes_eq text (codes "crash") then Ok change.Crash
    else if bytes_eq text (codes "replace") then Ok change.Replace
    else Err OtherWord

abbrev pub change_name_said : Data → Result ChangeName Reason
change_name_said = text_said change_name_of
