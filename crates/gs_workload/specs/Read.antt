-- What the text of a workload says, or why it says none.
use denote.Ref.{Bor}
use Rattle.std.specs.Prelude.{ℕ, ◌≡◌, ◌<◌, ◌≤◌, List, length, map, Option, Some, None, Ok, Err, IsUtf8, string_bytes}
use Rattle.gs_hints.specs.Nearest.{IsNearest}
use Rattle.toml.specs.Data.{Members}
use Rattle.toml.specs.Parse.{parse_document}
use Rattle.gs_script.specs.declared.script.TheConstants.{MOST_BYTES}
use Rattle.gs_script.specs.Naming.{Naming, forms_named}
use Rattle.gs_workload.specs.declared.fault.Failure.{Failure}
use Rattle.gs_workload.specs.declared.fault.Failure.TheVariants as failure
use Rattle.gs_workload.specs.declared.fault.Part.{Part}
use Rattle.gs_workload.specs.declared.fault.Wrong.{Wrong}
use Rattle.gs_workload.specs.declared.fault.WorkloadFault.{WorkloadFault}
use Rattle.gs_workload.specs.declared.fault.WorkloadFault.TheVariants as fault
use Rattle.gs_workload.specs.declared.read.TheConstants.{LONGEST}
use Rattle.gs_workload.specs.declared.workload.Workload.{Workload}
use Rattle.gs_workload.specs.Machine.{content_of, workload_said}
use Rattle.gs_workload.specs.Unknown.{known_words, stray_said}

-- a document says this workload: it has no unknown key, and each value is the one of its key
pub record IsSaid {A : Type 0} (naming : Naming A) (t : Members) (w : Workload A) : Type 0 where
  pub keys : stray_said t ≡ None
  pub values : workload_said naming t ≡ Ok (content_of w)

-- the nearest word of those that a part may have was probably meant, if one is near
pub record IsMeant (part : Part) (name : List ℕ) (meant : Option (Bor (List ℕ))) : Type 0 where
  pub words : List (Bor (List ℕ))
  pub of_part : map (λ w. w.now) words ≡ known_words part
  pub nearest : IsNearest name words meant

-- none is looked for if the name is long
pub record IsHint (part : Part) (name : List ℕ) (meant : Option (Bor (List ℕ))) : Type 0 where
  pub short : length name ≤ LONGEST → IsMeant part name meant
  pub long : LONGEST < length name → meant ≡ None

-- a document has an unknown key of this name, and this is the hint
pub record HasUnknown (t : Members) (name : List ℕ) (meant : Option (Bor (List ℕ))) : Type 0 where
  pub part : Part
  pub key : stray_said t ≡ Some (record { part = part; name = name })
  pub hint : IsHint part name meant

-- a document has no unknown key, and this is the first that is wrong
pub record IsWrong {A : Type 0} (naming : Naming A) (t : Members) (w : Wrong) : Type 0 where
  pub keys : stray_said t ≡ None
  pub value : workload_said naming t ≡ Err w

-- this is why a document was not read
abbrev pub IsFailureOf : {A : Type 0} → Naming A → Members → Failure → Type 0
IsFailureOf naming t (failure.Wrong wrong) = workload_said naming t ≡ Err wrong
IsFailureOf naming t failure.OutOfMemory = Unit {0}

-- a document has this fault. If a value is wrong, the words are told of that name a policy
abbrev pub IsFaultOf : {A : Type 0} → Naming A → Members → WorkloadFault → Type 0
IsFaultOf naming t (fault.UnknownKey line key meant) = HasUnknown t (string_bytes key) meant
IsFaultOf naming t (fault.Wrong line wrong policies) = IsWrong naming t wrong × (forms_named policies.now ≡ naming.forms)
IsFaultOf naming t fault.OutOfMemory = Unit {0}
IsFaultOf naming t (fault.NotToml line error) = ⊥
IsFaultOf naming t fault.TooLong = ⊥

-- a text is the document of this workload
pub record Says {A : Type 0} (naming : Naming A) (text : List ℕ) (w : Workload A) : Type 0 where
  pub document : Members
  pub toml : parse_document text ≡ Some document
  pub said : IsSaid naming document w

-- a text is a document with this fault
pub record Faults {A : Type 0} (naming : Naming A) (text : List ℕ) (f : WorkloadFault) : Type 0 where
  pub document : Members
  pub toml : parse_document text ≡ Some document
  pub fault : IsFaultOf naming document f

-- a text has this fault
abbrev pub IsTextFault : {A : Type 0} → Naming A → List ℕ → WorkloadFault → Type 0
IsTextFault naming text fault.TooLong = MOST_BYTES < length text
IsTextFault naming text (fault.NotToml line error) = IsUtf8 text → parse_document text ≡ None
IsTextFault naming text fault.OutOfMemory = Unit {0}
IsTextFault naming text f = Faults naming text f
