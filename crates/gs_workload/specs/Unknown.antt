-- The first key of a document that its part has not.
use Rattle.std.specs.Prelude.{ℕ, ◌+◌, Bool, bytes_eq, List, [], ◌∷◌, codes, if◌then◌else◌, Option, Some, None}
use Rattle.std.specs.List.{list_any}
use Rattle.std.specs.Option.{option_or}
use Rattle.toml.specs.Data.{Data, Items, no_items, item, Members, no_members, member, as_array, as_table}
use Rattle.gs_workload.specs.declared.fault.Part.{Part}
use Rattle.gs_workload.specs.declared.fault.Part.TheVariants.{Whole, Agent, Group, Taking, Change}
use Rattle.gs_workload.specs.declared.key.Key.TheVariants as key
use Rattle.gs_workload.specs.declared.unknown.Unknown.{Unknown}
use Rattle.gs_workload.specs.declared.unknown.List.{List as ListOf}
use Rattle.gs_workload.specs.declared.unknown.List.TheVariants as lists
use Rattle.gs_workload.specs.Fields.{value_at}

abbrev pub is_among : List ℕ → List (List ℕ) → Bool
is_among word words = list_any (λ w. bytes_eq w word) words

-- the keys that a part may have
abbrev pub known_words : Part → List (List ℕ)
known_words Whole = codes "cpus" ∷ codes "ring" ∷ codes "policy" ∷ codes "ticks" ∷ codes "agent" ∷ codes "groups" ∷ codes "takings" ∷ codes "changes" ∷ []
known_words Agent = codes "every" ∷ codes "late" ∷ codes "together" ∷ []
known_words (Group place) = codes "name" ∷ codes "count" ∷ codes "class" ∷ codes "mask" ∷ codes "run" ∷ codes "sleep" ∷ codes "bursts" ∷ codes "leaving" ∷ codes "created" ∷ []
known_words (Taking place) = codes "cpu" ∷ codes "from" ∷ codes "until" ∷ []
known_words (Change place) = codes "at" ∷ codes "what" ∷ codes "cpu" ∷ []

-- a key that its part has not
pub record Stray : Type 0 where
  pub part : Part
  pub name : List ℕ

abbrev pub seen : Unknown → Stray
seen u = record { part = u.part; name = u.key.now }

-- the first of a table's keys that its part has not
abbrev pub stray_in : Part → Members → Option Stray
stray_in part no_members = None
stray_in part (member k d ms) = if is_among k (known_words part) then stray_in part ms else Some (record { part = part; name = k })

-- the same of a value: it has none if it is no table
abbrev pub stray_table : Part → Option Members → Option Stray
stray_table part None = None
stray_table part (Some t) = stray_in part t

abbrev pub stray_at : Part → Data → Option Stray
stray_at part d = stray_table part (as_table d)

abbrev pub stray_if : Part → Option Data → Option Stray
stray_if part None = None
stray_if part (Some d) = stray_at part d

-- the same of the tables of a list, the first of them at a place
abbrev pub strays_from : (ℕ → Part) → ℕ → Items → Option Stray
strays_from part_at place no_items = None
strays_from part_at place (item d ds) = option_or (stray_at (part_at place) d) (strays_from part_at (place + 1) ds)

abbrev pub stray_items : (ℕ → Part) → Option Items → Option Stray
stray_items part_at None = None
stray_items part_at (Some ds) = strays_from part_at 0 ds

abbrev pub stray_in_list : (ℕ → Part) → Option Data → Option Stray
stray_in_list part_at None = None
stray_in_list part_at (Some d) = stray_items part_at (as_array d)

abbrev pub list_part : ListOf → ℕ → Part
list_part lists.Groups place = Group place
list_part lists.Takings place = Taking place
list_part lists.Changes place = Change place

-- the same of a document
abbrev pub stray_said : Members → Option Stray
stray_said t =
    option_or (option_or (option_or (option_or
    (stray_in Whole t)
    (stray_if Agent (value_at key.Agent t)))
    (stray_in_list Group (value_at key.Groups t)))
    (stray_in_list Taking (value_at key.Takings t)))
    (stray_in_list Change (value_at key.Changes t))
