-- What a list of tables says.
use Rattle.std.specs.Prelude.{ℕ, ◌+◌, ◌≡◌, List, [], ◌∷◌, Option, Some, None, Result, Ok, Err, Vec}
use Rattle.std.specs.declared.alloc.Global.{Global}
use Rattle.toml.specs.Data.{Data, Items, no_items, item, Members, as_array, as_table}
use Rattle.gs_workload.specs.declared.fault.Failure.{Failure}
use Rattle.gs_workload.specs.declared.fault.Failure.TheVariants as failure
use Rattle.gs_workload.specs.declared.fault.Kind.TheVariants as kind
use Rattle.gs_workload.specs.declared.fault.Part.{Part}
use Rattle.gs_workload.specs.declared.fault.Reason.TheVariants.{NotOfKind}
use Rattle.gs_workload.specs.declared.fault.Wrong.{Wrong}
use Rattle.gs_workload.specs.declared.key.Key.{Key}
use Rattle.gs_workload.specs.Values.{◌>>=◌}

-- what is wrong with a list that is not one of tables
abbrev pub no_tables : Part → Key → Wrong
no_tables part key = record { part = part; key = key; reason = NotOfKind kind.Tables }

-- what the table at a place says
abbrev pub row_in : {A : Type 0} → (Part → ℕ → Members → Result A Wrong) → Part → Wrong → ℕ → Option Members → Result A Wrong
row_in said part otherwise cpus None = Err otherwise
row_in said part otherwise cpus (Some t) = said part cpus t

abbrev pub row_said : {A : Type 0} → (Part → ℕ → Members → Result A Wrong) → (ℕ → Part) → Part → Key → ℕ → ℕ → Data → Result A Wrong
row_said said part_at whole key cpus place d = row_in said (part_at place) (no_tables whole key) cpus (as_table d)

-- what tables say, one behind another, the first of them at a place
abbrev pub rows_from : {A : Type 0} → (ℕ → Data → Result A Wrong) → ℕ → Items → Result (List A) Wrong
rows_from read place no_items = Ok []
rows_from read place (item d ds) = read place d >>= (λ x. rows_from read (place + 1) ds >>= (λ xs. Ok (x ∷ xs)))

-- what a list of tables says, of which there is none if it is left out
abbrev pub list_in : {A : Type 0} → (ℕ → Data → Result A Wrong) → Wrong → Option Items → Result (List A) Wrong
list_in read otherwise None = Err otherwise
list_in read otherwise (Some ds) = rows_from read 0 ds

abbrev pub list_at : {A : Type 0} → (ℕ → Data → Result A Wrong) → Wrong → Option Data → Result (List A) Wrong
list_at read otherwise None = Ok []
list_at read otherwise (Some d) = list_in read otherwise (as_array d)

abbrev pub list_said : {A : Type 0} → (Part → ℕ → Members → Result A Wrong) → (ℕ → Part) → Part → Key → ℕ → Option Data → Result (List A) Wrong
list_said said part_at whole key cpus d = list_at (row_said said part_at whole key cpus) (no_tables whole key) d

-- a list was read so, unless memory ran out
abbrev pub GivesItems : {A : Type 0} → Result (Vec A Global) Failure → Result (List A) Wrong → Type 0
GivesItems (Ok xs) read = read ≡ Ok xs.items
GivesItems (Err (failure.Wrong wrong)) read = read ≡ Err wrong
GivesItems (Err failure.OutOfMemory) read = Unit {0}
