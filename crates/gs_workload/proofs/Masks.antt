-- The mask of a list of CPUs, item by item.
use Rattle.std.proofs.Common.{◌≡◌, ◌<◌, ◌≤◌, ◌+◌, ◌*◌, ◌%◌, ◌^◌, ◌-◌, ◌==◌, ◌∙◌, ap, ℕ, List, length, drop, get_or, bit_or, nat_le, false, Option, Some, Ok, Err, refl, arith}
use Rattle.std.proofs.lemmas.Nat.{or_lt, pow_below, pow_pos}
use Rattle.std.proofs.lemmas.List.{drop_all}
use Rattle.std.proofs.Math.Nat.{mod-eq_of_lt}
use Rattle.toml.specs.Data.{Items}
use Rattle.toml.specs.View.{items_view, view}
use Rattle.toml.specs.declared.value.Value.{Value}
use Rattle.toml.proofs.Views.{items_view-drop}
use Rattle.gs_workload.specs.declared.fault.Reason.{Reason}
use Rattle.gs_workload.specs.declared.fault.Reason.TheVariants.{NoCpu}
use Rattle.gs_workload.specs.Values.{mask_in, mask_with, number_said}

-- the bit of a CPU, as the code makes it
pub bit_of : (c : ℕ) → c < 128 → 1 * 2 ^ c % 340282366920938463463374607431768211456 ≡ 2 ^ c
bit_of c fits = let below : 2 ^ c < 2 ^ 128 = pow_below c 128 fits in ap (λ k. k % 340282366920938463463374607431768211456) (omega arith) ∙ mod-eq_of_lt below

-- a mask with one CPU more
pub one_more : (cpus bits c : ℕ) → bits < 2 ^ cpus → c < cpus → bit_or bits (2 ^ c) < 2 ^ cpus
one_more cpus bits c fits below = or_lt cpus bits (2 ^ c) fits (pow_below c cpus below)

-- the next item is no CPU
pub item_fails : (cpus bits : ℕ) (vs : List Value) (i : ℕ) (v : Value) (e : Reason) → i < length vs → v ≡ get_or vs i v → number_said 0 (cpus - 1) (view v) ≡ Err e → mask_with cpus bits (items_view (drop i vs)) ≡ Err e
item_fails cpus bits vs i v e within is fails = rw (items_view-drop vs i v within, ← is, fails) refl

-- the next item is one
pub item_counts : (cpus bits : ℕ) (vs : List Value) (i : ℕ) (v : Value) (c : ℕ) → i < length vs → v ≡ get_or vs i v → number_said 0 (cpus - 1) (view v) ≡ Ok c → mask_with cpus bits (items_view (drop i vs)) ≡ mask_with cpus (bit_or bits (2 ^ c)) (items_view (drop (i + 1) vs))
item_counts cpus bits vs i v c within is counts = rw (items_view-drop vs i v within, ← is, counts) refl

-- no item is left
pub items_end : (cpus bits : ℕ) (vs : List Value) (i : ℕ) → length vs ≤ i → mask_with cpus bits (items_view (drop i vs)) ≡ Ok bits
items_end cpus bits vs i over = rw (drop_all i vs over) refl

-- what the whole list says
pub list_fails : (cpus : ℕ) (vs : List Value) (found : Option Items) (e : Reason) → Some (items_view vs) ≡ found → mask_with cpus 0 (items_view vs) ≡ Err e → Err e ≡ mask_in cpus found
list_fails cpus vs found e is fails = rw (← is, fails) refl

pub list_empty : (cpus bits : ℕ) (vs : List Value) (found : Option Items) → Some (items_view vs) ≡ found → mask_with cpus 0 (items_view vs) ≡ Ok bits → bits ≡ 0 → Err NoCpu ≡ mask_in cpus found
list_empty cpus bits vs found is counts none = rw (← is, counts, none) refl

pub list_counts : (cpus bits : ℕ) (vs : List Value) (found : Option Items) → Some (items_view vs) ≡ found → mask_with cpus 0 (items_view vs) ≡ Ok bits → (bits == 0) ≡ false → Ok bits ≡ mask_in cpus found
list_counts cpus bits vs found is counts some = rw (← is, counts, some) refl

-- all CPUs are some, and none past the last
pub some_cpu : (cpus : ℕ) → 1 ≤ cpus → (2 ^ cpus - 1 == 0) ≡ false
some_cpu cpus some =
    let more : 1 < 2 ^ cpus = pow_below 0 cpus some in
    grind (arith, more)

pub no_more : (cpus : ℕ) → nat_le (2 ^ cpus) (2 ^ cpus - 1) ≡ false
no_more cpus =
    let more : 0 < 2 ^ cpus = pow_pos cpus in
    grind (arith, more)
