-- Which thread stands on each CPU, and how the CPUs of a thread are found.
use Rattle.std.specs.Prelude.{Bool, false, ◌&&◌, ◌==◌, ◌≡◌, ◌≤◌, ℕ, ◌%◌, nat_lt, Option, None, Some, is_none, List, length, slice_index, slice_index_or}
use Rattle.gs_status.specs.Masks.{has}
use Rattle.gs_status.specs.declared.mask.TheConstants.{MOST_CPUS}
use Rattle.gs_beliefs.specs.declared.buckets.TheConstants.{BUCKETS}

-- the thread on a CPU: nobody past the last one
abbrev pub stands : List (Option ℕ) → ℕ → Option ℕ
stands tids c = slice_index_or tids c None

-- whether there is a thread, and it belongs to a bucket
abbrev pub is_in_bucket : ℕ → Option ℕ → Bool
is_in_bucket bucket None = false
is_in_bucket bucket (Some t) = t % BUCKETS == bucket

-- no thread stands on two CPUs
abbrev pub StandApart : List (Option ℕ) → Type 0
StandApart tids = (c d t : ℕ) → stands tids c ≡ Some t → stands tids d ≡ Some t → c ≡ d

-- a bucket has just the CPUs on which a thread of the bucket stands. Vacant are the CPUs on which nobody does
pub record IsIndexed (tids : List (Option ℕ)) (buckets : List ℕ) (vacant : ℕ) : Type 0 where
  pub most : length tids ≤ MOST_CPUS
  pub count : length buckets ≡ BUCKETS
  pub in_buckets : (bucket c : ℕ) → has (slice_index buckets bucket) c ≡ is_in_bucket bucket (stands tids c)
  pub on_vacant : (c : ℕ) → has vacant c ≡ (nat_lt c (length tids) && is_none (stands tids c))
