-- What is known of threads, and how it is kept: an index from tid to key, and a slab that has a record under each key.
use Rattle.std.specs.Prelude.{◌≡◌, ◌-◌, ◌==◌, ℕ, Option, None, Some, List, length, nat_lt, if◌then◌else◌}
use Rattle.slab.specs.Slab.{Slab, ContainsKey, get, slab_len}
use Rattle.gs_layout.specs.declared.known.Known.{Known}
use Rattle.gs_layout.specs.View.{Look}
use Rattle.gs_view.specs.Index.{IndexState, key_of, places}
use Rattle.gs_view.specs.Listed.{listed}
use Rattle.gs_view.specs.declared.records.TheConstants.{KEYS}

-- all that is known, in increasing order of tid; how many tids have a place, from tid 0 on; and how many more records fit without allocating. Each record has a key of 32 bits
pub record RecordsState : Type 0 where
  pub entries : List (ℕ × Known)
  pub tids : ℕ
  pub room : ℕ

-- the record under a key, if there is a key
abbrev pub record_under : Slab Known → Option ℕ → Option Known
record_under slab None = None
record_under slab (Some key) = get slab key

-- what is known of each thread: the record under its key
abbrev pub known_by : IndexState → Slab Known → Look
known_by index slab = λ t. record_under slab (key_of index t)

-- how many more records fit without allocating, each under a key of 32 bits. Of a new key it is known only that it is below the capacity,
-- so none fit if that is greater than KEYS
abbrev pub room_of : Slab Known → ℕ
room_of slab = if nat_lt KEYS slab.capacity then 0 else slab.capacity - slab_len slab

-- what index and slab are to their callers
abbrev pub state_of : IndexState → Slab Known → RecordsState
state_of index slab =
    record {
      entries = listed (known_by index slab) 0 (places index);
      tids = places index;
      room = room_of slab;
    }

-- index and slab agree
pub record Agree (index : IndexState) (slab : Slab Known) : Type 0 where
  -- there is a record under each key
  pub present : (t key : ℕ) → key_of index t ≡ Some key → ContainsKey slab key
  -- no two tids have one key
  pub apart : (t u key : ℕ) → key_of index t ≡ Some key → key_of index u ≡ Some key → t ≡ u
  -- there are no records but those
  pub all : length (listed (known_by index slab) 0 (places index)) ≡ slab_len slab

-- what is known once that of one thread is another
abbrev pub with_known : ℕ → Option Known → Look → Look
with_known t o v = λ u. if t == u then o else v u
