-- Where entries stand in a picture.
use Rattle.std.specs.Prelude.{ℕ, ◌+◌, ◌-◌, ◌*◌, ◌/◌, ◌&&◌, Bool, max, min, nat_le}
use Rattle.gs_timeline.specs.declared.part.TheConstants.{LEFT, MOST_SINGLE, ROOM, WIDEST}

-- where an entry begins, in a part of so many entries from the first one on, of which so many share so many units. Those before the part
-- begin where it does, and those behind it where it ends
abbrev pub x_of : ℕ → ℕ → ℕ → ℕ → ℕ → ℕ
x_of first count sharing unit n = LEFT + min (n - first) count / sharing * unit

-- the place behind the last of so many entries from one on
abbrev pub behind : ℕ → ℕ → ℕ
behind first count = min (first + count) 18446744073709551615

-- whether what happens before the entry of a place, and behind the one before that, is shown, if these entries are
abbrev pub meets : ℕ → ℕ → ℕ → Bool
meets first count n = nat_le first n && nat_le n (behind first count)

-- which entries a picture shows, and how wide: the first one, how many, how many share so many units
pub record Scale : Type 0 where
  pub first : ℕ
  pub count : ℕ
  pub sharing : ℕ
  pub unit : ℕ

-- that of so many entries: all units are 1,600 together at most if they are few, and at most 60 an entry. From 100,001 on several share one
abbrev pub scale_for : ℕ → ℕ → Scale
scale_for first count = record { first = first; count = count; sharing = (count - 1) / MOST_SINGLE + 1; unit = max 1 (min WIDEST (ROOM / max count 1)) }

-- that of the entries from one place to another, that one too, of so many
abbrev pub scale_of : ℕ → ℕ → ℕ → Scale
scale_of entries from to = scale_for from (min entries (to + 1) - from)

-- where an entry begins
abbrev pub x_in : Scale → ℕ → ℕ
x_in v n = x_of v.first v.count v.sharing v.unit n
