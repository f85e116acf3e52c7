-- An index of places says what a walk back would.
use Rattle.std.specs.Prelude.{ℕ, ◌≡◌, Option}
use Rattle.gs_journal.specs.declared.entry.Entry.{Entry}
use Rattle.gs_journal.specs.History.{History}
use Rattle.gs_reasons.specs.declared.sign.Sign.{Sign}
use Rattle.gs_reasons.specs.declared.sign.Sign.TheVariants as signs
use Rattle.gs_reasons.specs.declared.index.Index.{Index}
use Rattle.gs_reasons.specs.Place.{last_place}
use Rattle.gs_reasons.specs.Sign.{is_sign}
use Rattle.gs_reasons.specs.Marks.{mark_at, place_then}

-- what it says of this
abbrev pub look : Index → Sign → Option ℕ
look x signs.TornDown = x.torn
look x signs.Agent = x.agent
look x signs.Generation = x.generation
look x signs.Created = x.created
look x (signs.Death t) = mark_at x.death.places.items t
look x (signs.Off t) = mark_at x.off.places.items t
look x (signs.About t) = mark_at x.about.places.items t
look x (signs.Runs t) = mark_at x.runs.places.items t
look x (signs.Mask t) = mark_at x.mask.places.items t
look x (signs.Seat c) = mark_at x.seat.places.items c
look x (signs.Held c) = mark_at x.held.places.items c

-- it has heard these entries, and no others
abbrev pub HasHeard : Index → History → Type 0
HasHeard x h = (g : Sign) → look x g ≡ last_place (is_sign g) h

-- it hears an entry at a place
abbrev pub Hears : Index → ℕ → Entry → Index → Type 0
Hears x n e y = (g : Sign) → look y g ≡ place_then (is_sign g e) n (look x g)
