use Rattle.std.proofs.Common.{◌≡◌, ◌∙◌, Some, All, ap, subst, sym}
use Rattle.std.specs.List.Sorted.{IsStrictlyIncreasing}
use Rattle.gs_layout.specs.View.{look_up}
use Rattle.gs_view.specs.Index.{places}
use Rattle.gs_view.specs.Records.{known_by}
use Rattle.gs_view.specs.Shown.{shown_from, tids}
use Rattle.gs_view.proofs.Agreed.{known_past}
use Rattle.gs_view.proofs.Listed.{found_listed, rising_listed}
use Rattle.gs_view.proofs.Showing.{whole_shown}
use Rattle.gs_view.proofs.records.Records.walk.Goals as goal

pub returns-clause-whole : goal.returns-clause-whole
returns-clause-whole c =
    c.over.ensures
    ∙ (ap (shown_from 0) (sym c.self.view_is)
    ∙ (whole_shown c.self.inside.index c.self.inside.slab ∙ ap (λ r. r.entries) c.self.view_is))

pub returns-clause-rising : goal.returns-clause-rising
returns-clause-rising c =
    let index = c.self.inside.index in
    subst (λ r. IsStrictlyIncreasing (tids r.entries)) c.self.view_is (rising_listed (known_by index c.self.inside.slab) 0 (places index))

pub returns-clause-found : goal.returns-clause-found
returns-clause-found c =
    let index = c.self.inside.index in
    let slab = c.self.inside.slab in
    subst (λ r. All (λ entry. look_up r.entries entry.0 ≡ Some entry.1) r.entries) c.self.view_is
    (found_listed (known_by index slab) (places index) (known_past index slab))
