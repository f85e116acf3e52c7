use Rattle.std.proofs.Common.{[], ◌∷◌, ◌+◌, ap, subst, sym}
use Rattle.integration_tests.specs.FixedPlaces.{Passed, Passed-next, PlacesState}
use Rattle.integration_tests.proofs.fixed_places.FixedPlaces.pop.Goals as goal

pub returns : goal.returns
returns c = λ m h.
    let s = c.args.self.now in
    subst (Passed s (m ∷ [])) (sym (ap (λ (r : PlacesState). record r { taken = r.taken + 1 }) c.self.view_is)) (Passed-next s m h)
