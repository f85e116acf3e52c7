use Rattle.std.proofs.Common.{◌≡◌, ℕ, ◌+◌, ◌<◌, List, ◌∷◌, length, drop, get_or, ap, subst, sym, ◌∙◌, arith}
use Rattle.std.proofs.lemmas.List.{drop_more}
use Rattle.gs_layout.specs.declared.message.Message.{Message}
use Rattle.gs_ring.specs.Peek.{message_of}
use Rattle.integration_tests.specs.FixedPlaces.{PlacesState, waiting}
use Rattle.integration_tests.proofs.fixed_places.FixedPlaces.first.Goals as goal

-- a list from one place on, by what stands there
from_there : (xs : List Message) (n : ℕ) (m peeked : Message) → n < length xs → m ≡ get_or xs n m → peeked ≡ m → drop n xs ≡ peeked ∷ drop (n + 1) xs
from_there xs n m peeked lt e f = drop_more xs n m lt ∙ ap (λ (x : Message). x ∷ drop (n + 1) xs) (sym e ∙ sym f)

pub returns : goal.returns
returns c =
    let s = c.self.inside in
    let m = c.index-parcel.result.now in
    let peeked = message_of c.new.result in
    subst (λ (r : PlacesState). (more : List Message) × (waiting r ≡ peeked ∷ more)) c.self.view_is (
      drop (s.taken + 1) s.held.items,
      from_there s.held.items s.taken m peeked (omega (arith, c.if-self-len.false, c.len.ensures, c.self.invariant.posted, s.held.ok.0)) c.index-parcel.ensures
          (c.new.ensures m c.as_bytes.ensures.spellable c.as_bytes.ensures.value),
    )
