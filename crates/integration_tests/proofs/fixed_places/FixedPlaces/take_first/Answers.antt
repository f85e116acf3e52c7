use Rattle.std.proofs.Common.{◌≡◌, ℕ, ◌+◌, ◌≤◌, List, length, take, ap, subst, sym, arith}
use Rattle.gs_layout.specs.declared.message.Message.{Message}
use Rattle.integration_tests.specs.FixedPlaces.{Ahead, Passed, Passed-first, PlacesState, taken_within}
use Rattle.integration_tests.proofs.fixed_places.FixedPlaces.take_first.Goals as goal

-- no more are taken than were posted, by the ring's parts
within : (r s : PlacesState) (ms : List Message) (n : ℕ) → r ≡ s → n ≤ length ms → Ahead s ms → r.taken ≤ length r.posts → r.taken + n ≤ length r.posts
within r s ms n e fits h few = taken_within r ms n fits (subst (λ (x : PlacesState). Ahead x ms) (sym e) h) few

pub overflow_add-self : goal.overflow_add-self
overflow_add-self c =
    let i = c.self.inside in
    let all : i.taken + c.args.n ≤ length i.held.items = within _ _ c.requires.0 c.args.n c.self.view_is c.requires.2 c.requires.1 c.self.invariant.posted in
    omega (arith, all, i.held.ok.0)

pub invariant_of-self : goal.invariant_of-self
invariant_of-self c =
    record { room = c.self.invariant.room; posted = within _ _ c.requires.0 c.args.n c.self.view_is c.requires.2 c.requires.1 c.self.invariant.posted }

pub returns : goal.returns
returns c = λ ms h fits.
    let s = c.args.self.now in
    subst (Passed s (take c.args.n ms)) (sym (ap (λ (r : PlacesState). record r { taken = r.taken + c.args.n }) c.self.view_is)) (Passed-first s ms c.args.n fits h)
