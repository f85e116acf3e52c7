use Rattle.std.proofs.Common.{Result, ap, length, sym, subst, ◌∙◌, arith}
use Rattle.gs_layout.specs.declared.refusal.Refusal.{Refusal}
use Rattle.gs_kernel.specs.declared.executed.Executed.{Executed}
use Rattle.gs_kernel.specs.declared.command.Command.TheVariants as commands
use Rattle.gs_kernel.specs.Legal.{Legal, RoomOf}
use Rattle.integration_tests.specs.FixedPlaces.{IsFull, PlacesState, Posted, SamePlaces}
use Rattle.integration_tests.proofs.two_rings.create.Goals as goal

pub returns : goal.returns
returns c = λ torn.
    let k = c.args.kernel.now in
    let torn_down = subst (λ (x : Result Executed Refusal). Legal (RoomOf SamePlaces (λ (r : PlacesState). r.taken) Posted (λ r m. IsFull r) k.poster) k.settings k.history k.paged (commands.Create c.args.facts.now) x c.create.new.self.history) torn c.create.ensures.legal in
    let room = torn_down.tells.0.2 in
    let told = c.poster-ring.ensures.told in
    omega (arith, room.1, room.4, ap length (sym room.3.all ∙ told.all), ap (λ (r : PlacesState). length r.posts) c.poster-ring.ensures.value)
