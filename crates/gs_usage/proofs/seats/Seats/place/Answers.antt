use Rattle.std.proofs.Common.{◌∙◌, ◌<◌, length, ◌||◌, ◌==◌, ap, ℕ, Bool, arith}
use Rattle.std.proofs.lemmas.List.{get_or_default}
use Rattle.gs_status.specs.Masks.{has}
use Rattle.gs_usage.proofs.Seating.{placed_kept}
use Rattle.gs_usage.proofs.seats.Seats.place.Goals as goal

pub returns-clause-kept : goal.returns-clause-kept
returns-clause-kept c =
    let within = c.in_ok-make_room.ensures.room in
    let same = c.free.ensures.room in
    let fits : c.args.tid < length c.free.new.self.places.items = omega (arith, within, same) in
    placed_kept c.free.new.self.busy c.either-self.result c.args.cpu c.args.tid c.either.result c.free.new.self.threads.items c.free.new.self.places.items c.free.ensures.kept c.requires.cpu fits c.free.ensures.free
    (λ i. c.either-self.ensures i ∙ ap (λ (k : Bool). has c.free.new.self.busy i || k) (c.one-seat.ensures i))
    (λ i. c.either.ensures i ∙ (ap (λ (k : Bool). has c.index.result.now i || k) (c.one-seat.ensures i) ∙ ap (λ (k : ℕ). has k i || (c.args.cpu == i)) (c.index.ensures ∙ get_or_default c.free.new.self.places.items c.args.tid c.index.result.now 0 fits)))
