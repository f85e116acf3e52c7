use Rattle.std.proofs.Common.{rules, ◌≡◌, ◌∙◌, ◌==◌, ◌<◌, ap, sym, true, Some, get_or, length, slice_get, arith}
use Rattle.std.proofs.lemmas.Bool.Decides.{nat_tests}
use Rattle.std.proofs.lemmas.Option.{same_Some, slice_get-get_or, slice_get_within}
use Rattle.gs_timeline.specs.Lanes.{LaneOf, seat}
use Rattle.gs_timeline.proofs.Housed.{apart_here, apart_unknown}
use Rattle.gs_timeline.proofs.homes.Homes.is_elsewhere.Goals as goal

pub returns-in_default : goal.returns-in_default
returns-in_default c = λ f a. apart_unknown c.args.cpu c.args.tid c.args.self.now.cpus.items c.args.lanes.now (sym c.in_default.ensures) a

pub returns-then-home-cpu : goal.returns-then-home-cpu
returns-then-home-cpu c = λ f a.
    apart_here c.args.cpu c.args.tid c.in-Some.home c.args.self.now.cpus.items c.args.lanes.now (sym c.in-Some.ensures)
    (λ i l at is q o. let here : c.in-Some.home ≡ c.args.cpu = search rules in let same : (c.args.cpu == i) ≡ true = grind (arith, nat_tests) in let no = sym q ∙ same in absurd cc) a

pub returns-then-home-lanes : goal.returns-then-home-lanes
returns-then-home-lanes c = λ f a.
    apart_here c.args.cpu c.args.tid c.in-Some.home c.args.self.now.cpus.items c.args.lanes.now (sym c.in-Some.ensures)
    (λ i l at is q o. let within : i < length c.args.lanes.now = slice_get_within c.args.lanes.now i l at in let past = c.if-home-lanes.true in absurd (omega (arith, is, within, past))) a

pub returns : goal.returns
returns c = λ f a.
    let home = c.in-Some.home in
    let lane : LaneOf = get_or c.args.lanes.now home c.index-lanes-home.result in
    let there : slice_get c.args.lanes.now home ≡ Some lane = slice_get-get_or c.args.lanes.now home c.index-lanes-home.result (let e = c.if-home-lanes.false in omega (arith, e)) in
    apart_here c.args.cpu c.args.tid home c.args.self.now.cpus.items c.args.lanes.now (sym c.in-Some.ensures)
    (λ i l at is q o. let same : l ≡ lane = same_Some l lane (sym at ∙ (ap (slice_get c.args.lanes.now) (sym is) ∙ there)) in let is_lane : lane ≡ c.index-lanes-home.result = search rules in let has = c.has.ensures.1 (ap seat (sym (same ∙ is_lane)) ∙ o) in let no = sym f ∙ has in absurd cc) a
