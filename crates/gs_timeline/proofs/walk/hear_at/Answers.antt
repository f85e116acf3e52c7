use Rattle.std.proofs.Common.{◌≡◌, ◌<◌, ◌∙◌, ap, sym, ℕ, List, length, get_or}
use Rattle.std.proofs.lemmas.List.{get_or_default}
use Rattle.std.proofs.lemmas.Result.{on_ok_weaker}
use Rattle.gs_journal.specs.declared.entry.Entry.{Entry}
use Rattle.gs_journal.specs.declared.entry.Entry.TheVariants.{Torn}
use Rattle.gs_timeline.specs.Lanes.{each_then, lane_then}
use Rattle.gs_timeline.proofs.Housed.{places_none, still_home}
use Rattle.gs_timeline.proofs.Walked.{all_stay}
use Rattle.gs_timeline.proofs.walk.hear_at.Goals as goal

-- the entry that was unpacked is that of the place
here : (h : List Entry) (n : ℕ) (x : Entry) → n < length h → x ≡ get_or h n x → x ≡ get_or h n Torn
here h n x lt is = is ∙ get_or_default h n x Torn lt

pub returns-in_default-clause-home : goal.returns-in_default-clause-home
returns-in_default-clause-home c =
    let x = c.entry-entry.result in
    let e = here c.args.journal.now.entries c.args.place x c.requires.within c.entry-entry.ensures.item in
    on_ok_weaker c.hear_everywhere.result
    (λ heard f. still_home c.args.place x c.args.homes.now.cpus.items c.args.lanes.now c.hear_everywhere.new.lanes (places_none x (sym c.if-empties_a_seat.ensures)) (c.requires.home f) (heard ∙ ap (λ (y : Entry). each_then (lane_then c.args.place y) 0 c.args.lanes.now) (sym e)))
    c.hear_everywhere.ensures

pub returns-then-empties_a_seat-clause-home : goal.returns-then-empties_a_seat-clause-home
returns-then-empties_a_seat-clause-home c =
    let x = c.entry-entry.result in
    on_ok_weaker c.leave.result
    (λ heard f. still_home c.args.place x c.args.homes.now.cpus.items c.args.lanes.now c.leave.new.lanes (places_none x (sym c.if-empties_a_seat.ensures)) (c.requires.home f) (heard x (sym c.if-empties_a_seat.ensures) (sym c.in-Some.ensures)))
    c.leave.ensures

pub returns-in_default-placing-clause-lanes : goal.returns-in_default-placing-clause-lanes
returns-in_default-placing-clause-lanes c =
    let x = c.entry-entry.result in
    all_stay c.args.place x c.args.lanes.now (sym c.if-empties_a_seat.ensures) (sym c.in_default-placing.ensures)
    ∙ ap (λ (y : Entry). each_then (lane_then c.args.place y) 0 c.args.lanes.now) (here c.args.journal.now.entries c.args.place x c.requires.within c.entry-entry.ensures.item)
