use Rattle.std.proofs.Common.{[], ◌∷◌, sym, subst, ℕ, List, get_or, map, take}
use Rattle.std.proofs.lemmas.List.{map_more, take_all}
use Rattle.gs_timeline.specs.Sent.{Sends}
use Rattle.gs_timeline.specs.declared.stay.Stay.{Stay}
use Rattle.gs_timeline.proofs.Sent.{grows_more, on_err, sends_adds, sends_grows, sends_more}
use Rattle.gs_perfetto.specs.Events.{slice_front}
use Rattle.gs_perfetto.proofs.trace.write_events.Goals as goal

abbrev none : Stay
none = record { cpu = 0; tid = 0; from = 0; to = 0 }

abbrev first : ℕ → List Stay → List (List ℕ)
first i xs = map slice_front (take i xs)

pub returns-in_err-tell_up_to-clause-stuck : goal.returns-in_err-tell_up_to-clause-stuck
returns-in_err-tell_up_to-clause-stuck g c =
    on_err _ (grows_more _ _ _ (sends_grows (first c.loop-stay.stay-index c.args.stays.now) _ _ _ _ c.loop-stay.invariant) c.in_err-tell_up_to.ensures.stuck)

pub returns-in_err-add_slice-clause-stuck : goal.returns-in_err-add_slice-clause-stuck
returns-in_err-add_slice-clause-stuck g c =
    let ps = first c.loop-stay.stay-index c.args.stays.now in
    let told = sends_more ps _ _ _ _ _ _ c.loop-stay.invariant c.in_ok-tell_up_to.ensures.sent in
    on_err c.from_residual-in_err-add_slice.result (sends_grows ps _ _ _ _ told)

pub loop-stay-preserved : goal.loop-stay-preserved
loop-stay-preserved g c =
    let i = c.loop-stay.stay-index in
    let xs : List Stay = c.args.stays.now in
    let x : Stay = get_or xs i none in
    let told = sends_more (first i xs) _ _ _ _ _ _ c.loop-stay.invariant c.in_ok-tell_up_to.ensures.sent in
    let one = sends_adds (first i xs) (slice_front x ∷ []) _ _ _ _ _ told c.in_ok-add_slice.ensures in
    subst (λ (ps : List (List ℕ)). Sends ps (g.W.Write.contents c.args.writer.now) (g.W.Write.contents c.tell_up_to.new.writer) c.args.out.now.settled c.add_slice.new.out.settled) (sym (map_more slice_front xs i none c.loop-stay-test.true)) one

pub returns-in_err-tell_up_to-2-clause-stuck : goal.returns-in_err-tell_up_to-2-clause-stuck
returns-in_err-tell_up_to-2-clause-stuck g c =
    on_err c.from_residual-in_err-tell_up_to-2.result (grows_more _ _ _ (sends_grows (first c.loop-stay.stay-index c.args.stays.now) _ _ _ _ c.loop-stay.invariant) c.in_err-tell_up_to-2.ensures.stuck)

pub returns-in_err-finish-clause-stuck : goal.returns-in_err-finish-clause-stuck
returns-in_err-finish-clause-stuck g c =
    let ps = first c.loop-stay.stay-index c.args.stays.now in
    let last = sends_more ps _ _ _ _ _ _ c.loop-stay.invariant c.in_ok-tell_up_to-2.ensures.sent in
    on_err c.from_residual-in_err-finish.result (grows_more _ _ _ (sends_grows ps _ _ _ _ last) c.in_err-finish.ensures.stuck)

pub returns-clause-sent : goal.returns-clause-sent
returns-clause-sent g c =
    let i = c.loop-stay.stay-index in
    let xs : List Stay = c.args.stays.now in
    let last = sends_more (first i xs) _ _ _ _ _ _ c.loop-stay.invariant c.in_ok-tell_up_to-2.ensures.sent in
    let all = sends_more (first i xs) _ _ _ _ _ _ last c.in_ok-finish.ensures.sent in
    subst (λ (ss : List Stay). Sends (map slice_front ss) (g.W.Write.contents c.args.writer.now) (g.W.Write.contents c.finish.new.writer) c.args.out.now.settled c.finish.new.out.settled) (take_all i xs c.loop-stay-test.false) all
