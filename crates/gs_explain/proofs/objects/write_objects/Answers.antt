use Rattle.std.proofs.Common.{◌+◌, [], List, ℕ, drop, get_or}
use Rattle.std.proofs.lemmas.Result.{on_err_weaker, on_ok_weaker}
use Rattle.gs_explain.specs.Outlined.{all_events, events, outlines_text}
use Rattle.gs_explain.proofs.Aside.{leads_events, leads_first, leads_last, no_short, outlined_in}
use Rattle.gs_explain.proofs.Retelling.{leads_all, leads_begun, leads_moves, leads_stuck, on_err}
use Rattle.gs_explain.proofs.objects.write_objects.Goals as goal

pub loop-short-init : goal.loop-short-init
loop-short-init g c = leads_first (g.W.Write.contents c.args.writer.now) c.args.block (outlines_text c.args.text.now (all_events c.args.asides.now c.args.shorts.now)) c.requires.empty

pub loop-short-preserved : goal.loop-short-preserved
loop-short-preserved g c =
    let text = c.args.text.now in
    let asides = c.args.asides.now in
    let shorts = c.args.shorts.now in
    let i = c.loop-short.short-index in
    let whole : List ℕ = outlines_text text (all_events asides shorts) in
    let block : List ℕ = c.loop-short.block in
    let left : List ℕ = c.add_events.new.block in
    let a = g.W.Write.contents c.args.writer.now in
    let b = g.W.Write.contents c.loop-short.writer in
    let d = g.W.Write.contents c.add_events.new.writer in
    let here = outlines_text text (events asides (get_or shorts i no_short)) in
    let rest = outlines_text text (all_events asides (drop (i + 1) shorts)) in
    leads_moves a b d whole block here rest left (leads_events a b whole block text asides shorts i c.loop-short-test.true c.loop-short.invariant) c.in_ok-add_events.ensures.moved

pub add_events-requires-clause-outlined : goal.add_events-requires-clause-outlined
add_events-requires-clause-outlined g c = outlined_in c.args.text.now c.args.asides.now c.args.shorts.now c.loop-short.short-index c.loop-short-test.true c.requires.outlined

pub returns-in_err-add_events-clause-begun : goal.returns-in_err-add_events-clause-begun
returns-in_err-add_events-clause-begun g c =
    let text = c.args.text.now in
    let asides = c.args.asides.now in
    let shorts = c.args.shorts.now in
    let i = c.loop-short.short-index in
    let whole : List ℕ = outlines_text text (all_events asides shorts) in
    let block : List ℕ = c.loop-short.block in
    let a = g.W.Write.contents c.args.writer.now in
    let b = g.W.Write.contents c.loop-short.writer in
    let d = g.W.Write.contents c.add_events.new.writer in
    let here = outlines_text text (events asides (get_or shorts i no_short)) in
    let rest = outlines_text text (all_events asides (drop (i + 1) shorts)) in
    on_err c.from_residual.result (leads_stuck a b d whole block here rest (leads_events a b whole block text asides shorts i c.loop-short-test.true c.loop-short.invariant) c.in_err-add_events.ensures.begun)

pub returns-clause-sent : goal.returns-clause-sent
returns-clause-sent g c =
    let text = c.args.text.now in
    let whole : List ℕ = outlines_text text (all_events c.args.asides.now c.args.shorts.now) in
    let a = g.W.Write.contents c.args.writer.now in
    let b = g.W.Write.contents c.loop-short.writer in
    let d = g.W.Write.contents c.send.new.writer in
    let leads = leads_last a b whole c.loop-short.block text c.args.asides.now c.args.shorts.now c.loop-short.short-index c.loop-short-test.false c.loop-short.invariant in
    on_ok_weaker c.send.result (λ w. leads_all a b d whole c.loop-short.block leads w) c.send.ensures.sent

pub returns-clause-begun : goal.returns-clause-begun
returns-clause-begun g c =
    let text = c.args.text.now in
    let whole : List ℕ = outlines_text text (all_events c.args.asides.now c.args.shorts.now) in
    let a = g.W.Write.contents c.args.writer.now in
    let b = g.W.Write.contents c.loop-short.writer in
    let d = g.W.Write.contents c.send.new.writer in
    let leads = leads_last a b whole c.loop-short.block text c.args.asides.now c.args.shorts.now c.loop-short.short-index c.loop-short-test.false c.loop-short.invariant in
    on_err_weaker c.send.result (λ w. leads_begun a b d whole c.loop-short.block [] leads w) c.send.ensures.begun
