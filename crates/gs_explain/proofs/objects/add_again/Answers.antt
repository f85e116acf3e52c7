use Rattle.std.proofs.Common.{◌≡◌, ◌<◌, ◌+◌, ◌++◌, ◌∙◌, [], ap, arith, length, refl, subst, sym, ℕ, List}
use Rattle.std.proofs.KnownBytes.{Appends-nil}
use Rattle.std.proofs.lemmas.List.{length-append}
use Rattle.gs_explain.specs.Composed.{front_pieces}
use Rattle.gs_explain.specs.Outlined.{again, outlines_text, told_count, told_of, told_rest, widened}
use Rattle.gs_explain.specs.Retold.{Moves}
use Rattle.gs_explain.specs.declared.outline.Told.{Told}
use Rattle.gs_explain.specs.declared.outlines.Short.{Short}
use Rattle.gs_explain.proofs.Aside.{begun_again, comes_again, some_again}
use Rattle.gs_explain.proofs.Retelling.{moves_none, moves_then, on_err}
use Rattle.gs_explain.proofs.objects.add_again.Goals as goal

-- each time is told by the rest that was put together behind nothing
comes_next : (text : List ℕ) (asides : List Told) (s : Short) (n count : ℕ) (rest pushed empty : List ℕ) → count ≡ told_count (told_of asides s) → rest ≡ pushed → pushed ≡ empty ++ told_rest s.line.now text (told_of asides s) → empty ≡ []
    → outlines_text text (again (widened asides s) (n + 1)) ≡ outlines_text text (again (widened asides s) n) ++ (front_pieces (s.number + (n + 1)) s.first count ++ rest)
comes_next text asides s n count rest pushed empty counts same put none =
    comes_again text asides s n count rest counts (same ∙ (put ∙ ap (λ (t : List ℕ). t ++ told_rest s.line.now text (told_of asides s)) none))

pub returns-in_err-push_behind-clause-begun : goal.returns-in_err-push_behind-clause-begun
returns-in_err-push_behind-clause-begun g c =
    let text = c.args.text.now in
    let o = widened c.args.asides.now c.args.short.now in
    let times = c.args.short.now.times in
    let bytes = outlines_text text (again o times) in
    let more : 0 < length (c.args.block.now ++ bytes) = omega (arith, some_again text o times c.requires.some, length-append c.args.block.now bytes) in
    on_err c.from_residual.result (0, more, Appends-nil (g.W.Write.contents c.args.writer.now))

pub loop-n-init : goal.loop-n-init
loop-n-init g c = (omega arith, moves_none (g.W.Write.contents c.args.writer.now) c.args.block.now [] refl)

pub loop-n-preserved : goal.loop-n-preserved
loop-n-preserved g c =
    let a = g.W.Write.contents c.args.writer.now in
    let b = g.W.Write.contents c.loop-n.writer in
    let d = g.W.Write.contents c.add_next.new.writer in
    let text = c.args.text.now in
    let s = c.args.short.now in
    let n = c.loop-n.n in
    let rest : List ℕ = c.utf8_bytes.result.now in
    let here : List ℕ = front_pieces (s.number + (n + 1)) s.first c.added-count.result ++ rest in
    let before = outlines_text text (again (widened c.args.asides.now s) n) in
    let next = comes_next text c.args.asides.now s n c.added-count.result rest c.push_behind.new.out c.clear.new.self c.added-count.ensures c.utf8_bytes.ensures.value c.in_ok-push_behind.ensures c.clear.ensures in
    (omega (arith, c.loop-n-test.true), subst (λ (t : List ℕ). Moves a c.args.block.now t d c.add_next.new.block) (sym next) (moves_then a b d c.args.block.now before c.loop-n.block here c.add_next.new.block c.loop-n.invariant.1 c.in_ok-add_next.ensures.moved))

pub returns-in_err-add_next-clause-begun : goal.returns-in_err-add_next-clause-begun
returns-in_err-add_next-clause-begun g c =
    let a = g.W.Write.contents c.args.writer.now in
    let b = g.W.Write.contents c.loop-n.writer in
    let d = g.W.Write.contents c.add_next.new.writer in
    let text = c.args.text.now in
    let s = c.args.short.now in
    let n = c.loop-n.n in
    let rest : List ℕ = c.utf8_bytes.result.now in
    let here : List ℕ = front_pieces (s.number + (n + 1)) s.first c.added-count.result ++ rest in
    let next = comes_next text c.args.asides.now s n c.added-count.result rest c.push_behind.new.out c.clear.new.self c.added-count.ensures c.utf8_bytes.ensures.value c.in_ok-push_behind.ensures c.clear.ensures in
    on_err c.from_residual-in_err-add_next.result (begun_again a b d c.args.block.now c.loop-n.block here text (widened c.args.asides.now s) n s.times c.loop-n-test.true next c.loop-n.invariant.1 c.in_err-add_next.ensures.begun)

pub returns-clause-moved : goal.returns-clause-moved
returns-clause-moved g c =
    let a = g.W.Write.contents c.args.writer.now in
    let b = g.W.Write.contents c.loop-n.writer in
    let o = widened c.args.asides.now c.args.short.now in
    let all : c.loop-n.n ≡ c.args.short.now.times = omega (arith, c.loop-n.invariant.0, c.loop-n-test.false) in
    subst (λ (n : ℕ). Moves a c.args.block.now (outlines_text c.args.text.now (again o n)) b c.loop-n.block) all c.loop-n.invariant.1
