use Rattle.std.proofs.Common.{◌≡◌, ◌∙◌, ◌+◌, ◌-◌, ◌++◌, ◌∷◌, [], ℕ, List, ap, arith, get_or, length, refl, rules, slice_set, subst, suc}
use Rattle.std.proofs.lemmas.List.{get_or_default}
use Rattle.std.proofs.lemmas.Result.{on_ok_weaker}
use Rattle.gs_explain.specs.declared.outlines.Short.{Short}
use Rattle.gs_explain.specs.Outlined.{NotesTold, all_events, later, told_of, widened}
use Rattle.gs_explain.proofs.Aside.{counted, event_more, once_more}
use Rattle.gs_explain.proofs.outlines.push_short.Goals as goal

pub returns-then-is_before-clause-added : goal.returns-then-is_before-clause-added
returns-then-is_before-clause-added c = λ asides.
    let shorts : List Short = c.args.shorts.now.items in
    let i : ℕ = c.len-len.result - 1 in
    let last : Short = c.index_mut.result.now in
    let size : i + 1 ≡ length shorts = search rules in
    let same : c.index.result.now ≡ get_or shorts i last = c.index.ensures ∙ get_or_default shorts i c.index.result.now last (omega (arith, size)) in
    let noted : NotesTold (c.args.short.number, c.args.short.line.now) c.args.short.first (told_of asides c.args.short) (later (widened asides (get_or shorts i last)) (suc (get_or shorts i last).times)) = subst (λ (s : Short). NotesTold (c.args.short.number, c.args.short.line.now) c.args.short.first (told_of asides c.args.short) (later (widened asides s) (suc s.times))) same (c.if-is_before.ensures.next asides refl) in
    (later (widened asides (get_or shorts i last)) (suc (get_or shorts i last).times), (noted, ap (λ (s : Short). all_events asides (slice_set shorts i (once_more s))) c.index_mut.ensures.value ∙ counted asides shorts i last size))

pub returns-clause-added : goal.returns-clause-added
returns-clause-added c = λ asides.
    let shorts = c.args.shorts.now.items in
    let short = c.args.short in
    on_ok_weaker c.push_in_place.result (λ (after : c.push_in_place.new.items.items ≡ shorts ++ short ∷ []). (widened asides short, (record { said = refl; first = refl; told = refl }, ap (all_events asides) after ∙ event_more asides shorts short (widened asides short) c.requires.once refl))) c.push_in_place.ensures.added
