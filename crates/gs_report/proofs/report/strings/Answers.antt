use Rattle.std.proofs.Common.{◌∙◌, Bor, List, ℕ, ap, map}
use Rattle.std.proofs.lemmas.List.{map-append}
use Rattle.std.proofs.lemmas.Iterator.Consumers.{YieldsList-from_rest, YieldsList-end}
use Rattle.serde_json.specs.Data.{string}
use Rattle.gs_report.proofs.report.strings.Goals as goal

pub loop-text-preserved : goal.loop-text-preserved
loop-text-preserved c =
    simp (c.in_ok-push.ensures.items, map-append, c.loop-text.invariant, c.in_ok-try_from_str.ensures)

pub returns : goal.returns
returns c =
    let read = YieldsList-end (YieldsList-from_rest c.args.texts.now.items c.into_iter-text-iterator.ensures.into_iter_gives.0) c.loop-text.yielded c.loop-text.text-iterator c.loop-text.yielded_by c.next.result c.next.new.self c.in-None.is c.next.ensures.steps in
    c.loop-text.invariant ∙ ap (λ (texts : List (Bor (List ℕ))). map string (map (λ text. text.now) texts)) read.0
