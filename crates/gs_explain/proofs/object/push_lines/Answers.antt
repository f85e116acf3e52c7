use Rattle.std.proofs.Common.{◌≡◌, ◌∙◌, ap, sym, ℕ, List, [], ◌∷◌, ◌++◌, append_assoc, map}
use Rattle.std.specs.Str.Iter.{lines_rest}
use Rattle.std.proofs.lemmas.List.{map-append}
use Rattle.std.proofs.lemmas.Iterator.Splits.{YieldsList-from_lines}
use Rattle.std.proofs.lemmas.Iterator.Consumers.{YieldsList-end}
use Rattle.json.specs.Print.{quoted}
use Rattle.serde_json.specs.Data.{Data, string}
use Rattle.gs_explain.specs.Composed.{between_commas, comma_behind}
use Rattle.gs_explain.proofs.Composing.{between_more, some_behind}
use Rattle.gs_explain.proofs.object.push_lines.Goals as goal

regroup : (o b c q : List ℕ) → ((o ++ b) ++ c) ++ q ≡ o ++ (b ++ (c ++ q))
regroup o b c q = simp append_assoc

pub loop-line-preserved : goal.loop-line-preserved
loop-line-preserved c =
    let line = c.in-Some.line in
    let text : List ℕ = line.now in
    let ds : List Data = map string (map (λ line. line.now) c.loop-line.yielded) in
    let more : map string (map (λ line. line.now) (c.loop-line.yielded ++ line ∷ [])) ≡ ds ++ string text ∷ [] = simp map-append in
    let before = c.loop-line.invariant in
    let here : c.loop-line.out ++ comma_behind ds ≡ (c.args.out.now ++ between_commas ds) ++ comma_behind ds = ap (λ (o : List ℕ). o ++ comma_behind ds) before.shown in
    record {
      later = sym (ap comma_behind more ∙ some_behind ds (string text));
      shown =
          c.in_ok-push_item.ensures
          ∙ (ap (λ (t : List ℕ). (c.loop-line.out ++ t) ++ quoted text) before.later
          ∙ (ap (λ (o : List ℕ). o ++ quoted text) here
          ∙ (regroup c.args.out.now (between_commas ds) (comma_behind ds) (quoted text) ∙ ap (λ (t : List ℕ). c.args.out.now ++ t) (sym (ap between_commas more ∙ between_more ds (string text))))));
    }

pub returns : goal.returns
returns c =
    let rest = ap lines_rest c.into_iter-line-iterator.ensures.into_iter_gives ∙ c.lines-line-items.ensures.rest in
    let read = YieldsList-end (YieldsList-from_lines c.args.lines.now rest) c.loop-line.yielded c.loop-line.line-iterator c.loop-line.yielded_by c.next.result c.next.new.self c.in-None.is c.next.ensures.steps in
    c.loop-line.invariant.shown ∙ ap (λ (ts : List (List ℕ)). c.args.out.now ++ between_commas (map string ts)) read.0
