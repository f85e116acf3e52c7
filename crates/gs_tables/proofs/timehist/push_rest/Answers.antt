use Rattle.std.proofs.Common.{◌≡◌, ◌∙◌, ◌++◌, ap, ℕ, List, append_assoc, codes}
use Rattle.std.specs.Prelude.{decimal}
use Rattle.std.proofs.lemmas.Result.{on_ok_weaker}
use Rattle.gs_turns.specs.Turns.{ran, waited}
use Rattle.gs_tables.specs.Timehist.{times_pieces}
use Rattle.gs_tables.proofs.timehist.push_rest.Goals as goal

-- four pieces, one behind another
four : (o0 o1 o2 o3 o4 a w d b m : List ℕ) → o1 ≡ o0 ++ a → o2 ≡ o1 ++ w ++ d → o3 ≡ o2 ++ b → o4 ≡ o3 ++ m → o4 ≡ o0 ++ (a ++ w ++ d ++ b ++ m)
four o0 o1 o2 o3 o4 a w d b m e1 e2 e3 e4 = e4 ∙ (ap (λ (o : List ℕ). o ++ m) (e3 ∙ ap (λ (o : List ℕ). o ++ b) (e2 ∙ ap (λ (o : List ℕ). o ++ w ++ d) e1)) ∙ simp append_assoc)

pub returns : goal.returns
returns c =
    let t = c.args.turn.now in
    on_ok_weaker c.push_str.result
    (λ end. four c.args.out.now c.push_times.new.out c.push_number.new.self c.push_times-2.new.out c.push_str.new.self (times_pieces (codes ",\"ran\":{\"entries\":") (ran t) t.ran_ticks) (codes ",\"tid\":") (decimal t.stay.tid) (times_pieces (codes ",\"waited\":{\"entries\":") (waited t) t.waited_ticks) (codes "}\n")
    (c.in_ok-push_times.ensures ∙ ap (λ (n : ℕ). c.args.out.now ++ times_pieces (codes ",\"ran\":{\"entries\":") n t.ran_ticks) c.ran.ensures)
    c.in_ok-push_number.ensures.added
    (c.in_ok-push_times-2.ensures ∙ ap (λ (n : ℕ). c.push_number.new.self ++ times_pieces (codes ",\"waited\":{\"entries\":") n t.waited_ticks) c.waited.ensures)
    end)
    c.push_str.ensures.added
