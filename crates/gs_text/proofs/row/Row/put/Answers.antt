use Rattle.std.proofs.Common.{◌≡◌, ◌∙◌, ap, List, ℕ, ◌++◌, append_assoc, decimal}
use Rattle.gs_text.proofs.row.Row.put.Goals as goal

regroup : (o a d b f e s g w h l j r z : List ℕ) → ((((((((((((o ++ a) ++ d) ++ b) ++ f) ++ e) ++ s) ++ g) ++ w) ++ h) ++ l) ++ j) ++ r) ++ z ≡ o ++ ((((((((((((a ++ d) ++ b) ++ f) ++ e) ++ s) ++ g) ++ w) ++ h) ++ l) ++ j) ++ r) ++ z)
regroup o a d b f e s g w h l j r z = simp append_assoc

pub returns-clause-written : goal.returns-clause-written
returns-clause-written c =
    let row = c.args.self in
    let second = c.put_digits-second.ensures.written ∙ ap (λ (o : List ℕ). (o ++ row.first.0.now) ++ decimal row.first.1.now) c.put_digit-first.ensures.written in
    let few = c.put_digits-few.ensures.written ∙ ap (λ (o : List ℕ). (o ++ row.second.0.now) ++ decimal row.second.1.now) second in
    let line = c.put_few_behind-line.ensures.written ∙ ap (λ (o : List ℕ). (o ++ row.few.0.now) ++ row.few.1.now) few in
    c.put_texts.ensures.written
    ∙ (ap (λ (o : List ℕ). ((((o ++ row.line.0.now) ++ row.line.1.now) ++ row.rest.0.now) ++ row.rest.1.now) ++ row.end.now) line
    ∙ regroup _ row.digit.0.now (decimal row.digit.1) row.first.0.now (decimal row.first.1.now) row.second.0.now (decimal row.second.1.now) row.few.0.now row.few.1.now row.line.0.now row.line.1.now row.rest.0.now row.rest.1.now row.end.now)
