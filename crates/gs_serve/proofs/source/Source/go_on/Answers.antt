use Rattle.std.proofs.Common.{rules, ◌∙◌, ◌++◌, ◌∷◌, [], ap, sym, append-nil, append_assoc, take, drop, ◌-◌}
use Rattle.gs_script.specs.Words.{lines_of}
use Rattle.gs_script.specs.Plain.{lines_left}
use Rattle.gs_serve.proofs.Feeding.{first_is_line}
use Rattle.gs_serve.proofs.Kept.{line_fits, none_left, rest_left}
use Rattle.gs_script.proofs.Unread.{cut_text, whole_text}
use Rattle.gs_serve.proofs.source.Source.go_on.Goals as goal

pub invariant_of-self-in-Some : goal.invariant_of-self-in-Some
invariant_of-self-in-Some c =
    let cut = cut_text (take (c.self.inside.end - c.self.inside.start) (drop c.self.inside.start c.self.inside.buffer)) c.first_line.result.0.now c.in-Some.field-0.now (c.first_line.ensures ∙ ap (λ o. c.first_line.result.0.now ∷ lines_left o) c.in-Some.is) in
    record {
      order = line_fits c.self.inside.start c.self.inside.end c.self.inside.buffer c.first_line.result.0.now c.in-Some.field-0.now c.self.invariant.order c.self.invariant.within cut;
      within = c.self.invariant.within;
    }

pub returns-in-None : goal.returns-in-None
returns-in-None c =
    let more = c.first_line.result.0.now in
    let none = none_left c.self.inside.end c.self.inside.buffer in
    let lines = c.first_line.ensures ∙ ap (λ o. more ∷ lines_left o) c.in-None.is in
    let whole = whole_text (take (c.self.inside.end - c.self.inside.start) (drop c.self.inside.start c.self.inside.buffer)) more lines in
    record {
      more = more;
      taken = sym c.self.view_is ∙ whole ∙ sym (append-nil more) ∙ ap (λ xs. more ++ xs) (sym none);
      is = first_is_line (take (c.self.inside.end - c.self.inside.start) (drop c.self.inside.start c.self.inside.buffer)) more [] lines;
      kept = search rules;
      whole = λ e. none;
    }

pub returns-in-Some : goal.returns-in-Some
returns-in-Some c =
    let more = c.first_line.result.0.now in
    let left = c.in-Some.field-0.now in
    let lines = c.first_line.ensures ∙ ap (λ o. more ∷ lines_left o) c.in-Some.is in
    let cut = cut_text (take (c.self.inside.end - c.self.inside.start) (drop c.self.inside.start c.self.inside.buffer)) more left lines in
    let rest = rest_left c.self.inside.start c.self.inside.end c.self.inside.buffer more left c.self.invariant.order c.self.invariant.within cut in
    record {
      more = more;
      taken = sym c.self.view_is ∙ cut ∙ sym (append_assoc more (10 ∷ []) left) ∙ ap (λ xs. (more ++ 10 ∷ []) ++ xs) (sym rest);
      is = first_is_line (take (c.self.inside.end - c.self.inside.start) (drop c.self.inside.start c.self.inside.buffer)) more (lines_of left) lines;
      kept = search rules;
      whole = λ e. absurd (cc);
    }
