use Rattle.std.proofs.Common.{rules, ◌≡◌, ◌∙◌, [], ap}
use Rattle.gs_sentences.specs.Tails.{is_part, tail_text}
use Rattle.gs_explain.proofs.Rowing.{last_fits, last_is_short, last_is_text, last_told, told_alone}
use Rattle.gs_explain.proofs.pieces.Row.put_tail.Goals as goal

pub keep_last-requires-clause-within : goal.keep_last-requires-clause-within
keep_last-requires-clause-within c =
    let same : c.self.inside.tail ≡ c.args.tail.now = search (rules, c.is_same.ensures) in
    last_fits (tail_text [] c.self.inside.tail) c.self.inside.len c.self.inside.bytes (c.self.invariant (ap is_part same ∙ c.requires) [])

pub keep_last-requires-clause-utf8 : goal.keep_last-requires-clause-utf8
keep_last-requires-clause-utf8 c =
    let same : c.self.inside.tail ≡ c.args.tail.now = search (rules, c.is_same.ensures) in
    last_is_text (tail_text [] c.self.inside.tail) c.self.inside.len c.self.inside.bytes (c.self.invariant (ap is_part same ∙ c.requires) [])

pub returns-then-is_same-clause-value : goal.returns-then-is_same-clause-value
returns-then-is_same-clause-value c = λ text.
    let same : c.self.inside.tail ≡ c.args.tail.now = search (rules, c.is_same.ensures) in
    c.keep_last.ensures ∙ (last_told (tail_text text c.self.inside.tail) c.self.inside.len c.self.inside.bytes (c.self.invariant (ap is_part same ∙ c.requires) text) ∙ ap (tail_text text) same)

pub invariant_of-self-else-is_same : goal.invariant_of-self-else-is_same
invariant_of-self-else-is_same c = λ told text.
    told_alone (tail_text text c.args.tail.now) c.clear.new.self c.put_tail.new.to c.len-self-inside.result (c.put_tail.ensures.value text) c.clear.ensures c.len-self-inside.ensures.value c.len-self-inside.ensures.utf8 c.put_tail.ensures.short

pub returns-then-is_same-clause-short : goal.returns-then-is_same-clause-short
returns-then-is_same-clause-short c =
    let same : c.self.inside.tail ≡ c.args.tail.now = search (rules, c.is_same.ensures) in
    last_is_short (tail_text [] c.self.inside.tail) c.self.inside.len c.self.inside.bytes c.keep_last.new.self (c.self.invariant (ap is_part same ∙ c.requires) []) c.keep_last.ensures
