use Rattle.std.proofs.Common.{rules, ◌≡◌, ◌∙◌, ap, sym, ℕ, ◌+◌, ◌++◌, decimal, take}
use Rattle.std.proofs.lemmas.List.{take-take}
use Rattle.gs_text.proofs.Grown.{both_utf8, number_utf8, part_put}
use Rattle.gs_text.proofs.digits.Digits.put.Goals as goal

pub returns-clause-written : goal.returns-clause-written
returns-clause-written c =
    let all : take (c.args.at + 32) c.put_front.new.bytes ≡ take c.args.at c.args.bytes.now ++ take 32 c.self.inside.bytes = ap (λ (n : ℕ). take n c.put_front.new.bytes) (sym c.put_front.ensures.end) ∙ c.put_front.ensures.written in
    part_put c.args.at c.self.inside.len 32 c.args.bytes.now (take 32 c.self.inside.bytes) c.put_front.new.bytes (decimal c.args.self.now) (search rules) (search rules) all (take-take c.self.inside.len 32 c.self.inside.bytes (search rules) ∙ search rules)

pub returns-clause-utf8 : goal.returns-clause-utf8
returns-clause-utf8 c = λ before. both_utf8 (take c.args.at c.args.bytes.now) (decimal c.args.self.now) _ (returns-clause-written c) (number_utf8 c.args.self.now (search rules)) before
