use Rattle.std.proofs.Common.{lit<, rules, tests, ap, ◌∙◌, ◌++◌}
use Rattle.std.proofs.lemmas.Iterator.Consumers.{YieldsList-from_filter, YieldsList-at}
use Rattle.std.proofs.lemmas.Iterator.Splits.{YieldsList-from_str_split}
use Rattle.gs_script.specs.Words.{is_word}
use Rattle.gs_script.proofs.Extends.{map_from_extend}
use Rattle.gs_script.proofs.word.split.Goals as goal

pub returns : goal.returns
returns c =
    map_from_extend c.extend.new.self.items c.extend.result c.extend.ensures.ran (λ xs gives. gives.0 ∙ ap (λ l. l ++ xs) c.clear.ensures.items)
    (YieldsList-from_filter {s = c.filter.result} _ is_word
    (YieldsList-at c.filter.ensures.source (YieldsList-from_str_split 32 c.args.line.now (lit< tt) c.split.ensures.text c.split.ensures.has_more c.split.ensures.pattern))
    c.filter.ensures.closure
    (λ x r q k. search (rules, tests)))
